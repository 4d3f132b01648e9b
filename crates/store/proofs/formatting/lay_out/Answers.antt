use Rattle.std.proofs.lemmas.Result.{err_from_is_err_and}
use Rattle.page.specs.Kinds.{leaf_rules}
use Rattle.paged.proofs.Accepted.{none_of}
use Rattle.store.proofs.Formats.{first_refused, second_refused, third_refused, sealed_out}
use Rattle.store.proofs.formatting.lay_out.Goals as goal

pub returns-in_err-write : goal.returns-in_err-write
returns-in_err-write g c =
    let q = err_from_is_err_and c.from_residual.result c.from_residual.ensures.1 in
    let l = c.empty-leaf.result in
    rw (q.1, q.2) (first_refused l.bytes (none_of leaf_rules l.bytes l.sound) c.empty-leaf.ensures _ _ _ _ _ c.in_err-write.ensures)

pub returns-in_err-write-2 : goal.returns-in_err-write-2
returns-in_err-write-2 g c =
    let q = err_from_is_err_and c.from_residual-in_err-write-2.result c.from_residual-in_err-write-2.ensures.1 in
    let l = c.empty-leaf.result in
    rw (q.1, q.2) (second_refused l.bytes (none_of leaf_rules l.bytes l.sound) c.empty-leaf.ensures _ _ _ _ _ _ c.in_ok-write.ensures _ c.in_err-write-2.ensures)

pub returns-in_err-write-3 : goal.returns-in_err-write-3
returns-in_err-write-3 g c =
    let q = err_from_is_err_and c.from_residual-in_err-write-3.result c.from_residual-in_err-write-3.ensures.1 in
    let l = c.empty-leaf.result in
    rw (q.1, q.2)
    (third_refused l.bytes (none_of leaf_rules l.bytes l.sound) c.empty-leaf.ensures _ _ _ _ _ _ c.in_ok-write.ensures _ _ c.in_ok-write-2.ensures _ (rw c.bytes.ensures at c.in_err-write-3.ensures))

pub returns : goal.returns
returns g c =
    let l = c.empty-leaf.result in
    sealed_out l.bytes (none_of leaf_rules l.bytes l.sound) c.empty-leaf.ensures _ _ _ _ _ _ c.in_ok-write.ensures _ _ c.in_ok-write-2.ensures _ _ _ _ c.pages.ensures (rw c.bytes.ensures at c.in_ok-write-3.ensures) c.seal.ensures
