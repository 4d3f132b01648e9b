use Rattle.std.proofs.lemmas.Result.{err_from_is_err_and}
use Rattle.store.proofs.SealSteps.{seal_first, seal_write, seal_whole}
use Rattle.store.proofs.sealing.seal.Goals as goal

pub returns-in_err-sync : goal.returns-in_err-sync
returns-in_err-sync g c =
    let q = err_from_is_err_and c.from_residual.result c.from_residual.ensures.1 in
    rw (q.1, q.2) (seal_first _ _ _ _ c.args.meta.now _ c.in_err-sync.ensures)

pub returns-in_err-write : goal.returns-in_err-write
returns-in_err-write g c =
    let q = err_from_is_err_and c.from_residual-in_err-write.result c.from_residual-in_err-write.ensures.1 in
    rw (q.1, q.2) (seal_write _ _ _ _ c.args.meta.now _ _ c.in_ok-sync.ensures _ (rw c.encode-page.ensures at c.in_err-write.ensures))

pub returns : goal.returns
returns g c =
    seal_whole _ _ _ _ c.args.meta.now _ _ c.in_ok-sync.ensures _ _ (rw c.encode-page.ensures at c.in_ok-write.ensures) _ c.sync-2.ensures
