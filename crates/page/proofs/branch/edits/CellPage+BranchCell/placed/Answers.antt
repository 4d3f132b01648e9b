use Rattle.std.proofs.Common.{◌≡◌, ◌^◌, ◌<◌, ◌∷◌, ◌++◌, map, take, drop, sym, ap, ◌∙◌, arith}
use Rattle.page.specs.Kinds.{cell_of, branch_body}
use Rattle.page.specs.Layout.{cells_of, left_of}
use Rattle.page.proofs.Children.{branch_bytes_lem}
use Rattle.std.proofs.lemmas.Bool.{false≢true}
use Rattle.tree.specs.Trees.{cell, branch}
use Rattle.page.specs.Branches.{ascending}
use Rattle.page.specs.Growths.{fitted_branch}
use Rattle.page.proofs.BranchLists.{cell_body}
use Rattle.page.proofs.BranchOrders.{sorted_parts, sorted_from}
use Rattle.page.proofs.Lengths.{tested_key}
use Rattle.page.proofs.branch.edits.CellPage+BranchCell.placed.Goals as goal

pub returns-then-not-ends_below : goal.returns-then-not-ends_below
returns-then-not-ends_below c h =
    let a = c.args.self.now.bytes in
    let b = c.args.back.now.bytes in
    let sa = c.args.self.now.sound in
    let sb = c.args.back.now.sound in
    let p = sorted_parts (cells_of a) (cells_of b) (branch_bytes_lem a sa).rises (branch_bytes_lem b sb).rises c.args.keep c.args.skip c.args.separator.now c.args.child h.1 in
    false≢true (c.if-not-ends_below.ensures ∙ p.0)

pub returns-then-not-starts_above : goal.returns-then-not-starts_above
returns-then-not-starts_above c h =
    let a = c.args.self.now.bytes in
    let b = c.args.back.now.bytes in
    let sa = c.args.self.now.sound in
    let sb = c.args.back.now.sound in
    let p = sorted_parts (cells_of a) (cells_of b) (branch_bytes_lem a sa).rises (branch_bytes_lem b sb).rises c.args.keep c.args.skip c.args.separator.now c.args.child h.1 in
    false≢true (c.if-not-starts_above.ensures ∙ p.1)

pub with_new-requires : goal.with_new-requires
with_new-requires c =
    let a = c.args.self.now.bytes in
    let b = c.args.back.now.bytes in
    let sa = c.args.self.now.sound in
    let sb = c.args.back.now.sound in
    let s = c.args.separator.now in
    let x = c.args.child in
    let k = c.args.keep in
    let m = c.args.skip in
    let l : x < 2 ^ 32 = omega arith in
    let e : c.as_slice.result.now ≡ branch_body (cell s x) = c.as_slice.ensures ∙ c.branch_cell-cell.ensures in
    let r = sorted_from (cells_of a) (cells_of b) (branch_bytes_lem a sa).rises (branch_bytes_lem b sb).rises k m s x (sym c.if-not-ends_below.ensures) (sym c.if-not-starts_above.ensures) in
    record {
      ends = c.requires;
      rises = ap (λ d. ascending (take k (map cell_of (cells_of a)) ++ d ∷ drop m (map cell_of (cells_of b)))) (ap cell_of e ∙ cell_body s x l) ∙ r;
    }

pub returns : goal.returns
returns c =
    let a = c.args.self.now.bytes in
    let b = c.args.back.now.bytes in
    let sa = c.args.self.now.sound in
    let sb = c.args.back.now.sound in
    let s = c.args.separator.now in
    let x = c.args.child in
    let k = c.args.keep in
    let m = c.args.skip in
    let f = tested_key s c.if-not-is_key_len.ensures in
    let l : x < 2 ^ 32 = omega arith in
    let e : c.as_slice.result.now ≡ branch_body (cell s x) = c.as_slice.ensures ∙ c.branch_cell-cell.ensures in
    let r = sorted_from (cells_of a) (cells_of b) (branch_bytes_lem a sa).rises (branch_bytes_lem b sb).rises k m s x (sym c.if-not-ends_below.ensures) (sym c.if-not-starts_above.ensures) in
    ((f, r), c.with_new.ensures ∙ ap (λ d. fitted_branch (branch (left_of a) (take k (map cell_of (cells_of a)) ++ d ∷ drop m (map cell_of (cells_of b))))) (ap cell_of e ∙ cell_body s x l))
