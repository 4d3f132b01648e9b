use Rattle.std.proofs.Common.{◌∙◌, arith}
use Rattle.std.proofs.lemmas.Result.{err_from_is_err_and}
use Rattle.page.specs.Views.{branch_in}
use Rattle.search.specs.Following.{find_next}
use Rattle.tree.proofs.ByPlace.{picked_within}
use Rattle.search.proofs.Loading.{leaf_refused, branch_refused, load_leaf, next_failed, next_found, next_nowhere, next_beside}
use Rattle.search.proofs.Tree.+after_down.Goals as goal

pub returns-in_err-leaf : goal.returns-in_err-leaf
returns-in_err-leaf g t c =
    let q = err_from_is_err_and c.from_residual.result c.from_residual.ensures.1 in
    rw (q.1, q.2)
    (leaf_refused c.args.self (find_next c.args.key.now) _ c.if-self-eq0.true c.in_err-leaf.ensures)

pub returns-then-self-eq0 : goal.returns-then-self-eq0
returns-then-self-eq0 g t c =
    load_leaf c.args.self (find_next c.args.key.now) c.in_ok-leaf.leaf c.after_in.result c.if-self-eq0.true c.in_ok-leaf.ensures c.after_in.ensures

pub returns-in_err-branch : goal.returns-in_err-branch
returns-in_err-branch g t c =
    let q = err_from_is_err_and c.from_residual-in_err-branch.result c.from_residual-in_err-branch.ensures.1 in
    rw (q.1, q.2)
    (branch_refused c.args.self (find_next c.args.key.now) _ c.if-self-eq0.false c.in_err-branch.ensures)

pub returns-in_err-place : goal.returns-in_err-place
returns-in_err-place g t c =
    let q = err_from_is_err_and c.from_residual-in_err-place.result c.from_residual-in_err-place.ensures.1 in
    rw (q.1, q.2)
    (next_failed c.in_ok-branch.branch c.args.self c.place-i.result c.under.result c.args.key.now c.if-self-eq0.false c.in_ok-branch.ensures c.place-i.ensures c.under.ensures _ c.in_err-place.ensures)

pub returns-in-Some : goal.returns-in-Some
returns-in-Some g t c =
    next_found c.in_ok-branch.branch c.args.self c.place-i.result c.under.result c.args.key.now c.if-self-eq0.false c.in_ok-branch.ensures c.place-i.ensures c.under.ensures
    c.in_ok-place.field-0 c.in_ok-place.ensures c.in-Some.place c.in-Some.is

pub returns-then-i-len : goal.returns-then-i-len
returns-then-i-len g t c =
    next_nowhere c.in_ok-branch.branch c.args.self c.place-i.result c.under.result c.args.key.now c.if-self-eq0.false c.in_ok-branch.ensures c.place-i.ensures c.under.ensures
    c.in_ok-place.field-0 c.in_ok-place.ensures c.in_default.is (c.if-i-len.true ∙ c.len.ensures)

pub returns : goal.returns
returns g t c =
    next_beside c.in_ok-branch.branch c.args.self c.place-i.result c.under.result c.args.key.now c.if-self-eq0.false c.in_ok-branch.ensures c.place-i.ensures c.under.ensures
    c.in_ok-place.field-0 c.in_ok-place.ensures c.under-2.result c.after_down-2.result c.in_default.is
    (omega (arith, c.place-i.ensures, c.len.ensures, c.if-i-len.false, picked_within c.args.key.now (branch_in c.in_ok-branch.branch.bytes).rest))
    c.under-2.ensures c.after_down-2.ensures
