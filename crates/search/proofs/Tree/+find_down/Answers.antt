use Rattle.std.proofs.lemmas.Result.{err_from_is_err_and}
use Rattle.search.specs.Following.{find_pair}
use Rattle.search.proofs.Loading.{leaf_refused, branch_refused, load_leaf, found_there}
use Rattle.search.proofs.Tree.+find_down.Goals as goal

pub returns-in_err-leaf : goal.returns-in_err-leaf
returns-in_err-leaf g t c =
    let q = err_from_is_err_and c.from_residual.result c.from_residual.ensures.1 in
    rw (q.1, q.2)
    (leaf_refused c.args.self (find_pair c.args.key.now) _ c.if-self-eq0.true c.in_err-leaf.ensures)

pub returns-then-self-eq0 : goal.returns-then-self-eq0
returns-then-self-eq0 g t c =
    load_leaf c.args.self (find_pair c.args.key.now) c.in_ok-leaf.leaf c.find_in.result c.if-self-eq0.true c.in_ok-leaf.ensures c.find_in.ensures

pub returns-in_err-branch : goal.returns-in_err-branch
returns-in_err-branch g t c =
    let q = err_from_is_err_and c.from_residual-in_err-branch.result c.from_residual-in_err-branch.ensures.1 in
    rw (q.1, q.2)
    (branch_refused c.args.self (find_pair c.args.key.now) _ c.if-self-eq0.false c.in_err-branch.ensures)

pub returns : goal.returns
returns g t c =
    found_there c.in_ok-branch.branch c.args.self c.place.result c.under-child.result c.args.key.now c.if-self-eq0.false c.in_ok-branch.ensures c.place.ensures c.under-child.ensures c.find_down.result c.find_down.ensures
