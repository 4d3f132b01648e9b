use Rattle.std.proofs.lemmas.Result.{err_from_is_err_and}
use Rattle.survey.proofs.Finding.{tree_found, tree_refused}
use Rattle.survey.proofs.family.Tree.of.Goals as goal

pub returns-in_err-parents : goal.returns-in_err-parents
returns-in_err-parents g c =
    let q = err_from_is_err_and c.from_residual-in_err-parents.result c.from_residual-in_err-parents.ensures.1 in
    rw (q.1, q.2)
    (tree_refused (g.R.Reader.past c.args.reader.now) (g.R.Reader.medium c.args.reader.now) _ _ c.in_ok-found.found c.in_ok-found.ensures.found _ _ c.in_err-parents.field-0.0 c.in_err-parents.ensures)

pub returns : goal.returns
returns g c =
    tree_found (g.R.Reader.past c.args.reader.now) (g.R.Reader.medium c.args.reader.now) _ _ c.in_ok-found.found c.in_ok-found.ensures.found _ _ c.in_ok-parents.parents c.in_ok-parents.ensures
