use Rattle.std.proofs.Common.{arith}
use Rattle.std.proofs.lemmas.Result.{err_from_is_err_and}
use Rattle.std.proofs.lemmas.Bool.Decides.{nat_tests}
use Rattle.search.specs.Finding.{pair_with}
use Rattle.store.specs.Reading.{is_key}
use Rattle.store.proofs.Handing.{at_shut, at_length}
use Rattle.store.proofs.store.Store.get.Goals as goal

pub returns-in_err-meta-clause-model : goal.returns-in_err-meta-clause-model
returns-in_err-meta-clause-model g c =
    let q = err_from_is_err_and c.from_residual.result c.from_residual.ensures.1 in
    rw (q.1, q.2) (at_shut _ _ c.args.self.now.state c.args.self.now.held (pair_with c.args.key.now) (is_key c.args.key.now) _ c.in_err-meta.ensures)

pub returns-in_default-clause-model : goal.returns-in_default-clause-model
returns-in_default-clause-model g c =
    at_length _ _ c.args.self.now.state c.args.self.now.held (pair_with c.args.key.now) (is_key c.args.key.now) c.in_ok-meta.meta c.in_ok-meta.ensures (grind (arith, nat_tests))

pub returns-in_default-2-clause-model : goal.returns-in_default-2-clause-model
returns-in_default-2-clause-model g c =
    at_length _ _ c.args.self.now.state c.args.self.now.held (pair_with c.args.key.now) (is_key c.args.key.now) c.in_ok-meta.meta c.in_ok-meta.ensures (grind (arith, nat_tests))
