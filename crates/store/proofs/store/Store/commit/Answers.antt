use Rattle.std.proofs.Common.{refl}
use Rattle.std.proofs.lemmas.Result.{err_from_is_err_and}
use Rattle.store.proofs.Commits.{refused_from, done_from}
use Rattle.store.proofs.store.Store.commit.Goals as goal

pub returns-in_err-seal-in-InTransaction : goal.returns-in_err-seal-in-InTransaction
returns-in_err-seal-in-InTransaction g c =
    let q = err_from_is_err_and c.from_residual.result c.from_residual.ensures.1 in
    rw (q.1, q.2) (refused_from _ _ _ _ _ c.in-InTransaction.transaction c.args.self.now.held _ c.in-InTransaction.is c.in_err-seal-in-InTransaction.ensures)

pub returns-in_ok-seal-in-InTransaction : goal.returns-in_ok-seal-in-InTransaction
returns-in_ok-seal-in-InTransaction g c = done_from _ _ _ _ _ c.in-InTransaction.transaction c.args.self.now.held _ c.in-InTransaction.is refl c.in_ok-seal-in-InTransaction.ensures
