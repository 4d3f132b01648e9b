use Rattle.std.proofs.Common.{Ok, ap, ◌∙◌}
use Rattle.std.proofs.lemmas.Result.{err_from_is_err_and}
use Rattle.store.proofs.Handing.{at_fault, at_none, at_some}
use Rattle.store.proofs.store.Store.look_up.Goals as goal

pub returns-in_err-place-clause-model : goal.returns-in_err-place-clause-model
returns-in_err-place-clause-model g c want k =
    let q = err_from_is_err_and c.from_residual.result c.from_residual.ensures.1 in
    rw (q.1, q.2, c.requires.clear)
    (at_fault _ _ c.args.self.now.state c.args.self.now.held want _ _ c.args.meta c.saturating_sub.result c.search-found.result _ c.requires.version c.saturating_sub.ensures (k _ _ _ _ c.search-found.ensures) c.shut_if_off.ensures _ c.in_err-place.was)

pub returns-in_default-clause-model : goal.returns-in_default-clause-model
returns-in_default-clause-model g c want k =
    rw c.requires.clear
    (at_none _ _ c.args.self.now.state c.args.self.now.held want _ _ c.args.meta c.saturating_sub.result c.search-found.result _ c.requires.version c.saturating_sub.ensures (k _ _ _ _ c.search-found.ensures) c.shut_if_off.ensures (c.in_ok-place.was ∙ ap Ok c.in_default.is))

pub returns-clause-model : goal.returns-clause-model
returns-clause-model g c want k =
    rw c.bytes.ensures
    (at_some _ _ c.args.self.now.state c.args.self.now.held want _ _ c.args.meta c.saturating_sub.result c.search-found.result _ c.requires.version c.saturating_sub.ensures (k _ _ _ _ c.search-found.ensures) c.shut_if_off.ensures c.in-Some.place (c.in_ok-place.was ∙ ap Ok c.in-Some.is))
