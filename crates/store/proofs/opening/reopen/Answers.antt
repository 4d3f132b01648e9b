use Rattle.std.proofs.Common.{sym, ap, ◌∙◌}
use Rattle.std.proofs.lemmas.Result.{err_from_is_err_and}
use Rattle.walk.specs.Checking.{fits_pages}
use Rattle.walk.proofs.Rooms.{room_fits}
use Rattle.store.proofs.Reopening.{sync_refused, recovered}
use Rattle.store.proofs.opening.reopen.Goals as goal

pub returns-in_err-sync : goal.returns-in_err-sync
returns-in_err-sync g c =
    let q = err_from_is_err_and c.from_residual-in_err-sync.result c.from_residual-in_err-sync.ensures.1 in
    rw (q.1, q.2) (sync_refused _ _ _ _ (ap fits_pages (sym c.pages.ensures) ∙ room_fits c.pages.result _ c.check_room.ensures c.in_ok-check_room.was) _ c.in_err-sync.ensures)

pub returns : goal.returns
returns g c =
    recovered _ _ _ _ (ap fits_pages (sym c.pages.ensures) ∙ room_fits c.pages.result _ c.check_room.ensures c.in_ok-check_room.was) _ _ c.in_ok-sync.ensures _ c.recover.ensures.fits c.recover.ensures.found
