use Rattle.std.proofs.lemmas.Result.{err_from_is_err_and}
use Rattle.walk.proofs.Rooms.{room_fits}
use Rattle.walk.proofs.Trees.{tree_refused, tree_found}
use Rattle.walk.proofs.inspection.calls.recover.Goals as goal

pub returns-in_err-marks-clause-found : goal.returns-in_err-marks-clause-found
returns-in_err-marks-clause-found g c =
    let q = err_from_is_err_and c.from_residual-in_err-marks.result c.from_residual-in_err-marks.ensures.1 in
    rw (q.1, q.2)
    (tree_refused (g.R.Reader.past c.args.reader.now) (g.R.Reader.medium c.args.reader.now) (g.R.Reader.past c.newest.new.reader) (g.R.Reader.medium c.newest.new.reader) c.pages-size.result c.pages-size.ensures (room_fits c.pages-size.result _ c.check_room.ensures (c.in_ok-check_room.was))
    c.in-Some.meta (rw c.in-Some.is at c.in_ok-meta.ensures.reads) _ _ _ c.in_err-marks.ensures)

pub returns-clause-found : goal.returns-clause-found
returns-clause-found g c =
    tree_found (g.R.Reader.past c.args.reader.now) (g.R.Reader.medium c.args.reader.now) (g.R.Reader.past c.newest.new.reader) (g.R.Reader.medium c.newest.new.reader) c.pages-size.result c.pages-size.ensures (room_fits c.pages-size.result _ c.check_room.ensures (c.in_ok-check_room.was))
    c.in-Some.meta (rw c.in-Some.is at c.in_ok-meta.ensures.reads) _ _ c.in_ok-marks.marks c.in_ok-marks.ensures
