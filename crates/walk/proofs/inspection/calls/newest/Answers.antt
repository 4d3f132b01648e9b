use Rattle.std.proofs.lemmas.Result.{err_from_is_err_and}
use Rattle.walk.proofs.Metas.{first_refused, second_refused, both_read, newer_rooted}
use Rattle.walk.proofs.inspection.calls.newest.Goals as goal

pub returns-in_err-read-clause-reads : goal.returns-in_err-read-clause-reads
returns-in_err-read-clause-reads g c =
    let q = err_from_is_err_and c.from_residual.result c.from_residual.ensures.1 in
    rw (q.1, q.2) (first_refused _ _ _ _ c.args.size _ _ c.in_err-read.ensures)

pub returns-in_err-read-2-clause-reads : goal.returns-in_err-read-2-clause-reads
returns-in_err-read-2-clause-reads g c =
    let q = err_from_is_err_and c.from_residual-in_err-read-2.result c.from_residual-in_err-read-2.ensures.1 in
    rw (q.1, q.2) (second_refused _ _ _ _ c.args.size _ _ _ _ _ c.in_ok-read.ensures c.in_err-read-2.ensures)

pub returns : goal.returns
returns g c = record {
  rooted = newer_rooted c.args.size _ _ _ _ _ c.newer.ensures c.read-first.ensures c.read-second.ensures;
  reads = both_read _ _ _ _ c.args.size _ _ _ _ _ _ _ c.in_ok-read.ensures c.in_ok-read-2.ensures c.read-first.ensures c.read-second.ensures c.newer.ensures;
}
