use Rattle.std.proofs.lemmas.Result.{err_from_is_err_and}
use Rattle.cache.proofs.Synced.{flushed_more, flushed_lost, flushed_done}
use Rattle.cache.proofs.cache.Cache.flush_all.Goals as goal

pub returns-in_err-flush : goal.returns-in_err-flush
returns-in_err-flush g c =
    let q = err_from_is_err_and c.from_residual.result c.from_residual.ensures.1 in
    let f = c.in_err-flush.ensures in
    rw (q.1, q.2) (flushed_lost c.loop-number.number _ c.loop-number.invariant f.meaning f.slots (λ z. (f.clean z).0))

pub loop-number-preserved : goal.loop-number-preserved
loop-number-preserved g c =
    let f = c.in_ok-flush.ensures in
    flushed_more c.loop-number.number c.loop-number-test.true c.loop-number.invariant f.meaning f.slots (λ z. (f.clean z).1)

pub returns : goal.returns
returns g c = flushed_done c.loop-number.number c.loop-number-test.false c.loop-number.invariant
