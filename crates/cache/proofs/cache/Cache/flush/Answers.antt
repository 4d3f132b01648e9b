use Rattle.std.proofs.Common.{Err, sym, rules}
use Rattle.std.proofs.lemmas.Result.{err_from_is_err_and}
use Rattle.device.specs.History.{did_write}
use Rattle.cache.proofs.Steps.{Passes}
use Rattle.cache.proofs.Flushes.{flush_refused}
use Rattle.cache.proofs.cache.Cache.flush.Goals as goal

pub returns-in_err-ask-clause-meaning : goal.returns-in_err-ask-clause-meaning
returns-in_err-ask-clause-meaning g c =
    let q = err_from_is_err_and c.from_residual.result c.from_residual.ensures.1 in
    let w : Passes g.D.Reader c.args.self.now (did_write c.in-Some.copy.page c.in-Some.copy.bytes (Err c.in_err-ask.field-0.0)) (Err c.in_err-ask.field-0.0) c.ask.new.self = search rules in
    rw (q.1, q.2) (flush_refused _ _ (sym c.in-Some.ensures) c.if-not-copy.false w)
