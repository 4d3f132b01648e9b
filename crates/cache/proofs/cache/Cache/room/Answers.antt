use Rattle.std.proofs.Common.{refl, rules}
use Rattle.std.proofs.lemmas.Result.{err_from_is_err_and}
use Rattle.cache.proofs.cache.Cache.room.Goals as goal

pub returns-in_err-flush : goal.returns-in_err-flush
returns-in_err-flush g c =
    let q = err_from_is_err_and c.from_residual.result c.from_residual.ensures.1 in
    let f = c.in_err-flush.ensures in
    rw (q.1, q.2) (record {
      slot = c.oldest-place.result;
      full = c.oldest-place.ensures;
      chosen = tt;
      goes = f.meaning;
      flushes = f.slots;
      quiet = λ z. search (rules, f.clean z);
    })

pub returns : goal.returns
returns g c =
    let f = c.in_ok-flush.ensures in
    record {
      slot = c.oldest-place.result;
      full = c.oldest-place.ensures;
      chosen = refl;
      goes = f.meaning;
      flushes = f.slots;
      quiet = λ z. (refl, (f.clean z).1);
    }
