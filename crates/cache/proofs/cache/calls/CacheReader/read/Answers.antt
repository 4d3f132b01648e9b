use Rattle.std.proofs.Common.{rules}
use Rattle.std.proofs.lemmas.Result.{err_from_is_err_and}
use Rattle.cache.proofs.Fetched.{reads_lost}
use Rattle.cache.proofs.cache.calls.CacheReader.read.Goals as goal

pub returns-in_err-bytes : goal.returns-in_err-bytes
returns-in_err-bytes g c =
    let q = err_from_is_err_and c.from_residual-in_err-bytes.result c.from_residual-in_err-bytes.ensures.1 in
    let f = c.in_err-bytes.ensures in
    record {
      meaning = rw (q.1, q.2) (search rules);
      exact = rw (q.1, q.2) (reads_lost _ _ _ (search rules) (search rules) (search rules));
    }
