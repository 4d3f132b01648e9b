use Rattle.std.proofs.lemmas.Result.{err_from_is_err_and}
use Rattle.std.proofs.Common.{Ok, Err, arith}
use Rattle.walk.proofs.Metas.{first_refused, second_refused, both_read}
use Rattle.survey.proofs.Looks.{newest_told}
use Rattle.survey.proofs.family.newest.Goals as goal

pub returns-in_err-read : goal.returns-in_err-read
returns-in_err-read g c =
    let q = err_from_is_err_and c.from_residual.result c.from_residual.ensures.1 in
    rw (q.1, q.2) (newest_told c.pages-size.result c.pages-size.ensures (omega (arith, c.if-size-lt2.false)) (Err c.in_err-read.field-0.0) (first_refused _ _ _ _ c.pages-size.result _ _ c.in_err-read.ensures))

pub returns-in_err-read-2 : goal.returns-in_err-read-2
returns-in_err-read-2 g c =
    let q = err_from_is_err_and c.from_residual-in_err-read-2.result c.from_residual-in_err-read-2.ensures.1 in
    rw (q.1, q.2) (newest_told c.pages-size.result c.pages-size.ensures (omega (arith, c.if-size-lt2.false)) (Err c.in_err-read-2.field-0.0) (second_refused _ _ _ _ c.pages-size.result _ _ _ _ _ c.in_ok-read.ensures c.in_err-read-2.ensures))

pub returns : goal.returns
returns g c =
    newest_told c.pages-size.result c.pages-size.ensures (omega (arith, c.if-size-lt2.false)) (Ok c.newer.result)
    (both_read _ _ _ _ c.pages-size.result _ _ _ _ _ _ _ c.in_ok-read.ensures c.in_ok-read-2.ensures c.read-first.ensures c.read-second.ensures c.newer.ensures)
