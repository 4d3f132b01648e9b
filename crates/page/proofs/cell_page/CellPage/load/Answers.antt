use Rattle.std.proofs.lemmas.Result.{err_from_is_err_and}
use Rattle.page.proofs.cell_page.CellPage.load.Goals as goal

pub returns-in_err-read : goal.returns-in_err-read
returns-in_err-read g c =
    let q = err_from_is_err_and c.from_residual.result c.from_residual.ensures.1 in
    rw (q.1, q.2) (_, λ h p. c.in_err-read.ensures.follows h p)
