use Rattle.std.proofs.Common.{◌≡◌, None, sym, refl, ◌∙◌}
use Rattle.std.proofs.lemmas.Result.{err_from_is_err_and}
use Rattle.page.specs.Reading.{first_fault}
use Rattle.page.proofs.Faults.{fault_checksum, fault_shape}
use Rattle.page.proofs.Sounds.{sound_none}
use Rattle.page.proofs.cell_page.CellPage.read.Given as given
use Rattle.page.proofs.cell_page.CellPage.read.Goals as goal
use Rattle.page.proofs.cell_page.CellPage.read.Goals.{In_ok-read}

pub returns-then-not-is_sealed : goal.returns-then-not-is_sealed
returns-then-not-is_sealed g c = fault_checksum g.C.Cell.rules c.args.bytes.now (sym c.if-not-is_sealed.ensures)

pub returns-in_err-read : goal.returns-in_err-read
returns-in_err-read g c =
    let q = err_from_is_err_and c.from_residual.result c.from_residual.ensures.1 in
    rw (q.1, q.2) (fault_shape g.C.Cell.rules c.args.bytes.now (sym c.if-not-is_sealed.ensures) ∙ sym c.in_err-read.ensures.fault)

no_fault : (g : given.Over) (c : In_ok-read g) → first_fault g.C.Cell.rules c.args.bytes.now ≡ None
no_fault g c = fault_shape g.C.Cell.rules c.args.bytes.now (sym c.if-not-is_sealed.ensures) ∙ sym c.in_ok-read.ensures.fault

pub invariant_of-result : goal.invariant_of-result
invariant_of-result g c = record { sound = sound_none g.C.Cell.rules c.args.bytes.now (no_fault g (goal.at.invariant_of-result g c).In_ok-read) }

pub returns : goal.returns
returns g c = (refl, no_fault g (goal.at.returns g c).In_ok-read)
