-- What is said of a whole card.
use Rattle.std.specs.Prelude.{ℕ, Bool, true, false, List, Ok, Err, Result}
use Rattle.faults.specs.declared.fault.StoreFault.{StoreFault}
use Rattle.walk.specs.Checking.{found_on, summed}
use Rattle.walk.specs.declared.inspection.Summary.{Summary}
use Rattle.survey.specs.declared.verdict.Verdict.{Verdict}
use Rattle.survey.specs.declared.verdict.Verdict.TheVariants.{Sound, Refused}

abbrev pub verdict_of : Result Summary StoreFault → Verdict
verdict_of (Ok s) = Sound s
verdict_of (Err f) = Refused f

-- of a card with the pages m, of which there are `size`, and that is on at the end or not
abbrev pub verdict_on : (m : ℕ → List ℕ) (size : ℕ) (on : Bool) → Verdict
verdict_on m size on = verdict_of (summed (found_on m size on))

abbrev pub is_sound : Verdict → Bool
is_sound (Sound s) = true
is_sound (Refused f) = false
