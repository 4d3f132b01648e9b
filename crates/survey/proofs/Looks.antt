-- What a stretch of reads says, said in other words; and the meta page that counts.
use Rattle.std.proofs.Common.{◌≡◌, ℕ, ◌≤◌, true, leb, Ok, Err, Option, Result, ap, ◌∙◌, arith}
use Rattle.std.proofs.lemmas.Bool.Decides.{nat_tests}
use Rattle.device.specs.Medium.{Medium}
use Rattle.device.specs.History.{History}
use Rattle.device.specs.Looking.{Looks}
use Rattle.device.specs.declared.fault.DeviceFault.{DeviceFault}
use Rattle.meta.specs.declared.Meta.{Meta}
use Rattle.walk.specs.Checking.{Newest, newest_in}
use Rattle.survey.specs.Families.{TellsNewest}

pub looks_as : {P : History → Type 0} {m : Medium} {Q : History → Type 0} {n : Medium} (F G : History → Type 0) → Looks P m Q n F → ((t : History) → F t → G t) → Looks P m Q n G
looks_as F G l f = record { follows = λ h p. let r = l.follows h p in (r.0, r.1, r.2, r.3, f r.0 r.4) }

module _ {P : History → Type 0} {m : Medium} {Q : History → Type 0} {n : Medium} (size : ℕ) (is : size ≡ m.size) (two : 2 ≤ size) where
  pub newest_told : (a : Result (Option Meta) DeviceFault) → Looks P m Q n (λ t. 2 ≤ m.size → Newest m size n.on t a) → Looks P m Q n (λ t. TellsNewest m.bytes m.size n.on a)
  newest_told (Err f) l = looks_as _ _ l (λ t k. k (omega arith))
  newest_told (Ok o) l = looks_as _ _ l (λ t k.
      let e : leb 2 m.size ≡ true = grind (arith, nat_tests) in
      rw e ((k (omega arith)).1 ∙ ap (newest_in m.bytes) is))
