-- What the code of the walk answers, in words of the walk.
use Rattle.std.specs.Prelude.{◌≡◌, ℕ, ◌+◌, ◌*◌, ◌≤◌, Bool, true, false, List, ◌++◌, IfOk, Some, None, Ok, Err, Option, Result}
use Rattle.device.specs.Medium.{Medium}
use Rattle.device.specs.History.{History}
use Rattle.device.specs.Looking.{Looks, pages_read}
use Rattle.device.specs.declared.fault.DeviceFault.TheVariants.{Off}
use Rattle.page.specs.Loads.{OneRead}
use Rattle.page.specs.declared.fault.Cause.{Cause}
use Rattle.page.specs.declared.fault.PageFault.{PageFault}
use Rattle.page.specs.declared.fault.PageFault.TheVariants.{Device, Damaged}
use Rattle.paged.specs.Walk.{Walked, fault, fine}
use Rattle.walk.specs.Marking.{MarksAre, marked}

-- A page of the device, read and tested: its first fault is given by `fault_of`.
abbrev pub Tests : {T : Type 0} → (List ℕ → Option Cause) → (T → List ℕ) → (History → Type 0) → Medium → ℕ → Result T PageFault → (History → Type 0) → Medium → Type 0
Tests fault_of bytes P m p (Ok t) Q n = OneRead P m p (bytes t) (Ok tt) Q n × (fault_of (bytes t) ≡ None)
Tests fault_of bytes P m p (Err (Device f)) Q n = (b : List ℕ) × OneRead P m p b (Err f) Q n
Tests fault_of bytes P m p (Err (Damaged d)) Q n = (b : List ℕ) × OneRead P m p b (Ok tt) Q n × (fault_of b ≡ Some d.cause) × (d.page ≡ p)

-- the answer to a walk, by whether the device is on at the end
abbrev pub answer : Bool → Walked → Result ℕ PageFault
answer false w = Err (Device Off)
answer true (fault d) = Err (Damaged d)
answer true (fine met k) = Ok k

-- what a walk that finds no fault leaves: marks on the pages met, and those are the pages read
abbrev pub Left : List Bool → List ℕ → Bool → Walked → Type 0
Left marks pages false w = Unit {0}
Left marks pages true (fault d) = Unit {0}
Left marks pages true (fine met k) = MarksAre marks met × (pages ≡ met)

pub record Told (marks : List Bool) (pages : List ℕ) (on : Bool) (w : Walked) (a : Result ℕ PageFault) : Type 0 where
  pub answered : a ≡ answer on w
  pub left : Left marks pages on w

-- one call of the walk w on the pages below `size`, which takes the pages met: marks before and after, and its answer
pub record Walks (P : History → Type 0) (m : Medium) (Q : History → Type 0) (n : Medium) (size : ℕ) (b b' : List Bool) (w : (ℕ → List ℕ) → List ℕ → Walked) (a : Result ℕ PageFault) : Type 0 where
  pub room : IfOk a (λ k. k + 248 * marked b ≤ 248 * marked b')
  pub looks : Looks P m Q n
      (λ t. size ≤ m.size → (seen : List ℕ) → MarksAre b seen → Told b' (pages_read t ++ seen) n.on (w m.bytes seen) a)
