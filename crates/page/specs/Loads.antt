-- Pages of cells from bytes, and from a reader.
use Rattle.std.specs.Prelude.{◌≡◌, ℕ, List, ◌∷◌, Some, None, Ok, Err, Result}
use Rattle.device.specs.Medium.{Medium}
use Rattle.device.specs.Calls.{Reads}
use Rattle.device.specs.History.{History, did_read, step}
use Rattle.device.specs.declared.fault.DeviceFault.{DeviceFault}
use Rattle.page.specs.Kinds.{Rules}
use Rattle.page.specs.Reading.{first_fault}
use Rattle.page.specs.declared.fault.Cause.{Cause}
use Rattle.page.specs.declared.fault.PageFault.{PageFault}
use Rattle.page.specs.declared.fault.PageFault.TheVariants.{Device, Damaged}

-- what reading the bytes b answers: a page of cells of the rules K, whose bytes are `bytes`
abbrev pub ReadsPage : {T : Type 0} → Rules → (T → List ℕ) → List ℕ → Result T Cause → Type 0
ReadsPage K bytes b (Ok t) = (bytes t ≡ b) × (first_fault K b ≡ None)
ReadsPage K bytes b (Err c) = first_fault K b ≡ Some c

-- one read of the device, which left b in the buffer
abbrev pub OneRead : (History → Type 0) → Medium → ℕ → List ℕ → Result Unit DeviceFault → (History → Type 0) → Medium → Type 0
OneRead P m p b a Q n = (h : History) → P h → Reads m p b a n × Q (step m (did_read p b a) n ∷ h)

-- what loading page p answers: a page of cells of the rules K, whose bytes are `bytes`
abbrev pub Loads : {T : Type 0} → Rules → (T → List ℕ) → (History → Type 0) → Medium → ℕ → Result T PageFault → (History → Type 0) → Medium → Type 0
Loads K bytes P m p (Ok t) Q n = OneRead P m p (bytes t) (Ok tt) Q n × (first_fault K (bytes t) ≡ None)
Loads K bytes P m p (Err (Device f)) Q n = (b : List ℕ) × OneRead P m p b (Err f) Q n
Loads K bytes P m p (Err (Damaged d)) Q n = (b : List ℕ) × OneRead P m p b (Ok tt) Q n × (first_fault K b ≡ Some d.cause) × (d.page ≡ p)
