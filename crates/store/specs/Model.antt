-- The store as an ordered map with its transactions. What power does to a call is an input of its step: `on` says whether
-- the device is on when the call ends.
use Rattle.std.specs.Prelude.{ℕ, ◌+◌, Bool, true, false, cond, List, Some, None, Ok, Err, Option, Result, ◌==◌}
use Rattle.device.specs.declared.fault.DeviceFault.TheVariants.{Off as DeviceOff}
use Rattle.cuts.specs.Nodes.{Pair}
use Rattle.page.specs.declared.fault.PageFault.TheVariants.{Device}
use Rattle.faults.specs.declared.fault.StoreFault.{StoreFault}
use Rattle.faults.specs.declared.fault.StoreFault.TheVariants.{Shut, InTransaction, NoTransaction, KeyLength, Absent, Page, PageCount, LastCommit}

-- A store that is shut knows no map. An idle one has a committed map, with the number of its commit; one in a
-- transaction has a working map, too.
pub data Model : Type 0 where
  shut : Model
  idle : (number : ℕ) (map : List Pair) → Model
  active : (number : ℕ) (map working : List Pair) → Model

-- what a call answers, and what the store is then
pub record Stepped (A : Type 0) : Type 0 where
  pub answer : Result A StoreFault
  pub model : Model

abbrev pub stepped : {A : Type 0} → Result A StoreFault → Model → Stepped A
stepped a m = record { answer = a; model = m }

-- the device is off
abbrev pub off : StoreFault
off = Page (Device DeviceOff)

-- the largest number of a commit
abbrev pub last_number : ℕ
last_number = 18446744073709551615

abbrev pub begins : Model → Stepped Unit
begins shut = stepped (Err Shut) shut
begins (idle c m) = cond (c == last_number) (stepped (Err LastCommit) (idle c m)) (stepped (Ok tt) (active c m m))
begins (active c m w) = stepped (Err InTransaction) (active c m w)

abbrev pub aborts : Model → Stepped Unit
aborts shut = stepped (Err Shut) shut
aborts (idle c m) = stepped (Err NoTransaction) (idle c m)
aborts (active c m w) = stepped (Ok tt) (idle c m)

abbrev pub commits : (on : Bool) → Model → Stepped ℕ
commits on shut = stepped (Err Shut) shut
commits on (idle c m) = stepped (Err NoTransaction) (idle c m)
commits true (active c m w) = stepped (Ok (c + 1)) (idle (c + 1) w)
commits false (active c m w) = stepped (Err off) shut

-- a read, where `fits` says whether the key's length does: of what is wanted, if it is there
abbrev pub looked : (on fits : Bool) → Option Pair → Model → Stepped Pair
looked on false o s = stepped (Err KeyLength) s
looked false true o s = stepped (Err off) shut
looked true true None s = stepped (Err Absent) s
looked true true (Some p) s = stepped (Ok p) s

abbrev pub reads : (on fits : Bool) (want : List Pair → Option Pair) → Model → Stepped Pair
reads on fits want shut = stepped (Err Shut) shut
reads on fits want (idle c m) = looked on fits (want m) (idle c m)
reads on fits want (active c m w) = looked on fits (want w) (active c m w)

-- a number and its map, if they were found, or why not
abbrev pub opened : Result (ℕ × List Pair) StoreFault → Stepped ℕ
opened (Ok f) = stepped (Ok f.0) (idle f.0 f.1)
opened (Err f) = stepped (Err f) shut

-- an opening finds what the device holds; before that, a store in a transaction refuses it
abbrev pub opens : Result (ℕ × List Pair) StoreFault → Model → Stepped ℕ
opens found shut = opened found
opens found (idle c m) = opened found
opens found (active c m w) = stepped (Err InTransaction) (active c m w)

-- `fits` says whether the number of pages does
abbrev pub formatted : (on fits : Bool) → Model → Stepped Unit
formatted on false s = stepped (Err PageCount) s
formatted true true s = stepped (Ok tt) shut
formatted false true s = stepped (Err off) shut

abbrev pub formats : (on fits : Bool) → Model → Stepped Unit
formats on fits shut = formatted on fits shut
formats on fits (idle c m) = formatted on fits (idle c m)
formats on fits (active c m w) = stepped (Err InTransaction) (active c m w)
