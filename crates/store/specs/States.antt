-- What a state lets a call do.
use Rattle.std.specs.Prelude.{ℕ, Bool, false, Ok, Err, Result}
use Rattle.meta.specs.declared.Meta.{Meta}
use Rattle.faults.specs.declared.fault.StoreFault.{StoreFault}
use Rattle.faults.specs.declared.fault.StoreFault.TheVariants.{Shut as IsShut}
use Rattle.walk.specs.Checking.{fits_pages}
use Rattle.store.specs.declared.state.State.{State}
use Rattle.store.specs.declared.state.State.TheVariants.{Shut, Idle, InTransaction}

-- the version that is read, or why there is none
abbrev pub version_in : State → Result Meta StoreFault
version_in Shut = Err IsShut
version_in (Idle x) = Ok x
version_in (InTransaction x) = Ok x.working

-- whether a read gets to the device, where `fits` says whether its key's length does
abbrev pub can_read : State → (fits : Bool) → Bool
can_read Shut fits = false
can_read (Idle x) fits = fits
can_read (InTransaction x) fits = fits

-- whether an opening or a format gets to the device, which has so many pages
abbrev pub can_restart : State → (size : ℕ) → Bool
can_restart Shut size = fits_pages size
can_restart (Idle x) size = fits_pages size
can_restart (InTransaction x) size = false
