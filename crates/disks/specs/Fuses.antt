-- Which call of a simulated device is the first that it refuses for want of power.
use Rattle.std.specs.Prelude.{ℕ, ◌+◌, ◌-◌, ◌^◌, min, Bool, cond, ◌||◌, Ok, Err, Result, ◌==◌, nat_lt}
use Rattle.device.specs.declared.fault.DeviceFault.{DeviceFault}
use Rattle.device.specs.declared.fault.DeviceFault.TheVariants.{Off}
use Rattle.disks.specs.declared.fuse.Fuse.{Fuse}

-- a new one
abbrev pub fresh : ℕ → Fuse
fresh limit = record { limit = limit; calls = 0 }

-- it is on: fewer calls than the limit were made, or there is no limit
abbrev pub powered : Fuse → Bool
powered f = f.limit == 0 || nat_lt f.calls f.limit

-- the answer to a call, by the fuse after it
abbrev pub lasts : Fuse → Result Unit DeviceFault
lasts f = cond (powered f) (Ok tt) (Err Off)

-- after one more call; a device that is off counts no more
abbrev pub counted : Fuse → Fuse
counted f = record f { calls = cond (powered f) (min (f.calls + 1) (2 ^ 64 - 1)) f.calls }

-- after a power return
abbrev pub renewed : Fuse → Fuse
renewed f = record f { calls = 0 }
