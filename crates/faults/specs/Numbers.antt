-- The numbers of the store's faults.
use Rattle.std.specs.Prelude.{ℕ}
use Rattle.device.specs.declared.fault.DeviceFault.TheVariants.{Outside, Off}
use Rattle.page.specs.declared.fault.PageFault.TheVariants.{Device, Damaged}
use Rattle.faults.specs.declared.fault.StoreFault.{StoreFault}
use Rattle.faults.specs.declared.fault.StoreFault.TheVariants.{Shut, InTransaction, NoTransaction, KeyLength, Absent, NoMeta, Page, PageCount, LastCommit, NoCell}

-- a page number that leads outside the device is a damaged tree
abbrev pub number : StoreFault → ℕ
number Shut = 1
number InTransaction = 2
number NoTransaction = 3
number KeyLength = 4
number Absent = 6
number NoMeta = 8
number (Page (Damaged d)) = 9
number (Page (Device Outside)) = 9
number (Page (Device Off)) = 10
number PageCount = 11
number LastCommit = 12
number NoCell = 13
