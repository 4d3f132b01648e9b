-- The words for a device's fault.
use Rattle.std.specs.Prelude.{ℕ, List, codes}
use Rattle.device.specs.declared.fault.DeviceFault.{DeviceFault}
use Rattle.device.specs.declared.fault.DeviceFault.TheVariants.{Outside, Off}

abbrev pub words : DeviceFault → List ℕ
words Outside = codes "page outside the device"
words Off = codes "device off"
