-- A fault of the device, or damage, as a fault of a page; and the numbers and words of what is wrong with a page.
use Rattle.std.specs.Prelude.{ℕ, List, ◌++◌, codes, decimal}
use Rattle.device.specs.Faults.{words as device_words}
use Rattle.device.specs.declared.fault.DeviceFault.{DeviceFault}
use Rattle.page.specs.declared.fault.Cause.{Cause}
use Rattle.page.specs.declared.fault.Cause.TheVariants.{Checksum, Kind, Layout, Order, Bounds, Underfull, Child, PairCount}
use Rattle.page.specs.declared.fault.Damage.{Damage}
use Rattle.page.specs.declared.fault.PageFault.{PageFault}
use Rattle.page.specs.declared.fault.PageFault.TheVariants.{Device, Damaged}

abbrev pub from_device : DeviceFault → PageFault
from_device f = Device f

abbrev pub from_damage : Damage → PageFault
from_damage d = Damaged d

-- the place of a cause in the order in which a walk looks for causes
abbrev pub cause_number : Cause → ℕ
cause_number Checksum = 1
cause_number Kind = 2
cause_number Layout = 3
cause_number Order = 4
cause_number Bounds = 5
cause_number Underfull = 6
cause_number Child = 7
cause_number PairCount = 8

abbrev pub cause_words : Cause → List ℕ
cause_words Checksum = codes "checksum is wrong"
cause_words Kind = codes "kind byte is not the one of this level"
cause_words Layout = codes "bytes are not the page of their cells"
cause_words Order = codes "keys or separators do not rise"
cause_words Bounds = codes "a key or separator is outside its bounds"
cause_words Underfull = codes "page is underfull, or a branch root has no separator"
cause_words Child = codes "a child is outside the tree's pages, or was met before"
cause_words PairCount = codes "pair count is not the meta page's"

-- which page is damaged, and how
abbrev pub damage_words : Damage → List ℕ
damage_words d =
    codes "page " ++ (decimal d.page ++ (codes ", cause " ++ (decimal (cause_number d.cause) ++ (codes ": " ++ cause_words d.cause))))

abbrev pub page_words : PageFault → List ℕ
page_words (Device f) = device_words f
page_words (Damaged d) = damage_words d
