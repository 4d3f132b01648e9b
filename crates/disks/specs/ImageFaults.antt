-- The words for why bytes are no image.
use Rattle.std.specs.Prelude.{ℕ, List, codes}
use Rattle.disks.specs.declared.image.fault.ImageFault.{ImageFault}
use Rattle.disks.specs.declared.image.fault.ImageFault.TheVariants.{PartialPage, TooManyPages}

abbrev pub words : ImageFault → List ℕ
words PartialPage = codes "not a whole number of 512-byte pages"
words TooManyPages = codes "too many pages"
