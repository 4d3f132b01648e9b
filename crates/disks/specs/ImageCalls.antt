-- What an image is made of, and what reading it gives.
use Rattle.std.specs.Prelude.{◌≡◌, ℕ, cond, List, is_ok, Ok, Err, vec_items, Result, nat_lt}
use Rattle.device.specs.Medium.{zeros}
use Rattle.device.specs.declared.fault.DeviceFault.{DeviceFault}
use Rattle.device.specs.declared.fault.DeviceFault.TheVariants.{Outside}
use Rattle.disks.specs.Images.{image_medium, WholePages, FewPages}
use Rattle.disks.specs.declared.image.Image.{Image}
use Rattle.disks.specs.declared.image.fault.ImageFault.{ImageFault}
use Rattle.disks.specs.declared.image.fault.ImageFault.TheVariants.{PartialPage, TooManyPages}

abbrev pub bytes_of : Image → List ℕ
bytes_of i = vec_items i.bytes

-- what making an image of these bytes answers
abbrev pub Makes : List ℕ → Result Image ImageFault → Type 0
Makes bytes (Ok i) = WholePages bytes × FewPages bytes × (bytes_of i ≡ bytes)
Makes bytes (Err PartialPage) = WholePages bytes → ⊥
Makes bytes (Err TooManyPages) = WholePages bytes × (FewPages bytes → ⊥)

pub record ImageReads (i : Image) (p : ℕ) (buffer : List ℕ) (r : Result Unit DeviceFault) (j : Image) : Type 0 where
  pub answers : r ≡ cond (nat_lt p (image_medium (bytes_of i)).size) (Ok tt) (Err Outside)
  pub shows : buffer ≡ cond (is_ok r) ((image_medium (bytes_of i)).bytes p) zeros
  pub same_bytes : bytes_of j ≡ bytes_of i
