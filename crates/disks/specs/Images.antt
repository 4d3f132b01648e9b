-- A device for reading only: bytes in whole pages.
use Rattle.std.specs.Prelude.{◌≡◌, ℕ, ◌*◌, ◌/◌, ◌%◌, ◌^◌, ◌<◌, true, false, List, length, take, drop}
use Rattle.device.specs.Medium.{Medium}

-- never off, and never volatile
abbrev pub image_medium : List ℕ → Medium
image_medium bytes =
    record { size = length bytes / 512; bytes = λ p. take 512 (drop (p * 512) bytes); volatile = λ _. false; on = true }

abbrev pub WholePages : List ℕ → Type 0
WholePages bytes = length bytes % 512 ≡ 0

-- a page's number has 32 bits
abbrev pub FewPages : List ℕ → Type 0
FewPages bytes = length bytes / 512 < 2 ^ 32
