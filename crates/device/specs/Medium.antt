-- What a device is, seen from outside.
use Rattle.std.specs.Prelude.{◌≡◌, ℕ, ◌<◌, Bool, false, List, length, replicate}

-- A medium has a fixed number of pages. Each page holds its bytes, and is volatile, which says that a loss of
-- power may still change them, or durable. The medium is on, or off.
pub record Medium : Type 0 where
  pub size : ℕ
  pub bytes : ℕ → List ℕ
  pub volatile : ℕ → Bool
  pub on : Bool

-- a page of zeros, which a refused read leaves in the caller's buffer
abbrev pub zeros : List ℕ
zeros = replicate 512 0

-- each page of a medium holds 512 bytes
abbrev pub Whole : Medium → Type 0
Whole m = (p : ℕ) → p < m.size → length (m.bytes p) ≡ 512

-- no page is volatile
abbrev pub Durable : Medium → Type 0
Durable m = (p : ℕ) → m.volatile p ≡ false
