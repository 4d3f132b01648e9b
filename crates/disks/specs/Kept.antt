-- A page as a simulated disk keeps it.
use Rattle.std.specs.Prelude.{◌≡◌, ℕ, Bool, true, false, cond, not, List, [], slice_index_or}
use Rattle.device.specs.Medium.{zeros}

-- what a read shows, what a power return brings back, and whether the page is volatile
pub record Kept : Type 0 where
  pub bytes : List ℕ
  pub durable : List ℕ
  pub volatile : Bool

abbrev pub blank : Kept
blank = record { bytes = zeros; durable = zeros; volatile = false }

-- after a write of b, which is durable at once or after the next sync
abbrev pub written : Bool → List ℕ → Kept → Kept
written at_once b k = record { bytes = b; durable = cond at_once b k.durable; volatile = not at_once }

-- after a sync
abbrev pub settled : Kept → Kept
settled k = record { bytes = k.bytes; durable = k.bytes; volatile = false }

-- after a power return
abbrev pub restored : Kept → Kept
restored k = record { bytes = k.durable; durable = k.durable; volatile = false }

-- a page that is not volatile is durable as it is; where writes are durable at once, none is volatile
pub record Sound (at_once : Bool) (k : Kept) : Type 0 where
  pub agrees : k.volatile ≡ false → k.durable ≡ k.bytes
  pub never : at_once ≡ true → k.volatile ≡ false

-- page p; no bytes, past the end
abbrev pub page_at : List Kept → ℕ → Kept
page_at ks p = slice_index_or ks p (record { bytes = []; durable = []; volatile = false })
