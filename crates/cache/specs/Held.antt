-- The pages that a cache holds: a list with the copy of a page for each slot, or with none.
use Rattle.std.specs.Prelude.{◌≡◌, ℕ, ◌+◌, ◌<◌, ◌≤◌, Bool, true, false, cond, List, [], ◌∷◌, map, length, is_some, Some, None, Option, ◌==◌, ◌≢◌, slice_index_or}
use Rattle.cache.specs.declared.copy.Copied.{Copied}
use Rattle.cache.specs.declared.slot.Slot.{Slot}
use Rattle.cache.specs.declared.place.Place.{Place}

abbrev pub pages_in : List Slot → List (Option Copied)
pages_in = map (λ s. s.copy)

-- the slot has page p
abbrev pub has : Option Copied → ℕ → Bool
has None p = false
has (Some c) p = c.page == p

-- the slot has a page that was changed
abbrev pub is_changed : Option Copied → Bool
is_changed None = false
is_changed (Some c) = c.changed

-- the copy of page p
abbrev pub copy_of : List (Option Copied) → ℕ → Option Copied
copy_of [] p = None
copy_of (s ∷ ss) p = cond (has s p) s (copy_of ss p)

abbrev pub holds : List (Option Copied) → ℕ → Bool
holds ss p = is_some (copy_of ss p)

-- how many slots have page p
abbrev pub copies : List (Option Copied) → ℕ → ℕ
copies [] p = 0
copies (s ∷ ss) p = cond (has s p) 1 0 + copies ss p

-- no page is held twice
abbrev pub Distinct : List (Option Copied) → Type 0
Distinct ss = (p : ℕ) → copies ss p ≤ 1

-- each copy holds 512 bytes
abbrev pub length_of : Option Copied → ℕ
length_of None = 512
length_of (Some c) = length c.bytes

abbrev pub Sized : List (Option Copied) → Type 0
Sized ss = (p : ℕ) → length_of (copy_of ss p) ≡ 512

-- the bytes of the copy, or where there is none, b
abbrev pub shown : Option Copied → List ℕ → List ℕ
shown None b = b
shown (Some c) b = c.bytes

abbrev pub slot_at : List (Option Copied) → ℕ → Option Copied
slot_at ss i = slice_index_or ss i None

-- every slot has a page
abbrev pub Full : List (Option Copied) → Type 0
Full ss = (i : ℕ) → i < length ss → is_some (slot_at ss i) ≡ true

-- a search for page p finds the slot that has it, if there is one
abbrev pub Finds : List (Option Copied) → ℕ → Option Place → Type 0
Finds ss p None = copy_of ss p ≡ None
Finds ss p (Some i) = (has (slot_at ss i.number) p ≡ true) × (copy_of ss p ≡ slot_at ss i.number)

-- A slot that held o now holds c, and nothing else has changed. f gives the copy of each page before, and g
-- after it.
pub record Replaces (o : Option Copied) (c : Copied) (f g : ℕ → Option Copied) : Type 0 where
  pub was : (p : ℕ) → has o p ≡ true → f p ≡ o
  pub new : g c.page ≡ Some c
  pub gone : (p : ℕ) → (p ≢ c.page) → has o p ≡ true → g p ≡ None
  pub others : (p : ℕ) → (p ≢ c.page) → has o p ≡ false → g p ≡ f p

-- a slot whose page was written below
abbrev pub cleaned : Option Copied → Option Copied
cleaned None = None
cleaned (Some c) = Some (record { page = c.page; changed = false; bytes = c.bytes })
