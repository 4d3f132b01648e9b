-- The slot for a page.
use Rattle.std.proofs.Common.{◌≡◌, ℕ, ◌<◌, Bool, true, false, cond, List, length, set, is_some, Some, None, Ok, Err, Option, Result, sym, refl, ap, ◌∙◌, subst, inl, inr, ⊎_elim, arith}
use Rattle.std.proofs.lemmas.List.{get_or-set_same}
use Rattle.std.proofs.lemmas.Bool.{cases_Bool}
use Rattle.device.specs.declared.fault.DeviceFault.{DeviceFault}
use Rattle.device.specs.declared.Reader.{Ghosts}
use Rattle.cache.specs.Cached.{pages_of}
use Rattle.cache.specs.declared.copy.Copied.{Copied}
use Rattle.cache.specs.declared.place.Place.{Place}
use Rattle.cache.specs.declared.cache.Cache.{Cache}
use Rattle.cache.specs.declared.slots.Slots.{Slots}
use Rattle.cache.specs.Held.{pages_in, has, is_changed, copy_of, copies, slot_at, cleaned}
use Rattle.cache.specs.Calls.{Tidied}
use Rattle.cache.specs.Inner.{flushed, answer_of, Chosen, Rooms, Placed, Places, Finding}
use Rattle.cache.proofs.Copies.{within_slots, copy_none, copies_none, copies_set, copy_at, copy_set_other}

pub has_cleaned : (o : Option Copied) (p : ℕ) → has (cleaned o) p ≡ has o p
has_cleaned None p = refl
has_cleaned (Some c) p = refl

pub changed_cleaned : (o : Option Copied) → is_changed (cleaned o) ≡ false
changed_cleaned None = refl
changed_cleaned (Some c) = refl

pub copies_cleaned : (ss : List (Option Copied)) (i p : ℕ) → i < length ss
    → copies (set ss i (cleaned (slot_at ss i))) p ≡ copies ss p
copies_cleaned ss i p l =
    let a = copies_set ss i p (cleaned (slot_at ss i)) l in
    let d = ap (λ (b : Bool). cond {A = ℕ} b 1 0) (has_cleaned (slot_at ss i) p) in omega arith

pub tidied_same : (ss ts : List (Option Copied)) → ts ≡ ss → Tidied ss ts
tidied_same ss ts e p = inl (ap (λ (xs : List (Option Copied)). copy_of xs p) e)

pub tidied_set : (s : Slots) (i : Place) → Tidied (pages_in s.all) (set (pages_in s.all) i.number (cleaned (slot_at (pages_in s.all) i.number)))
tidied_set s i p = ⊎_elim
    (λ h. let x = copy_at ss i.number p (s.distinct p) h in
    let y = copies_cleaned ss i.number p l in let d = s.distinct p in
    let h' : has (slot_at ts i.number) p ≡ true = ap (λ (o : Option Copied). has o p) at_i ∙ has_cleaned (slot_at ss i.number) p ∙ h in
    let z = copy_at ts i.number p (omega arith) h' in
    inr (z ∙ at_i ∙ ap cleaned (sym x)))
    (λ h. inl (copy_set_other ss i.number p (cleaned (slot_at ss i.number)) (has_cleaned (slot_at ss i.number) p ∙ h) h))
    (cases_Bool (has (slot_at ss i.number) p))
  where
    ss : List (Option Copied)
    ss = pages_in s.all

    ts : List (Option Copied)
    ts = set (pages_in s.all) i.number (cleaned (slot_at (pages_in s.all) i.number))

    l : i.number < length (pages_in s.all)
    l = within_slots s i

    at_i : slot_at (set (pages_in s.all) i.number (cleaned (slot_at (pages_in s.all) i.number))) i.number ≡ cleaned (slot_at (pages_in s.all) i.number)
    at_i = get_or-set_same (pages_in s.all) i.number (cleaned (slot_at (pages_in s.all) i.number)) None (within_slots s i)

-- an empty slot, or one with a page that leaves it
placed_new : (s : Slots) (q : ℕ) (i : Place) → copy_of (pages_in s.all) q ≡ None
    → Placed (pages_in s.all) q i (slot_at (pages_in s.all) i.number) (set (pages_in s.all) i.number (cleaned (slot_at (pages_in s.all) i.number)))
placed_new s q i e = record {
  apart = let b = gone in omega arith;
  clean = λ _ _ _. ap is_changed at_i ∙ changed_cleaned o;
  misses = λ _. (ap is_changed at_i ∙ changed_cleaned o, copy_none _ q gone);
  there = λ p h. here p ∙ h;
  others = λ p _ h. (here p ∙ h, copy_set_other (pages_in s.all) i.number p (cleaned o) (has_cleaned o p ∙ h) h);
}
  where
    o : Option Copied
    o = slot_at (pages_in s.all) i.number

    l : i.number < length (pages_in s.all)
    l = within_slots s i

    gone : copies (set (pages_in s.all) i.number (cleaned (slot_at (pages_in s.all) i.number))) q ≡ 0
    gone = copies_cleaned (pages_in s.all) i.number q l ∙ copies_none (pages_in s.all) q e

    at_i : slot_at (set (pages_in s.all) i.number (cleaned (slot_at (pages_in s.all) i.number))) i.number ≡ cleaned (slot_at (pages_in s.all) i.number)
    at_i = get_or-set_same (pages_in s.all) i.number (cleaned (slot_at (pages_in s.all) i.number)) None l

    here : (p : ℕ) → has (slot_at (set (pages_in s.all) i.number (cleaned (slot_at (pages_in s.all) i.number))) i.number) p ≡ has (slot_at (pages_in s.all) i.number) p
    here p = ap (λ (x : Option Copied). has x p) at_i ∙ has_cleaned (slot_at (pages_in s.all) i.number) p

pub finding_new : {B : Type 0} {R : Ghosts B} {c d : Cache B} (q : ℕ) (r : Result Place DeviceFault)
    → copy_of (pages_of c) q ≡ None → Rooms R c r d → Finding R c q r d
finding_new {c = c} {d = d} q r e h = record {
  leaver = o;
  leaves = record { was = λ p z. copy_at ss i.number p (c.slots.distinct p) z; only_full = λ z. (h.full z, ap is_some e) };
  goes = h.goes;
  tidied = settles r h.flushes;
  places = places r h.chosen h.flushes;
  quiet = h.quiet;
}
  where
    ss : List (Option Copied)
    ss = pages_of c

    i : Place
    i = h.slot

    o : Option Copied
    o = slot_at (pages_of c) h.slot.number

    settles : (r : Result Place DeviceFault) → pages_of d ≡ flushed (answer_of r) (pages_of c) h.slot.number → Tidied (pages_of c) (pages_of d)
    settles (Ok _) z = subst (Tidied (pages_of c)) (sym z) (tidied_set c.slots h.slot)
    settles (Err _) z = tidied_same (pages_of c) (pages_of d) z

    places : (r : Result Place DeviceFault) → Chosen r h.slot → pages_of d ≡ flushed (answer_of r) (pages_of c) h.slot.number
        → Places (pages_of c) q (slot_at (pages_of c) h.slot.number) r (pages_of d)
    places (Ok j) x z = rw (x, z) (placed_new c.slots q h.slot e)
    places (Err y) x z = tt
