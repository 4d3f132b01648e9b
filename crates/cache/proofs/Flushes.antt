-- What a flush does, whichever way it ends.
use Rattle.std.proofs.Common.{◌≡◌, ℕ, Bool, true, false, is_some, Some, None, Err, Option, sym, refl, ap, ◌∙◌, subst, arith}
use Rattle.std.proofs.lemmas.Bool.{eq-eqb}
use Rattle.device.specs.History.{did_write}
use Rattle.device.specs.declared.fault.DeviceFault.{DeviceFault}
use Rattle.device.specs.declared.fault.DeviceFault.TheVariants.{Outside, Off}
use Rattle.device.specs.declared.Reader.{Ghosts}
use Rattle.cache.specs.declared.copy.Copied.{Copied}
use Rattle.cache.specs.declared.cache.Cache.{Cache}
use Rattle.cache.specs.declared.slots.Slots.{Slots}
use Rattle.cache.specs.Held.{pages_in, has, is_changed, copy_of, slot_at, cleaned}
use Rattle.cache.specs.Cached.{pages_of, over, copies_of, cache_medium}
use Rattle.cache.specs.Inner.{Settles, Goes}
use Rattle.cache.proofs.Copies.{copy_at}
use Rattle.cache.proofs.Steps.{Passes, flush_lost}

-- the slot that has a page, has its copy
pub slot_copy : (s : Slots) (i : ℕ) (c : Copied) → slot_at (pages_in s.all) i ≡ Some c → copy_of (pages_in s.all) c.page ≡ Some c
slot_copy s i c e =
    copy_at (pages_in s.all) i c.page (s.distinct c.page) (ap (λ (o : Option Copied). has o c.page) e ∙ eq-eqb c.page c.page refl) ∙ e

pub cleaned_clean : (o : Option Copied) → is_changed o ≡ false → cleaned o ≡ o
cleaned_clean None e = refl
cleaned_clean (Some c) e =
    ap (λ (b : Bool). Some (record { page = c.page; changed = b; bytes = c.bytes })) (sym e)

pub flush_refused : {B : Type 0} {R : Ghosts B} {k l : Cache B} {c : Copied} (i : ℕ) (y : DeviceFault)
    → slot_at (pages_of k) i ≡ Some c → c.changed ≡ true → Passes R k (did_write c.page c.bytes (Err y)) (Err y) l
    → Goes R k (Err y) l
flush_refused {R = R} {k = k} {l = l} {c = c} i Outside e d h = record {
  follows = λ a.
      let w = (h.happens.follows a.led a.is_past).0 in
      let z = a.agrees.within c.page (ap is_some (slot_copy k.slots i c e)) in
      absurd (omega (arith, w.0, z));
}
flush_refused {R = R} {k = k} {l = l} {c = c} i Off e d h = record {
  follows = λ a.
      let w = h.happens.follows a.led a.is_past in
      let m = R.medium k.below in let n = R.medium l.below in
      let f = flush_lost (copies_of k) k.off m n c.page c.bytes (ap is_some (slot_copy k.slots i c e)) (ap is_changed (slot_copy k.slots i c e) ∙ d) a.agrees w.0 in
      let v = ap (λ (s : Slots). copy_of (pages_in s.all)) h.same_slots in (
        subst (λ (f : ℕ → Option Copied). Settles (cache_medium R k) (Err Off) (over f n)) (sym v) f.0,
        record { led = _; is_past = w.1; agrees = rw (v, h.learns) f.1 },
      );
}
