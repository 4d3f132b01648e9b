-- Steps of a cache: f gives the copy of each page before the step, and g after it.
use Rattle.std.proofs.Common.{◌≡◌, ℕ, ◌<◌, Bool, true, false, ◌||◌, List, is_some, Some, None, Ok, Err, Option, Result, sym, refl, ap, ◌∙◌, subst, ⊎_elim}
use Rattle.std.proofs.lemmas.Bool.{cases_eq, both_ways, or_parts, or_from}
use Rattle.device.specs.Medium.{Medium}
use Rattle.device.specs.Calls.{Keeps, KeepsBut, Writes}
use Rattle.device.specs.History.{Event}
use Rattle.device.specs.declared.Reader.{Ghosts}
use Rattle.device.specs.declared.fault.DeviceFault.{DeviceFault}
use Rattle.device.specs.declared.fault.DeviceFault.TheVariants.{Outside, Off}
use Rattle.cache.specs.declared.copy.Copied.{Copied}
use Rattle.cache.specs.Held.{is_changed, shown}
use Rattle.cache.specs.Cached.{over, Agrees}
use Rattle.cache.specs.declared.cache.Cache.{Cache}
use Rattle.cache.specs.Calls.{says_off, Calls}
use Rattle.cache.specs.Inner.{Settles}

-- a call of the device below, which changes no slot; the cache remembers it if the device says that it is off
pub record Passes {B : Type 0} (R : Ghosts B) (c : Cache B) (e : Event) (r : Result Unit DeviceFault) (d : Cache B) : Type 0 where
  pub happens : Calls R c e d
  pub same_slots : d.slots ≡ c.slots
  pub learns : d.off ≡ (says_off r || c.off)

pub keeps_more : (m k n : Medium) → Keeps m k → Keeps k n → Keeps m n
keeps_more m k n a b = record {
  same_size = b.same_size ∙ a.same_size;
  same_bytes = λ p. b.same_bytes p ∙ a.same_bytes p;
  stays_durable = λ p e. b.stays_durable p (a.stays_durable p e);
}

still_more : (m k n : Medium) → (m.on ≡ false → k ≡ m) → (k.on ≡ false → n ≡ k) → m.on ≡ false → n ≡ m
still_more m k n a b e = let d = a e in b (ap (λ (x : Medium). x.on) d ∙ e) ∙ d

pub settles_more : (m k n : Medium) (r : Result Unit DeviceFault) → Settles m (Ok tt) k → Settles k r n → Settles m r n
settles_more m k n (Ok u) a b = (b.0 ∙ a.0, still_more m k n a.1 b.1, keeps_more m k n a.2 b.2)
settles_more m k n (Err Outside) a b = b
settles_more m k n (Err Off) a b =
    (record { is_off = b.0.is_off; still = still_more m k n a.1 b.0.still }, keeps_more m k n a.2 b.1)

-- a copy that shows what the page below had, and still has
held_same : (f : ℕ → Option Copied) (m n : Medium) (q : ℕ) → is_some (f q) ≡ true → is_changed (f q) ≡ true → KeepsBut q m n
    → (p : ℕ) → shown (f p) (n.bytes p) ≡ shown (f p) (m.bytes p)
held_same f m n q s h k p = ⊎_elim
    (λ e. rw e (both (f q) s))
    (λ e. ap (shown (f p)) (k.same_bytes p e))
    (cases_eq p q)
  where
    both : (o : Option Copied) → is_some o ≡ true → shown o (n.bytes q) ≡ shown o (m.bytes q)
    both None z = absurd (both_ways false refl z)
    both (Some c) z = refl

-- the device lost its power on the write of a changed page
pub flush_lost : (f : ℕ → Option Copied) (off : Bool) (m n : Medium) (q : ℕ) (b : List ℕ)
    → is_some (f q) ≡ true → is_changed (f q) ≡ true → Agrees f off m → Writes m q b (Err Off) n
    → Settles (over f m) (Err Off) (over f n) × Agrees f true n
flush_lost f off m n q b s h a w = (
  (
    record { is_off = w.1.is_off; still = λ e. ap (over f) (w.1.still e) },
    record {
      same_size = w.3.same_size;
      same_bytes = held_same f m n q s h w.3;
      stays_durable = λ p e. let d = or_parts (is_changed (f p)) (m.volatile p) e in
          or_from (is_changed (f p)) (n.volatile p) d.0 (w.3.stays_durable p (not_q p d.0) d.1);
    },
  ),
  record {
    same = λ p i e. let z = w.3.same_bytes p (not_q p e) in ap (shown (f p)) z ∙ a.same p i e ∙ sym z;
    within = λ p i. subst (λ (x : ℕ). p < x) (sym w.3.same_size) (a.within p i);
    knows_off = λ _. w.1.is_off;
    knows_on = λ e. absurd (both_ways true e refl);
  },
)
  where
    not_q : (p : ℕ) → is_changed (f p) ≡ false → p ≡ q → ⊥
    not_q p e z = both_ways (is_changed (f q)) (subst (λ (x : ℕ). is_changed (f x) ≡ false) z e) h
