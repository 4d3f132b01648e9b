-- How a cache's medium changes with the device below, and with a slot that takes another copy.
use Rattle.std.proofs.Common.{◌≡◌, ℕ, ◌<◌, Bool, true, false, ◌||◌, is_some, Some, None, Option, sym, refl, ap, ◌∙◌, subst, ⊎_elim}
use Rattle.std.proofs.lemmas.Bool.{cases_eq, cases_Bool, both_ways, or_parts, or_from}
use Rattle.device.specs.Medium.{Medium}
use Rattle.device.specs.Calls.{Keeps}
use Rattle.cache.specs.declared.copy.Copied.{Copied}
use Rattle.cache.specs.Held.{has, is_changed, Replaces, shown}
use Rattle.cache.specs.Cached.{over, Agrees}

pub over_keeps : (f : ℕ → Option Copied) (m n : Medium) → Keeps m n → Keeps (over f m) (over f n)
over_keeps f m n k = record {
  same_size = k.same_size;
  same_bytes = λ p. ap (shown (f p)) (k.same_bytes p);
  stays_durable = λ p e. let d = or_parts (is_changed (f p)) (m.volatile p) e in
      or_from (is_changed (f p)) (n.volatile p) d.0 (k.stays_durable p d.1);
}

pub agrees_keeps : (f : ℕ → Option Copied) (off out : Bool) (m n : Medium) → Keeps m n
    → (out ≡ true → n.on ≡ false) → (out ≡ false → 0 < n.size → n.on ≡ true) → Agrees f off m → Agrees f out n
agrees_keeps f off out m n k x y a = record {
  same = λ p i e. let z = k.same_bytes p in ap (shown (f p)) z ∙ a.same p i e ∙ sym z;
  within = λ p i. subst (λ (x : ℕ). p < x) (sym k.same_size) (a.within p i);
  knows_off = x;
  knows_on = y;
}

has_some : (o : Option Copied) (p : ℕ) → has o p ≡ true → is_some o ≡ true
has_some None p h = absurd (both_ways false refl h)
has_some (Some c) p h = refl

-- a page that leaves, and was not changed, shows what it showed
left_same : (f g : ℕ → Option Copied) (off : Bool) (m : Medium) (o : Option Copied) (d : Copied) → Agrees f off m → Replaces o d f g
    → (p : ℕ) → (p ≡ d.page → ⊥) → (has o p ≡ true → is_changed o ≡ false)
    → (shown (g p) (m.bytes p) ≡ shown (f p) (m.bytes p)) × (is_changed (g p) ≡ is_changed (f p))
left_same f g off m o d a r p n c = ⊎_elim
    (λ h. let z = r.gone p n h in let w = r.was p h in
    let i : is_some (f p) ≡ true = ap is_some w ∙ has_some o p h in
    let e : is_changed (f p) ≡ false = ap is_changed w ∙ c h in
    (rw z (sym (a.same p i e)), rw z (sym e)))
    (λ h. let z = r.others p n h in (rw z refl, rw z refl))
    (cases_Bool (has o p))

agrees_new : (f g : ℕ → Option Copied) (off : Bool) (m : Medium) (o : Option Copied) (d : Copied) → Agrees f off m → Replaces o d f g
    → d.page < m.size → (d.changed ≡ false → d.bytes ≡ m.bytes d.page) → Agrees g off m
agrees_new f g off m o d a r l b = record {
  same = λ p i e. ⊎_elim
      (λ j. rw j (rw r.new (b (ap is_changed (sym r.new) ∙ subst (λ (x : ℕ). is_changed (g x) ≡ false) j e))))
      (λ j. ⊎_elim
      (λ h. absurd (both_ways (is_some (g p)) (ap is_some (r.gone p j h)) i))
      (λ h. let z = r.others p j h in rw z (a.same p (ap is_some (sym z) ∙ i) (ap is_changed (sym z) ∙ e)))
      (cases_Bool (has o p)))
      (cases_eq p d.page);
  within = λ p i. ⊎_elim
      (λ j. rw j l)
      (λ j. ⊎_elim
      (λ h. absurd (both_ways (is_some (g p)) (ap is_some (r.gone p j h)) i))
      (λ h. a.within p (ap is_some (sym (r.others p j h)) ∙ i))
      (cases_Bool (has o p)))
      (cases_eq p d.page);
  knows_off = a.knows_off;
  knows_on = a.knows_on;
}

-- a page takes its place that was read below
pub take_read : (f g : ℕ → Option Copied) (off : Bool) (m : Medium) (o : Option Copied) (d : Copied) → Agrees f off m → Replaces o d f g
    → is_changed o ≡ false → f d.page ≡ None → d.changed ≡ false → d.bytes ≡ m.bytes d.page → d.page < m.size
    → Keeps (over f m) (over g m) × Agrees g off m
take_read f g off m o d a r c e x y l = (
  record {
    same_size = refl;
    same_bytes = λ p. ⊎_elim (λ j. rw j (rw (r.new, e) y)) (λ j. (left_same f g off m o d a r p j (λ _. c)).0) (cases_eq p d.page);
    stays_durable = λ p h. ⊎_elim
        (λ j. let z = subst (λ (q : ℕ). (is_changed (f q) || m.volatile q) ≡ false) j h in
        rw j (or_from (is_changed (g d.page)) (m.volatile d.page) (ap is_changed r.new ∙ x) (or_parts (is_changed (f d.page)) (m.volatile d.page) z).1))
        (λ j. let z = or_parts (is_changed (f p)) (m.volatile p) h in
        or_from (is_changed (g p)) (m.volatile p) ((left_same f g off m o d a r p j (λ _. c)).1 ∙ z.0) z.1)
        (cases_eq p d.page);
  },
  agrees_new f g off m o d a r l (λ _. y),
)
