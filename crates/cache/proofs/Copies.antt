-- The copy of each page, after a slot was set.
use Rattle.std.proofs.Common.{◌≡◌, ℕ, zero, suc, ◌+◌, ◌<◌, ◌≤◌, Bool, true, false, cond, eqb, List, [], ◌∷◌, length, get_or, set, is_some, is_lt, Ordering, MatchOption, Some, None, Option, sym, refl, ap, ◌∙◌, subst, ⊎_elim, arith}
use Rattle.std.proofs.lemmas.List.{get_or-set_same, get_or-map, length-map, map-set}
use Rattle.std.proofs.Math.Seq.{map-set_same}
use Rattle.std.specs.List.{AllWithin, HoldsAt}
use Rattle.std.specs.Ordering.{ordering_then, nat_cmp, bool_cmp}
use Rattle.std.proofs.lemmas.Bool.{both_ways, cases_Bool, cases_eq, cond-true, cond-false, eq-eqb, ne_eqb, eqb-true}
use Rattle.cache.specs.declared.copy.Copied.{Copied}
use Rattle.cache.specs.declared.place.Place.{Place}
use Rattle.cache.specs.declared.slot.Slot.{Slot}
use Rattle.cache.specs.declared.slots.Slots.{Slots}
use Rattle.cache.specs.Held.{has, pages_in, copy_of, copies, Distinct, length_of, slot_at, Full, Replaces}

abbrev pub empty : Slot
empty = record { copy = None; used = 0 }

one_true : (b : Bool) → b ≡ true → ◌≡◌ {A = ℕ} (cond b 1 0) 1
one_true b e = cond-true {A = ℕ} b 1 0 e

one_false : (b : Bool) → b ≡ false → ◌≡◌ {A = ℕ} (cond b 1 0) 0
one_false b e = cond-false {A = ℕ} b 1 0 e

-- a page that no slot has is not held
pub copy_none : (ss : List (Option Copied)) (p : ℕ) → copies ss p ≡ 0 → copy_of ss p ≡ None
copy_none [] p e = refl
copy_none (s ∷ ss) p e = ⊎_elim
    (λ t. absurd (let z = one_true (has s p) t in omega arith))
    (λ t. cond-false (has s p) s (copy_of ss p) t ∙ copy_none ss p (let z = one_false (has s p) t in omega arith))
    (cases_Bool (has s p))

pub copies_none : (ss : List (Option Copied)) (p : ℕ) → copy_of ss p ≡ None → copies ss p ≡ 0
copies_none [] p e = refl
copies_none (None ∷ ss) p e = let t = copies_none ss p e in omega arith
copies_none (Some c ∷ ss) p e = ⊎_elim
    (λ t. absurd (let u : Some c ≡ None = sym (cond-true (eqb c.page p) (Some c) (copy_of ss p) t) ∙ e in let z : ◌≡◌ {A = ℕ} 0 1 = cc in omega arith))
    (λ t. let u = copies_none ss p (sym (cond-false (eqb c.page p) (Some c) (copy_of ss p) t) ∙ e) in let z = one_false (eqb c.page p) t in omega arith)
    (cases_Bool (eqb c.page p))

-- a slot that has a page makes for at least one copy
pub copies_at : (ss : List (Option Copied)) (i p : ℕ) → has (slot_at ss i) p ≡ true → 1 ≤ copies ss p
copies_at [] i p h = absurd (let z : ◌≡◌ {A = ℕ} 0 1 = cc in omega arith)
copies_at (s ∷ ss) zero p h = let z = one_true (has s p) h in omega arith
copies_at (s ∷ ss) (suc i) p h = let t = copies_at ss i p h in omega arith

-- where no page is held twice, a slot that has a page has its copy
pub copy_at : (ss : List (Option Copied)) (i p : ℕ) → copies ss p ≤ 1 → has (slot_at ss i) p ≡ true → copy_of ss p ≡ slot_at ss i
copy_at [] i p d h = refl
copy_at (s ∷ ss) zero p d h = cond-true (has s p) s (copy_of ss p) h
copy_at (s ∷ ss) (suc i) p d h = ⊎_elim
    (λ t. absurd (let z = one_true (has s p) t in let y = copies_at ss i p h in omega arith))
    (λ t. cond-false (has s p) s (copy_of ss p) t ∙ copy_at ss i p (let z = one_false (has s p) t in omega arith) h)
    (cases_Bool (has s p))

pub copies_set : (ss : List (Option Copied)) (i p : ℕ) (s : Option Copied) → i < length ss
    → copies (set ss i s) p + cond (has (slot_at ss i) p) 1 0 ≡ copies ss p + cond (has s p) 1 0
copies_set [] i p s l = absurd (omega arith)
copies_set (x ∷ ss) zero p s l = omega arith
copies_set (x ∷ ss) (suc i) p s l = let t = copies_set ss i p s (omega arith) in omega arith

pub copy_set_other : (ss : List (Option Copied)) (i p : ℕ) (s : Option Copied)
    → has s p ≡ false → has (slot_at ss i) p ≡ false → copy_of (set ss i s) p ≡ copy_of ss p
copy_set_other [] i p s a b = refl
copy_set_other (x ∷ ss) zero p s a b = cond-false (has s p) s (copy_of ss p) a ∙ sym (cond-false (has x p) x (copy_of ss p) b)
copy_set_other (x ∷ ss) (suc i) p s a b = ap (λ (y : Option Copied). cond (has x p) x y) (copy_set_other ss i p s a b)

-- a page that was in no other slot is held once after it is put into this one
pub distinct_set : (ss : List (Option Copied)) (i : ℕ) (c : Copied) → i < length ss → Distinct ss
    → copies ss c.page ≤ cond (has (slot_at ss i) c.page) 1 0 → Distinct (set ss i (Some c))
distinct_set ss i c l d a p = ⊎_elim
    (λ t. let u : copies ss p ≤ cond (has (slot_at ss i) p) 1 0 = rw (sym (eqb-true c.page p t)) a in
    let z = one_true (eqb c.page p) t in let y = copies_set ss i p (Some c) l in omega arith)
    (λ t. let z = one_false (eqb c.page p) t in let y = copies_set ss i p (Some c) l in let x = d p in omega arith)
    (cases_Bool (eqb c.page p))

pub replaces_set : (ss : List (Option Copied)) (i : ℕ) (c : Copied) → i < length ss → Distinct ss
    → copies ss c.page ≤ cond (has (slot_at ss i) c.page) 1 0
    → Replaces (slot_at ss i) c (copy_of ss) (copy_of (set ss i (Some c)))
replaces_set ss i c l d a = record {
  was = λ p h. copy_at ss i p (d p) h;
  new = let e : slot_at (set ss i (Some c)) i ≡ Some c = get_or-set_same ss i (Some c) None l in
      let h : has (slot_at (set ss i (Some c)) i) c.page ≡ true = ap (λ (s : Option Copied). has s c.page) e ∙ eq-eqb c.page c.page refl in
      copy_at (set ss i (Some c)) i c.page (distinct_set ss i c l d a c.page) h ∙ e;
  gone = λ p n h. copy_none (set ss i (Some c)) p
      (let y = copies_set ss i p (Some c) l in let x = d p in
      let z = one_true (has (slot_at ss i) p) h in
      let w = one_false (eqb c.page p) (ne_eqb c.page p (λ e. n (sym e))) in omega arith);
  others = λ p n h. copy_set_other ss i p (Some c) (ne_eqb c.page p (λ e. n (sym e))) h;
}

pub sized_set : (c : Copied) (o : Option Copied) (f g : ℕ → Option Copied) → Replaces o c f g → length c.bytes ≡ 512
    → ((p : ℕ) → length_of (f p) ≡ 512) → (p : ℕ) → length_of (g p) ≡ 512
sized_set c o f g r l h p = ⊎_elim
    (λ e. rw e (rw r.new l))
    (λ e. ⊎_elim (λ t. rw (r.gone p e t)) (λ t. rw (r.others p e t) (h p)) (cases_Bool (has o p)))
    (cases_eq p c.page)

-- a page that no slot has
missing : (ss : List (Option Copied)) (p : ℕ) → ((i : ℕ) → i < length ss → has (slot_at ss i) p ≡ false) → copy_of ss p ≡ None
missing [] p h = refl
missing (s ∷ ss) p h =
    cond-false (has s p) s (copy_of ss p) (h 0 (omega arith)) ∙ missing ss p (λ i l. h (suc i) (omega arith))

slot_at-pages_in : (ss : List Slot) (i : ℕ) → i < length ss → (d : Slot) → slot_at (pages_in ss) i ≡ (get_or ss i d).copy
slot_at-pages_in ss i l d = get_or-map (λ (s : Slot). s.copy) ss i d None l

-- what a search for the first slot that has page p finds
pub found : (ss : List Slot) (p : ℕ) (r : Option ℕ) → Distinct (pages_in ss)
    → MatchOption r (AllWithin (λ (s : Slot). has s.copy p ≡ false) ss 0 (length ss)) (λ i. (i < length ss) × HoldsAt (λ (s : Slot). has s.copy p ≡ true) ss i × AllWithin (λ (s : Slot). has s.copy p ≡ false) ss 0 i)
    → MatchOption r (copy_of (pages_in ss) p ≡ None) (λ i. (has (slot_at (pages_in ss) i) p ≡ true) × (copy_of (pages_in ss) p ≡ slot_at (pages_in ss) i))
found ss p None d h = missing (pages_in ss) p (λ i l.
    let l' : i < length ss = omega (arith, length-map {A = Slot} {B = Option Copied}) in
    ap (λ (o : Option Copied). has o p) (slot_at-pages_in ss i l' empty) ∙ h i empty (omega arith) l')
found ss p (Some i) d h =
    let t : has (slot_at (pages_in ss) i) p ≡ true = ap (λ (o : Option Copied). has o p) (slot_at-pages_in ss i h.0 empty) ∙ h.1 empty in
    (t, copy_at (pages_in ss) i p (d p) t)

-- Slots are in order by whether they have a page, and then by when they were used: where the least of them has a page,
-- each of them has one.
pub full_if_least : (ss : List Slot) (n : ℕ) → n < length ss
    → ((k : ℕ) → k < length ss → is_lt (ordering_then (bool_cmp (is_some (get_or ss k empty).copy) (is_some (get_or ss n empty).copy)) (nat_cmp (get_or ss k empty).used (get_or ss n empty).used)) ≡ false)
    → is_some (slot_at (pages_in ss) n) ≡ true → Full (pages_in ss)
full_if_least ss n w least h k l =
    let l' : k < length ss = omega (arith, length-map {A = Slot} {B = Option Copied}) in
    let h' : is_some (get_or ss n empty).copy ≡ true = ap is_some (sym (slot_at-pages_in ss n w empty)) ∙ h in
    ap is_some (slot_at-pages_in ss k l' empty)
    ∙ go (is_some (get_or ss k empty).copy) (is_some (get_or ss n empty).copy) (nat_cmp (get_or ss k empty).used (get_or ss n empty).used) (least k l') h'
  where
    go : (a b : Bool) (o : Ordering) → is_lt (ordering_then (bool_cmp a b) o) ≡ false → b ≡ true → a ≡ true
    go true b o e h = refl
    go false true o e h = absurd (both_ways true e refl)
    go false false o e h = h

-- a slot that is used keeps its page
pub touched : (ss : List Slot) (i used : ℕ) → pages_in (set ss i (record { copy = (get_or ss i empty).copy; used = used })) ≡ pages_in ss
touched ss i used = map-set_same (λ (s : Slot). s.copy) ss i (record { copy = (get_or ss i empty).copy; used = used }) empty refl

pub within_pages : (ss : List Slot) (i : ℕ) → i < length ss → i < length (pages_in ss)
within_pages ss i l = omega (arith, length-map {A = Slot} {B = Option Copied})

pub length_slots : (s : Slots) → length (pages_in s.all) ≡ 8
length_slots s = omega (arith, s.eight, length-map {A = Slot} {B = Option Copied})

pub within_slots : (s : Slots) (i : Place) → i.number < length (pages_in s.all)
within_slots s i = omega (arith, length_slots s, i.within)

-- a slot that takes a copy
pub pages_put : (ss : List Slot) (i : ℕ) (c : Copied) (used : ℕ)
    → pages_in (set ss i (record { copy = Some c; used = used })) ≡ set (pages_in ss) i (Some c)
pages_put ss i c used = map-set (λ (s : Slot). s.copy) ss i (record { copy = Some c; used = used })

pub replaces_put : (ss : List Slot) (i : ℕ) (c : Copied) (used : ℕ) → i < length ss → Distinct (pages_in ss)
    → copies (pages_in ss) c.page ≤ cond (has (slot_at (pages_in ss) i) c.page) 1 0
    → Replaces (slot_at (pages_in ss) i) c (copy_of (pages_in ss)) (copy_of (pages_in (set ss i (record { copy = Some c; used = used }))))
replaces_put ss i c used l d a = subst
    (λ (ts : List (Option Copied)). Replaces (slot_at (pages_in ss) i) c (copy_of (pages_in ss)) (copy_of ts))
    (sym (pages_put ss i c used))
    (replaces_set (pages_in ss) i c (within_pages ss i l) d a)
