-- Lists of pages, and what holds of each of them.
use Rattle.std.proofs.Common.{◌≡◌, ℕ, zero, suc, ◌+◌, ◌<◌, ◌≤◌, Bool, false, Vec, List, [], ◌∷◌, ◌++◌, length, map, take, drop, get_or, set, replicate, refl, ap, sym, ◌∙◌, arith}
use mathlib.Core.HLevel.{is_prop→PathP}
use native.Mathlib.Nat.{ℕ_set}
use native.Mathlib.Bridge.{le_prop}
use Rattle.std.proofs.lemmas.List.{length-map, length-take, with_items_is, get_or-map, map-set, set-get_or}
use Rattle.std.proofs.lemmas.List.Edits.{map_over_more}
use Rattle.std.proofs.lemmas.Grind.{common_steps}
use Rattle.std.specs.List.{FoldsTo, AppendsResults}
use Rattle.std.specs.Vec.{with_items}
use Rattle.disks.specs.Kept.{Kept, Sound, written, page_at}

-- each page is sound, past the end too
pub sound_at : {S : Type 0} (a : Bool) (kept : S → Kept) → ((s : S) → Sound a (kept s)) → (xs : List S) (p : ℕ) → Sound a (page_at (map kept xs) p)
sound_at a kept sound [] p = record { agrees = λ _. refl; never = λ _. refl }
sound_at a kept sound (x ∷ xs) zero = sound x
sound_at a kept sound (x ∷ xs) (suc p) = sound_at a kept sound xs p

-- a page changed by f, past the end too if f changes nothing there
pub page_at-map : (f : Kept → Kept) (ks : List Kept) (p : ℕ) → f (page_at [] 0) ≡ page_at [] 0 → page_at (map f ks) p ≡ f (page_at ks p)
page_at-map f [] p e = sym e
page_at-map f (k ∷ ks) zero e = refl
page_at-map f (k ∷ ks) (suc p) e = page_at-map f ks p e

-- s is the page p of xs, and t what a write of b makes of it
kept_at : {S : Type 0} (kept : S → Kept) (xs : List S) (p : ℕ) (s : S) → p < length xs → s ≡ get_or xs p s → kept s ≡ page_at (map kept xs) p
kept_at kept xs p s h e = ap kept e ∙ sym (get_or-map kept xs p s _ h)

pub wrote_at : {S : Type 0} (kept : S → Kept) (a : Bool) (b : List ℕ) (xs : List S) (p : ℕ) (s t : S) → p < length xs → s ≡ get_or xs p s → kept t ≡ written a b (kept s)
    → map kept (set xs p t) ≡ set (map kept xs) p (written a b (page_at (map kept xs) p))
wrote_at kept a b xs p s t h e w =
    map-set kept xs p t ∙ ap (set (map kept xs) p) (w ∙ ap (written a b) (kept_at kept xs p s h e))

-- what a closure makes, call by call, is the same when kept, if each of its answers is
pub made_alike : {F S K : Type 0} (step : F → S → F → Type 0) (kept : S → K) (k : K) → ((p : F) (x : S) (q : F) → step p x q → kept x ≡ k)
    → (f : F) (xs : List S) (last : F) → FoldsTo step f xs last → map kept xs ≡ replicate (length xs) k
made_alike step kept k h f [] last e = refl
made_alike step kept k h f (x ∷ xs) last e =
    ap (λ v. v ∷ map kept xs) (h f x e.0 e.1) ∙ ap (λ l. k ∷ l) (made_alike step kept k h e.0 xs last e.2)

take_none : {S : Type 0} (n : ℕ) (xs : List S) → xs ≡ [] → take n xs ≡ []
take_none n xs e = grind (arith, common_steps, length-take)

pub filled_alike : {F S K : Type 0} (step : F → S → F → Type 0) (kept : S → K) (k : K) → ((p : F) (x : S) (q : F) → step p x q → kept x ≡ k)
    → (f : F) (old new : List S) (n : ℕ) → old ≡ [] → AppendsResults step (take n old) new f → length new ≡ n → map kept new ≡ replicate n k
filled_alike step kept k h f old new n e a l =
    let s : new ≡ a.0 = a.2 ∙ ap (λ v. v ++ a.0) (take_none n old e) in
    ap (map kept) s ∙ made_alike step kept k h f a.0 a.1 a.3 ∙ ap (λ m. replicate m k) (sym (ap length s) ∙ l)

-- A loop over the pages xs has changed the first i by f, and made ys of them. Where none is volatile, none was
-- touched.
pub record Turned {S : Type 0} (kept : S → Kept) (f : Kept → Kept) (xs : List S) (i : ℕ) (ys : List S) : Type 0 where
  pub changes : map kept ys ≡ map f (take i (map kept xs)) ++ drop i (map kept xs)
  pub same : ((p : ℕ) → (page_at (map kept xs) p).volatile ≡ false) → ys ≡ xs

pub turned_more : {S : Type 0} (kept : S → Kept) (f : Kept → Kept) (xs ys : List S) (i : ℕ) (s t : S) → i < length xs → i < length ys
    → Turned kept f xs i ys → kept t ≡ f (kept (get_or ys i s)) → ((kept (get_or ys i s)).volatile ≡ false → t ≡ get_or ys i s)
    → Turned kept f xs (i + 1) (set ys i t)
turned_more kept f xs ys i s t h l c w u =
    let k = kept (get_or ys i s) in
    let n : i < length (map kept xs) = omega (arith, length-map xs kept) in
    let v : ys ≡ xs → ((p : ℕ) → (page_at (map kept xs) p).volatile ≡ false) → k.volatile ≡ false
    = λ e r. ap (λ j. j.volatile) (sym (get_or-map kept ys i s _ l)) ∙ ap (λ zs. (page_at (map kept zs) i).volatile) e ∙ r i in record {
      changes = map-set kept ys i t ∙ ap (set (map kept ys) i) w ∙ map_over_more f (map kept xs) (map kept ys) i k n c.changes (sym (get_or-map kept ys i s k l));
      same = λ r. let e = c.same r in ap (set ys i) (u (v e r)) ∙ set-get_or ys i s ∙ e;
    }

-- ys, made of all pages of v, stand in v in their place
pub all_turned : {S Z : Type 0} (kept : S → Kept) (f : Kept → Kept) (v : Vec S Z) (xs ys : List S) (i : ℕ) → xs ≡ v.items → length ys ≡ v.len → length xs ≤ i
    → Turned kept f xs i ys → map kept (with_items v ys).items ≡ map f (map kept v.items)
all_turned kept f v xs ys i e n h c =
    let ks = map kept xs in
    let l : length ks ≤ i = omega (arith, length-map xs kept) in
    let d : map kept ys ≡ map f ks = c.changes ∙ grind (arith, common_steps) in
    ap (map kept) (with_items_is v ys n) ∙ d ∙ ap (λ zs. map f (map kept zs)) e

pub vec_same : {X Z : Type 0} (v : Vec X Z) (xs : List X) → xs ≡ v.items → with_items v xs ≡ v
vec_same v xs e =
    let items : (with_items v xs).items ≡ v.items = with_items_is v xs (ap length e ∙ sym v.ok.0) ∙ e in
    λ i. record {
      ptr = v.ptr;
      len = v.len;
      cap = v.cap;
      alloc = v.alloc;
      items = items i;
      ok = is_prop→PathP (λ j. (v.len ≡ length (items j)) × (v.len ≤ v.cap)) (λ j x y k. (ℕ_set _ _ x.0 y.0 k, le_prop x.1 y.1 k)) (with_items v xs).ok v.ok i;
      small = v.small;
    }

pub none_turned : {S Z : Type 0} (kept : S → Kept) (f : Kept → Kept) (v : Vec S Z) (xs ys : List S) (i : ℕ) → xs ≡ v.items → Turned kept f xs i ys
    → ((p : ℕ) → (page_at (map kept v.items) p).volatile ≡ false) → with_items v ys ≡ v
none_turned kept f v xs ys i e c r =
    vec_same v ys (c.same (λ p. ap (λ zs. (page_at (map kept zs) p).volatile) e ∙ r p) ∙ e)
