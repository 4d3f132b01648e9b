-- Searches down a tree find what the list of its pairs has.
use Rattle.std.proofs.Common.{◌≡◌, ℕ, zero, suc, ◌<◌, Bool, true, false, cond, ltb, List, [], ◌∷◌, ◌++◌, length, Some, None, Option, sym, refl, ap, ◌∙◌, arith, length-append}
use Rattle.std.specs.List.{flat_map, AllByRecursion}
use Rattle.std.proofs.lemmas.List.{append-nil}
use Rattle.std.proofs.ByRecursion.{All-weaker}
use Rattle.std.proofs.lemmas.Bool.Decides.{nat_tests}
use Rattle.cuts.specs.Keys.{key<, Below, AtMost}
use Rattle.cuts.specs.Nodes.{Pair, Cell}
use Rattle.cuts.specs.Cuts.{total}
use Rattle.cuts.proofs.Order.{less_self, less_most, most_less, most_from_less, key_tells}
use Rattle.tree.specs.Maps.{lookup, first_above}
use Rattle.tree.specs.Trees.{Tree, across, pairs}
use Rattle.tree.specs.Sound.{Bound, none, before, top, Full}
use Rattle.tree.specs.Search.{picked, child_at, find, or_else, after}
use Rattle.tree.specs.Laws.{Next, SearchFindsThePair, AfterFindsTheNextPair, FirstAboveIsTheNext}
use Rattle.tree.proofs.Flat.{ranges_within, within}
use Rattle.tree.proofs.Strict.{Ranges, Ordered, Strict, strict_tree, strict_ordered, ordered}

-- a key that lies in the left part, or in the right one
lookup_left : (k : List ℕ) (xs ys : List Pair) → AllByRecursion (λ (q : Pair). Below k q.key) ys
    → lookup k (xs ++ ys) ≡ lookup k xs
unfolding lookup
lookup_left k [] [] h = refl
lookup_left k [] (y ∷ ys) h = let r = lookup_left k [] ys h.1 in grind (arith, key_tells)
lookup_left k (x ∷ xs) ys h = let r = lookup_left k xs ys h in grind (arith, key_tells)

lookup_right : (k : List ℕ) (xs ys : List Pair) → AllByRecursion (λ (q : Pair). Below q.key k) xs
    → lookup k (xs ++ ys) ≡ lookup k ys
unfolding lookup
lookup_right k [] ys h = refl
lookup_right k (x ∷ xs) ys h = let r = lookup_right k xs ys h.1 in grind (arith, key_tells)

module _ (n : ℕ) (k : List ℕ) where
  find_along : (lo : List ℕ) (hi : Bound) (x : Tree n) (cs : List (Cell (Tree n))) → Ranges (Ordered n) lo hi x cs
      → ((lo' : List ℕ) (hi' : Bound) (y : Tree n) → Ordered n lo' hi' y → find n y k ≡ lookup k (pairs n y))
      → find n (child_at (picked k cs) x cs) k ≡ lookup k (across (pairs n) x cs)
  find_along lo hi x [] h f = f lo hi x h.0 ∙ ap (lookup k) (sym (append-nil (pairs n x)))
  find_along lo hi x (c ∷ cs) h f =
      by (key< k c.separator) refl (find_along c.separator hi c.child cs (h.1.2, h.1.3) f)
    where
      by : (t : Bool) → key< k c.separator ≡ t
          → find n (child_at (picked k cs) c.child cs) k ≡ lookup k (across (pairs n) c.child cs)
          → find n (child_at (cond t 0 (suc (picked k cs))) x (c ∷ cs)) k ≡ lookup k (across (pairs n) x (c ∷ cs))
      by true t r = f lo (before c.separator) x h.0
          ∙ sym (lookup_left k (pairs n x) _ (All-weaker _ _ (λ q b. less_most k c.separator q.key t b.0) _ (ranges_within (Ordered n) (pairs n) (within n) c.separator hi c.child cs (h.1.2, h.1.3))))
      by false t r =
          r ∙ sym (lookup_right k (pairs n x) _ (All-weaker _ _ (λ q b. less_most q.key c.separator k b.1 t) _ (within n lo (before c.separator) x h.0)))

pub find_pairs : (n : ℕ) (k lo : List ℕ) (hi : Bound) (t : Tree n) → Ordered n lo hi t → find n t k ≡ lookup k (pairs n t)
find_pairs zero k lo hi t h = refl
find_pairs (suc n) k lo hi t h = find_along n k lo hi t.first t.rest h (find_pairs n k)

pub search_finds_the_pair_lem : SearchFindsThePair
search_finds_the_pair_lem b h k = find_pairs b.height k [] none b.root (ordered b h)

-- the first pair above a key, in two parts
or_none : {X : Type 0} (o : Option X) → or_else o None ≡ o
or_none None = refl
or_none (Some x) = refl

above_append : (k : List ℕ) (xs ys : List Pair) → first_above k (xs ++ ys) ≡ or_else (first_above k xs) (first_above k ys)
unfolding first_above
above_append k [] ys = refl
above_append k (x ∷ xs) ys =
    elim (key< k x.key) as (λ t. cond t (Some x) (first_above k (xs ++ ys)) ≡ or_else (cond t (Some x) (first_above k xs)) (first_above k ys)) [ true ↦ refl | false ↦ above_append k xs ys ]

above_none : (k : List ℕ) (xs : List Pair) → AllByRecursion (λ (q : Pair). AtMost q.key k) xs → first_above k xs ≡ None
unfolding first_above
above_none k [] h = refl
above_none k (x ∷ xs) h = rw h.0 (above_none k xs h.1)

-- where all keys are above, the first is found, and what follows does not count
above_some : (k : List ℕ) (xs : List Pair) (o : Option Pair) → 0 < length xs → AllByRecursion (λ (q : Pair). Below k q.key) xs
    → or_else (first_above k xs) o ≡ first_above k xs
unfolding first_above
above_some k [] o l h = let bad : ⊥ = omega arith in absurd bad
above_some k (x ∷ xs) o l h = rw h.0 refl

-- a node that is not underfull has a pair
pub some_pair : (n : ℕ) (lo : List ℕ) (hi : Bound) (t : Tree n) → Full n (Strict n) lo hi t → 0 < length (pairs n t)
unfolding total
some_pair zero lo hi [] h = omega arith
some_pair zero lo hi (p ∷ ps) h = omega arith
some_pair (suc n) lo hi t h = let r = some_pair n lo _ t.first h.1.1.0.0 in simp length-append (omega arith)

next_suc : (i m : ℕ) → ltb (suc i) (suc m) ≡ ltb i m
next_suc i m = grind (arith, nat_tests)

module _ (n : ℕ) (k : List ℕ) where
  abbrev along : Tree n → List (Cell (Tree n)) → ℕ → Option Pair
  along x cs i = or_else (after n (child_at i x cs) k) (cond (ltb i (length cs)) (after n (child_at (suc i) x cs) k) None)

  after_along : (lo : List ℕ) (hi : Bound) (x : Tree n) (cs : List (Cell (Tree n)))
      → Ranges (Full n (Strict n)) lo hi x cs
      → ((lo' : List ℕ) (hi' : Bound) (y : Tree n) → Full n (Strict n) lo' hi' y → after n y k ≡ first_above k (pairs n y))
      → along x cs (picked k cs) ≡ first_above k (across (pairs n) x cs)
  after_along lo hi x [] h f = or_none _ ∙ (f lo hi x h.0 ∙ ap (first_above k) (sym (append-nil (pairs n x))))
  after_along lo hi x (c ∷ cs) h f =
      by (key< k c.separator) refl (after_along c.separator hi c.child cs (h.1.2, h.1.3) f)
    where
      by : (t : Bool) → key< k c.separator ≡ t
          → along c.child cs (picked k cs) ≡ first_above k (across (pairs n) c.child cs)
          → along x (c ∷ cs) (cond t 0 (suc (picked k cs))) ≡ first_above k (across (pairs n) x (c ∷ cs))
      by true t r =
          let z : ltb 0 (length (c ∷ cs)) ≡ true = grind (arith, nat_tests) in
          let d : Full n (Strict n) c.separator (top hi cs) c.child = h.1.2 in
          let w = within n c.separator (top hi cs) c.child (strict_ordered n _ _ _ d.1.1) in
          let a = f lo (before c.separator) x h.0 in
          let b = f c.separator (top hi cs) c.child d in
          let p = above_append k (pairs n x) (across (pairs n) c.child cs) in
          let q = above_append k (pairs n c.child) (flat_map (λ y. pairs n y.child) cs) in
          let s = above_some k (pairs n c.child) (first_above k (flat_map (λ y. pairs n y.child) cs)) (some_pair n _ _ _ d)
          (All-weaker _ _ (λ y e. less_most k c.separator y.key t e.0) _ w) in
          rw z (cc)
      by false t r =
          let z = next_suc (picked k cs) (length cs) in
          let p = above_append k (pairs n x) (across (pairs n) c.child cs) in
          let w = within n lo (before c.separator) x (strict_ordered n _ _ _ h.0.1.1) in
          let q = above_none k (pairs n x) (All-weaker _ _ (λ y e. most_from_less y.key k (less_most y.key c.separator k e.1 t)) _ w) in
          rw z (r ∙ sym (p ∙ ap (λ o. or_else o (first_above k (across (pairs n) c.child cs))) q))

pub after_pairs : (n : ℕ) (k lo : List ℕ) (hi : Bound) (t : Tree n) → Strict n lo hi t
    → after n t k ≡ first_above k (pairs n t)
after_pairs zero k lo hi t h = refl
after_pairs (suc n) k lo hi t h =
    after_along n k lo hi t.first t.rest h.0 (λ lo' hi' y s. after_pairs n k lo' hi' y s.1.1)

pub after_finds_the_next_pair_lem : AfterFindsTheNextPair
after_finds_the_next_pair_lem b h k = after_pairs b.height k [] none b.root (strict_tree b h).0.1

next_more : (k : List ℕ) (p : Pair) (ps : List Pair) (o : Option Pair) → AtMost p.key k → Next k ps o
    → Next k (p ∷ ps) o
unfolding lookup
next_more k p ps None t h = (t, h)
next_more k p ps (Some q) t h =
    let l = most_less p.key k q.key t h.1 in
    let m = most_from_less p.key q.key l in
    (rw (m, l) h.0, h.1, (λ b. cc, h.2))

pub first_above_is_the_next_lem : FirstAboveIsTheNext
unfolding first_above lookup
first_above_is_the_next_lem [] r k = tt
first_above_is_the_next_lem (p ∷ ps) r k = by (key< k p.key) refl (first_above_is_the_next_lem ps r.1 k)
  where
    by : (t : Bool) → key< k p.key ≡ t → Next k ps (first_above k ps)
        → Next k (p ∷ ps) (cond t (Some p) (first_above k ps))
    by true t h =
        let z = less_self p.key in
        (rw z, t, (λ _. z, All-weaker _ _ (λ q b _. most_from_less p.key q.key b) ps r.0))
    by false t h = next_more k p ps (first_above k ps) t h
