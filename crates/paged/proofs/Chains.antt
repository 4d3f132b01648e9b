-- Separators that rise between bounds, and the children between them.
use Rattle.std.proofs.Common.{◌≡◌, ℕ, true, List, [], ◌∷◌, map, refl}
use Rattle.std.specs.List.{AllByRecursion}
use Rattle.std.proofs.lemmas.Bool.{and_parts, and_from, not-true, not_from_false}
use Rattle.cuts.specs.Keys.{key<, AtMost}
use Rattle.cuts.specs.Nodes.{Pair, Cell, CellFits}
use Rattle.cuts.proofs.Order.{most_trans, most_from_less}
use Rattle.tree.specs.Places.{map_cell}
use Rattle.tree.specs.Sound.{Bound, none, before, Under, Within, top, Rest, Spans}
use Rattle.tree.proofs.Strict.{under_trans}
use Rattle.page.specs.Branches.{ascending}
use Rattle.paged.specs.Walk.{is_under, all_within, keys_of, separators_of, Slot, slots}

-- tests of one key
under_tells : (k : List ℕ) (hi : Bound) → is_under k hi ≡ true → Under k hi
under_tells k none e = tt
under_tells k (before s) e = e

under_from : (k : List ℕ) (hi : Bound) → Under k hi → is_under k hi ≡ true
under_from k none e = refl
under_from k (before s) e = e

pub first_tells : (lo : List ℕ) (hi : Bound) (k : List ℕ) (ks : List (List ℕ)) → all_within lo hi (k ∷ ks) ≡ true
    → AtMost lo k × Under k hi × (all_within lo hi ks ≡ true)
first_tells lo hi k ks h =
    let p = and_parts _ _ h in
    let q = and_parts _ _ p.0 in
    (not-true _ q.0, under_tells k hi q.1, p.1)

pub first_from : (lo : List ℕ) (hi : Bound) (k : List ℕ) (ks : List (List ℕ)) → AtMost lo k → Under k hi → all_within lo hi ks ≡ true
    → all_within lo hi (k ∷ ks) ≡ true
first_from lo hi k ks a u h = and_from _ _ (and_from _ _ (not_from_false _ a) (under_from k hi u)) h

-- the keys of pairs
pub within_tells : (lo : List ℕ) (hi : Bound) (ps : List Pair) → all_within lo hi (keys_of ps) ≡ true → Within lo hi ps
within_tells lo hi [] h = tt
within_tells lo hi (p ∷ ps) h = let q = first_tells lo hi p.key (keys_of ps) h in ((q.0, q.1), within_tells lo hi ps q.2)

pub within_from : (lo : List ℕ) (hi : Bound) (ps : List Pair) → Within lo hi ps → all_within lo hi (keys_of ps) ≡ true
within_from lo hi [] h = refl
within_from lo hi (p ∷ ps) h = first_from lo hi p.key (keys_of ps) h.0.0 h.0.1 (within_from lo hi ps h.1)

-- each separator is at least lo, and below the next one or under hi
abbrev pub Chained : {X : Type 0} → List ℕ → Bound → List (Cell X) → Type 0
Chained lo hi [] = Unit {0}
Chained lo hi (c ∷ cs) = AtMost lo c.separator × Under c.separator (top hi cs) × Chained c.separator hi cs

-- by the tests of a page
starts : List ℕ → List (Cell ℕ) → Type 0
starts lo [] = Unit {0}
starts lo (c ∷ cs) = AtMost lo c.separator

starts_within : (lo : List ℕ) (hi : Bound) (cs : List (Cell ℕ)) → all_within lo hi (separators_of cs) ≡ true → starts lo cs
unfolding starts
starts_within lo hi [] h = tt
starts_within lo hi (c ∷ cs) h = (first_tells lo hi c.separator (separators_of cs) h).0

chain : (lo l : List ℕ) (hi : Bound) (cs : List (Cell ℕ)) → ascending cs ≡ true → all_within l hi (separators_of cs) ≡ true → starts lo cs → Chained lo hi cs
unfolding ascending starts
chain lo l hi [] a w s = tt
chain lo l hi (c ∷ []) a w s = (s, (first_tells l hi c.separator [] w).1, tt)
chain lo l hi (c ∷ d ∷ cs) a w s =
    let p = and_parts (key< c.separator d.separator) (ascending (d ∷ cs)) a in
    let q = first_tells l hi c.separator (separators_of (d ∷ cs)) w in
    (s, p.0, chain c.separator l hi (d ∷ cs) p.1 q.2 (most_from_less _ _ p.0))

pub chain_from : (lo : List ℕ) (hi : Bound) (cs : List (Cell ℕ)) → ascending cs ≡ true → all_within lo hi (separators_of cs) ≡ true → Chained lo hi cs
chain_from lo hi cs a w = chain lo lo hi cs a w (starts_within lo hi cs w)

lower : (lo l : List ℕ) (hi : Bound) (ks : List (List ℕ)) → AtMost lo l → all_within l hi ks ≡ true → all_within lo hi ks ≡ true
lower lo l hi [] a h = refl
lower lo l hi (k ∷ ks) a h =
    let q = first_tells l hi k ks h in
    first_from lo hi k ks (most_trans lo l k a q.0) q.1 (lower lo l hi ks a q.2)

under_chain : (s : List ℕ) (hi : Bound) (cs : List (Cell ℕ)) → Under s (top hi cs) → all_within s hi (separators_of cs) ≡ true → Under s hi
under_chain s hi [] u h = u
under_chain s hi (c ∷ cs) u h = under_trans s c.separator hi u (first_tells s hi c.separator (separators_of cs) h).1

pub chain_within : (lo : List ℕ) (hi : Bound) (cs : List (Cell ℕ)) → Chained lo hi cs → all_within lo hi (separators_of cs) ≡ true
chain_within lo hi [] h = refl
chain_within lo hi (c ∷ cs) h =
    let w = chain_within c.separator hi cs h.2 in
    first_from lo hi c.separator (separators_of cs) h.0 (under_chain c.separator hi cs h.1 w) (lower lo c.separator hi (separators_of cs) h.0 w)

-- the children between the separators
module _ {X : Type 0} (S : List ℕ → Bound → X → Type 0) where
  abbrev pub Slotted : Slot X → Type 0
  Slotted s = S s.low s.high s.child

  pub spans_from : (lo : List ℕ) (hi : Bound) (x : X) (cs : List (Cell X)) → Chained lo hi cs → AllByRecursion Slotted (slots lo hi x cs) → Spans S lo hi x cs
  unfolding slots
  spans_from lo hi x [] c h = (h.0, tt)
  spans_from lo hi x (d ∷ cs) c h =
      let ih = spans_from d.separator hi d.child cs c.2 h.1 in
      (h.0, (c.0, c.1, ih.0, ih.1))

  pub spans_slots : (lo : List ℕ) (hi : Bound) (x : X) (cs : List (Cell X)) → Spans S lo hi x cs → Chained lo hi cs × AllByRecursion Slotted (slots lo hi x cs)
  unfolding slots
  spans_slots lo hi x [] h = (tt, (h.0, tt))
  spans_slots lo hi x (d ∷ cs) h =
      let ih = spans_slots d.separator hi d.child cs (h.1.2, h.1.3) in
      ((h.1.0, h.1.1, ih.0), (h.0, ih.1))

-- through a function of the children
module _ {X Y : Type 0} (g : X → Y) where
  pub top_map : (hi : Bound) (cs : List (Cell X)) → top hi (map (map_cell g) cs) ≡ top hi cs
  top_map hi [] = refl
  top_map hi (c ∷ cs) = refl

  rest_map : (S : List ℕ → Bound → Y → Type 0) (lo : List ℕ) (hi : Bound) (cs : List (Cell X))
      → Rest S lo hi (map (map_cell g) cs) ≡ Rest (λ l h x. S l h (g x)) lo hi cs
  rest_map S lo hi [] = refl
  rest_map S lo hi (c ∷ cs) = λ i.
      AtMost lo c.separator × Under c.separator (top_map hi cs i) × S c.separator (top_map hi cs i) (g c.child) × rest_map S c.separator hi cs i

  pub spans_map : (S : List ℕ → Bound → Y → Type 0) (lo : List ℕ) (hi : Bound) (x : X) (cs : List (Cell X))
      → Spans S lo hi (g x) (map (map_cell g) cs) ≡ Spans (λ l h y. S l h (g y)) lo hi x cs
  spans_map S lo hi x cs = λ i. S lo (top_map hi cs i) (g x) × rest_map S lo hi cs i

  pub fits_map : (cs : List (Cell X)) → AllByRecursion CellFits (map (map_cell g) cs) ≡ AllByRecursion CellFits cs
  fits_map [] = refl
  fits_map (c ∷ cs) = λ i. CellFits c × fits_map cs i
