-- The slots of a branch by the number of the child.
use Rattle.std.proofs.Common.{◌≡◌, ℕ, zero, suc, ◌+◌, ◌<◌, ◌≤◌, cond, ltb, leb, List, [], ◌∷◌, length, drop, Some, None, Option, sym, refl, ap, ◌∙◌, add-one, arith, length-drop}
use Rattle.std.specs.Option.{option_map, option_or}
use Rattle.std.proofs.lemmas.List.{drop_all}
use Rattle.std.proofs.lemmas.Bool.Decides.{nat_tests}
use Rattle.cuts.specs.Nodes.{Cell}
use Rattle.tree.specs.Places.{separator_at}
use Rattle.tree.specs.Search.{child_at}
use Rattle.tree.specs.Sound.{Bound, before}
use Rattle.paged.specs.Walk.{slot, slots}
use Rattle.walk.specs.Spots.{low_at, high_at, bound_of}

module _ {X : Type 0} where
  pub length_slots : (lo : List ℕ) (hi : Bound) (x : X) (cs : List (Cell X)) → length (slots lo hi x cs) ≡ suc (length cs)
  unfolding slots
  length_slots lo hi x [] = refl
  length_slots lo hi x (c ∷ cs) = ap suc (length_slots c.separator hi c.child cs)

  slots_drop : (lo : List ℕ) (hi : Bound) (x : X) (cs : List (Cell X)) (i : ℕ) → i ≤ length cs
      → drop i (slots lo hi x cs) ≡ slot (low_at lo cs i) (high_at hi cs i) (child_at i x cs) ∷ drop (suc i) (slots lo hi x cs)
  unfolding slots
  slots_drop lo hi x [] zero h = refl
  slots_drop lo hi x [] (suc i) h = let bad : ⊥ = omega arith in absurd bad
  slots_drop lo hi x (c ∷ cs) zero h = refl
  slots_drop lo hi x (c ∷ cs) (suc zero) h = slots_drop c.separator hi c.child cs zero (omega arith)
  slots_drop lo hi x (c ∷ cs) (suc (suc i)) h = slots_drop c.separator hi c.child cs (suc i) (omega arith)

  high_some : (hi : Bound) (cs : List (Cell X)) (i : ℕ) (s : List ℕ) → Some s ≡ cond (ltb i (length cs)) (Some (separator_at i cs)) None → before s ≡ high_at hi cs i
  high_some hi [] i s e = let z : ◌≡◌ {A = ℕ} 0 1 = grind (arith, nat_tests) in let bad : ⊥ = omega arith in absurd bad
  high_some hi (c ∷ cs) zero s e = let q : s ≡ c.separator = grind (arith, nat_tests) in ap before q
  high_some hi (c ∷ cs) (suc i) s e = high_some hi cs i s (grind (arith, nat_tests))

  high_none : (hi : Bound) (cs : List (Cell X)) (i : ℕ) → None ≡ cond (ltb i (length cs)) (Some (separator_at i cs)) None → hi ≡ high_at hi cs i
  high_none hi [] i e = refl
  high_none hi (c ∷ cs) zero e = let z : ◌≡◌ {A = ℕ} 0 1 = grind (arith, nat_tests) in let bad : ⊥ = omega arith in absurd bad
  high_none hi (c ∷ cs) (suc i) e = high_none hi cs i (grind (arith, nat_tests))

  pub high_or : {B : Type 0} (f : B → List ℕ) (o p : Option B) (cs : List (Cell X)) (i : ℕ) → option_map f o ≡ cond (ltb i (length cs)) (Some (separator_at i cs)) None
      → bound_of (option_map f (option_or o p)) ≡ high_at (bound_of (option_map f p)) cs i
  high_or f (Some s) p cs i e = high_some (bound_of (option_map f p)) cs i (f s) e
  high_or f None p cs i e = high_none (bound_of (option_map f p)) cs i e

  pub slot_at : (lo : List ℕ) (hi : Bound) (x : X) (cs : List (Cell X)) (i : ℕ) (l : List ℕ) (h : Bound) (p : X)
      → Some p ≡ cond (leb i (length cs)) (Some (child_at i x cs)) None → l ≡ low_at lo cs i → h ≡ high_at hi cs i
      → drop i (slots lo hi x cs) ≡ slot l h p ∷ drop (i + 1) (slots lo hi x cs)
  slot_at lo hi x cs i l h p e a b =
      let w : i ≤ length cs = grind (arith, nat_tests) in
      let q : p ≡ child_at i x cs = grind (arith, nat_tests) in
      rw (add-one, a, b, q) (slots_drop lo hi x cs i w)

  pub slots_past : (lo : List ℕ) (hi : Bound) (x : X) (cs : List (Cell X)) (i : ℕ)
      → None ≡ cond (leb i (length cs)) (Some (child_at i x cs)) None
      → drop i (slots lo hi x cs) ≡ drop (i + 1) (slots lo hi x cs)
  slots_past lo hi x cs i e =
      let w : length cs < i = grind (arith, nat_tests) in
      let l = length_slots lo hi x cs in
      drop_all i (slots lo hi x cs) (omega arith) ∙ sym (drop_all (i + 1) (slots lo hi x cs) (omega arith))

  -- where there is no next
  pub drop_none : (i : ℕ) (xs : List X) → drop i xs ≡ drop (i + 1) xs → drop i xs ≡ []
  drop_none i xs e = drop_all i xs (omega (arith, length-drop i xs, length-drop (i + 1) xs, ap length e))
