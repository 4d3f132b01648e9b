-- Keys that rise lie within bounds if the first and the last do.
use Rattle.std.proofs.Common.{◌≡◌, ℕ, suc, ◌-◌, true, List, [], ◌∷◌, ◌++◌, map, length, Some, Option, sym, refl, ap, ◌∙◌, subst, arith}
use Rattle.std.specs.List.{slice_get}
use Rattle.std.specs.Option.{option_to_list}
use Rattle.std.proofs.lemmas.Bool.{and_parts}
use Rattle.std.proofs.lemmas.Bool.Decides.{same_from_decides}
use Rattle.cuts.specs.Keys.{Below, AtMost}
use Rattle.cuts.proofs.Order.{most_trans, most_from_less}
use Rattle.tree.specs.Sound.{Bound, Under}
use Rattle.tree.proofs.Strict.{under_trans}
use Rattle.page.specs.Reading.{rising}
use Rattle.paged.specs.Walk.{all_within}
use Rattle.paged.proofs.Chains.{first_tells, first_from}

-- each key is below the next
abbrev pub Climbs : List (List ℕ) → Type 0
Climbs [] = Unit {0}
Climbs (k ∷ []) = Unit {0}
Climbs (k ∷ j ∷ ks) = Below k j × Climbs (j ∷ ks)

last_of : List ℕ → List (List ℕ) → List ℕ
last_of k [] = k
last_of k (j ∷ ks) = last_of j ks

last_at : (k : List ℕ) (ks : List (List ℕ)) → slice_get (k ∷ ks) (length ks) ≡ Some (last_of k ks)
unfolding last_of
last_at k [] = refl
last_at k (j ∷ ks) = last_at j ks

pub rising_climbs : (key : List ℕ → List ℕ) (xs : List (List ℕ)) → rising key xs ≡ true → Climbs (map key xs)
unfolding rising
rising_climbs key [] h = tt
rising_climbs key (x ∷ []) h = tt
rising_climbs key (x ∷ y ∷ xs) h = let p = and_parts _ _ h in (p.0, rising_climbs key (y ∷ xs) p.1)

module _ (lo : List ℕ) (hi : Bound) where
  inside : (k : List ℕ) (ks : List (List ℕ)) → Climbs (k ∷ ks) → AtMost lo k → Under (last_of k ks) hi → all_within lo hi (k ∷ ks) ≡ true
  unfolding last_of
  inside k [] c a u = first_from lo hi k [] a u refl
  inside k (j ∷ ks) c a u =
      let h = inside j ks c.1 (most_trans lo k j a (most_from_less k j c.0)) u in
      first_from lo hi k (j ∷ ks) a (under_trans k j hi c.0 (first_tells lo hi j ks h).1) h

  last_inside : (k : List ℕ) (ks : List (List ℕ)) → all_within lo hi (k ∷ ks) ≡ true → AtMost lo (last_of k ks) × Under (last_of k ks) hi
  unfolding last_of
  last_inside k [] h = let p = first_tells lo hi k [] h in (p.0, p.1)
  last_inside k (j ∷ ks) h = last_inside j ks (first_tells lo hi k (j ∷ ks) h).2

  two_keys : (k l : List ℕ) (ks : List (List ℕ)) → l ≡ last_of k ks → Climbs (k ∷ ks) → all_within lo hi (k ∷ l ∷ []) ≡ all_within lo hi (k ∷ ks)
  two_keys k l ks e c = same_from_decides {P = all_within lo hi (k ∷ ks) ≡ true} _ _ (to, from) ((λ h. h), (λ h. h))
    where
      to : all_within lo hi (k ∷ l ∷ []) ≡ true → all_within lo hi (k ∷ ks) ≡ true
      to h =
          let p = first_tells lo hi k (l ∷ []) h in
          let q = first_tells lo hi l [] p.2 in
          inside k ks c p.0 (subst (λ x. Under x hi) e q.1)

      from : all_within lo hi (k ∷ ks) ≡ true → all_within lo hi (k ∷ l ∷ []) ≡ true
      from h =
          let p = first_tells lo hi k ks h in
          let q = last_inside k ks h in
          first_from lo hi k (l ∷ []) p.0 p.1 (first_from lo hi l [] (subst (λ x. AtMost lo x) (sym e) q.0) (subst (λ x. Under x hi) (sym e) q.1) refl)

  ends : (ks : List (List ℕ)) → Climbs ks → all_within lo hi (option_to_list (slice_get ks 0) ++ option_to_list (slice_get ks (length ks - 1))) ≡ all_within lo hi ks
  ends [] c = refl
  ends (k ∷ ks) c =
      let n : suc (length ks) - 1 ≡ length ks = omega arith in
      ap (λ o. all_within lo hi (k ∷ option_to_list o)) (ap (slice_get (k ∷ ks)) n ∙ last_at k ks) ∙ two_keys k (last_of k ks) ks refl c

  pub ends_tell : (ks : List (List ℕ)) (i : ℕ) (a b : Option (List ℕ)) → Climbs ks → a ≡ slice_get ks 0 → b ≡ slice_get ks i → i ≡ length ks - 1
      → all_within lo hi (option_to_list a ++ option_to_list b) ≡ all_within lo hi ks
  ends_tell ks i a b c p q e = (λ j. all_within lo hi (option_to_list (p j) ++ option_to_list ((q ∙ ap (slice_get ks) e) j))) ∙ ends ks c
