-- Cells as what they say, for any kind.
use Rattle.std.proofs.Common.{◌≡◌, ℕ, suc, ◌+◌, ◌*◌, ◌≤◌, true, Bool, cond, ltb, List, [], ◌∷◌, map, length, sym, refl, ap, ◌∙◌, arith}
use Rattle.std.specs.List.{AllByRecursion}
use Rattle.std.proofs.lemmas.Bool.{and_parts}
use Rattle.cuts.specs.Cuts.{total, fair, middle}
use Rattle.page.specs.Layout.{cost}
use Rattle.page.specs.Reading.{every}
use Rattle.page.specs.Splices.{body_cost}
use Rattle.page.proofs.Cuts.{cost_total}

module _ {X : Type 0} (item : List ℕ → X) (f : X → ℕ) (good : List ℕ → Bool) (costs : (b : List ℕ) → good b ≡ true → f (item b) ≡ 2 + length b) where
  pub total_items : (xs : List (List ℕ)) → every good xs ≡ true → total f (map item xs) ≡ total body_cost xs
  unfolding total
  total_items [] h = refl
  total_items (x ∷ xs) h =
      let p : (good x ≡ true) × (every good xs ≡ true) = and_parts _ _ h in
      omega (arith, costs x p.0, total_items xs p.1)

  pub items_cost : (xs : List (List ℕ)) → every good xs ≡ true → total f (map item xs) ≡ cost xs
  items_cost xs h = total_items xs h ∙ sym (cost_total xs)

  pub fair_items : (a : ℕ) (xs : List (List ℕ)) → every good xs ≡ true → fair f a (map item xs) ≡ fair body_cost a xs
  unfolding fair
  fair_items a [] h = refl
  fair_items a (x ∷ xs) h =
      let p : (good x ≡ true) × (every good xs ≡ true) = and_parts _ _ h in
      let c = costs x p.0 in
      let t = total_items xs p.1 in
      let r = fair_items (a + body_cost x) xs p.1 in
      ap (λ n. cond (ltb a n) (suc (fair f (a + f (item x)) (map item xs))) 0) t
      ∙ (ap (λ n. cond (ltb a (total body_cost xs)) (suc (fair f (a + n) (map item xs))) 0) c
      ∙ ap (λ n. cond (ltb a (total body_cost xs)) (suc n) 0) r)

  pub middle_items : (t a : ℕ) (xs : List (List ℕ)) → every good xs ≡ true → middle f t a (map item xs) ≡ middle body_cost t a xs
  unfolding middle
  middle_items t a [] h = refl
  middle_items t a (x ∷ xs) h =
      let p : (good x ≡ true) × (every good xs ≡ true) = and_parts _ _ h in
      let c = costs x p.0 in
      let r = middle_items t (a + body_cost x) xs p.1 in
      ap (λ n. cond (ltb t (2 * (a + n))) 0 (suc (middle f t (a + n) (map item xs)))) c
      ∙ ap (λ n. cond (ltb t (2 * (a + body_cost x))) 0 (suc n)) r

-- cells that are good cost no more than the largest
pub all_small : (good : List ℕ → Bool) (most : ℕ) → ((b : List ℕ) → good b ≡ true → body_cost b ≤ most) → (xs : List (List ℕ)) → every good xs ≡ true
    → AllByRecursion (λ (b : List ℕ). body_cost b ≤ most) xs
all_small good most small [] h = tt
all_small good most small (x ∷ xs) h = let p = and_parts _ _ h in (small x p.0, all_small good most small xs p.1)
