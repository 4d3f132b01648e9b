-- Cells whose keys rise.
use Rattle.std.proofs.Common.{◌≡◌, ℕ, ◌+◌, ◌-◌, ◌<◌, ◌≤◌, Bool, true, ◌&&◌, List, [], ◌∷◌, length, get_or, drop, sym, refl, ap, ◌∙◌, arith}
use Rattle.std.proofs.lemmas.List.{drop_more, length-drop}
use Rattle.cuts.specs.Keys.{key<}
use Rattle.page.specs.Reading.{rising}

-- a comparison of keys that are the same
pub less_at : {a a' b b' : List ℕ} {r : Bool} → a ≡ a' → b ≡ b' → r ≡ key< a b → key< a' b' ≡ r
less_at ea eb er = cc

short_rises : (key : List ℕ → List ℕ) (ys : List (List ℕ)) → length ys ≤ 1 → rising key ys ≡ true
unfolding rising
short_rises key [] l = refl
short_rises key (y ∷ []) l = refl
short_rises key (y ∷ z ∷ ys) l = absurd (omega arith)

module _ (key : List ℕ → List ℕ) (xs : List (List ℕ)) where
  -- what is left of the test after one comparison
  pub rising_step : (i : ℕ) → 1 ≤ i → i < length xs → rising key (drop (i - 1) xs) ≡ (key< (key (get_or xs (i - 1) [])) (key (get_or xs i [])) && rising key (drop i xs))
  unfolding rising
  rising_step i l h =
      let n : i - 1 + 1 ≡ i = omega arith in
      let a : drop (i - 1) xs ≡ get_or xs (i - 1) [] ∷ drop i xs = drop_more xs (i - 1) [] (omega arith) ∙ ap (λ m. get_or xs (i - 1) [] ∷ drop m xs) n in
      let b = drop_more xs i [] h in
      ap (rising key) (a ∙ ap (λ r. get_or xs (i - 1) [] ∷ r) b) ∙ ap (λ r. key< (key (get_or xs (i - 1) [])) (key (get_or xs i [])) && rising key r) (sym b)

  pub rising_end : (i : ℕ) → length xs ≤ i + 1 → rising key (drop i xs) ≡ true
  rising_end i h = short_rises key (drop i xs) (omega (arith, length-drop i xs))
