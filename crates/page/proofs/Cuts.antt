-- The searches for a cut, one cell at a time.
use Rattle.std.proofs.Common.{◌≡◌, ℕ, suc, ◌+◌, ◌*◌, ◌<◌, ◌≤◌, Bool, true, false, cond, ltb, leb, List, [], ◌∷◌, length, get_or, drop, sym, refl, ap, ◌∙◌, ⊎_elim, zero-add, arith}
use Rattle.std.proofs.lemmas.List.{drop_more, drop_all, length-append}
use Rattle.std.proofs.lemmas.Bool.{cases_lt, lt-ltb, le-ltb, lt-leb, le-leb}
use Rattle.cuts.specs.Cuts.{total, fair, middle}
use Rattle.page.specs.Layout.{cost, bodies}
use Rattle.page.specs.Splices.{body_cost}

-- the cost of a list is that of its cells
pub cost_total : (xs : List (List ℕ)) → cost xs ≡ total body_cost xs
unfolding total bodies
cost_total [] = refl
cost_total (x ∷ xs) = omega (arith, cost_total xs, length-append (bodies xs) x)

module _ (xs : List (List ℕ)) where
  pub total_step : (i : ℕ) → i < length xs → total body_cost (drop i xs) ≡ body_cost (get_or xs i []) + total body_cost (drop (i + 1) xs)
  unfolding total
  total_step i h = ap (total body_cost) (drop_more xs i [] h)

  pub total_end : (i : ℕ) → length xs ≤ i → total body_cost (drop i xs) ≡ 0
  unfolding total
  total_end i h = ap (total body_cost) (drop_all i xs h)

-- A search for a cut goes from a cell on, with the cost of those before it: it stops there, or goes on to the next.
pub record Search (cut : ℕ → List (List ℕ) → ℕ) (stops : ℕ → List ℕ → List (List ℕ) → Bool) : Type 0 where
  pub past : (a : ℕ) → cut a [] ≡ 0
  pub here : (a : ℕ) (x : List ℕ) (xs : List (List ℕ)) → cut a (x ∷ xs) ≡ cond (stops a x xs) 0 (suc (cut (a + body_cost x) xs))

fair_here : (a t n : ℕ) → cond (ltb a t) n 0 ≡ cond (leb t a) 0 n
fair_here a t n =
    ⊎_elim (λ l. ap (λ b. cond b n 0) (lt-ltb _ _ l) ∙ sym (ap (λ b. cond b 0 n) (lt-leb _ _ l)))
    (λ l. ap (λ b. cond b n 0) (le-ltb _ _ l) ∙ sym (ap (λ b. cond b 0 n) (le-leb _ _ l))) (cases_lt a t)

pub fair_search : Search (fair body_cost) (λ a x xs. leb (total body_cost xs) a)
unfolding fair
fair_search = record { past = λ a. refl; here = λ a x xs. fair_here a (total body_cost xs) (suc (fair body_cost (a + body_cost x) xs)) }

pub middle_search : (t : ℕ) → Search (middle body_cost t) (λ a x xs. ltb t (2 * (a + body_cost x)))
unfolding middle
middle_search t = record { past = λ a. refl; here = λ a x xs. refl }

-- how far it has come: at cell i, with the cost a of those before it
pub record Reached (cut : ℕ → List (List ℕ) → ℕ) (xs : List (List ℕ)) (i a : ℕ) : Type 0 where
  pub rest : i + cut a (drop i xs) ≡ cut 0 xs
  pub costs : a + total body_cost (drop i xs) ≡ total body_cost xs

pub at_start : (cut : ℕ → List (List ℕ) → ℕ) (xs : List (List ℕ)) → Reached cut xs 0 0
at_start cut xs = record { rest = zero-add (cut 0 xs); costs = zero-add (total body_cost xs) }

module _ {cut : ℕ → List (List ℕ) → ℕ} {stops : ℕ → List ℕ → List (List ℕ) → Bool} (s : Search cut stops) (xs : List (List ℕ)) (i a : ℕ) (r : Reached cut xs i a) where
  at_cell : i < length xs → cut a (drop i xs) ≡ cond (stops a (get_or xs i []) (drop (i + 1) xs)) 0 (suc (cut (a + body_cost (get_or xs i [])) (drop (i + 1) xs)))
  at_cell h = ap (cut a) (drop_more xs i [] h) ∙ s.here a (get_or xs i []) (drop (i + 1) xs)

  pub stops_here : i < length xs → stops a (get_or xs i []) (drop (i + 1) xs) ≡ true → i ≡ cut 0 xs
  stops_here h t =
      omega (arith, r.rest, at_cell h ∙ ap (λ b. cond b 0 (suc (cut (a + body_cost (get_or xs i [])) (drop (i + 1) xs)))) t)

  pub goes_on : (x : List ℕ) (n : ℕ) → i < length xs → x ≡ get_or xs i [] → n ≡ a + (2 + length x) → stops a (get_or xs i []) (drop (i + 1) xs) ≡ false → Reached cut xs (i + 1) n
  goes_on x n h e q f =
      let m : n ≡ a + body_cost (get_or xs i []) = omega (arith, q, ap length e) in
      let c = at_cell h ∙ ap (λ b. cond b 0 (suc (cut (a + body_cost (get_or xs i [])) (drop (i + 1) xs)))) f in
      let t : i + 1 + cut (a + body_cost (get_or xs i [])) (drop (i + 1) xs) ≡ cut 0 xs = omega (arith, r.rest, c) in
      record { rest = ap (λ k. i + 1 + cut k (drop (i + 1) xs)) m ∙ t; costs = omega (arith, m, r.costs, total_step xs i h) }

  pub stops_past : length xs ≤ i → i ≡ cut 0 xs
  stops_past h = omega (arith, r.rest, ap (cut a) (drop_all i xs h) ∙ s.past a)
