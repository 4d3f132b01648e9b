-- What lists of cells cost.
use Rattle.std.proofs.Common.{◌≡◌, ℕ, ◌+◌, ◌-◌, ◌*◌, ◌≤◌, List, [], ◌∷◌, ◌++◌, length, get_or, take, drop, sym, ap, ◌∙◌, arith}
use Rattle.std.specs.List.{between}
use Rattle.std.proofs.lemmas.List.{take-append-drop, take-take, length-append}
use Rattle.std.proofs.lemmas.Slice.{between_is}
use Rattle.std.proofs.lemmas.List.Edits.{length-between}
use Rattle.page.specs.Layout.{cost, bodies}
use Rattle.page.proofs.Pages.{top, top_low, cost_take, bodies_append, cost_append, cost_one, cost_none, cost_split, front_is, back_is}

-- the front of a list up to j is that up to i, and then what lies between
split_take : (xs : List (List ℕ)) (i j : ℕ) → i ≤ j → take j xs ≡ take i xs ++ between i j xs
split_take xs i j h =
    sym (take-append-drop i (take j xs)) ∙ (ap (λ r. r ++ drop i (take j xs)) (take-take i j xs h) ∙ ap (λ r. take i xs ++ r) (sym (between_is xs i j)))

-- the cost after a copy, and after an append
pub cost_copied : (s xs : List (List ℕ)) {t : List (List ℕ)} → t ≡ s ++ xs → cost t ≡ cost s + cost xs
cost_copied s xs {t} e = ap cost e ∙ cost_append s xs

pub cost_appended : (s : List (List ℕ)) (b : List ℕ) {t : List (List ℕ)} → t ≡ s ++ b ∷ [] → cost t ≡ cost s + 2 + length b
cost_appended s b {t} e = omega (arith, cost_copied s (b ∷ []) e, cost_one b)

pub cost_started : {s : List (List ℕ)} → s ≡ [] → cost s ≡ 0
cost_started e = ap cost e ∙ cost_none

pub cost_front : (i : ℕ) (xs : List (List ℕ)) → cost (between 0 i xs) + cost (drop i xs) ≡ cost xs
cost_front i xs = omega (arith, cost_split i xs, ap cost (front_is i xs))

pub cost_back : (i n : ℕ) (xs : List (List ℕ)) → n ≡ length xs → cost (between i n xs) ≡ cost (drop i xs)
cost_back i n xs h = ap cost (back_is i n xs h)

-- the cells from i up to j lie between the two edges
pub cost_edges : (xs : List (List ℕ)) (i j : ℕ) → i ≤ j → j ≤ length xs → cost xs ≤ 496 → cost (between i j xs) + top xs j ≡ 2 * (j - i) + top xs i
cost_edges xs i j h l room =
    let e : take j xs ≡ take i xs ++ between i j xs = split_take xs i j h in
    let f = bodies_append (take i xs) (between i j xs) in
    let n : length (between i j xs) ≡ j - i = length-between xs i j l in
    omega (arith, ap length (ap bodies e), ap length f, length-append (bodies (between i j xs)) (bodies (take i xs)), n, top_low xs j)

-- a part costs no more than the whole
pub cost_part : (xs : List (List ℕ)) (i j : ℕ) → cost (between i j xs) ≤ cost xs
cost_part xs i j = omega (arith, cost_take (j - i) (drop i xs), cost_split i xs)

-- one cell more of a part
pub one_more : (xs s : List (List ℕ)) (a i : ℕ) (x : List ℕ) {t : List (List ℕ)} → t ≡ s ++ x ∷ [] → s ≡ between a i xs → x ≡ get_or xs i []
    → between a (i + 1) xs ≡ between a i xs ++ get_or xs i [] ∷ [] → t ≡ between a (i + 1) xs
one_more xs s a i x et es ex more = cc
