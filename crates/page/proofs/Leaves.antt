-- The cells of a leaf as pairs.
use Rattle.std.proofs.Common.{◌≡◌, ℕ, ◌+◌, ◌-◌, ◌<◌, ◌≤◌, true, List, [], ◌∷◌, ◌++◌, map, length, get_or, take, drop, sym, refl, ap, ◌∙◌, ⊎_elim, arith}
use Rattle.std.proofs.lemmas.List.{length-take-le, length-drop, drop_more, map_more}
use Rattle.std.proofs.lemmas.Bool.{cases_lt}
use Rattle.cuts.specs.Cuts.{total, fair}
use Rattle.cuts.specs.Nodes.{Pair}
use Rattle.cuts.proofs.Balance.{leaf_parts}
use Rattle.cuts.specs.Laws.{LeafPartsFit}
use Rattle.tree.specs.Edits.{first_key, last_key}
use Rattle.page.specs.Goods.{leaf_parts_of, leaf_small}
use Rattle.page.specs.Kinds.{leaf_good, leaf_key, pair_of}
use Rattle.page.specs.Layout.{cost}
use Rattle.page.specs.Reading.{every}
use Rattle.page.specs.Splices.{body_cost, CutsLeaf}
use Rattle.page.proofs.Items.{all_small}
use Rattle.page.proofs.Pages.{front_is, back_is}
use Rattle.page.proofs.Cuts.{cost_total, total_end}

total_at_zero : (xs : List (List ℕ)) (i : ℕ) → i ≡ 0 → total body_cost (take i xs) ≡ 0
unfolding total
total_at_zero xs i e = ap (λ n. total body_cost (take n xs)) e

-- the cut of an overfull list
pub cut_fits : (xs : List (List ℕ)) (i : ℕ) → every leaf_good xs ≡ true → 496 < cost xs → cost xs ≤ 692 → i ≡ fair body_cost 0 xs → CutsLeaf xs i
cut_fits xs i g h l e =
    let c = cost_total xs in
    let p : LeafPartsFit body_cost 496 xs i = rw e (leaf_parts body_cost 496 196 xs (all_small leaf_good 196 leaf_small xs g) (omega arith) (omega arith)) in
    let a = p.0 in
    let b = p.1 in
    record {
      some = ⊎_elim (λ z. z) (λ z. absurd (omega (arith, a.0, total_at_zero xs i (omega arith)))) (cases_lt 0 i);
      within = ⊎_elim (λ z. z) (λ z. absurd (omega (arith, b.0, total_end xs i z))) (cases_lt i (length xs));
      left = omega (arith, a.1, cost_total (take i xs), ap cost (front_is i xs));
      right = omega (arith, b.1, cost_total (drop i xs), ap cost (back_is i (length xs) xs refl));
    }

pub first_key_lem : (xs : List (List ℕ)) (i : ℕ) → i < length xs → first_key (map pair_of (drop i xs)) ≡ leaf_key (get_or xs i [])
first_key_lem xs i h = ap (λ r. first_key (map pair_of r)) (drop_more xs i [] h)

last_push : (ps : List Pair) (p : Pair) → last_key (ps ++ p ∷ []) ≡ p.key
last_push [] p = refl
last_push (q ∷ []) p = refl
last_push (q ∷ r ∷ ps) p = last_push (r ∷ ps) p

pub last_key_lem : (xs : List (List ℕ)) (i : ℕ) → 1 ≤ i → i ≤ length xs → last_key (map pair_of (take i xs)) ≡ leaf_key (get_or xs (i - 1) [])
last_key_lem xs i s h =
    let n : i - 1 + 1 ≡ i = omega arith in
    ap (λ m. last_key (map pair_of (take m xs))) (sym n) ∙ (ap last_key (map_more pair_of xs (i - 1) [] (omega arith)) ∙ last_push (map pair_of (take (i - 1) xs)) (pair_of (get_or xs (i - 1) [])))

pub key_short : (b : List ℕ) → leaf_good b ≡ true → length (leaf_key b) ≤ 64
key_short b h =
    let p = leaf_parts_of b h in
    omega (arith, length-take-le (get_or b 0 0) (drop 2 b) (omega (arith, length-drop 2 b, p.long)), p.key)
