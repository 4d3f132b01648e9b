-- The cells of a branch, and a branch's list as one node or two.
use Rattle.std.proofs.Common.{◌≡◌, ℕ, ◌+◌, ◌<◌, ◌≤◌, true, cond, List, [], ◌∷◌, map, length, get_or, take, drop, sym, refl, ap, ◌∙◌, add-one, arith}
use Rattle.std.specs.List.{between}
use Rattle.std.proofs.lemmas.List.{length-drop, length-map, drop_more}
use Rattle.std.proofs.lemmas.Slice.{between_to_end}
use Rattle.std.proofs.lemmas.Bool.{le-leb, lt-leb}
use Rattle.cuts.specs.Cuts.{total, middle}
use Rattle.cuts.specs.Keys.{KeyFits}
use Rattle.cuts.specs.Laws.{BranchPartsFit}
use Rattle.cuts.specs.Nodes.{Branch, cell_cost}
use Rattle.cuts.proofs.Balance.{branch_parts}
use Rattle.tree.specs.Trees.{branch}
use Rattle.tree.specs.Edits.{one, two, give_up, cut_branch, fit}
use Rattle.page.specs.Branches.{CutsBranch}
use Rattle.page.specs.Growths.{fitted_branch}
use Rattle.page.specs.Goods.{branch_parts_of, branch_costs}
use Rattle.page.specs.Kinds.{branch_good, branch_key, cell_of}
use Rattle.page.specs.Layout.{cost}
use Rattle.page.specs.Reading.{every}
use Rattle.page.specs.Splices.{body_cost}
use Rattle.checksum.specs.Bytes.{word32}
use Rattle.page.proofs.Cuts.{cost_total}
use Rattle.page.proofs.Items.{items_cost, all_small}
use Rattle.page.proofs.Pages.{front_is, back_is}
use Rattle.page.proofs.Parts.{map_drop}

-- what a good cell holds
pub key_length : (b : List ℕ) → branch_good b ≡ true → length (branch_key b) ≡ get_or b 0 0
key_length b h = let p = branch_parts_of b h in omega (arith, length-drop 6 b, p.long)

pub length_good : (b : List ℕ) → branch_good b ≡ true → length b ≡ 6 + length (branch_key b)
length_good b h = let p = branch_parts_of b h in omega (arith, key_length b h, p.long)

pub body_small : (b : List ℕ) → branch_good b ≡ true → length b ≤ 70
body_small b h = let p = branch_parts_of b h in omega (arith, p.long, p.short)

pub key_fits : (b : List ℕ) → branch_good b ≡ true → KeyFits (branch_key b)
key_fits b h =
    let p = branch_parts_of b h in
    (omega (arith, key_length b h, p.some), omega (arith, key_length b h, p.short))

-- the cut of an overfull list
pub cut_fits : (xs : List (List ℕ)) (i : ℕ) → every branch_good xs ≡ true → 496 < cost xs → cost xs ≤ 691 → i ≡ middle body_cost (total body_cost xs) 0 xs → CutsBranch xs i
cut_fits xs i g h l e =
    let c = cost_total xs in
    let p : BranchPartsFit body_cost 496 xs i = rw e (branch_parts body_cost 496 72 xs (all_small branch_good 72 (λ b h. omega (arith, body_small b h)) xs g) (omega arith) (omega arith) (omega arith)) in
    let a = p.1 in
    let b = p.2 in
    record {
      within = p.0;
      left = omega (arith, a.1, cost_total (take i xs), ap cost (front_is i xs));
      right = omega (arith, b.1, cost_total (drop (i + 1) xs), ap (λ n. total body_cost (drop n xs)) (add-one i), ap cost (back_is (i + 1) (length xs) xs refl));
    }

front : {X : Type 0} (i : ℕ) (cs : List X) → between 0 i cs ≡ take i cs
front i cs = ap (λ n. take n cs) (omega arith)

same_two : {p p' q q' : Branch ℕ} {s s' : List ℕ} → p ≡ p' → s ≡ s' → q ≡ q' → two p s q ≡ two p' s' q'
same_two x y z = cc

module _ (x : ℕ) (xs : List (List ℕ)) (g : every branch_good xs ≡ true) where
  cells_cost : total cell_cost (map cell_of xs) ≡ cost xs
  cells_cost = items_cost cell_of cell_cost branch_good branch_costs xs g

  pub fits_one : (p : Branch ℕ) → cost xs ≤ 496 → p ≡ branch x (map cell_of xs) → one p ≡ fitted_branch (branch x (map cell_of xs))
  unfolding fit
  fits_one p h q =
      let b = branch x (map cell_of xs) in
      ap one q
      ∙ sym (ap (λ t. cond t (one b) (cut_branch b)) (le-leb _ _ (omega (arith, cells_cost))))

  pub fits_two : (i n : ℕ) (p q : Branch ℕ) (s : List ℕ) → 496 < cost xs → CutsBranch xs i → i ≡ middle cell_cost (total cell_cost (map cell_of xs)) 0 (map cell_of xs) → n ≡ length xs
      → p ≡ branch x (between 0 i (map cell_of xs)) → s ≡ branch_key (get_or xs i []) → q ≡ branch (word32 (get_or xs i []) 2) (between (i + 1) n (map cell_of xs))
      → two p s q ≡ fitted_branch (branch x (map cell_of xs))
  unfolding fit
  fits_two i n p q s h c ei en ep es eq =
      let cs = map cell_of xs in
      let b = branch x cs in
      let y = get_or xs i [] in
      let k : p ≡ branch x (take i cs) = ep ∙ ap (branch x) (front i cs) in
      let l : q ≡ branch (word32 y 2) (drop (i + 1) cs) = eq ∙ ap (branch (word32 y 2)) (between_to_end cs (i + 1) n (omega (arith, length-map xs cell_of))) in
      let t : fitted_branch b ≡ cut_branch b = ap (λ z. cond z (one b) (cut_branch b)) (lt-leb _ _ (omega (arith, cells_cost))) in
      let u : cut_branch b ≡ give_up x (take i cs) (drop i cs) = ap (λ (m : ℕ). give_up x (take m cs) (drop m cs)) (sym ei) in
      let v : drop i cs ≡ cell_of y ∷ drop (i + 1) cs =
      sym (map_drop cell_of i xs) ∙ (ap (map cell_of) (drop_more xs i [] c.within) ∙ ap (λ r. cell_of y ∷ r) (map_drop cell_of (i + 1) xs)) in
      same_two k es l ∙ sym (t ∙ (u ∙ ap (give_up x (take i cs)) v))
