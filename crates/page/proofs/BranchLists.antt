-- The lists of cells that edits of branches make, and the branches that they are.
use Rattle.std.proofs.Common.{◌≡◌, ℕ, zero, suc, ◌+◌, ◌^◌, ◌<◌, ◌≤◌, true, List, [], ◌∷◌, ◌++◌, map, length, get_or, take, drop, sym, refl, ap, ◌∙◌, arith}
use Rattle.std.proofs.lemmas.List.{map-append}
use Rattle.std.proofs.lemmas.Bool.{and_from, le-leb, eq-eqb}
use Rattle.cuts.specs.Cuts.{total}
use Rattle.cuts.specs.Keys.{KeyFits}
use Rattle.cuts.specs.Nodes.{Cell, Branch, cell_cost}
use Rattle.tree.specs.Trees.{cell, branch}
use Rattle.tree.specs.Edits.{one, two, prepend}
use Rattle.tree.specs.Places.{separator_at, splice, splice_two}
use Rattle.page.specs.Kinds.{branch_body, branch_good, branch_key, cell_of}
use Rattle.page.specs.Layout.{cost}
use Rattle.page.specs.Reading.{every, rising}
use Rattle.checksum.specs.Bytes.{word32}
use Rattle.page.specs.Goods.{branch_costs}
use Rattle.page.proofs.Items.{items_cost}
use Rattle.page.proofs.Branches.{length_good}
use Rattle.page.proofs.BranchOrders.{rising_swap}
use Rattle.page.proofs.Pages.{cost_append, cost_one, cost_split, cost_drop, split_cells}
use Rattle.checksum.proofs.Words.{four_bytes}
use Rattle.page.proofs.Parts.{map_take, map_drop, every_take, every_drop}
use Rattle.page.proofs.Tested.{every_append, every_at}

-- the cell of a separator and a child
pub body_good : (s : List ℕ) (x : ℕ) → KeyFits s → branch_good (branch_body (cell s x)) ≡ true
body_good s x h =
    and_from _ _ (le-leb 6 (length (branch_body (cell s x))) (omega arith))
    (and_from _ _ (and_from _ _ (le-leb _ _ h.0) (le-leb _ _ h.1)) (and_from _ _ (eq-eqb 0 0 refl) (eq-eqb _ _ (omega arith))))

pub cell_body : (s : List ℕ) (x : ℕ) → x < 2 ^ 32 → cell_of (branch_body (cell s x)) ≡ cell s x
unfolding word32
cell_body s x h = ap (cell s) (four_bytes x h)

-- cells of two pages
module _ (xs ys : List (List ℕ)) (k m : ℕ) where
  pub joined_goods : every branch_good xs ≡ true → every branch_good ys ≡ true → every branch_good (take k xs ++ drop m ys) ≡ true
  joined_goods p q = every_append branch_good (take k xs) (drop m ys) (every_take branch_good k xs p) (every_drop branch_good m ys q)

  pub joined_cells : map cell_of (take k xs ++ drop m ys) ≡ take k (map cell_of xs) ++ drop m (map cell_of ys)
  joined_cells =
      map-append cell_of (take k xs) (drop m ys)
      ∙ (ap (λ r. r ++ map cell_of (drop m ys)) (map_take cell_of k xs) ∙ ap (λ r. take k (map cell_of xs) ++ r) (map_drop cell_of m ys))

  -- with one more between them
  module _ (b : List ℕ) where
    pub with_goods : branch_good b ≡ true → every branch_good xs ≡ true → every branch_good ys ≡ true → every branch_good (take k xs ++ b ∷ drop m ys) ≡ true
    with_goods g p q =
        every_append branch_good (take k xs) (b ∷ drop m ys) (every_take branch_good k xs p) (and_from _ _ g (every_drop branch_good m ys q))

    pub with_cells : map cell_of (take k xs ++ b ∷ drop m ys) ≡ take k (map cell_of xs) ++ cell_of b ∷ drop m (map cell_of ys)
    with_cells =
        map-append cell_of (take k xs) (b ∷ drop m ys)
        ∙ (ap (λ r. r ++ map cell_of (b ∷ drop m ys)) (map_take cell_of k xs) ∙ ap (λ r. take k (map cell_of xs) ++ cell_of b ∷ r) (map_drop cell_of m ys))

    pub with_cost : cost (take k xs ++ b ∷ drop m ys) ≡ cost (take k xs) + (2 + length b) + cost (drop m ys)
    with_cost = omega (arith, cost_append (take k xs) (b ∷ drop m ys), cost_append (b ∷ []) (drop m ys), cost_one b)

-- a cell in place of one with the same separator
module _ (xs : List (List ℕ)) (i : ℕ) (b : List ℕ) (h : i < length xs) (gx : every branch_good xs ≡ true) (g : branch_good b ≡ true) (e : branch_key b ≡ branch_key (get_or xs i [])) where
  pub set_rises : rising branch_key xs ≡ true → rising branch_key (take i xs ++ b ∷ drop (i + 1) xs) ≡ true
  set_rises r =
      rising_swap branch_key (take i xs) b (get_or xs i []) (drop (i + 1) xs) e ∙ (ap (rising branch_key) (sym (split_cells xs i h)) ∙ r)

  pub set_cost : cost (take i xs ++ b ∷ drop (i + 1) xs) ≡ cost xs
  set_cost =
      let y = get_or xs i [] in
      omega (arith, with_cost xs xs i (i + 1) b, with_cost xs xs i (i + 1) y, ap cost (split_cells xs i h), ap length e, length_good b g, length_good y (every_at branch_good xs i gx h))

pub cost_take_cells : (xs : List (List ℕ)) (k : ℕ) → every branch_good xs ≡ true → total cell_cost (take k (map cell_of xs)) ≡ cost (take k xs)
cost_take_cells xs k h =
    ap (total cell_cost) (sym (map_take cell_of k xs)) ∙ items_cost cell_of cell_cost branch_good branch_costs (take k xs) (every_take branch_good k xs h)

pub cost_drop_cells : (xs : List (List ℕ)) (k : ℕ) → every branch_good xs ≡ true → total cell_cost (drop k (map cell_of xs)) ≡ cost (drop k xs)
cost_drop_cells xs k h =
    ap (total cell_cost) (sym (map_drop cell_of k xs)) ∙ items_cost cell_of cell_cost branch_good branch_costs (drop k xs) (every_drop branch_good k xs h)

pub cost_joined : (xs : List (List ℕ)) (k m : ℕ) → k ≤ m → cost (take k xs ++ drop m xs) ≤ cost xs
cost_joined xs k m h = omega (arith, cost_append (take k xs) (drop m xs), cost_split k xs, cost_drop k m xs h)

-- the tree's steps by front and back
pub splice_later : (i x y : ℕ) (cs : List (Cell ℕ)) → i < length cs → splice (suc i) (one y) x cs ≡ branch x (take i cs ++ cell (separator_at i cs) y ∷ drop (suc i) cs)
splice_later i x y [] h = absurd (omega arith)
splice_later zero x y (c ∷ cs) h = refl
splice_later (suc i) x y (c ∷ cs) h = ap (prepend x c.separator) (splice_later i c.child y cs (omega arith))

pub splice_length : (i x y : ℕ) (cs : List (Cell ℕ)) → length (splice i (one y) x cs).rest ≡ length cs
splice_length zero x y cs = refl
splice_length (suc i) x y [] = refl
splice_length (suc i) x y (c ∷ cs) = ap suc (splice_length i c.child y cs)

module _ (l : ℕ) (s : List ℕ) (r : ℕ) where
  -- a cell after child i, and in place of the one after child i
  abbrev pub add_cell : ℕ → Branch ℕ → Branch ℕ
  add_cell i b = branch b.first (take i b.rest ++ cell s r ∷ drop i b.rest)

  abbrev pub set_cell : ℕ → Branch ℕ → Branch ℕ
  set_cell i b = branch b.first (take i b.rest ++ cell s r ∷ drop (suc i) b.rest)

  pub splice_two_lem : (i x : ℕ) (cs : List (Cell ℕ)) → i ≤ length cs → splice i (two l s r) x cs ≡ add_cell i (splice i (one l) x cs)
  splice_two_lem zero x cs h = refl
  splice_two_lem (suc i) x [] h = absurd (omega arith)
  splice_two_lem (suc i) x (c ∷ cs) h = ap (prepend x c.separator) (splice_two_lem i c.child cs (omega arith))

  pub replace_two : (i x : ℕ) (cs : List (Cell ℕ)) → i < length cs → splice_two i (two l s r) x cs ≡ set_cell i (splice i (one l) x cs)
  replace_two i x [] h = absurd (omega arith)
  replace_two zero x (c ∷ cs) h = refl
  replace_two (suc i) x (c ∷ cs) h = ap (prepend x c.separator) (replace_two i c.child cs (omega arith))

abbrev pub drop_cell : ℕ → Branch ℕ → Branch ℕ
drop_cell i b = branch b.first (take i b.rest ++ drop (suc i) b.rest)

pub merge_one : (i x y : ℕ) (cs : List (Cell ℕ)) → i < length cs → splice_two i (one y) x cs ≡ drop_cell i (splice i (one y) x cs)
merge_one i x y [] h = absurd (omega arith)
merge_one zero x y (c ∷ cs) h = refl
merge_one (suc i) x y (c ∷ cs) h = ap (prepend x c.separator) (merge_one i c.child y cs (omega arith))
