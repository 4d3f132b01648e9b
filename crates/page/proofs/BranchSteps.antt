-- Edits of branches as the tree's steps.
use Rattle.std.proofs.Common.{◌≡◌, ℕ, suc, ◌+◌, ◌-◌, ◌<◌, ◌≤◌, true, ◌||◌, ltb, List, ◌∷◌, ◌++◌, map, length, take, drop, Some, None, Option, sym, ap, ◌∙◌, subst, add-one, arith}
use Rattle.std.proofs.lemmas.Bool.Decides.{nat_tests}
use Rattle.std.proofs.lemmas.List.{take_all}
use Rattle.cuts.specs.Cuts.{total}
use Rattle.cuts.specs.Nodes.{Cell, Branch, cell_cost}
use Rattle.tree.specs.Trees.{cell, branch}
use Rattle.tree.specs.Edits as tree
use Rattle.tree.specs.Places.{separator_at, splice}
use Rattle.page.specs.Branches.{BranchBytes}
use Rattle.page.specs.Growths.{GrowsTo, TwoEnds, spliced, spliced_two, light, merged, InsertsChild, ReplacesChildren, JoinsBranches}
use Rattle.page.specs.Kinds.{branch_good, cell_of}
use Rattle.page.specs.Layout.{cost, cells_of, left_of}
use Rattle.page.specs.Views.{branch_node}
use Rattle.page.specs.CellPages.{BranchPage}
use Rattle.page.specs.declared.grown.Grown.{Grown}
use Rattle.page.proofs.BranchLists.{splice_later, splice_length, splice_two_lem, replace_two, merge_one, add_cell, set_cell, drop_cell, cost_take_cells, cost_drop_cells, cost_joined}
use Rattle.page.specs.Goods.{branch_costs}
use Rattle.page.proofs.Children.{branch_bytes_lem}
use Rattle.page.proofs.Items.{items_cost}
use Rattle.page.proofs.Pages.{cost_append}

-- a branch by what its page says
pub node_is : (p : BranchPage) (l : ℕ) (xs : List (List ℕ)) → left_of p.bytes ≡ l → cells_of p.bytes ≡ xs → branch_node p ≡ branch l (map cell_of xs)
node_is p l xs e f = ap (λ m. branch m (map cell_of (cells_of p.bytes))) e ∙ ap (λ ys. branch l (map cell_of ys)) f

-- another page for a child after the leftmost one
pub later_is : (i x y : ℕ) (cs : List (Cell ℕ)) (b : Branch ℕ) → 1 ≤ i → i ≤ length cs
    → b ≡ branch x (take (i - 1) cs ++ cell (separator_at (i - 1) cs) y ∷ drop (i - 1 + 1) cs) → b ≡ splice i (tree.one y) x cs
later_is i x y cs b l h e =
    let j = i - 1 in
    let n : suc j ≡ i = omega arith in
    e
    ∙ (ap (λ m. branch x (take j cs ++ cell (separator_at j cs) y ∷ drop m cs)) (add-one j)
    ∙ (sym (splice_later j x y cs (omega arith)) ∙ ap (λ m. splice m (tree.one y) x cs) n))

-- the branch with another child has as many cells
pub base_length : (p q : BranchPage) (i x : ℕ) → branch_node q ≡ spliced p i (tree.one x) → length (branch_node q).rest ≡ length (branch_node p).rest
base_length p q i x e = ap (λ b. length b.rest) e ∙ splice_length i (branch_node p).first x (branch_node p).rest

-- parts of one page cost no more than a page has
pub cells_few : (b : List ℕ) (k m : ℕ) → BranchBytes b → k ≤ m → total cell_cost (take k (map cell_of (cells_of b))) + total cell_cost (drop m (map cell_of (cells_of b))) ≤ 496
cells_few b k m p h =
    let xs = cells_of b in
    omega (arith, cost_take_cells xs k p.goods, cost_drop_cells xs m p.goods, cost_joined xs k m h, cost_append (take k xs) (drop m xs), p.laid.room)

-- so its cells are few enough for one more among them, or in place of one
pub base_ends : (p q : BranchPage) (i m x : ℕ) → branch_node q ≡ spliced p i (tree.one x) → i ≤ m → m ≤ length (branch_node p).rest → TwoEnds q i q m
base_ends p q i m x e h l =
    let n = base_length p q i x e in
    let c = q.sound in
    record { keep = omega (arith, n, h, l); skip = omega (arith, n, l); few = omega (arith, cells_few q.bytes i m (branch_bytes_lem q.bytes c) h) }

pub cells_cost : (b : List ℕ) → BranchBytes b → total cell_cost (map cell_of (cells_of b)) ≡ cost (cells_of b)
cells_cost b p = items_cost cell_of cell_cost branch_good branch_costs (cells_of b) p.goods

as_grown : (s : List ℕ) {b b' : Branch ℕ} (o : Option (Grown BranchPage)) → b ≡ b' → GrowsTo s b o → GrowsTo s b' o
as_grown s o e f = subst (λ z. GrowsTo s z o) e f

module _ (p q : BranchPage) (i l : ℕ) (s : List ℕ) (r : ℕ) (e : branch_node q ≡ spliced p i (tree.one l)) where
  pub inserts : (o : Option (Grown BranchPage)) → i ≤ length (branch_node p).rest → GrowsTo s (add_cell l s r i (branch_node q)) o → InsertsChild p i l s r o
  inserts o h f =
      by_case o (as_grown s o (ap (add_cell l s r i) e ∙ sym (splice_two_lem l s r i (branch_node p).first (branch_node p).rest h)) f)
    where
      by_case : (o : Option (Grown BranchPage)) → GrowsTo s (spliced p i (tree.two l s r)) o → InsertsChild p i l s r o
      by_case None f = λ z. f z.1
      by_case (Some g) f = (h, f.0, f.1)

  pub replaces : (o : Option (Grown BranchPage)) → i < length (branch_node p).rest
      → GrowsTo s (branch (branch_node q).first (take i (branch_node q).rest ++ cell s r ∷ drop (i + 1) (branch_node q).rest)) o → ReplacesChildren p i l s r o
  replaces o h f =
      let k = ap (λ m. branch (branch_node q).first (take i (branch_node q).rest ++ cell s r ∷ drop m (branch_node q).rest)) (add-one i) in
      by_case o (as_grown s o (k ∙ (ap (set_cell l s r i) e ∙ sym (replace_two l s r i (branch_node p).first (branch_node p).rest h))) f)
    where
      by_case : (o : Option (Grown BranchPage)) → GrowsTo s (spliced_two p i (tree.two l s r)) o → ReplacesChildren p i l s r o
      by_case None f = λ z. f z.1
      by_case (Some g) f = (h, f.0, f.1)

pub joins : (p q : BranchPage) (s : List ℕ) (n x : ℕ) (o : Option (Grown BranchPage)) → (light p || light q) ≡ true → n ≡ length (branch_node p).rest → x ≡ (branch_node q).first
    → GrowsTo s (branch (branch_node p).first (take n (branch_node p).rest ++ cell s x ∷ (branch_node q).rest)) o → JoinsBranches p s q o
joins p q s n x o u en ex f =
    let a = ap (λ cs. branch (branch_node p).first (cs ++ cell s x ∷ (branch_node q).rest)) (take_all n (branch_node p).rest (omega arith)) in
    let b = ap (λ y. branch (branch_node p).first ((branch_node p).rest ++ cell s y ∷ (branch_node q).rest)) ex in
    by_case o (as_grown s o (a ∙ b) f)
  where
    by_case : (o : Option (Grown BranchPage)) → GrowsTo s (merged p s q) o → JoinsBranches p s q o
    by_case None f = λ z. f z.1
    by_case (Some g) f = (u, f.0, f.1)

pub merges : (p q : BranchPage) (i x : ℕ) (b : Branch ℕ) → branch_node q ≡ spliced p i (tree.one x) → i < length (branch_node p).rest
    → b ≡ branch (branch_node q).first (take i (branch_node q).rest ++ drop (i + 1) (branch_node q).rest) → b ≡ spliced_two p i (tree.one x)
merges p q i x b e h f =
    f
    ∙ (ap (λ m. branch (branch_node q).first (take i (branch_node q).rest ++ drop m (branch_node q).rest)) (add-one i)
    ∙ (ap (drop_cell i) e ∙ sym (merge_one i (branch_node p).first x (branch_node p).rest h)))

-- two branches of which one is underfull
pub light_few : (a b : ℕ) → a ≤ 496 → b ≤ 496 → (ltb a 124 || ltb b 124) ≡ true → a + b ≤ 619
light_few a b h k l = grind (arith, nat_tests)
