-- What lies on pages: at most one tree from each page on.
use Rattle.std.proofs.Common.{◌≡◌, ℕ, zero, suc, List, [], ◌∷◌, map, sym, refl, ap, ◌∙◌}
use Rattle.std.specs.List.{AllByRecursion}
use Rattle.cuts.specs.Nodes.{Cell, Branch}
use Rattle.tree.specs.Trees.{cell, branch}
use Rattle.tree.specs.Places.{map_cell, map_branch}
use Rattle.paged.specs.Paged.{root_page, children, Lies, tree_at}
use Rattle.paged.specs.Laws.{OneTreeLies}

-- cells whose children are each found again
cells_back : {X : Type 0} (P : X → Type 0) (g : ℕ → X) (pg : X → ℕ) → ((x : X) → P x → x ≡ g (pg x)) → (cs : List (Cell X))
    → AllByRecursion P (map (λ c. c.child) cs) → cs ≡ map (map_cell g) (map (map_cell pg) cs)
cells_back P g pg e [] h = refl
cells_back P g pg e (c ∷ cs) h = let ih = cells_back P g pg e cs h.1 in λ i. cell c.separator (e c.child h.0 i) ∷ ih i

branch_back : {X : Type 0} (P : X → Type 0) (g : ℕ → X) (pg : X → ℕ) → ((x : X) → P x → x ≡ g (pg x)) → (b : Branch X)
    → AllByRecursion P (children b) → b ≡ map_branch g (map_branch pg b)
branch_back P g pg e b h = let r = cells_back P g pg e b.rest h.1 in λ i. branch (e b.first h.0 i) (r i)

pub one_tree_lies_lem : OneTreeLies
one_tree_lies_lem m zero t h = λ i. record { page = t.page; node = sym h.1 i }
one_tree_lies_lem m (suc n) t h =
    let c = branch_back (Lies m n) (tree_at m n) (root_page n) (one_tree_lies_lem m n) t.node h.2 ∙ ap (map_branch (tree_at m n)) (sym h.1) in
    λ i. record { page = t.page; node = c i }
