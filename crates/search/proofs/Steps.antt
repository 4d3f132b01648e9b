-- One step down a tree, and what comes of it.
use Rattle.std.proofs.Common.{◌≡◌, ℕ, zero, suc, ◌+◌, ◌<◌, Bool, true, false, cond, ltb, List, length, Some, None, Ok, Option, Result, sym, refl, ap, ◌∙◌, subst, arith}
use Rattle.std.specs.List.{AllByRecursion}
use Rattle.std.proofs.lemmas.List.{length-map}
use Rattle.std.proofs.lemmas.Bool.{lt-ltb}
use Rattle.std.proofs.lemmas.Bool.Decides.{nat_tests}
use Rattle.device.specs.Medium.{Medium}
use Rattle.device.specs.Calls.{Keeps}
use Rattle.device.proofs.Looking.{same_pages}
use Rattle.cuts.specs.Nodes.{Pair, Branch}
use Rattle.tree.specs.Trees.{Tree as TreeValue}
use Rattle.tree.specs.Places.{map_cell, map_branch}
use Rattle.tree.specs.Search.{picked, child_at, or_else, after}
use Rattle.tree.proofs.Natural.{picked_map, child_at_map}
use Rattle.page.specs.Views.{branch_in}
use Rattle.page.specs.declared.fault.PageFault.{PageFault}
use Rattle.paged.specs.Paged.{PagedTree, root_page, children, pages_of, bare, Lies}
use Rattle.search.specs.declared.Place.{Place}
use Rattle.search.specs.declared.Tree.{Tree}
use Rattle.search.specs.Finding.{Answers, Standing, leaf_pages}
use Rattle.search.specs.Following.{Search, find_pair, find_next, Follows, tree_under}
use Rattle.search.proofs.Parts.{all_child, has_child, all_joined}

-- child i of a branch, by one name for pages and for trees
abbrev pub child_in : {X : Type 0} → ℕ → Branch X → X
child_in i b = child_at i b.first b.rest

-- the answer of a search in child i of the branch on a page
abbrev pub InChild : Medium → (on : Bool) → Tree → (i : ℕ) → Search → Result (Option Place) PageFault → Type 0
InChild m on at i s r = (n : ℕ) (t : PagedTree (suc n))
    → at.height ≡ suc n → Standing m (suc n) at.root t → Answers m.bytes (suc n) t on (s n (child_in i (bare (suc n) t))) r

module _ (m : Medium) (n page : ℕ) (t : PagedTree (suc n)) (st : Standing m (suc n) page t) where
  -- what the page says of the branch
  branch_is : branch_in (m.bytes page) ≡ map_branch (root_page n) t.node
  branch_is = subst (λ p. branch_in (m.bytes p) ≡ map_branch (root_page n) t.node) st.starts st.lies.1

  picked_is : (k : List ℕ) → picked k (branch_in (m.bytes page)).rest ≡ picked k (bare (suc n) t).rest
  picked_is k =
      ap (λ (b : Branch ℕ). picked k b.rest) branch_is ∙ (picked_map (root_page n) k t.node.rest ∙ sym (picked_map (bare n) k t.node.rest))

  length_is : length (branch_in (m.bytes page)).rest ≡ length (bare (suc n) t).rest
  length_is =
      ap (λ (b : Branch ℕ). length b.rest) branch_is ∙ (length-map t.node.rest (map_cell (root_page n)) ∙ sym (length-map t.node.rest (map_cell (bare n))))

  -- a child stands where the page says, also after reads
  child_stands : (o : Medium) → Keeps m o → (i : ℕ) → Standing o n (child_in i (branch_in (m.bytes page))) (child_in i t.node)
  child_stands o k i = record {
    starts = child_at_map (root_page n) i t.node.first t.node.rest ∙ ap (child_in i) (sym branch_is);
    lies = subst (λ (b : ℕ → List ℕ). Lies b n (child_in i t.node)) (sym (same_pages k)) (all_child (Lies m.bytes n) i t.node.first t.node.rest st.lies.2);
    inside = subst (λ z. AllByRecursion (λ (p : ℕ). p < z) (pages_of n (child_in i t.node))) (sym k.same_size)
        (all_child (λ (x : PagedTree n). AllByRecursion (λ (p : ℕ). p < m.size) (pages_of n x)) i t.node.first t.node.rest (all_joined (λ (p : ℕ). p < m.size) (pages_of n) (children t.node) st.inside.1));
  }

-- a place in a child is one in the tree
answers_up : (b : ℕ → List ℕ) (n : ℕ) (t : PagedTree (suc n)) (i : ℕ) (on : Bool) (o : Option Pair) (r : Result (Option Place) PageFault)
    → Answers b n (child_in i t.node) on o r → Answers b (suc n) t on o r
answers_up b n t i false o r a = a
answers_up b n t i true None r a = a
answers_up b n t i true (Some p) r a = (
  a.0,
  a.1,
  record {
    page = a.2.page;
    of_leaf = has_child (leaf_pages n) i t.node.first t.node.rest a.2.page a.2.of_leaf;
    bytes_are = a.2.bytes_are;
    holds = a.2.holds;
  },
)

-- the search below, from the page of child i on
pub in_child : (m o : Medium) (on : Bool) (at : Tree) (i : ℕ) (child : Tree) (s : Search) (r : Result (Option Place) PageFault) → Keeps m o
    → child ≡ tree_under at i (branch_in (m.bytes at.root)) → Follows o on child s r → InChild m on at i s r
in_child m o on at i child s r k e f n t h st =
    let low : child.height ≡ n = ap (λ (x : Tree). x.height) e ∙ omega arith in
    let c = child_in i t.node in
    let a = f n c low (subst (λ p. Standing o n p c) (sym (ap (λ (x : Tree). x.root) e)) (child_stands m n at.root t st o k i)) in
    let b = subst (λ (b : ℕ → List ℕ). Answers b n c on (s n (bare n c)) r) (same_pages k) a in
    subst (λ (x : TreeValue n). Answers m.bytes (suc n) t on (s n x) r) (child_at_map (bare n) i t.node.first t.node.rest)
    (answers_up m.bytes n t i on (s n (bare n c)) r b)

-- answers of two searches, of which the second counts where the first finds nothing
answers_first : (b : ℕ → List ℕ) (n : ℕ) (t : PagedTree n) (on : Bool) (o q : Option Pair) (r : Result (Option Place) PageFault)
    → (r ≡ Ok None → ⊥) → Answers b n t on o r → Answers b n t on (or_else o q) r
answers_first b n t false o q r x a = a
answers_first b n t true None q r x a = absurd (x a)
answers_first b n t true (Some p) q r x a = a

answers_none : (b : ℕ → List ℕ) (n : ℕ) (t : PagedTree n) (on : Bool) (o : Option Pair) → Answers b n t on o (Ok None) → (on ≡ true) × (o ≡ None)
answers_none b n t false o a = let z : ◌≡◌ {A = ℕ} 0 1 = cc in absurd (omega arith)
answers_none b n t true None a = (refl, refl)
answers_none b n t true (Some p) a = let e = a.1 in let z : ◌≡◌ {A = ℕ} 0 1 = cc in absurd (omega arith)

module _ (m : Medium) (at : Tree) (i : ℕ) (k : List ℕ) (up : at.height ≡ 0 → ⊥) (e : i ≡ picked k (branch_in (m.bytes at.root)).rest) where
  pub find_follows : (on : Bool) (r : Result (Option Place) PageFault) → InChild m on at i (find_pair k) r → Follows m on at (find_pair k) r
  find_follows on r f zero t h st = absurd (up h)
  find_follows on r f (suc n) t h st =
      subst (λ j. Answers m.bytes (suc n) t on (find_pair k n (child_in j (bare (suc n) t))) r) (e ∙ picked_is m n at.root t st k) (f n t h st)

  -- the search for the next pair, by child i and the one after it
  after_at : (n : ℕ) (t : PagedTree (suc n)) → Standing m (suc n) at.root t
      → or_else (after n (child_in i (bare (suc n) t)) k) (cond (ltb i (length (branch_in (m.bytes at.root)).rest)) (after n (child_in (suc i) (bare (suc n) t)) k) None)
      ≡ find_next k (suc n) (bare (suc n) t)
  after_at n t st = rw (length_is m n at.root t st, e ∙ picked_is m n at.root t st k)

  -- what the first child gives counts, if it is not that there is none
  pub after_first : (on : Bool) (r : Result (Option Place) PageFault) → (r ≡ Ok None → ⊥) → InChild m on at i (find_next k) r
      → Follows m on at (find_next k) r
  after_first on r x f zero t h st = absurd (up h)
  after_first on r x f (suc n) t h st =
      subst (λ (o : Option Pair). Answers m.bytes (suc n) t on o r) (after_at n t st) (answers_first m.bytes (suc n) t on _ _ r x (f n t h st))

  -- there is none under the last child
  pub after_last : (on : Bool) → i ≡ length (branch_in (m.bytes at.root)).rest → InChild m on at i (find_next k) (Ok None)
      → Follows m on at (find_next k) (Ok None)
  after_last on l f zero t h st = absurd (up h)
  after_last on l f (suc n) t h st =
      let a = answers_none m.bytes (suc n) t on _ (f n t h st) in
      let z : ltb i (length (branch_in (m.bytes at.root)).rest) ≡ false = grind (arith, nat_tests) in
      subst (λ (o : Option Pair). Answers m.bytes (suc n) t on o (Ok None)) (after_at n t st) (rw (a.0, a.1, z) refl)

  -- what the next child gives
  pub after_next : (on on' : Bool) (r : Result (Option Place) PageFault) → i < length (branch_in (m.bytes at.root)).rest
      → InChild m on at i (find_next k) (Ok None) → InChild m on' at (i + 1) (find_next k) r
      → Follows m on' at (find_next k) r
  after_next on on' r l f g zero t h st = absurd (up h)
  after_next on on' r l f g (suc n) t h st =
      let a = answers_none m.bytes (suc n) t on _ (f n t h st) in
      let z : ltb i (length (branch_in (m.bytes at.root)).rest) ≡ true = lt-ltb _ _ l in
      let j : i + 1 ≡ suc i = omega arith in
      subst (λ (o : Option Pair). Answers m.bytes (suc n) t on' o r) (after_at n t st)
      (rw (a.1, z) (subst (λ x. Answers m.bytes (suc n) t on' (after n (child_in x (bare (suc n) t)) k) r) j (g n t h st)))
