-- The pages that name a page as their child are its parents in the tree that lies there.
use Rattle.std.proofs.Common.{◌≡◌, ℕ, zero, suc, Bool, true, false, cond, not, ◌&&◌, ◌||◌, eqb, List, [], ◌∷◌, ◌++◌, map, get_or, Some, None, Option, sym, refl, ap, ◌∙◌, arith}
use Rattle.std.specs.List.{flat_map, list_any, AllByRecursion}
use Rattle.std.proofs.lemmas.Bool.{and_parts}
use Rattle.std.proofs.lemmas.Bool.Decides.{nat_tests}
use Rattle.std.proofs.lemmas.Option.{none-some}
use Rattle.checksum.specs.Sealed.{is_sealed}
use Rattle.cuts.specs.Nodes.{Cell, Branch}
use Rattle.tree.specs.Places.{map_cell, map_branch}
use Rattle.page.specs.Kinds.{Rules, leaf_rules, branch_rules}
use Rattle.page.specs.Reading.{first_fault, shape_fault, sound}
use Rattle.page.specs.Views.{branch_in}
use Rattle.page.specs.declared.fault.Cause.{Cause}
use Rattle.page.specs.declared.fault.Cause.TheVariants.{Checksum, Kind}
use Rattle.page.proofs.Sounds.{sound_none}
use Rattle.paged.specs.Paged.{PagedTree, root_page, children, pages_of, Lies}
use Rattle.paged.specs.Walk.{elem}
use Rattle.paged.proofs.Accepted.{none_of}
use Rattle.survey.specs.Families.{names}
use Rattle.survey.specs.Laws.{is_parent, ParentsAreTheTrees}

-- a leaf does not read as a branch
kind_read : (k : Rules) (b : List ℕ) → first_fault k b ≡ None → eqb (get_or b 0 0) k.kind ≡ true
unfolding first_fault shape_fault
kind_read k b h = by (is_sealed b) (eqb (get_or b 0 0) k.kind) _ h
  where
    by : (s e : Bool) (o : Option Cause) → cond (not s) (Some Checksum) (cond (not e) (Some Kind) o) ≡ None → e ≡ true
    by false e o h = absurd (none-some Checksum (sym h))
    by true false o h = absurd (none-some Kind (sym h))
    by true true o h = refl

leaf_no_branch : (b : List ℕ) → first_fault leaf_rules b ≡ None → sound branch_rules b ≡ false
leaf_no_branch b h = by (sound branch_rules b) refl
  where
    by : (t : Bool) → sound branch_rules b ≡ t → t ≡ false
    by true e =
        let x : get_or b 0 0 ≡ 1 = let k = kind_read leaf_rules b h in grind (arith, nat_tests) in
        let y : get_or b 0 0 ≡ 2 = let k = kind_read branch_rules b (none_of branch_rules b e) in grind (arith, nat_tests) in
        let bad : ⊥ = omega arith in
        absurd bad
    by false e = refl

-- the children of a branch, seen through a function
children_map : {X Y : Type 0} (f : X → Y) (b : Branch X) → children (map_branch f b) ≡ map f (children b)
children_map {X = X} f b = ap (λ ys. f b.first ∷ ys) (rest b.rest)
  where
    rest : (cs : List (Cell X)) → map (λ c. c.child) (map (map_cell f) cs) ≡ map f (map (λ c. c.child) cs)
    rest [] = refl
    rest (c ∷ cs) = ap (λ ys. f c.child ∷ ys) (rest cs)

pub elem_append : (p : ℕ) (xs ys : List ℕ) → elem p (xs ++ ys) ≡ (elem p xs || elem p ys)
unfolding elem
elem_append p [] ys = refl
elem_append p (x ∷ xs) ys = let ih = elem_append p xs ys in grind (arith, nat_tests)

split : (a b e : Bool) → ((a || b) && e) ≡ ((a && e) || (b && e))
split true true true = refl
split true true false = refl
split true false true = refl
split true false false = refl
split false b e = refl

module _ (m : ℕ → List ℕ) (q p : ℕ) where
  -- page q reads as a branch, and has p for a child
  edge : Bool
  edge = sound branch_rules (m q) && elem p (children (branch_in (m q)))

  -- under the children
  under : {X : Type 0} (L : X → Type 0) (pages : X → List ℕ) (f : X → Bool) → ((x : X) → L x → (elem q (pages x) && edge) ≡ f x)
      → (xs : List X) → AllByRecursion L xs → (elem q (flat_map pages xs) && edge) ≡ list_any f xs
  unfolding elem
  under L pages f each [] h = refl
  under L pages f each (x ∷ xs) h =
      ap (λ t. t && edge) (elem_append q (pages x) (flat_map pages xs)) ∙ split (elem q (pages x)) (elem q (flat_map pages xs)) edge
      ∙ (λ i. each x h.0 i || under L pages f each xs h.1 i)

  at_leaf : (t : PagedTree zero) → Lies m zero t → (elem q (pages_of zero t) && edge) ≡ false
  unfolding elem edge
  at_leaf t l = side (eqb q t.page) refl
    where
      side : (s : Bool) → eqb q t.page ≡ s → ((s || false) && edge) ≡ false
      side true e = let z : q ≡ t.page = grind (arith, nat_tests) in rw (z, leaf_no_branch (m t.page) l.0) refl
      side false e = refl

  at_branch : (n : ℕ) (t : PagedTree (suc n)) → Lies m (suc n) t
      → (elem q (flat_map (pages_of n) (children t.node)) && edge) ≡ list_any (λ c. is_parent n c q p) (children t.node)
      → (elem q (pages_of (suc n) t) && edge) ≡ is_parent (suc n) t q p
  unfolding elem edge
  at_branch n t l low = side (eqb q t.page) refl
    where
      cs : List (PagedTree n)
      cs = children t.node

      both : (x b : Bool) → x ≡ (x || (b && x))
      both true b = refl
      both false true = refl
      both false false = refl

      side : (s : Bool) → eqb q t.page ≡ s
          → ((s || elem q (flat_map (pages_of n) cs)) && edge) ≡ ((s && elem p (map (root_page n) cs)) || list_any (λ c. is_parent n c q p) cs)
      side true e =
          let z : q ≡ t.page = grind (arith, nat_tests) in
          let x : edge ≡ elem p (map (root_page n) cs) =
          ap (λ j. sound branch_rules (m j) && elem p (children (branch_in (m j)))) z
          ∙ ap (λ s. s && elem p (children (branch_in (m t.page)))) (sound_none branch_rules (m t.page) l.0)
          ∙ ap (λ b. elem p (children b)) l.1 ∙ ap (elem p) (children_map (root_page n) t.node) in
          both edge (elem q (flat_map (pages_of n) cs)) ∙ (λ i. x i || low i)
      side false e = low

  edges : (n : ℕ) (t : PagedTree n) → Lies m n t → (elem q (pages_of n t) && edge) ≡ is_parent n t q p
  edges zero t l = at_leaf t l
  edges (suc n) t l = at_branch n t l (under (Lies m n) (pages_of n) (λ c. is_parent n c q p) (edges n) (children t.node) l.2)

pub parent_has_page : (m : ℕ → List ℕ) (n : ℕ) (t : PagedTree n) → Lies m n t → (q p : ℕ) → is_parent n t q p ≡ true → elem q (pages_of n t) ≡ true
parent_has_page m n t l q p h = (and_parts (elem q (pages_of n t)) (edge m q p) (edges m q p n t l ∙ h)).0

pub parents_are_the_trees_lem : ParentsAreTheTrees
unfolding names edge
parents_are_the_trees_lem m size n root count t marks s k q p l =
    ap (λ b. b && (sound branch_rules (m q) && elem p (children (branch_in (m q))))) (k q l) ∙ edges m q p n t s.lies
