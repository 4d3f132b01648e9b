-- The tree that is found of a card is sound, and each of its pages stands where it is said to.
use Rattle.std.proofs.Common.{◌≡◌, ℕ, ◌-◌, ◌<◌, ◌≤◌, Bool, true, false, ◌||◌, eqb, ltb, List, get_or, IfSome, Some, None, Ok, Err, Option, Result, sym, refl, ap, ◌∙◌, subst, arith}
use Rattle.std.proofs.lemmas.List.{get_or_past}
use Rattle.std.proofs.lemmas.Bool.{false≢true}
use Rattle.std.proofs.lemmas.Bool.Decides.{nat_tests}
use Rattle.page.specs.declared.fault.Damage.{Damage}
use Rattle.meta.specs.Test.{read_meta}
use Rattle.meta.specs.declared.Meta.{Meta}
use Rattle.paged.specs.Paged.{PagedTree, root_page, pages_of}
use Rattle.paged.specs.Sound.{Distinct, Inside, SoundOn}
use Rattle.paged.specs.Walk.{elem, walked}
use Rattle.paged.proofs.Exactly.{walks_accept_sound_trees_lem}
use Rattle.walk.specs.Checking.{fits_pages, Holding, holding, held_by, newest_in, found_on, Rooted}
use Rattle.walk.specs.Marking.{MarksAre}
use Rattle.walk.proofs.Metas.{newer_rooted}
use Rattle.survey.specs.Families.{names, ParentIs, parent_in, ParentsAre, below, place_in}
use Rattle.survey.specs.Laws.{is_parent, Stands, PlacesAreTheTrees}
use Rattle.survey.specs.declared.family.Place.{Place}
use Rattle.survey.specs.declared.family.Place.TheVariants.{Root, ChildOf, NoTree}
use Rattle.survey.specs.declared.family.Tree.{Tree}
use Rattle.survey.proofs.Finding.{has_room}
use Rattle.survey.proofs.InTrees.{parents_are_the_trees_lem, parent_has_page}
use Rattle.survey.proofs.OneParent.{of_each, under, pages_under, root_not_under, parent_if_under, under_if_parent, one_parent}

-- what is found is sound
module _ (m : ℕ → List ℕ) (size : ℕ) where
  abbrev Sound : Holding → Type 0
  Sound h = SoundOn m size (h.meta.levels - 1) h.meta.root h.meta.pairs h.tree

  held_sound : (o : Option Meta) (h : Holding) → IfSome o (Rooted size) → held_by m size o ≡ Ok h → Sound h
  held_sound None h r e = cc
  held_sound (Some x) h r e = by (walked m size (x.levels - 1) x.root x.pairs) refl e
    where
      by : (v : Result (PagedTree (x.levels - 1)) Damage) → walked m size (x.levels - 1) x.root x.pairs ≡ v → holding x v ≡ Ok h → Sound h
      by (Ok t) w z =
          let s : record { meta = x; tree = t } ≡ h = cc in
          subst Sound s ((walks_accept_sound_trees_lem m size (x.levels - 1) x.root x.pairs r.low r.high t).0 w)
      by (Err d) w z = cc

  found_sound : (h : Holding) → found_on m size true ≡ Ok h → (size ≤ 1024) × Sound h
  found_sound h e =
      let room = has_room (held_by m size (newest_in m size)) h (fits_pages size) true e in
      let held : held_by m size (newest_in m size) ≡ Ok h = rw room at e in
      let rooted = newer_rooted size (newest_in m size) (read_meta 0 size (m 0)) (read_meta 1 size (m 1)) (m 0) (m 1) refl refl refl in
      (grind (arith, nat_tests), held_sound (newest_in m size) h rooted held)

module _ (n : ℕ) (tree : PagedTree n) (p : ℕ) where
  -- a page of the tree is its root, or under it
  parts : elem p (pages_of n tree) ≡ (eqb p (root_page n tree) || elem p (under n tree))
  unfolding elem
  parts = ap (elem p) (pages_under n tree)

  -- a page stands at one place at most
  module _ (apart : Distinct (pages_of n tree)) where
    root_or_parent : (q : ℕ) → p ≡ root_page n tree → is_parent n tree q p ≡ true → ⊥
    root_or_parent q e h = false≢true (sym (root_not_under n tree apart p) ∙ ap (λ r. elem r (under n tree)) (sym e) ∙ under_if_parent n tree apart p q h)

    root_or_out : p ≡ root_page n tree → elem p (pages_of n tree) ≡ false → ⊥
    root_or_out e h = let d = parts in let bad : false ≡ true = grind (arith, nat_tests) in false≢true bad

    parent_or_out : (q : ℕ) → is_parent n tree q p ≡ true → elem p (pages_of n tree) ≡ false → ⊥
    parent_or_out q h o = let d = parts in let u = under_if_parent n tree apart p q h in let bad : false ≡ true = grind arith in false≢true bad

    one_place : (a b : Place) → Stands n tree p a → Stands n tree p b → a ≡ b
    one_place Root Root h k = refl
    one_place Root (ChildOf q) h k = absurd (root_or_parent q h k)
    one_place Root NoTree h k = absurd (root_or_out h k)
    one_place (ChildOf q) Root h k = absurd (root_or_parent q k h)
    one_place (ChildOf q) (ChildOf r) h k = ap ChildOf (one_parent n tree apart p q r h k)
    one_place (ChildOf q) NoTree h k = absurd (parent_or_out q h k)
    one_place NoTree Root h k = absurd (root_or_out k h)
    one_place NoTree (ChildOf q) h k = absurd (parent_or_out q k h)
    one_place NoTree NoTree h k = refl

-- each page stands at the place that is answered
module _ (m : ℕ → List ℕ) (size : ℕ) (few : size ≤ 1024) (t : Tree) (n count : ℕ) (tree : PagedTree n)
    (sound : SoundOn m size n t.meta.root count tree) (marked : MarksAre t.marks.marked (pages_of n tree)) where
  low : (p : ℕ) → elem p (pages_of n tree) ≡ true → p < size
  low p h = (of_each (Inside size) p (pages_of n tree) sound.inside h).1

  as_marked : (p : ℕ) → get_or t.marks.marked p false ≡ elem p (pages_of n tree)
  as_marked p = by (ltb p 1024) (elem p (pages_of n tree)) refl refl
    where
      by : (l e : Bool) → ltb p 1024 ≡ l → elem p (pages_of n tree) ≡ e → get_or t.marks.marked p false ≡ e
      by true e l is = marked p (grind (arith, nat_tests)) ∙ is
      by false true l is = let k = low p is in let bad : ⊥ = grind (arith, nat_tests) in absurd bad
      by false false l is = let long = t.marks.long in get_or_past t.marks.marked p false (grind (arith, nat_tests))

  named : (q p : ℕ) → q < size → names m t.marks.marked q p ≡ is_parent n tree q p
  named q p l = parents_are_the_trees_lem m size n t.meta.root count tree t.marks.marked sound marked q p (omega arith)

  is_named : (p : ℕ) (o : Option ℕ) → ParentIs m size t.marks.marked p o → elem p (under n tree) ≡ true → Stands n tree p (below o)
  is_named p (Some q) h u = sym (named q p h.0) ∙ h.1
  is_named p None h u =
      let q = parent_if_under n tree sound.apart p u in
      let l = low q.0 (parent_has_page m n tree sound.lies q.0 p q.1) in
      absurd (false≢true (sym (h q.0 l) ∙ named q.0 p l ∙ q.1))

  stands : ParentsAre m size t.marks.marked t.parents → (p : ℕ) → Stands n tree p (place_in t p)
  stands are p = by (get_or t.marks.marked p false) (eqb p t.meta.root) refl refl
    where
      by : (b r : Bool) → get_or t.marks.marked p false ≡ b → eqb p t.meta.root ≡ r → Stands n tree p (place_in t p)
      by false r eb er = rw eb (sym (as_marked p) ∙ eb)
      by true true eb er = let z : p ≡ t.meta.root = grind (arith, nat_tests) in rw (eb, er) (z ∙ sym sound.starts)
      by true false eb er =
          let inside = sym (as_marked p) ∙ eb in
          let l = low p inside in
          let other : eqb p (root_page n tree) ≡ false = ap (eqb p) sound.starts ∙ er in
          let u : elem p (under n tree) ≡ true = ap (λ b. b || elem p (under n tree)) (sym other) ∙ sym (parts n tree p) ∙ inside in
          rw (eb, er) (is_named p (parent_in t.parents p) (are p (omega arith)) u)

pub places_are_the_trees_lem : PlacesAreTheTrees
places_are_the_trees_lem m size on t found =
    let n = t.meta.levels - 1 in
    let s = found_sound m size (record { meta = t.meta; tree = found.0 }) found.1 in
    let here = stands m size s.0 t n t.meta.pairs found.0 s.1 found.2 found.3 in
    (s.1, λ p place. ((λ e. subst (Stands n found.0 p) e (here p)), one_place n found.0 p s.1.apart (place_in t p) place (here p)))
