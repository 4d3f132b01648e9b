-- The walk accepts exactly the sound trees that lie on the pages.
use Rattle.std.proofs.Common.{◌≡◌, ℕ, zero, suc, ◌<◌, ◌≤◌, Bool, true, false, cond, ◌&&◌, eqb, List, [], ◌∷◌, map, length, Some, None, Ok, Err, Option, sym, refl, ap, ◌∙◌, subst, arith}
use Rattle.std.specs.List.{AllByRecursion}
use Rattle.std.proofs.lemmas.List.{length-map}
use Rattle.std.proofs.lemmas.Bool.Decides.{nat_tests}
use Rattle.std.proofs.lemmas.Bool.{and_parts, and_from, eqb-false, ne_eqb, leb-true, le-leb, lt-ltb}
use Rattle.std.proofs.ByRecursion.{All-map, All-weaker}
use Rattle.cuts.specs.Cuts.{total}
use Rattle.cuts.specs.Nodes.{Cell, Branch, CellFits, cell_cost}
use Rattle.tree.specs.Trees.{Tree, cost, branch_cost, branch}
use Rattle.tree.specs.Search.{or_else}
use Rattle.tree.specs.Places.{map_cell, map_branch}
use Rattle.tree.specs.Sound.{Bound, none, Spans, Light, Full, Sound, Forked}
use Rattle.tree.proofs.Leaves.{all_both}
use Rattle.page.specs.Kinds.{leaf_rules, branch_rules}
use Rattle.page.specs.Reading.{first_fault}
use Rattle.page.specs.Views.{pairs_in, branch_in}
use Rattle.page.specs.declared.fault.Cause.{Cause}
use Rattle.page.specs.declared.fault.Cause.TheVariants.{Bounds, Underfull, PairCount}
use Rattle.paged.specs.Paged.{PagedTree, root_page, children, pages_of, bare, Lies, tree_at}
use Rattle.paged.specs.Walk.{unless, all_within, keys_of, separators_of, leaf_filled, branch_filled, leaf_fault, branch_fault, Slot, slots_of, elem, admits, damage, Walked, fault, fine, walk, counted, walked}
use Rattle.paged.specs.Sound.{Distinct, Inside, SoundOn}
use Rattle.paged.specs.Laws.{WalksAcceptSoundTrees}
use Rattle.paged.proofs.Accepted.{leaf_has, branch_has}
use Rattle.paged.proofs.Chains.{Slotted, within_tells, within_from, chain_from, chain_within, spans_from, spans_slots, spans_map, fits_map}
use Rattle.paged.proofs.Judged.{Judged, every, is_none, onto, fresh, passes, below, child_of, count_at, children_map, slots_children, judged_walk, pages_found}
use Rattle.paged.proofs.Lying.{one_tree_lies_lem}

page_found : (m : ℕ → List ℕ) (n p : ℕ) → root_page n (tree_at m n p) ≡ p
page_found m zero p = refl
page_found m (suc n) p = refl

-- the tests of one page, one by one
three_tests : (o : Option Cause) (a b : Bool) → is_none (or_else o (or_else (unless a Bounds) (unless b Underfull))) ≡ true → (o ≡ None) × (a ≡ true) × (b ≡ true)
three_tests None a b h = (refl, grind arith, grind arith)
three_tests (Some c) a b h = let z : ◌≡◌ {A = ℕ} 0 1 = grind arith in let bad : ⊥ = omega arith in absurd bad

three_pass : (o : Option Cause) (a b : Bool) → o ≡ None → a ≡ true → b ≡ true → is_none (or_else o (or_else (unless a Bounds) (unless b Underfull))) ≡ true
three_pass o a b p q r = rw (p, q, r)

-- a node as the root, or as a child
abbrev Fit : Bool → (n : ℕ) → List ℕ → Bound → Tree n → Type 0
Fit true n lo hi t = Light n (Sound n) lo hi t × Forked n t
Fit false n lo hi t = Full n (Sound n) lo hi t

leaf_tells : (root : Bool) (lo : List ℕ) (hi : Bound) (b : List ℕ) → is_none (leaf_fault root lo hi b) ≡ true → (first_fault leaf_rules b ≡ None) × Fit root zero lo hi (pairs_in b)
unfolding leaf_fault
leaf_tells true lo hi b h =
    let p = three_tests (first_fault leaf_rules b) (all_within lo hi (keys_of (pairs_in b))) (leaf_filled true (pairs_in b)) h in
    let l = leaf_has b p.0 in
    (p.0, ((l.light, (l.rises, within_tells lo hi (pairs_in b) p.1, l.fit)), tt))
leaf_tells false lo hi b h =
    let p = three_tests (first_fault leaf_rules b) (all_within lo hi (keys_of (pairs_in b))) (leaf_filled false (pairs_in b)) h in
    let l = leaf_has b p.0 in
    (p.0, (leb-true _ _ p.2, (l.light, (l.rises, within_tells lo hi (pairs_in b) p.1, l.fit))))

leaf_from : (root : Bool) (lo : List ℕ) (hi : Bound) (b : List ℕ) → first_fault leaf_rules b ≡ None → Fit root zero lo hi (pairs_in b) → is_none (leaf_fault root lo hi b) ≡ true
unfolding leaf_fault
leaf_from true lo hi b e f = three_pass _ _ _ e (within_from lo hi (pairs_in b) f.0.1.1) refl
leaf_from false lo hi b e f = three_pass _ _ _ e (within_from lo hi (pairs_in b) f.1.1.1) (le-leb _ _ f.0)

-- lists
every_all : {X : Type 0} (f : X → Bool) (P : X → Type 0) → ((x : X) → f x ≡ true → P x) → (xs : List X) → every f xs ≡ true → AllByRecursion P xs
every_all f P e [] h = tt
every_all f P e (x ∷ xs) h = let q = and_parts (f x) (every f xs) h in (e x q.0, every_all f P e xs q.1)

every_from : {X : Type 0} (f : X → Bool) (P : X → Type 0) → ((x : X) → P x → f x ≡ true) → (xs : List X) → AllByRecursion P xs → every f xs ≡ true
every_from f P e [] h = refl
every_from f P e (x ∷ xs) h = and_from _ _ (e x h.0) (every_from f P e xs h.1)

all_unmap : {X Y : Type 0} (P : X → Type 0) (f : Y → X) (ys : List Y) → AllByRecursion P (map f ys) → AllByRecursion (λ y. P (f y)) ys
all_unmap P f [] h = tt
all_unmap P f (y ∷ ys) h = (h.0, all_unmap P f ys h.1)

map_back : {X : Type 0} (f : X → ℕ) (g : ℕ → X) → ((p : ℕ) → f (g p) ≡ p) → (b : Branch ℕ) → b ≡ map_branch f (map_branch g b)
map_back {X} f g e b = let r = cells b.rest in λ i. branch (sym (e b.first) i) (r i)
  where
    cells : (cs : List (Cell ℕ)) → cs ≡ map (map_cell f) (map (map_cell g) cs)
    cells [] = refl
    cells (c ∷ cs) = let ih = cells cs in λ i. record { separator = c.separator; child = sym (e c.child) i } ∷ ih i

-- a branch of page numbers, and the branch of trees that are read off those pages
module _ {X Y : Type 0} (g : X → Y) where
  total_map : (cs : List (Cell X)) → total cell_cost (map (map_cell g) cs) ≡ total cell_cost cs
  unfolding total
  total_map [] = refl
  total_map (c ∷ cs) = let r = total_map cs in omega arith

module _ (m : ℕ → List ℕ) (n : ℕ) where
  -- a page under which a sound tree lies
  abbrev Under : List ℕ → Bound → ℕ → Type 0
  Under lo hi p = Full n (Sound n) lo hi (bare n (tree_at m n p))

  abbrev above : ℕ → Tree (suc n)
  above p = bare (suc n) (tree_at m (suc n) p)

  cost_above : (p : ℕ) → cost (suc n) (above p) ≡ branch_cost (branch_in (m p))
  cost_above p = total_map (bare n) _ ∙ total_map (tree_at m n) (branch_in (m p)).rest

  spans_above : (lo : List ℕ) (hi : Bound) (p : ℕ)
      → Spans (Full n (Sound n)) lo hi (above p).first (above p).rest ≡ Spans Under lo hi (branch_in (m p)).first (branch_in (m p)).rest
  spans_above lo hi p =
      spans_map (bare n) (Full n (Sound n)) lo hi (tree_at m n (branch_in (m p)).first) (map (map_cell (tree_at m n)) (branch_in (m p)).rest)
      ∙ spans_map (tree_at m n) (λ l h t. Full n (Sound n) l h (bare n t)) lo hi (branch_in (m p)).first (branch_in (m p)).rest

  fits_above : (p : ℕ) → AllByRecursion CellFits (above p).rest ≡ AllByRecursion CellFits (branch_in (m p)).rest
  fits_above p = fits_map (bare n) (map (map_cell (tree_at m n)) (branch_in (m p)).rest) ∙ fits_map (tree_at m n) (branch_in (m p)).rest

  length_above : (p : ℕ) → length (above p).rest ≡ length (branch_in (m p)).rest
  length_above p = length-map _ (map_cell (bare n)) ∙ length-map (branch_in (m p)).rest (map_cell (tree_at m n))

  sound_above : (lo : List ℕ) (hi : Bound) (p : ℕ) → first_fault branch_rules (m p) ≡ None → all_within lo hi (separators_of (branch_in (m p)).rest) ≡ true
      → AllByRecursion (Slotted Under) (slots_of lo hi (branch_in (m p))) → Light (suc n) (Sound (suc n)) lo hi (above p)
  sound_above lo hi p e w h =
      let b = branch_in (m p) in
      let has = branch_has (m p) e in
      let s : Spans Under lo hi b.first b.rest = spans_from Under lo hi b.first b.rest (chain_from lo hi b.rest has.rises w) h in
      (omega (arith, cost_above p, has.light), (subst (λ (T : Type 0). T) (sym (spans_above lo hi p)) s, subst (λ (T : Type 0). T) (sym (fits_above p)) has.fit))

  slots_above : (lo : List ℕ) (hi : Bound) (p : ℕ) → Sound (suc n) lo hi (above p)
      → (all_within lo hi (separators_of (branch_in (m p)).rest) ≡ true) × AllByRecursion (Slotted Under) (slots_of lo hi (branch_in (m p)))
  slots_above lo hi p s =
      let b = branch_in (m p) in
      let q = spans_slots Under lo hi b.first b.rest (subst (λ (T : Type 0). T) (spans_above lo hi p) s.0) in
      (chain_within lo hi b.rest q.0, q.1)

  branch_tells : (root : Bool) (lo : List ℕ) (hi : Bound) (p : ℕ) → is_none (branch_fault root lo hi (m p)) ≡ true
      → AllByRecursion (Slotted Under) (slots_of lo hi (branch_in (m p))) → (first_fault branch_rules (m p) ≡ None) × Fit root (suc n) lo hi (above p)
  unfolding branch_fault
  branch_tells true lo hi p h a =
      let q = three_tests (first_fault branch_rules (m p)) (all_within lo hi (separators_of (branch_in (m p)).rest)) (branch_filled true (branch_in (m p))) h in
      (q.0, (sound_above lo hi p q.0 q.1 a, omega (arith, length_above p, leb-true _ _ q.2)))
  branch_tells false lo hi p h a =
      let q = three_tests (first_fault branch_rules (m p)) (all_within lo hi (separators_of (branch_in (m p)).rest)) (branch_filled false (branch_in (m p))) h in
      (q.0, (omega (arith, cost_above p, leb-true _ _ q.2), sound_above lo hi p q.0 q.1 a))

  branch_from : (root : Bool) (lo : List ℕ) (hi : Bound) (p : ℕ) → first_fault branch_rules (m p) ≡ None → Fit root (suc n) lo hi (above p)
      → (is_none (branch_fault root lo hi (m p)) ≡ true) × AllByRecursion (Slotted Under) (slots_of lo hi (branch_in (m p)))
  unfolding branch_fault
  branch_from true lo hi p e f =
      let q = slots_above lo hi p f.0.1 in
      (three_pass _ _ _ e q.0 (lt-ltb _ _ (omega (arith, length_above p, f.1))), q.1)
  branch_from false lo hi p e f =
      let q = slots_above lo hi p f.1.1 in
      (three_pass _ _ _ e q.0 (le-leb _ _ (omega (arith, cost_above p, f.0))), q.1)

-- what passes is a sound tree that lies there, and such a tree passes
pub passes_tells : (m : ℕ → List ℕ) (root : Bool) (n : ℕ) (lo : List ℕ) (hi : Bound) (p : ℕ) → passes m root n lo hi p ≡ true
    → Lies m n (tree_at m n p) × Fit root n lo hi (bare n (tree_at m n p))
unfolding passes
passes_tells m root zero lo hi p h = let a = leaf_tells root lo hi (m p) h in ((a.0, refl), a.1)
passes_tells m root (suc n) lo hi p h =
    let b = branch_in (m p) in
    let ss = slots_of lo hi b in
    let ok = λ (s : Slot ℕ). passes m false n s.low s.high s.child in
    let q = and_parts (is_none (branch_fault root lo hi (m p))) (every ok ss) h in
    let O = λ (s : Slot ℕ). Lies m n (tree_at m n s.child) in
    let S = λ (s : Slot ℕ). Full n (Sound n) s.low s.high (bare n (tree_at m n s.child)) in
    let both = every_all ok (λ s. O s × S s) (λ s e. passes_tells m false n s.low s.high s.child e) ss q.1 in
    let ons : AllByRecursion O ss = All-weaker (λ s. O s × S s) O (λ s e. e.0) ss both in
    let sounds : AllByRecursion S ss = All-weaker (λ s. O s × S s) S (λ s e. e.1) ss both in
    let L = λ (x : ℕ). Lies m n (tree_at m n x) in
    let here : AllByRecursion L (children b) = subst (AllByRecursion L) (slots_children lo hi b.first b.rest) (All-map L child_of ss ons) in
    let lie : AllByRecursion (Lies m n) (children (map_branch (tree_at m n) b)) = subst (AllByRecursion (Lies m n)) (sym (children_map (tree_at m n) b)) (All-map (Lies m n) (tree_at m n) (children b) here) in
    let t = branch_tells m n root lo hi p q.0 sounds in
    ((t.0, map_back (root_page n) (tree_at m n) (page_found m n) b, lie), t.1)

pub passes_from : (m : ℕ → List ℕ) (root : Bool) (n : ℕ) (lo : List ℕ) (hi : Bound) (p : ℕ) → Lies m n (tree_at m n p) → Fit root n lo hi (bare n (tree_at m n p))
    → passes m root n lo hi p ≡ true
unfolding passes
passes_from m root zero lo hi p o s = leaf_from root lo hi (m p) o.0 s
passes_from m root (suc n) lo hi p o s =
    let b = branch_in (m p) in
    let ss = slots_of lo hi b in
    let ok = λ (s : Slot ℕ). passes m false n s.low s.high s.child in
    let O = λ (s : Slot ℕ). Lies m n (tree_at m n s.child) in
    let S = λ (s : Slot ℕ). Full n (Sound n) s.low s.high (bare n (tree_at m n s.child)) in
    let L = λ (x : ℕ). Lies m n (tree_at m n x) in
    let here : AllByRecursion L (children b) = all_unmap (Lies m n) (tree_at m n) (children b) (subst (AllByRecursion (Lies m n)) (children_map (tree_at m n) b) o.2) in
    let ons : AllByRecursion O ss = all_unmap L child_of ss (subst (AllByRecursion L) (sym (slots_children lo hi b.first b.rest)) here) in
    let t = branch_from m n root lo hi p o.0 s in
    let all : every ok ss ≡ true = every_from ok (λ s. O s × S s) (λ s e. passes_from m false n s.low s.high s.child e.0 e.1) ss (all_both O S (λ s. O s × S s) (λ s x y. (x, y)) ss ons t.1) in
    and_from _ _ t.0 all

-- pages apart and inside
apart : (p : ℕ) (met ps : List ℕ) → AllByRecursion (λ q. elem q (p ∷ met) ≡ false) ps → AllByRecursion (λ q. p ≡ q → ⊥) ps × AllByRecursion (λ q. elem q met ≡ false) ps
unfolding elem
apart p met [] h = (tt, tt)
apart p met (q ∷ qs) h =
    let ih = apart p met qs h.1 in
    let e = h.0 in
    (((λ z. eqb-false q p (grind (arith, nat_tests)) (sym z)), ih.0), (grind (arith, nat_tests), ih.1))

together : (p : ℕ) (met ps : List ℕ) → AllByRecursion (λ q. p ≡ q → ⊥) ps → AllByRecursion (λ q. elem q met ≡ false) ps → AllByRecursion (λ q. elem q (p ∷ met) ≡ false) ps
unfolding elem
together p met [] e h = tt
together p met (q ∷ qs) e h =
    let f = h.0 in
    let z : eqb q p ≡ false = ne_eqb q p (λ y. e.0 (sym y)) in
    (grind (arith, nat_tests), together p met qs e.1 h.1)

admits_tells : (size p : ℕ) (met : List ℕ) → admits size met p ≡ true → Inside size p × (elem p met ≡ false)
admits_tells size p met e = ((grind (arith, nat_tests), grind (arith, nat_tests)), grind (arith, nat_tests))

admits_from : (size p : ℕ) (met : List ℕ) → Inside size p → elem p met ≡ false → admits size met p ≡ true
admits_from size p met i e = let a = i.0 in let b = i.1 in grind (arith, nat_tests)

fresh_tells : (size : ℕ) (met ps : List ℕ) → fresh size met ps ≡ true → AllByRecursion (Inside size) ps × AllByRecursion (λ p. elem p met ≡ false) ps × Distinct ps
fresh_tells size met [] h = (tt, tt, tt)
fresh_tells size met (p ∷ ps) h =
    let q = and_parts (admits size met p) (fresh size (p ∷ met) ps) h in
    let a = admits_tells size p met q.0 in
    let ih = fresh_tells size (p ∷ met) ps q.1 in
    let b = apart p met ps ih.1 in
    ((a.0, ih.0), (a.1, b.1), (b.0, ih.2))

fresh_from : (size : ℕ) (met ps : List ℕ) → AllByRecursion (Inside size) ps → AllByRecursion (λ p. elem p met ≡ false) ps → Distinct ps → fresh size met ps ≡ true
fresh_from size met [] i a d = refl
fresh_from size met (p ∷ ps) i a d =
    and_from _ _ (admits_from size p met i.0 a.0) (fresh_from size (p ∷ met) ps i.1 (together p met ps d.0 a.1) d.1)

none_met : (ps : List ℕ) → AllByRecursion (λ p. elem p [] ≡ false) ps
unfolding elem
none_met [] = tt
none_met (p ∷ ps) = (refl, none_met ps)

-- the whole
counted_tells : (m : ℕ → List ℕ) (n root count : ℕ) (t : PagedTree n) (w : Walked) → counted m n root count w ≡ Ok t
    → (t ≡ tree_at m n root) × ((met : List ℕ) × (w ≡ fine met count))
counted_tells m n root count t (fault d) e = let z : ◌≡◌ {A = ℕ} 0 1 = cc in let bad : ⊥ = omega arith in absurd bad
counted_tells m n root count t (fine met k) e = by (eqb k count) refl e
  where
    by : (b : Bool) → eqb k count ≡ b → cond b (Ok (tree_at m n root)) (Err (damage root PairCount)) ≡ Ok t
        → (t ≡ tree_at m n root) × ((met' : List ℕ) × (fine met k ≡ fine met' count))
    by true q h = (cc, (met, ap (fine met) (grind (arith, nat_tests))))
    by false q h = let z : ◌≡◌ {A = ℕ} 0 1 = cc in let bad : ⊥ = omega arith in absurd bad

accepted : (w : Walked) (b : Bool) (M met : List ℕ) (K count : ℕ) → Judged w b M K → w ≡ fine met count → (b ≡ true) × (K ≡ count)
accepted w true M met K count h e = (refl, cc)
accepted w false M met K count h e = let e' = h.1 in let z : ◌≡◌ {A = ℕ} 0 1 = cc in let bad : ⊥ = omega arith in absurd bad

module _ (m : ℕ → List ℕ) (size n root count : ℕ) (low : 2 ≤ root) (high : root < size) where
  holds : walked m size n root count ≡ Ok (tree_at m n root) → SoundOn m size n root count (tree_at m n root)
  holds e =
      let c = (counted_tells m n root count (tree_at m n root) (walk m size true n [] none root []) e).1 in
      let a = accepted _ _ _ _ _ _ (judged_walk m size true n [] none root []) c.1 in
      let q = and_parts (passes m true n [] none root) (fresh size (root ∷ []) (below m n root)) a.0 in
      let t = passes_tells m true n [] none root q.0 in
      let whole : fresh size [] (root ∷ below m n root) ≡ true = and_from _ _ (admits_from size root [] (low, high) (none_met (root ∷ [])).0) q.1 in
      let f = fresh_tells size [] (pages_of n (tree_at m n root)) (subst (λ (ps : List ℕ). fresh size [] ps ≡ true) (sym (pages_found m n root)) whole) in
      record { starts = page_found m n root; lies = t.0; sound = t.1; apart = f.2; inside = f.0; counts = a.1 }

  held : SoundOn m size n root count (tree_at m n root) → walked m size n root count ≡ Ok (tree_at m n root)
  held h =
      let p = passes_from m true n [] none root h.lies h.sound in
      let ps = pages_of n (tree_at m n root) in
      let f = subst (λ (ps : List ℕ). fresh size [] ps ≡ true) (pages_found m n root) (fresh_from size [] ps h.inside (none_met ps) h.apart) in
      let q = and_parts (admits size [] root) (fresh size (root ∷ []) (below m n root)) f in
      let b : (passes m true n [] none root && fresh size (root ∷ []) (below m n root)) ≡ true = and_from _ _ p q.1 in
      let j : walk m size true n [] none root [] ≡ fine (onto (below m n root) (root ∷ [])) (count_at m n root) =
      subst (λ (x : Bool). Judged (walk m size true n [] none root []) x (onto (below m n root) (root ∷ [])) (count_at m n root)) b (judged_walk m size true n [] none root []) in
      let k : eqb (count_at m n root) count ≡ true = grind (arith, nat_tests, h.counts) in
      rw (j, k)

pub walks_accept_sound_trees_lem : WalksAcceptSoundTrees
walks_accept_sound_trees_lem m size n root count low high t = (sound, complete)
  where
    sound : walked m size n root count ≡ Ok t → SoundOn m size n root count t
    sound e =
        let q = (counted_tells m n root count t (walk m size true n [] none root []) e).0 in
        subst (SoundOn m size n root count) (sym q) (holds m size n root count low high (e ∙ ap Ok q))

    complete : SoundOn m size n root count t → walked m size n root count ≡ Ok t
    complete h =
        let e : t ≡ tree_at m n root = one_tree_lies_lem m n t h.lies ∙ ap (tree_at m n) h.starts in
        held m size n root count low high (subst (SoundOn m size n root count) e h) ∙ ap Ok (sym e)
