-- A sound tree on pages has fewer pages than the device, and so it is low.
use Rattle.std.proofs.Common.{◌≡◌, ℕ, zero, suc, ◌+◌, ◌<◌, ◌≤◌, Bool, true, false, cond, ◌≢◌, List, [], ◌∷◌, map, length, get_or, set, replicate, count_by, sym, refl, ap, ◌∙◌, arith, length-append, length-set}
use Rattle.std.specs.List.{flat_map, AllByRecursion}
use Rattle.std.proofs.lemmas.List.{get_or-set_other, get_or-replicate, length-replicate}
use Rattle.std.proofs.lemmas.List.Sums.{sum_by-set, count_by-le-length, sum_by-cons}
use Rattle.cuts.specs.Cuts.{total}
use Rattle.cuts.specs.Nodes.{Cell, Branch}
use Rattle.tree.specs.Counts.{sum_over, nodes}
use Rattle.tree.specs.Places.{map_cell}
use Rattle.tree.proofs.Width.{branches_are_wide_lem, sound_trees_are_low_lem}
use Rattle.paged.specs.Paged.{PagedTree, children, pages_of, bare, as_tree}
use Rattle.paged.specs.Sound.{Distinct, Inside}
use Rattle.paged.specs.Laws.{SoundTreesOnPagesAreLow}

-- how many places of a list are marked
abbrev marked : List Bool → ℕ
marked b = count_by (λ x. x) b

marked_more : (b : List Bool) (p : ℕ) → p < length b → get_or b p false ≡ false → marked (set b p true) ≡ marked b + 1
marked_more b p l f =
    let s = sum_by-set (λ (x : Bool). cond x 1 0) b p true false l in
    let s' : marked (set b p true) + 0 ≡ marked b + 1 = rw f at s in
    omega arith

-- distinct pages, none of which is marked, find places of their own
all_others : (b : List Bool) (p : ℕ) (ps : List ℕ) → AllByRecursion (λ q. p ≡ q → ⊥) ps → AllByRecursion (λ q. (q < length b) × (get_or b q false ≡ false)) ps
    → AllByRecursion (λ q. (q < length (set b p true)) × (get_or (set b p true) q false ≡ false)) ps
all_others b p [] d h = tt
all_others b p (q ∷ qs) d h =
    let ne : q ≢ p = λ e. d.0 (sym e) in
    ((omega (arith, length-set b p true, h.0.0), get_or-set_other b p q true false ne ∙ h.0.1), all_others b p qs d.1 h.1)

places : (b : List Bool) (ps : List ℕ) → Distinct ps → AllByRecursion (λ q. (q < length b) × (get_or b q false ≡ false)) ps → marked b + length ps ≤ length b
places b [] d h = omega (arith, count_by-le-length (λ (x : Bool). x) b)
places b (p ∷ ps) d h =
    let ih = places (set b p true) ps d.1 (all_others b p ps d.0 h.1) in
    omega (arith, ih, marked_more b p h.0.0 h.0.1, length-set b p true)

none_marked : (n : ℕ) → marked (replicate n false) ≡ 0
none_marked zero = refl
none_marked (suc n) = omega (arith, sum_by-cons (λ (x : Bool). cond x 1 0) false (replicate n false), none_marked n)

-- the first two pages are taken
abbrev first_two : ℕ → List Bool
first_two n = true ∷ true ∷ replicate n false

two_marked : (n : ℕ) → marked (first_two n) ≡ 2
two_marked n =
    omega (arith, sum_by-cons (λ (x : Bool). cond x 1 0) true (true ∷ replicate n false), sum_by-cons (λ (x : Bool). cond x 1 0) true (replicate n false), none_marked n)

later : (n p : ℕ) → 2 ≤ p → p < suc (suc n) → get_or (first_two n) p false ≡ false
later n zero l h = let bad : ⊥ = omega arith in absurd bad
later n (suc zero) l h = let bad : ⊥ = omega arith in absurd bad
later n (suc (suc p)) l h = get_or-replicate n p false false (omega arith)

all_later : (n : ℕ) (ps : List ℕ) → AllByRecursion (Inside (suc (suc n))) ps → AllByRecursion (λ q. (q < length (first_two n)) × (get_or (first_two n) q false ≡ false)) ps
all_later n [] h = tt
all_later n (p ∷ ps) h =
    let l = h.0.0 in
    let k = h.0.1 in
    ((omega (arith, length-replicate n false), later n p l k), all_later n ps h.1)

few_pages : (size p : ℕ) (ps : List ℕ) → Distinct (p ∷ ps) → AllByRecursion (Inside size) (p ∷ ps) → suc (suc (length (p ∷ ps))) ≤ size
few_pages zero p ps d h = let k = h.0.1 in let bad : ⊥ = omega arith in absurd bad
few_pages (suc zero) p ps d h = let l = h.0.0 in let k = h.0.1 in let bad : ⊥ = omega arith in absurd bad
few_pages (suc (suc n)) p ps d h =
    omega (arith, places (first_two n) (p ∷ ps) d (all_later n (p ∷ ps) h), two_marked n, length-replicate n false)

-- a page for each node
joined_total : {X : Type 0} (f : X → List ℕ) (w : X → ℕ) → ((x : X) → w x ≡ length (f x)) → (b : Branch X) → sum_over w b ≡ length (flat_map f (children b))
unfolding total
joined_total {X} f w e b = omega (arith, e b.first, rest b.rest, length-append (f b.first) (flat_map f (map (λ c. c.child) b.rest)))
  where
    rest : (cs : List (Cell X)) → total (λ c. w c.child) cs ≡ length (flat_map f (map (λ c. c.child) cs))
    rest [] = refl
    rest (c ∷ cs) = omega (arith, e c.child, rest cs, length-append (f c.child) (flat_map f (map (λ d. d.child) cs)))

total_map : {X Y : Type 0} (w : Y → ℕ) (g : X → Y) (cs : List (Cell X)) → total (λ c. w c.child) (map (map_cell g) cs) ≡ total (λ c. w (g c.child)) cs
unfolding total
total_map w g [] = refl
total_map w g (c ∷ cs) = omega (arith, total_map w g cs)

pub nodes_pages : (n : ℕ) (t : PagedTree n) → nodes n (bare n t) ≡ length (pages_of n t)
nodes_pages zero t = refl
nodes_pages (suc n) t =
    ap suc
    (ap (λ k. nodes n (bare n t.node.first) + k) (total_map (nodes n) (bare n) t.node.rest)
    ∙ joined_total (pages_of n) (λ x. nodes n (bare n x)) (nodes_pages n) t.node)

pub sound_trees_on_pages_are_low_lem : SoundTreesOnPagesAreLow
sound_trees_on_pages_are_low_lem m size n root count t h =
    let few : suc (suc (length (pages_of n t))) ≤ size = by n t h.apart h.inside in
    record {
      wide = branches_are_wide_lem (as_tree n t) h.sound;
      few = few;
      low = λ s. (sound_trees_are_low_lem (as_tree n t) h.sound).1 (omega (arith, nodes_pages n t, few));
    }
  where
    by : (n : ℕ) (t : PagedTree n) → Distinct (pages_of n t) → AllByRecursion (Inside size) (pages_of n t) → suc (suc (length (pages_of n t))) ≤ size
    by zero t d i = few_pages size t.page [] d i
    by (suc n) t d i = few_pages size t.page (flat_map (pages_of n) (children t.node)) d i
