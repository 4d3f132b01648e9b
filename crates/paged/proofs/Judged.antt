-- What the walk accepts: one judgement for both ways.
use Rattle.std.proofs.Common.{◌≡◌, ℕ, zero, suc, ◌+◌, Bool, true, false, cond, ◌&&◌, List, [], ◌∷◌, ◌++◌, map, length, Some, None, sum_by, Option, sym, refl, ap, ◌∙◌, subst, add-zero, add_assoc, zero-add, arith, length-append}
use Rattle.std.specs.List.{flat_map}
use Rattle.std.proofs.lemmas.Bool.Decides.{nat_tests}
use Rattle.std.proofs.lemmas.List.Sums.{sum_by-cons}
use Rattle.cuts.specs.Nodes.{Pair, Cell, Branch}
use Rattle.tree.specs.Trees.{branch, across, pairs}
use Rattle.tree.specs.Places.{map_cell, map_branch}
use Rattle.tree.specs.Sound.{Bound}
use Rattle.page.specs.Views.{pairs_in, branch_in}
use Rattle.page.specs.declared.fault.Cause.{Cause}
use Rattle.page.specs.declared.fault.Cause.TheVariants.{Child}
use Rattle.page.specs.declared.fault.Damage.{Damage}
use Rattle.paged.specs.Paged.{children, pages_of, bare, pairs_on, tree_at}
use Rattle.paged.specs.Walk.{leaf_fault, branch_fault, Slot, slots, slots_of, admits, damage, Walked, fault, fine, then, tested, along, walk}

-- pages put before those that were met, one by one; and whether each may be met then
abbrev pub onto : List ℕ → List ℕ → List ℕ
onto [] met = met
onto (p ∷ ps) met = onto ps (p ∷ met)

abbrev pub fresh : ℕ → List ℕ → List ℕ → Bool
fresh size met [] = true
fresh size met (p ∷ ps) = admits size met p && fresh size (p ∷ met) ps

abbrev pub every : {X : Type 0} → (X → Bool) → List X → Bool
every f [] = true
every f (x ∷ xs) = f x && every f xs

abbrev pub is_none : Option Cause → Bool
is_none None = true
is_none (Some c) = false

-- the walk is fine, with those pages and pairs; or it has a fault
abbrev pub Judged : Walked → Bool → List ℕ → ℕ → Type 0
Judged w true met k = w ≡ fine met k
Judged w false met k = (d : Damage) × (w ≡ fault d)

judged_as : (w v : Walked) (a b : Bool) (met met' : List ℕ) (k k' : ℕ) → v ≡ w → a ≡ b → met ≡ met' → k ≡ k' → Judged w a met k → Judged v b met' k'
judged_as w v true b met met' k k' q e f g h = subst (λ (x : Bool). Judged v x met' k') e (q ∙ h ∙ (λ i. fine (f i) (g i)))
judged_as w v false b met met' k k' q e f g h = subst (λ (x : Bool). Judged v x met' k') e (h.0, q ∙ h.1)

onto_append : (ps qs met : List ℕ) → onto (ps ++ qs) met ≡ onto qs (onto ps met)
onto_append [] qs met = refl
onto_append (p ∷ ps) qs met = onto_append ps qs (p ∷ met)

fresh_append : (size : ℕ) (ps qs met : List ℕ) → fresh size met (ps ++ qs) ≡ (fresh size met ps && fresh size (onto ps met) qs)
fresh_append size [] qs met = refl
fresh_append size (p ∷ ps) qs met = let ih = fresh_append size ps qs (p ∷ met) in grind (arith, nat_tests)

-- one child and those to its right
judged_step : (a o fr os frs : Bool) (v : Walked) (F : List ℕ → ℕ → Walked) (d : Damage) (M : List ℕ) (c : ℕ) (M' : List ℕ) (K : ℕ)
    → Judged v (o && fr) M c → Judged (F M c) (os && frs) M' K → Judged (cond a (then v F) (fault d)) ((o && os) && (a && (fr && frs))) M' K
judged_step false o fr os frs v F d M c M' K h r =
    let e : false ≡ ((o && os) && (false && (fr && frs))) = grind arith in
    subst (λ (x : Bool). Judged (fault d) x M' K) e (d, refl)
judged_step true false fr os frs v F d M c M' K h r = (h.0, ap (λ (x : Walked). then x F) h.1)
judged_step true true false os frs v F d M c M' K h r =
    let e : false ≡ (os && false) = grind arith in
    subst (λ (x : Bool). Judged (then v F) x M' K) e (h.0, ap (λ (x : Walked). then x F) h.1)
judged_step true true true os frs v F d M c M' K h r =
    judged_as (F M c) (then v F) (os && frs) (os && frs) M' M' K K (ap (λ (x : Walked). then x F) h) refl refl refl r

abbrev pub child_of : {X : Type 0} → Slot X → X
child_of s = s.child

judged_along : (w : Slot ℕ → List ℕ → Walked) (size parent : ℕ) (ok : Slot ℕ → Bool) (below : ℕ → List ℕ) (count : ℕ → ℕ)
    → ((s : Slot ℕ) (met : List ℕ) → Judged (w s met) (ok s && fresh size (s.child ∷ met) (below s.child)) (onto (below s.child) (s.child ∷ met)) (count s.child))
    → (ss : List (Slot ℕ)) (met : List ℕ) (k : ℕ)
    → Judged (along w size parent ss met k) (every ok ss && fresh size met (flat_map (λ p. p ∷ below p) (map child_of ss)))
    (onto (flat_map (λ p. p ∷ below p) (map child_of ss)) met) (k + sum_by count (map child_of ss))
unfolding along
judged_along w size parent ok below count each [] met k = ap (fine met) (sym (add-zero k))
judged_along w size parent ok below count each (s ∷ ss) met k =
    let rest = flat_map (λ p. p ∷ below p) (map child_of ss) in
    let M = onto (below s.child) (s.child ∷ met) in
    let ih = judged_along w size parent ok below count each ss M (k + count s.child) in
    let j = judged_step (admits size met s.child) (ok s) (fresh size (s.child ∷ met) (below s.child)) (every ok ss) (fresh size M rest)
    (w s met) (λ met' j. along w size parent ss met' (k + j)) (damage parent Child) M (count s.child) (onto rest M) ((k + count s.child) + sum_by count (map child_of ss)) (each s met) ih in
    judged_as _ _ _ _ _ _ _ _ refl
    (ap (λ (b : Bool). (ok s && every ok ss) && (admits size met s.child && b)) (sym (fresh_append size (below s.child) rest (s.child ∷ met))))
    (sym (onto_append (below s.child) rest (s.child ∷ met)))
    (add_assoc k (count s.child) (sum_by count (map child_of ss)) ∙ ap (λ (x : ℕ). k + x) (sym (sum_by-cons count s.child (map child_of ss)))) j

-- what the walk tests, without the pages met
unfoldable pub passes : (ℕ → List ℕ) → Bool → (n : ℕ) → List ℕ → Bound → ℕ → Bool
passes m root zero lo hi p = is_none (leaf_fault root lo hi (m p))
passes m root (suc n) lo hi p =
    is_none (branch_fault root lo hi (m p)) && every (λ s. passes m false n s.low s.high s.child) (slots_of lo hi (branch_in (m p)))

-- the pages under a page
abbrev pub below : (ℕ → List ℕ) → ℕ → ℕ → List ℕ
below m zero p = []
below m (suc n) p = flat_map (pages_of n) (children (map_branch (tree_at m n) (branch_in (m p))))

pub pages_found : (m : ℕ → List ℕ) (n p : ℕ) → pages_of n (tree_at m n p) ≡ p ∷ below m n p
pages_found m zero p = refl
pages_found m (suc n) p = refl

-- children and slots through functions
pub children_map : {X Y : Type 0} (g : X → Y) (b : Branch X) → children (map_branch g b) ≡ map g (children b)
children_map {X} {Y} g b = ap (λ (ys : List Y). g b.first ∷ ys) (rest b.rest)
  where
    rest : (cs : List (Cell X)) → map (λ c. c.child) (map (map_cell g) cs) ≡ map g (map (λ c. c.child) cs)
    rest [] = refl
    rest (c ∷ cs) = ap (λ (ys : List Y). g c.child ∷ ys) (rest cs)

pub slots_children : {X : Type 0} (lo : List ℕ) (hi : Bound) (x : X) (cs : List (Cell X)) → map child_of (slots lo hi x cs) ≡ children (branch x cs)
unfolding slots
slots_children lo hi x [] = refl
slots_children {X} lo hi x (c ∷ cs) = ap (λ (ys : List X). x ∷ ys) (slots_children c.separator hi c.child cs)

joined_map : {X Y : Type 0} (f : Y → List ℕ) (h : X → List ℕ) (g : X → Y) → ((x : X) → f (g x) ≡ h x) → (xs : List X) → flat_map h xs ≡ flat_map f (map g xs)
joined_map f h g e [] = refl
joined_map f h g e (x ∷ xs) = let ih = joined_map f h g e xs in λ i. sym (e x) i ++ ih i

-- how many pairs lie under the children
pub across_length : {X : Type 0} (f : X → List Pair) (x : X) (cs : List (Cell X)) → length (across f x cs) ≡ sum_by (λ y. length (f y)) (children (branch x cs))
across_length {X} f x cs =
    length-append (f x) (flat_map (λ c. f c.child) cs) ∙ ap (λ k. length (f x) + k) (rest cs) ∙ sym (sum_by-cons (λ y. length (f y)) x (map (λ c. c.child) cs))
  where
    rest : (cs : List (Cell X)) → length (flat_map (λ c. f c.child) cs) ≡ sum_by (λ y. length (f y)) (map (λ c. c.child) cs)
    rest [] = refl
    rest (c ∷ cs) =
        length-append (f c.child) (flat_map (λ d. f d.child) cs) ∙ ap (λ k. length (f c.child) + k) (rest cs)
        ∙ sym (sum_by-cons (λ y. length (f y)) c.child (map (λ d. d.child) cs))

sum_map : {X Y : Type 0} (f : Y → ℕ) (g : X → Y) (xs : List X) → sum_by f (map g xs) ≡ sum_by (λ x. f (g x)) xs
sum_map f g [] = refl
sum_map f g (x ∷ xs) = sum_by-cons f (g x) (map g xs) ∙ ap (λ (k : ℕ). f (g x) + k) (sum_map f g xs) ∙ sym (sum_by-cons (λ y. f (g y)) x xs)

abbrev pub count_at : (ℕ → List ℕ) → ℕ → ℕ → ℕ
count_at m n p = length (pairs_on n (tree_at m n p))

counts_below : (m : ℕ → List ℕ) (n p : ℕ) → count_at m (suc n) p ≡ sum_by (count_at m n) (children (branch_in (m p)))
counts_below m n p =
    let b = branch_in (m p) in
    let t = map_branch (tree_at m n) b in
    let v = map_branch (bare n) t in
    across_length (pairs n) v.first v.rest
    ∙ ap (sum_by _) (children_map (bare n) t ∙ ap (map (bare n)) (children_map (tree_at m n) b))
    ∙ sum_map _ (bare n) (map (tree_at m n) (children b))
    ∙ sum_map _ (tree_at m n) (children b)

judged_tested : (o : Option Cause) (page : ℕ) (v : Walked) (b : Bool) (met : List ℕ) (k : ℕ) → Judged v b met k → Judged (tested o page v) (is_none o && b) met k
judged_tested None page v b met k h = h
judged_tested (Some c) page v b met k h = (damage page c, refl)

and_assoc : (a b c : Bool) → (a && (b && c)) ≡ ((a && b) && c)
and_assoc true b c = refl
and_assoc false b c = refl

pub judged_walk : (m : ℕ → List ℕ) (size : ℕ) (root : Bool) (n : ℕ) (lo : List ℕ) (hi : Bound) (p : ℕ) (met : List ℕ)
    → Judged (walk m size root n lo hi p met) (passes m root n lo hi p && fresh size (p ∷ met) (below m n p)) (onto (below m n p) (p ∷ met)) (count_at m n p)
unfolding walk passes
judged_walk m size root zero lo hi p met =
    judged_tested (leaf_fault root lo hi (m p)) p (fine (p ∷ met) (length (pairs_in (m p)))) true (p ∷ met) (length (pairs_in (m p))) refl
judged_walk m size root (suc n) lo hi p met =
    let b = branch_in (m p) in
    let ss = slots_of lo hi b in
    let ok = λ (s : Slot ℕ). passes m false n s.low s.high s.child in
    let w = λ (s : Slot ℕ). walk m size false n s.low s.high s.child in
    let v = along w size p ss (p ∷ met) 0 in
    let same = slots_children lo hi b.first b.rest in
    let down = flat_map (λ q. q ∷ below m n q) (map child_of ss) in
    let below-is : down ≡ below m (suc n) p =
    ap (flat_map (λ q. q ∷ below m n q)) same ∙ joined_map (pages_of n) (λ q. q ∷ below m n q) (tree_at m n) (pages_found m n) (children b)
    ∙ ap (flat_map (pages_of n)) (sym (children_map (tree_at m n) b)) in
    let sum_is : 0 + sum_by (count_at m n) (map child_of ss) ≡ count_at m (suc n) p =
    zero-add _ ∙ ap (sum_by (count_at m n)) same ∙ sym (counts_below m n p) in
    let j = judged_along w size p ok (below m n) (count_at m n) (λ s met'. judged_walk m size false n s.low s.high s.child met') ss (p ∷ met) 0 in
    let t = judged_tested (branch_fault root lo hi (m p)) p v (every ok ss && fresh size (p ∷ met) down) (onto down (p ∷ met)) (0 + sum_by (count_at m n) (map child_of ss)) j in
    judged_as _ _ _ _ _ _ _ _ refl
    (and_assoc (is_none (branch_fault root lo hi (m p))) (every ok ss) (fresh size (p ∷ met) down)
    ∙ ap (λ (ps : List ℕ). (is_none (branch_fault root lo hi (m p)) && every ok ss) && fresh size (p ∷ met) ps) below-is)
    (ap (λ (ps : List ℕ). onto ps (p ∷ met)) below-is) sum_is t
