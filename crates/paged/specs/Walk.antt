-- The walk: each page is tested on reaching it, then its children from the left are walked; the first fault ends it.
use Rattle.std.specs.Prelude.{ℕ, zero, suc, ◌+◌, Bool, true, false, cond, not, ◌&&◌, ◌||◌, List, [], ◌∷◌, map, length, Some, None, Ok, Err, Option, Result, ◌==◌, nat_le, nat_lt}
use Rattle.cuts.specs.Keys.{key<}
use Rattle.cuts.specs.Nodes.{Pair, Cell, Branch}
use Rattle.cuts.specs.Sizes.{quarter}
use Rattle.tree.specs.Trees.{leaf_cost, branch_cost}
use Rattle.tree.specs.Search.{or_else}
use Rattle.tree.specs.Sound.{Bound, none, before}
use Rattle.page.specs.Kinds.{Rules, leaf_rules, branch_rules}
use Rattle.page.specs.Reading.{first_fault}
use Rattle.page.specs.Views.{pairs_in, branch_in}
use Rattle.page.specs.declared.fault.Cause.{Cause}
use Rattle.page.specs.declared.fault.Cause.TheVariants.{Bounds, Underfull, Child, PairCount}
use Rattle.page.specs.declared.fault.Damage.{Damage}
use Rattle.paged.specs.Paged.{PagedTree, tree_at}

-- a fault, if the test for it fails
abbrev pub unless : Bool → Cause → Option Cause
unless b c = cond b None (Some c)

-- the key is at least lo, and under hi
abbrev pub is_under : List ℕ → Bound → Bool
is_under k none = true
is_under k (before s) = key< k s

abbrev pub all_within : List ℕ → Bound → List (List ℕ) → Bool
all_within lo hi [] = true
all_within lo hi (k ∷ ks) = (not (key< k lo) && is_under k hi) && all_within lo hi ks

abbrev pub keys_of : List Pair → List (List ℕ)
keys_of ps = map (λ p. p.key) ps

abbrev pub separators_of : {X : Type 0} → List (Cell X) → List (List ℕ)
separators_of cs = map (λ c. c.separator) cs

-- the fill of a page: one that is not the root is not underfull, and a branch that is the root has a separator
abbrev pub leaf_filled : Bool → List Pair → Bool
leaf_filled root ps = root || nat_le quarter (leaf_cost ps)

abbrev pub branch_filled : Bool → Branch ℕ → Bool
branch_filled true b = nat_lt 0 (length b.rest)
branch_filled false b = nat_le quarter (branch_cost b)

-- What is wrong first with a node in its place, whose keys or separators should be from lo on and under hi.
abbrev pub cause_in : (lo : List ℕ) (hi : Bound) (keys : List (List ℕ)) (filled : Bool) → Option Cause
cause_in lo hi keys filled = or_else (unless (all_within lo hi keys) Bounds) (unless filled Underfull)

abbrev pub leaf_cause : (root : Bool) (lo : List ℕ) (hi : Bound) → List Pair → Option Cause
leaf_cause root lo hi ps = cause_in lo hi (keys_of ps) (leaf_filled root ps)

abbrev pub branch_cause : (root : Bool) (lo : List ℕ) (hi : Bound) → Branch ℕ → Option Cause
branch_cause root lo hi b = cause_in lo hi (separators_of b.rest) (branch_filled root b)

-- The same of the bytes of one page: what reading finds, then what is wrong with the node in its place.
abbrev pub fault_in : Rules → (List ℕ → Option Cause) → List ℕ → Option Cause
fault_in K cause b = or_else (first_fault K b) (cause b)

unfoldable pub leaf_fault : (root : Bool) (lo : List ℕ) (hi : Bound) → List ℕ → Option Cause
leaf_fault root lo hi = fault_in leaf_rules (λ b. leaf_cause root lo hi (pairs_in b))

unfoldable pub branch_fault : (root : Bool) (lo : List ℕ) (hi : Bound) → List ℕ → Option Cause
branch_fault root lo hi = fault_in branch_rules (λ b. branch_cause root lo hi (branch_in b))

-- a child with the bounds that it inherits: the separators around it, and the parent's at both ends
pub record Slot (X : Type 0) : Type 0 where
  pub low : List ℕ
  pub high : Bound
  pub child : X

abbrev pub slot : {X : Type 0} → List ℕ → Bound → X → Slot X
slot lo hi x = record { low = lo; high = hi; child = x }

unfoldable pub slots : {X : Type 0} → List ℕ → Bound → X → List (Cell X) → List (Slot X)
slots lo hi x [] = slot lo hi x ∷ []
slots lo hi x (c ∷ cs) = slot lo (before c.separator) x ∷ slots c.separator hi c.child cs

abbrev pub slots_of : {X : Type 0} → List ℕ → Bound → Branch X → List (Slot X)
slots_of lo hi b = slots lo hi b.first b.rest

-- whether a page is one of these
unfoldable pub elem : ℕ → List ℕ → Bool
elem p [] = false
elem p (q ∷ qs) = p == q || elem p qs

-- whether a page may be a child, on a device with so many pages, when these were met
abbrev pub admits : (size : ℕ) → List ℕ → ℕ → Bool
admits size met p = (nat_le 2 p && nat_lt p size) && not (elem p met)

abbrev pub damage : ℕ → Cause → Damage
damage p c = record { page = p; cause = c }

-- what a walk comes to: a fault, or the pages met, the last first, and the number of pairs
pub data Walked : Type 0 where
  fault : Damage → Walked
  fine : (met : List ℕ) (pairs : ℕ) → Walked

-- on with what a walk has met
abbrev pub then : Walked → (List ℕ → ℕ → Walked) → Walked
then (fault d) f = fault d
then (fine met k) f = f met k

abbrev pub tested : Option Cause → ℕ → Walked → Walked
tested (Some c) page w = fault (damage page c)
tested None page w = w

-- along the children of `parent`, each of which w walks
unfoldable pub along : (Slot ℕ → List ℕ → Walked) → (size parent : ℕ) → List (Slot ℕ) → (met : List ℕ) (pairs : ℕ) → Walked
along w size parent [] met pairs = fine met pairs
along w size parent (s ∷ ss) met pairs =
    cond (admits size met s.child)
    (then (w s met) (λ met' k. along w size parent ss met' (pairs + k)))
    (fault (damage parent Child))

-- from a page on, with n levels of branches below it; m gives the bytes of each page
unfoldable pub walk : (m : ℕ → List ℕ) (size : ℕ) (root : Bool) (n : ℕ) (lo : List ℕ) (hi : Bound) (page : ℕ) (met : List ℕ) → Walked
walk m size root zero lo hi page met =
    tested (leaf_fault root lo hi (m page)) page (fine (page ∷ met) (length (pairs_in (m page))))
walk m size root (suc n) lo hi page met =
    tested (branch_fault root lo hi (m page)) page
    (along (λ s. walk m size false n s.low s.high s.child) size page (slots_of lo hi (branch_in (m page))) (page ∷ met) 0)

-- the whole: the first fault, or the tree, which has so many pairs
abbrev pub counted : (m : ℕ → List ℕ) (n root pairs : ℕ) → Walked → Result (PagedTree n) Damage
counted m n root pairs (fault d) = Err d
counted m n root pairs (fine met k) = cond (k == pairs) (Ok (tree_at m n root)) (Err (damage root PairCount))

abbrev pub walked : (m : ℕ → List ℕ) (size n root pairs : ℕ) → Result (PagedTree n) Damage
walked m size n root pairs = counted m n root pairs (walk m size true n [] none root [])
