-- Leaves cut and joined.
use Rattle.std.proofs.Common.{ℕ, zero, ◌<◌, ◌≤◌, List, [], ◌∷◌, ◌++◌, length, arith}
use Rattle.std.specs.List.{AllByRecursion}
use Rattle.std.proofs.ByRecursion.{All-append, All-weaker}
use Rattle.cuts.specs.Keys.{Below, AtMost, KeyFits, separator}
use Rattle.cuts.specs.Nodes.{Pair}
use Rattle.cuts.proofs.Order.{less_self, most_less, less_most, most_from_less, most_trans}
use Rattle.cuts.proofs.Separators.{separator_above, separator_most, separator_within, separator_some}
use Rattle.tree.specs.Maps.{Rising}
use Rattle.tree.specs.Edits.{first_key, last_key}
use Rattle.tree.specs.Sound.{Bound, none, before, Under}
use Rattle.tree.proofs.Strict.{under_trans, Strict}
use Rattle.tree.proofs.Flat.{rising_append}

pub all_split : {X : Type 0} (P : X → Type 0) (xs ys : List X) → AllByRecursion P (xs ++ ys) → AllByRecursion P xs × AllByRecursion P ys
all_split P [] ys h = (tt, h)
all_split P (x ∷ xs) ys h = let r = all_split P xs ys h.1 in ((h.0, r.0), r.1)

pub rising_split : (xs ys : List Pair) → Rising (xs ++ ys)
    → Rising xs × Rising ys × AllByRecursion (λ (p : Pair). AllByRecursion (λ (q : Pair). Below p.key q.key) ys) xs
rising_split [] ys h = (tt, h, tt)
rising_split (x ∷ xs) ys h =
    let r = rising_split xs ys h.1 in
    let a = all_split _ xs ys h.0 in
    ((a.0, r.0), r.1, (a.1, r.2))

-- no key is above the last
pub last_most : (xs : List Pair) → Rising xs → AllByRecursion (λ (p : Pair). AtMost p.key (last_key xs)) xs
last_most [] h = tt
last_most (x ∷ []) h = (less_self x.key, tt)
last_most (x ∷ y ∷ ys) h =
    let r = last_most (y ∷ ys) h.1 in
    (most_trans x.key y.key _ (most_from_less x.key y.key h.0.0) r.0, r)

pub first_least : (xs : List Pair) → Rising xs → AllByRecursion (λ (p : Pair). AtMost (first_key xs) p.key) xs
first_least [] h = tt
first_least (x ∷ xs) h = (less_self x.key, All-weaker _ _ (λ q b. most_from_less x.key q.key b) xs h.0)

pub all_both : {X : Type 0} (P Q R : X → Type 0) → ((x : X) → P x → Q x → R x) → (xs : List X) → AllByRecursion P xs → AllByRecursion Q xs
    → AllByRecursion R xs
all_both P Q R f [] h k = tt
all_both P Q R f (x ∷ xs) h k = (f x h.0 k.0, all_both P Q R f xs h.1 k.1)

-- what holds of each holds of the last and the first
pub last_holds : (P : List ℕ → Type 0) (xs : List Pair) → 0 < length xs → AllByRecursion (λ (p : Pair). P p.key) xs
    → P (last_key xs)
last_holds P [] n h = let bad : ⊥ = omega arith in absurd bad
last_holds P (x ∷ []) n h = h.0
last_holds P (x ∷ y ∷ ys) n h = last_holds P (y ∷ ys) (omega arith) h.1

pub first_holds : (P : List ℕ → Type 0) (xs : List Pair) → 0 < length xs → AllByRecursion (λ (p : Pair). P p.key) xs
    → P (first_key xs)
first_holds P [] n h = let bad : ⊥ = omega arith in absurd bad
first_holds P (x ∷ xs) n h = h.0

pub under_le : (a b : List ℕ) (hi : Bound) → AtMost a b → Under b hi → Under a hi
under_le a b none p q = tt
under_le a b (before s) p q = most_less a b s p q

-- two parts of a leaf, neither empty, and the separator between them
pub leaf_split : (lo : List ℕ) (hi : Bound) (xs ys : List Pair) → 0 < length xs → 0 < length ys
    → Strict zero lo hi (xs ++ ys)
    → Below lo (separator (last_key xs) (first_key ys)) × Under (separator (last_key xs) (first_key ys)) hi × KeyFits (separator (last_key xs) (first_key ys))
    × Strict zero lo (before (separator (last_key xs) (first_key ys))) xs × Strict zero (separator (last_key xs) (first_key ys)) hi ys
leaf_split lo hi xs ys n m h =
    let s = separator (last_key xs) (first_key ys) in
    let r = rising_split xs ys h.0 in
    let w = all_split _ xs ys h.1 in
    let f = all_split _ xs ys h.2 in
    let gap : Below (last_key xs) (first_key ys) =
    last_holds (λ a. Below a (first_key ys)) xs n (All-weaker _ _ (λ p b. first_holds (λ a. Below p.key a) ys m b) xs r.2) in
    let above : Below (last_key xs) s = separator_above _ _ gap in
    let upto : AtMost s (first_key ys) = separator_most (last_key xs) (first_key ys) in
    let low : AtMost lo (last_key xs) = last_holds (λ a. AtMost lo a) xs n (All-weaker _ _ (λ p b. b.0) xs w.0) in
    let high : Under (first_key ys) hi = first_holds (λ a. Under a hi) ys m (All-weaker _ _ (λ p b. b.1) ys w.1) in
    let fit : KeyFits (first_key ys) = first_holds (λ a. KeyFits a) ys m (All-weaker _ _ (λ p b. b.0) ys f.1) in
    let short : length s ≤ length (first_key ys) = separator_within (last_key xs) (first_key ys) in
    let some : 1 ≤ length s = separator_some _ _ gap in (
      most_less lo (last_key xs) s low above,
      under_le s (first_key ys) hi upto high,
      (some, omega arith),
      (r.0, all_both _ _ _ (λ p b c. (b.0, most_less p.key (last_key xs) s c above)) xs w.0 (last_most xs r.0), f.0),
      (r.1, all_both _ _ _ (λ p b c. (most_trans s (first_key ys) p.key upto c, b.1)) ys w.1 (first_least ys r.1), f.1),
    )

pub leaf_merge : (lo s : List ℕ) (hi : Bound) (xs ys : List Pair) → Below lo s → Under s hi
    → Strict zero lo (before s) xs → Strict zero s hi ys → Strict zero lo hi (xs ++ ys)
leaf_merge lo s hi xs ys p q h k = (
  rising_append xs ys h.0 k.0 (All-weaker _ _ (λ x b. All-weaker _ _ (λ y d. less_most x.key s y.key b.1 d.0) ys k.1) xs h.1),
  All-append _ xs ys (All-weaker _ _ (λ x b. (b.0, under_trans x.key s hi b.1 q)) xs h.1)
      (All-weaker _ _ (λ y d. (most_trans lo s y.key (most_from_less lo s p) d.0, d.1)) ys k.1),
  All-append _ xs ys h.2 k.2,
)
