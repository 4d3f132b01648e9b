-- The children of a branch, by their number.
use Rattle.std.proofs.Common.{ℕ, zero, suc, List, [], ◌∷◌, ◌++◌, map}
use Rattle.std.specs.List.{ContainsAt, flat_map, AllByRecursion}
use Rattle.std.proofs.ByRecursion.{has_append_left, has_append_right}
use Rattle.cuts.specs.Nodes.{Cell}
use Rattle.tree.specs.Search.{child_at}

-- what holds of each child, and what stands in one of their lists
pub all_child : {X : Type 0} (P : X → Type 0) (i : ℕ) (x : X) (cs : List (Cell X)) → AllByRecursion P (x ∷ map (λ c. c.child) cs) → P (child_at i x cs)
all_child P zero x cs h = h.0
all_child P (suc i) x [] h = h.0
all_child P (suc i) x (c ∷ cs) h = all_child P i c.child cs h.1

pub has_child : {X Y : Type 0} (f : X → List Y) (i : ℕ) (x : X) (cs : List (Cell X)) (y : Y) → ContainsAt (f (child_at i x cs)) y → ContainsAt (flat_map f (x ∷ map (λ c. c.child) cs)) y
has_child f zero x cs y h = has_append_left (f x) _ y h
has_child f (suc i) x [] y h = has_append_left (f x) _ y h
has_child f (suc i) x (c ∷ cs) y h = has_append_right (f x) _ y (has_child f i c.child cs y h)

all_parts : {Y : Type 0} (P : Y → Type 0) (xs ys : List Y) → AllByRecursion P (xs ++ ys) → AllByRecursion P xs × AllByRecursion P ys
all_parts P [] ys h = (tt, h)
all_parts P (x ∷ xs) ys h = let r = all_parts P xs ys h.1 in ((h.0, r.0), r.1)

pub all_joined : {X Y : Type 0} (P : Y → Type 0) (f : X → List Y) (xs : List X) → AllByRecursion P (flat_map f xs) → AllByRecursion (λ (x : X). AllByRecursion P (f x)) xs
all_joined P f [] h = tt
all_joined P f (x ∷ xs) h = let r = all_parts P (f x) (flat_map f xs) h in (r.0, all_joined P f xs r.1)
