-- How a search goes down a tree.
use Rattle.std.specs.Prelude.{ℕ, zero, suc, cond, List, [], ◌∷◌, length, Some, None, Option, nat_lt}
use Rattle.cuts.specs.Keys.{key<}
use Rattle.cuts.specs.Nodes.{Pair, Cell}
use Rattle.tree.specs.Maps.{lookup, first_above}
use Rattle.tree.specs.Trees.{Tree, BTree}

-- how many separators from the front on are at most k: the number of the child that k lies under
abbrev pub picked : {X : Type 0} → List ℕ → List (Cell X) → ℕ
picked k [] = 0
picked k (c ∷ cs) = cond (key< k c.separator) 0 (suc (picked k cs))

-- child 0 is the leftmost one
abbrev pub child_at : {X : Type 0} → ℕ → X → List (Cell X) → X
child_at zero x cs = x
child_at (suc i) x [] = x
child_at (suc i) x (c ∷ cs) = child_at i c.child cs

abbrev pub find : (n : ℕ) → Tree n → List ℕ → Option (List ℕ)
find zero t k = lookup k t
find (suc n) t k = find n (child_at (picked k t.rest) t.first t.rest) k

abbrev pub get : BTree → List ℕ → Option (List ℕ)
get b k = find b.height b.root k

abbrev pub or_else : {X : Type 0} → Option X → Option X → Option X
or_else None o = o
or_else (Some x) o = Some x

-- the first pair with a key greater than k: if there is none under the child that k lies under, it is under the next
abbrev pub after : (n : ℕ) → Tree n → List ℕ → Option Pair
after zero t k = first_above k t
after (suc n) t k =
    let i = picked k t.rest in
    let child : ℕ → Tree n = λ j. child_at j t.first t.rest in
    or_else (after n (child i) k) (cond (nat_lt i (length t.rest)) (after n (child (suc i)) k) None)

abbrev pub next : BTree → List ℕ → Option Pair
next b k = after b.height b.root k
