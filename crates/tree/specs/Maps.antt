-- A list of pairs whose keys rise, as an ordered map.
use Rattle.std.specs.Prelude.{ℕ, cond, List, [], ◌∷◌, Some, None, Option}
use Rattle.std.specs.List.{AllByRecursion}
use Rattle.cuts.specs.Keys.{key<, Below}
use Rattle.cuts.specs.Nodes.{Pair}

abbrev pub pair : List ℕ → List ℕ → Pair
pair k v = record { key = k; value = v }

-- one of three, as a is below b, the same, or above it
abbrev pub compared : {X : Type 0} → List ℕ → List ℕ → X → X → X → X
compared a b below same above = cond (key< a b) below (cond (key< b a) above same)

-- each key is below all that follow it
abbrev pub Rising : List Pair → Type 0
Rising [] = Unit {0}
Rising (p ∷ ps) = AllByRecursion (λ (q : Pair). Below p.key q.key) ps × Rising ps

unfoldable pub lookup : List ℕ → List Pair → Option (List ℕ)
lookup k [] = None
lookup k (p ∷ ps) = compared k p.key (lookup k ps) (Some p.value) (lookup k ps)

unfoldable pub insert : List ℕ → List ℕ → List Pair → List Pair
insert k v [] = pair k v ∷ []
insert k v (p ∷ ps) = compared k p.key (pair k v ∷ p ∷ ps) (pair k v ∷ ps) (p ∷ insert k v ps)

unfoldable pub delete : List ℕ → List Pair → List Pair
delete k [] = []
delete k (p ∷ ps) = compared k p.key (p ∷ ps) ps (p ∷ delete k ps)

-- the first pair with a key greater than k
unfoldable pub first_above : List ℕ → List Pair → Option Pair
first_above k [] = None
first_above k (p ∷ ps) = cond (key< k p.key) (Some p) (first_above k ps)
