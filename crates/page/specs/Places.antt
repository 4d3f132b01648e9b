-- Where a key stands among cells whose keys rise.
use Rattle.std.specs.Prelude.{ℕ, suc, cond, List, [], ◌∷◌}
use Rattle.cuts.specs.Keys.{key<}

-- how many of the cells, from the front, have keys of at most k
unfoldable pub up_to : {X : Type 0} → (X → List ℕ) → List ℕ → List X → ℕ
up_to key k [] = 0
up_to key k (c ∷ cs) = cond (key< k (key c)) 0 (suc (up_to key k cs))
