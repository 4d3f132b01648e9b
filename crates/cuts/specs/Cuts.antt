-- Where a list that is too full for one page is cut.
use Rattle.std.specs.Prelude.{ℕ, suc, ◌+◌, ◌*◌, cond, List, [], ◌∷◌, nat_lt}

-- the cost of a list
unfoldable pub total : {X : Type 0} → (X → ℕ) → List X → ℕ
total f [] = 0
total f (x ∷ xs) = f x + total f xs

-- The cut of a leaf: how many elements of the list go to the left, where those before it cost a. One more goes
-- there as long as what is to its left is cheaper than what is to its right. So the larger part is as cheap as
-- any cut makes it, and of two such cuts this is the one with the shorter left part.
unfoldable pub fair : {X : Type 0} → (X → ℕ) → ℕ → List X → ℕ
fair f a [] = 0
fair f a (x ∷ xs) = cond (nat_lt a (total f xs)) (suc (fair f (a + f x) xs)) 0

-- The cut of a branch: the place of the first element at which it and those before it cost more than half of t,
-- where those before the list cost a.
unfoldable pub middle : {X : Type 0} → (X → ℕ) → ℕ → ℕ → List X → ℕ
middle f t a [] = 0
middle f t a (x ∷ xs) = cond (nat_lt t (2 * (a + f x))) 0 (suc (middle f t (a + f x) xs))
