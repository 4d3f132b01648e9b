-- Keys: bytes, compared one by one as unsigned numbers, a proper prefix first.
use Rattle.std.specs.Prelude.{◌≡◌, ℕ, ◌≤◌, Bool, true, false, cond, List, [], ◌∷◌, length, ◌==◌, nat_lt}

-- whether one key comes before another
unfoldable pub key< : List ℕ → List ℕ → Bool
key< [] [] = false
key< [] (y ∷ ys) = true
key< (x ∷ xs) [] = false
key< (x ∷ xs) (y ∷ ys) = cond (x == y) (key< xs ys) (nat_lt x y)

-- a is below b; a is at most b
abbrev pub Below : List ℕ → List ℕ → Type 0
Below a b = key< a b ≡ true

abbrev pub AtMost : List ℕ → List ℕ → Type 0
AtMost a b = key< b a ≡ false

-- keys and separators have 1 to 64 bytes
abbrev pub KeyFits : List ℕ → Type 0
KeyFits k = (1 ≤ length k) × (length k ≤ 64)

-- the shortest prefix of the right key that is greater than the left one
unfoldable pub separator : List ℕ → List ℕ → List ℕ
separator [] [] = []
separator [] (y ∷ ys) = y ∷ []
separator (x ∷ xs) [] = []
separator (x ∷ xs) (y ∷ ys) = cond (x == y) (y ∷ separator xs ys) (y ∷ [])
