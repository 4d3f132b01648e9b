-- The order of keys is a strict total order.
use Rattle.std.proofs.Common.{◌≡◌, ℕ, Bool, true, false, ◌⊎◌, List, [], ◌∷◌, refl, inl, inr, arith}
use Rattle.std.proofs.lemmas.Bool.Decides.{nat_tests}
use Rattle.cuts.specs.Keys.{key<, Below, AtMost}

pub less_self : (a : List ℕ) → key< a a ≡ false
unfolding key<
less_self [] = refl
less_self (x ∷ xs) = let h = less_self xs in grind (arith, nat_tests)

pub less_nil : (a : List ℕ) → key< a [] ≡ false
unfolding key<
less_nil [] = refl
less_nil (x ∷ xs) = refl

pub less_trans : (a b c : List ℕ) → Below a b → Below b c → Below a c
unfolding key<
less_trans [] [] c p q = q
less_trans [] (y ∷ ys) [] p q = q
less_trans [] (y ∷ ys) (z ∷ zs) p q = refl
less_trans (x ∷ xs) [] [] p q = p
less_trans (x ∷ xs) [] (z ∷ zs) p q = cc
less_trans (x ∷ xs) (y ∷ ys) [] p q = q
less_trans (x ∷ xs) (y ∷ ys) (z ∷ zs) p q = let h = less_trans xs ys zs in grind (arith, nat_tests)

pub same_from_most : (a b : List ℕ) → AtMost a b → AtMost b a → a ≡ b
unfolding key<
same_from_most [] [] p q = refl
same_from_most [] (y ∷ ys) p q = cc
same_from_most (x ∷ xs) [] p q = cc
same_from_most (x ∷ xs) (y ∷ ys) p q = let h = same_from_most xs ys in grind (arith, nat_tests)

pub most_from_less : (a b : List ℕ) → Below a b → AtMost a b
most_from_less a b p = by (key< b a) refl
  where
    by : (t : Bool) → key< b a ≡ t → t ≡ false
    by true e = let h : Below a a = less_trans a b a p e in let i = less_self a in cc
    by false e = refl

-- three ways that two keys can lie
pub data Ways (a b : List ℕ) : Type 0 where
  less : key< a b ≡ true → key< b a ≡ false → Ways a b
  more : key< a b ≡ false → key< b a ≡ true → Ways a b
  same : key< a b ≡ false → key< b a ≡ false → a ≡ b → Ways a b

pub ways : (a b : List ℕ) → Ways a b
ways a b = by (key< a b) (key< b a) refl refl
  where
    by : (s t : Bool) → key< a b ≡ s → key< b a ≡ t → Ways a b
    by true t e g = less e (most_from_less a b e)
    by false true e g = more e g
    by false false e g = same e g (same_from_most a b g e)

-- the same, for `grind`
pub key_tells : (a b : List ℕ)
    → ((key< a b ≡ true) × (key< b a ≡ false)) ⊎ (((key< a b ≡ false) × (key< b a ≡ true)) ⊎ ((key< a b ≡ false) × (key< b a ≡ false) × (a ≡ b)))
key_tells a b = elim (ways a b) [ less e g ↦ inl (e, g) | more e g ↦ inr (inl (e, g)) | same e g s ↦ inr (inr (e, g, s)) ]

pub most_less : (a b c : List ℕ) → AtMost a b → Below b c → Below a c
most_less a b c p q = elim (ways a b) [ less e g ↦ less_trans a b c e q | more e g ↦ cc | same e g s ↦ rw s q ]

pub less_most : (a b c : List ℕ) → Below a b → AtMost b c → Below a c
less_most a b c p q = elim (ways b c) [ less e g ↦ less_trans a b c p e | more e g ↦ cc | same e g s ↦ rw (← s) p ]

pub most_trans : (a b c : List ℕ) → AtMost a b → AtMost b c → AtMost a c
most_trans a b c p q =
    elim (ways a b) [ less e g ↦ most_from_less a c (less_most a b c e q) | more e g ↦ cc | same e g s ↦ rw s q ]
