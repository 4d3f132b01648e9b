-- Searches in one leaf.
use Rattle.std.proofs.Common.{◌≡◌, ℕ, zero, suc, ◌<◌, ◌≤◌, Bool, true, false, cond, ltb, List, [], ◌∷◌, length, Some, None, sym, refl, ap, ◌∙◌, subst, arith}
use Rattle.std.specs.Bool.{then_some}
use Rattle.std.specs.Option.{option_map}
use Rattle.std.proofs.lemmas.Bool.{ltb-true, ltb-false}
use Rattle.std.proofs.ByRecursion.{All-get_or}
use Rattle.cuts.specs.Keys.{key<, Below}
use Rattle.cuts.specs.Nodes.{Pair}
use Rattle.cuts.proofs.Order.{less_self, most_from_less, ways, less, more, same}
use Rattle.tree.specs.Maps.{pair, Rising, lookup, first_above}
use Rattle.page.specs.Places.{up_to}
use Rattle.page.specs.Views.{leaf_pairs, key_of, key_at, value_at, FindsKey}
use Rattle.page.specs.CellPages.{LeafPage}
use Rattle.paged.proofs.Accepted.{leaf_page_has}
use Rattle.search.specs.Finding.{pair_with, pair_at}
use Rattle.search.specs.Following.{InLeaf}

-- the pair with a key
lookup_here : (k : List ℕ) (ps : List Pair) (i : ℕ) → Rising ps → i < length ps → key_at ps i ≡ k → lookup k ps ≡ Some (value_at ps i)
unfolding lookup
lookup_here k [] i r h e = absurd (omega arith)
lookup_here k (p ∷ ps) zero r h e =
    let a : key< k p.key ≡ false = ap (key< k) e ∙ less_self k in
    let b : key< p.key k ≡ false = ap (λ z. key< z k) e ∙ less_self k in
    rw (a, b)
lookup_here k (p ∷ ps) (suc i) r h e =
    let l : i < length ps = omega arith in
    let b : key< p.key k ≡ true = ap (key< p.key) (sym e) ∙ All-get_or (λ (q : Pair). Below p.key q.key) ps i (pair [] []) l r.0 in
    let a : key< k p.key ≡ false = most_from_less p.key k b in
    rw (a, b) (lookup_here k ps i r.1 l e)

lookup_none : (k : List ℕ) (ps : List Pair) → FindsKey ps k None → lookup k ps ≡ None
unfolding lookup
lookup_none k [] f = refl
lookup_none k (p ∷ ps) f = elim (ways k p.key) [
  | less a b ↦ rw a (lookup_none k ps (λ j h. f (suc j) (omega arith)))
  | more a b ↦ rw (a, b) (lookup_none k ps (λ j h. f (suc j) (omega arith)))
  | same a b s ↦ absurd (f 0 (omega arith) (sym s))
]

-- the first pair above one
above_here : (k : List ℕ) (ps : List Pair) → up_to key_of k ps < length ps → first_above k ps ≡ Some (pair_at ps (up_to key_of k ps))
unfolding up_to first_above
above_here k [] h = absurd (omega arith)
above_here k (p ∷ ps) h = by (key< k p.key) h (λ l. above_here k ps l)
  where
    by : (t : Bool) → cond t 0 (suc (up_to key_of k ps)) < suc (length ps)
        → (up_to key_of k ps < length ps → first_above k ps ≡ Some (pair_at ps (up_to key_of k ps)))
        → cond t (Some p) (first_above k ps) ≡ Some (pair_at (p ∷ ps) (cond t 0 (suc (up_to key_of k ps))))
    by true l r = refl
    by false l r = r (omega arith)

above_none : (k : List ℕ) (ps : List Pair) → length ps ≤ up_to key_of k ps → first_above k ps ≡ None
unfolding up_to first_above
above_none k [] h = refl
above_none k (p ∷ ps) h = by (key< k p.key) h (λ l. above_none k ps l)
  where
    by : (t : Bool) → suc (length ps) ≤ cond t 0 (suc (up_to key_of k ps))
        → (length ps ≤ up_to key_of k ps → first_above k ps ≡ None)
        → cond t (Some p) (first_above k ps) ≡ None
    by true l r = absurd (omega arith)
    by false l r = r (omega arith)

module _ (leaf : LeafPage) (k : List ℕ) where
  abbrev ps : List Pair
  ps = leaf_pairs leaf

  pub in_leaf_found : (i : ℕ) → FindsKey ps k (Some i) → InLeaf leaf (pair_with k ps) (Some (record { leaf = leaf; cell = i }))
  in_leaf_found i f =
      let e = lookup_here k ps i (leaf_page_has leaf).rises f.0 f.1 in
      subst (λ o. InLeaf leaf o (Some (record { leaf = leaf; cell = i }))) (sym (ap (option_map (pair k)) e))
      (record { leaf = leaf; cell = i }, refl, refl, record { within = f.0; pair_is = ap (λ (x : List ℕ). pair x (value_at ps i)) f.1 })

  pub in_leaf_missing : FindsKey ps k None → InLeaf leaf (pair_with k ps) None
  in_leaf_missing f = subst (λ o. InLeaf leaf o None) (sym (ap (option_map (pair k)) (lookup_none k ps f))) refl

  module _ (i : ℕ) (e : i ≡ up_to key_of k ps) where
    in_leaf_above : i < length ps → InLeaf leaf (first_above k ps) (Some (record { leaf = leaf; cell = i }))
    in_leaf_above h =
        subst (λ o. InLeaf leaf o (Some (record { leaf = leaf; cell = i }))) (sym (above_here k ps (omega arith)))
        (record { leaf = leaf; cell = i }, refl, refl, record { within = h; pair_is = ap (pair_at ps) e })

    in_leaf_past : length ps ≤ i → InLeaf leaf (first_above k ps) None
    in_leaf_past h = subst (λ o. InLeaf leaf o None) (sym (above_none k ps (omega arith))) refl

    above_if : (b : Bool) → (b ≡ true → i < length ps) → (b ≡ false → length ps ≤ i) → InLeaf leaf (first_above k ps) (then_some b (record { leaf = leaf; cell = i }))
    above_if true y n = in_leaf_above (y refl)
    above_if false y n = in_leaf_past (n refl)

    pub in_leaf_if : (n : ℕ) → n ≡ length ps → InLeaf leaf (first_above k ps) (then_some (ltb i n) (record { leaf = leaf; cell = i }))
    in_leaf_if n h = above_if (ltb i n) (λ t. omega (arith, ltb-true _ _ t)) (λ f. omega (arith, ltb-false _ _ f))
