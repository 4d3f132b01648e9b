-- Insertion into a list of pairs, and deletion from it.
use Rattle.std.proofs.Common.{◌≡◌, ℕ, List, [], ◌∷◌, ◌++◌, Some, None, refl, ◌∙◌, arith}
use Rattle.std.specs.List.{AllByRecursion}
use Rattle.std.proofs.ByRecursion.{All-weaker}
use Rattle.cuts.specs.Keys.{Below}
use Rattle.cuts.specs.Nodes.{Pair}
use Rattle.cuts.proofs.Order.{less_self, less_trans, ways, less, more, same, key_tells}
use Rattle.tree.specs.Maps.{pair, compared, insert, delete, lookup, Rising}
use Rattle.tree.specs.Laws.{RisingPairsAreAMap}

-- what holds of the pairs and of the new one holds after an insertion
pub all_insert : (P : Pair → Type 0) (k v : List ℕ) (ps : List Pair) → P (pair k v) → AllByRecursion P ps → AllByRecursion P (insert k v ps)
unfolding insert
all_insert P k v [] n h = (n, tt)
all_insert P k v (p ∷ ps) n h = elim (ways k p.key)
    [ less e g ↦ rw (e) (n, h) | more e g ↦ rw (e, g) (h.0, all_insert P k v ps n h.1) | same e g s ↦ rw (e, g) (n, h.1) ]

pub insert_rising : (k v : List ℕ) (ps : List Pair) → Rising ps → Rising (insert k v ps)
unfolding insert
insert_rising k v [] r = (tt, tt)
insert_rising k v (p ∷ ps) r = elim (ways k p.key) [
  | less e g ↦ rw (e) ((e, All-weaker _ _ (λ q h. less_trans k p.key q.key e h) ps r.0), r)
  | more e g ↦ rw (e, g) (all_insert _ k v ps g r.0, insert_rising k v ps r.1)
  | same e g s ↦ rw (e, g) (rw s r.0, r.1)
]

pub lookup_insert : (k v k' : List ℕ) (ps : List Pair)
    → lookup k' (insert k v ps) ≡ compared k' k (lookup k' ps) (Some v) (lookup k' ps)
unfolding insert lookup
lookup_insert k v k' [] = grind (arith, key_tells)
lookup_insert k v k' (p ∷ ps) = let h = lookup_insert k v k' ps in grind (arith, key_tells)

pub all_delete : (P : Pair → Type 0) (k : List ℕ) (ps : List Pair) → AllByRecursion P ps → AllByRecursion P (delete k ps)
unfolding delete
all_delete P k [] h = tt
all_delete P k (p ∷ ps) h = elim (ways k p.key)
    [ less e g ↦ rw (e) h | more e g ↦ rw (e, g) (h.0, all_delete P k ps h.1) | same e g s ↦ rw (e, g) h.1 ]

pub delete_rising : (k : List ℕ) (ps : List Pair) → Rising ps → Rising (delete k ps)
unfolding delete
delete_rising k [] r = tt
delete_rising k (p ∷ ps) r = elim (ways k p.key)
    [ less e g ↦ rw (e) r | more e g ↦ rw (e, g) (all_delete _ k ps r.0, delete_rising k ps r.1) | same e g s ↦ rw (e, g) r.1 ]

pub lookup_above : (k : List ℕ) (ps : List Pair) → AllByRecursion (λ (q : Pair). Below k q.key) ps → lookup k ps ≡ None
unfolding lookup
lookup_above k [] h = refl
lookup_above k (p ∷ ps) h = let r = lookup_above k ps h.1 in grind (arith, key_tells)

pub lookup_delete : (k k' : List ℕ) (ps : List Pair) → Rising ps
    → lookup k' (delete k ps) ≡ compared k' k (lookup k' ps) None (lookup k' ps)
unfolding delete lookup
lookup_delete k k' [] r = grind (arith, key_tells)
lookup_delete k k' (p ∷ ps) r =
    let h = lookup_delete k k' ps r.1 in
    let l = lookup_above p.key ps r.0 in
    let l' : Below k p.key → lookup k ps ≡ None = λ e. lookup_above k ps (All-weaker _ _ (λ q b. less_trans k p.key q.key e b) ps r.0) in
    grind (arith, key_tells)

-- an insertion below what follows, and above what comes before
pub insert_front : (k v : List ℕ) (ys : List Pair) → AllByRecursion (λ (q : Pair). Below k q.key) ys
    → insert k v ys ≡ pair k v ∷ ys
unfolding insert
insert_front k v [] h = refl
insert_front k v (y ∷ ys) h = let e = h.0 in rw e

pub insert_left : (k v : List ℕ) (xs ys : List Pair) → AllByRecursion (λ (q : Pair). Below k q.key) ys
    → insert k v (xs ++ ys) ≡ insert k v xs ++ ys
unfolding insert
insert_left k v [] ys h = insert_front k v ys h
insert_left k v (x ∷ xs) ys h = let r = insert_left k v xs ys h in grind (arith, key_tells)

pub insert_right : (k v : List ℕ) (xs ys : List Pair) → AllByRecursion (λ (q : Pair). Below q.key k) xs
    → insert k v (xs ++ ys) ≡ xs ++ insert k v ys
unfolding insert
insert_right k v [] ys h = refl
insert_right k v (x ∷ xs) ys h = let r = insert_right k v xs ys h.1 in grind (arith, key_tells)

pub delete_front : (k : List ℕ) (ys : List Pair) → AllByRecursion (λ (q : Pair). Below k q.key) ys → delete k ys ≡ ys
unfolding delete
delete_front k [] h = refl
delete_front k (y ∷ ys) h = let e = h.0 in rw e

pub delete_left : (k : List ℕ) (xs ys : List Pair) → AllByRecursion (λ (q : Pair). Below k q.key) ys
    → delete k (xs ++ ys) ≡ delete k xs ++ ys
unfolding delete
delete_left k [] ys h = delete_front k ys h
delete_left k (x ∷ xs) ys h = let r = delete_left k xs ys h in grind (arith, key_tells)

pub delete_right : (k : List ℕ) (xs ys : List Pair) → AllByRecursion (λ (q : Pair). Below q.key k) xs
    → delete k (xs ++ ys) ≡ xs ++ delete k ys
unfolding delete
delete_right k [] ys h = refl
delete_right k (x ∷ xs) ys h = let r = delete_right k xs ys h.1 in grind (arith, key_tells)

compared_self : {X : Type 0} (k : List ℕ) (l e g : X) → compared k k l e g ≡ e
compared_self k l e g = let h = less_self k in rw h

compared_other : {X : Type 0} (k k' : List ℕ) (l e : X) → (k' ≡ k → ⊥) → compared k' k l e l ≡ l
compared_other k k' l e n = elim (ways k' k) [ less p q ↦ rw p | more p q ↦ rw (p, q) | same p q s ↦ absurd (n s) ]

pub rising_pairs_are_a_map_lem : RisingPairsAreAMap
rising_pairs_are_a_map_lem ps r k v = (
  insert_rising k v ps r,
  delete_rising k ps r,
  lookup_insert k v k ps ∙ compared_self k _ _ _,
  lookup_delete k k ps r ∙ compared_self k _ _ _,
  λ k' n. (lookup_insert k v k' ps ∙ compared_other k k' _ _ n, lookup_delete k k' ps r ∙ compared_other k k' _ _ n),
)
