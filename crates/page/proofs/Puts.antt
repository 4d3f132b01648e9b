-- Puts and removes in a leaf, by place.
use Rattle.std.proofs.Common.{◌≡◌, ℕ, zero, suc, ◌+◌, ◌<◌, ◌≤◌, true, false, List, [], ◌∷◌, ◌++◌, map, length, take, drop, Some, None, sym, refl, ap, ◌∙◌, add-one, arith}
use mathlib.Core.List.{map-append}
use Rattle.std.specs.List.{AllByRecursion}
use Rattle.std.proofs.lemmas.List.{take_at, drop_at, length-append}
use Rattle.std.proofs.ByRecursion.{All-weaker}
use Rattle.std.proofs.lemmas.Bool.{and_parts, and_from, le-leb, eq-eqb}
use Rattle.cuts.specs.Keys.{key<, Below, KeyFits}
use Rattle.cuts.specs.Nodes.{Pair}
use Rattle.cuts.proofs.Order.{less_self, less_trans, most_from_less, ways, less, more, same}
use Rattle.tree.specs.Maps.{pair, Rising, insert, delete}
use Rattle.page.specs.Kinds.{leaf_body, leaf_good, leaf_key, pair_of}
use Rattle.page.specs.Places.{up_to}
use Rattle.page.specs.Reading.{rising}
use Rattle.page.specs.Views.{key_of, key_at, FindsKey}
use Rattle.page.proofs.Parts.{map_take, map_drop}

-- pairs whose keys rise, and cells
first_of_all : (x : List ℕ) (xs : List (List ℕ)) → rising leaf_key (x ∷ xs) ≡ true → AllByRecursion (λ (q : Pair). Below (leaf_key x) q.key) (map pair_of xs)
unfolding rising
first_of_all x [] h = tt
first_of_all x (y ∷ xs) h =
    let p = and_parts _ _ h in
    (p.0, All-weaker _ _ (λ q b. less_trans (leaf_key x) (leaf_key y) q.key p.0 b) (map pair_of xs) (first_of_all y xs p.1))

pub rising_pairs : (xs : List (List ℕ)) → rising leaf_key xs ≡ true → Rising (map pair_of xs)
unfolding rising
rising_pairs [] h = tt
rising_pairs (x ∷ []) h = (tt, tt)
rising_pairs (x ∷ y ∷ xs) h = (first_of_all x (y ∷ xs) h, rising_pairs (y ∷ xs) (and_parts _ _ h).1)

pub rising_back : (xs : List (List ℕ)) → Rising (map pair_of xs) → rising leaf_key xs ≡ true
unfolding rising
rising_back [] h = refl
rising_back (x ∷ []) h = refl
rising_back (x ∷ y ∷ xs) h = and_from _ _ h.0.0 (rising_back (y ∷ xs) h.1)

-- a pair and its cell
pub pair_back : (p : Pair) → pair_of (leaf_body p) ≡ p
pair_back p =
    let k = take_at p.key p.value (length p.key) refl in
    let v : drop (2 + length p.key) (leaf_body p) ≡ p.value = drop_at (length p.key ∷ length p.value ∷ p.key) p.value (2 + length p.key) (omega arith) in
    ap (λ (x : List ℕ). pair x (drop (2 + length p.key) (leaf_body p))) k ∙ ap (pair p.key) v

pub good_body : (p : Pair) → KeyFits p.key → length p.value ≤ 128 → leaf_good (leaf_body p) ≡ true
good_body p k v =
    let a = k.0 in
    let b = k.1 in
    and_from _ _ (le-leb _ _ (omega arith)) (and_from _ _ (and_from _ _ (le-leb _ _ a) (le-leb _ _ b)) (and_from _ _ (le-leb _ _ v) (eq-eqb _ _ (omega (arith, length-append p.key p.value)))))

pub cells_as_pairs : (xs m : List (List ℕ)) (ps : List Pair) (keep skip : ℕ) → map pair_of m ≡ ps
    → map pair_of (take keep xs ++ (m ++ drop skip xs)) ≡ take keep (map pair_of xs) ++ (ps ++ drop skip (map pair_of xs))
cells_as_pairs xs m ps keep skip e =
    map-append pair_of (take keep xs) (m ++ drop skip xs)
    ∙ (ap (λ r. r ++ map pair_of (m ++ drop skip xs)) (map_take pair_of keep xs)
    ∙ ap (λ r. take keep (map pair_of xs) ++ r) (map-append pair_of m (drop skip xs) ∙ (ap (λ r. r ++ map pair_of (drop skip xs)) e ∙ ap (λ r. ps ++ r) (map_drop pair_of skip xs))))

-- an insertion over the pair that has the key, and among those that have not
later : (p : Pair) (ps : List Pair) (i : ℕ) → AllByRecursion (λ (q : Pair). Below p.key q.key) ps → i < length ps → Below p.key (key_at ps i)
later p [] i h l = absurd (omega arith)
later p (q ∷ ps) zero h l = h.0
later p (q ∷ ps) (suc i) h l = later p ps i h.1 (omega arith)

pub insert_old : (k v : List ℕ) (ps : List Pair) (i : ℕ) → Rising ps → i < length ps → key_at ps i ≡ k → insert k v ps ≡ take i ps ++ (pair k v ∷ drop (suc i) ps)
unfolding insert
insert_old k v [] i r h e = absurd (omega arith)
insert_old k v (p ∷ ps) zero r h e =
    let a : key< k p.key ≡ false = ap (key< k) e ∙ less_self k in
    let b : key< p.key k ≡ false = ap (λ z. key< z k) e ∙ less_self k in
    rw (a, b)
insert_old k v (p ∷ ps) (suc i) r h e =
    let b : key< p.key k ≡ true = ap (key< p.key) (sym e) ∙ later p ps i r.0 (omega arith) in
    let a : key< k p.key ≡ false = most_from_less p.key k b in
    rw (a, b) (ap (λ z. p ∷ z) (insert_old k v ps i r.1 (omega arith) e))

pub insert_new : (k v : List ℕ) (ps : List Pair) → FindsKey ps k None → insert k v ps ≡ take (up_to key_of k ps) ps ++ (pair k v ∷ drop (up_to key_of k ps) ps)
unfolding insert up_to
insert_new k v [] f = refl
insert_new k v (p ∷ ps) f = elim (ways k p.key) [
  | less a b ↦ rw a
  | more a b ↦ rw (a, b) (ap (λ z. p ∷ z) (insert_new k v ps (λ j h. f (suc j) (omega arith))))
  | same a b s ↦ absurd (f 0 (omega arith) (sym s))
]

pub delete_old : (k : List ℕ) (ps : List Pair) (i : ℕ) → Rising ps → i < length ps → key_at ps i ≡ k → delete k ps ≡ take i ps ++ drop (suc i) ps
unfolding delete
delete_old k [] i r h e = absurd (omega arith)
delete_old k (p ∷ ps) zero r h e =
    let a : key< k p.key ≡ false = ap (key< k) e ∙ less_self k in
    let b : key< p.key k ≡ false = ap (λ z. key< z k) e ∙ less_self k in
    rw (a, b)
delete_old k (p ∷ ps) (suc i) r h e =
    let b : key< p.key k ≡ true = ap (key< p.key) (sym e) ∙ later p ps i r.0 (omega arith) in
    let a : key< k p.key ≡ false = most_from_less p.key k b in
    rw (a, b) (ap (λ z. p ∷ z) (delete_old k ps i r.1 (omega arith) e))

-- the same, as code goes about it
pub put_old : (k v : List ℕ) (ps : List Pair) (i : ℕ) (q : Pair) → Rising ps → FindsKey ps k (Some i) → q ≡ pair k v → take i ps ++ (q ∷ drop (i + 1) ps) ≡ insert k v ps
put_old k v ps i q r f e =
    ap (λ (p : Pair). take i ps ++ (p ∷ drop (i + 1) ps)) e ∙ (ap (λ n. take i ps ++ (pair k v ∷ drop n ps)) (add-one i) ∙ sym (insert_old k v ps i r f.0 f.1))

pub put_new : (k v : List ℕ) (ps : List Pair) (a : ℕ) (q : Pair) → FindsKey ps k None → a ≡ up_to key_of k ps → q ≡ pair k v → take a ps ++ (q ∷ drop a ps) ≡ insert k v ps
put_new k v ps a q f ea e =
    ap (λ (p : Pair). take a ps ++ (p ∷ drop a ps)) e ∙ (ap (λ n. take n ps ++ (pair k v ∷ drop n ps)) ea ∙ sym (insert_new k v ps f))

pub remove_old : (k : List ℕ) (ps : List Pair) (i : ℕ) → Rising ps → FindsKey ps k (Some i) → take i ps ++ drop (i + 1) ps ≡ delete k ps
remove_old k ps i r f = ap (λ n. take i ps ++ drop n ps) (add-one i) ∙ sym (delete_old k ps i r f.0 f.1)
