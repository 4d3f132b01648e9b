-- The pairs of a tree, through every edit.
use Rattle.std.proofs.Common.{◌≡◌, ℕ, zero, suc, Bool, true, false, cond, ◌||◌, leb, List, [], ◌∷◌, ◌++◌, sym, refl, ap, ◌∙◌, append_assoc}
use Rattle.std.specs.List.{flat_map, AllByRecursion}
use Rattle.std.proofs.lemmas.List.{append-nil, take-append-drop}
use Rattle.std.proofs.ByRecursion.{All-append, All-weaker}
use Rattle.cuts.specs.Keys.{key<, Below, AtMost}
use Rattle.cuts.specs.Nodes.{Pair, Cell, Branch}
use Rattle.cuts.specs.Sizes.{usable}
use Rattle.cuts.proofs.Order.{less_self, less_most, most_from_less, most_trans}
use Rattle.tree.specs.Maps.{insert, delete, Rising}
use Rattle.tree.specs.Trees.{Tree, cost, underfull, across, pairs, pairs_of}
use Rattle.tree.specs.Edits.{Grown, one, two, cut, give_up, fit, merge, join, in_place, prepend, place, placed, mend, mended, edit, give_way, rooted}
use Rattle.tree.specs.Sound.{Bound, none, before, Under, Within}
use Rattle.tree.specs.Laws.{PutsInsertAndRemovesDelete, TreesAreMaps}
use Rattle.tree.proofs.Insertion.{insert_left, insert_right, delete_left, delete_right}
use Rattle.tree.proofs.Strict.{under_trans, Ranges, Ordered, ordered}

-- the pairs of what an edit leaves
abbrev pub grown : {X : Type 0} → (X → List Pair) → Grown X → List Pair
grown f (one x) = f x
grown f (two l s r) = f l ++ f r

-- an edit of a list of pairs that bears on one key alone
pub record Local (e : List Pair → List Pair) (k : List ℕ) : Type 0 where
  pub left : (xs ys : List Pair) → AllByRecursion (λ (q : Pair). Below k q.key) ys → e (xs ++ ys) ≡ e xs ++ ys
  pub right : (xs ys : List Pair) → AllByRecursion (λ (q : Pair). Below q.key k) xs → e (xs ++ ys) ≡ xs ++ e ys

pub insert_local : (k v : List ℕ) → Local (insert k v) k
insert_local k v = record { left = insert_left k v; right = insert_right k v }

pub delete_local : (k : List ℕ) → Local (delete k) k
delete_local k = record { left = delete_left k; right = delete_right k }

module _ {X : Type 0} (f : X → List Pair) where
  pub joined_append : (bs cs : List (Cell X))
      → flat_map (λ c. f c.child) (bs ++ cs) ≡ flat_map (λ c. f c.child) bs ++ flat_map (λ c. f c.child) cs
  joined_append [] cs = refl
  joined_append (b ∷ bs) cs = let r = joined_append bs cs in rw r (sym (append_assoc (f b.child) _ _))

  pub across_append : (x : X) (bs : List (Cell X)) (c : Cell X) (cs : List (Cell X))
      → across f x (bs ++ c ∷ cs) ≡ across f x bs ++ across f c.child cs
  across_append x bs c cs = rw (joined_append bs (c ∷ cs)) (sym (append_assoc (f x) _ _))

  pub in_place_pairs : (g : Grown X) (cs : List (Cell X))
      → across f (in_place g cs).first (in_place g cs).rest ≡ grown f g ++ flat_map (λ c. f c.child) cs
  in_place_pairs (one x) cs = refl
  in_place_pairs (two l s r) cs = sym (append_assoc (f l) (f r) _)

  pub give_up_pairs : (x : X) (bs cs : List (Cell X))
      → grown (λ (b : Branch X). across f b.first b.rest) (give_up x bs cs) ≡ across f x (bs ++ cs)
  give_up_pairs x bs [] = rw append-nil
  give_up_pairs x bs (c ∷ cs) = sym (across_append x bs c cs)

  pub mend_pairs : (under : X → Bool) (j : X → List ℕ → X → Grown X)
      → ((l : X) (s : List ℕ) (r : X) → grown f (j l s r) ≡ f l ++ f r)
      → (x : X) (cs : List (Cell X)) → across f (mend under j x cs).first (mend under j x cs).rest ≡ across f x cs
  unfolding mend
  mend_pairs under j h x [] = refl
  mend_pairs under j h x (c ∷ cs) =
      elim (under x || under c.child) as
      (λ t. let b = cond t (in_place (j x c.separator c.child) cs) (prepend x c.separator (mend under j c.child cs)) in across f b.first b.rest ≡ across f x (c ∷ cs)) [
        | true ↦ in_place_pairs (j x c.separator c.child) cs ∙ (ap (λ (l : List Pair). l ++ flat_map (λ c. f c.child) cs) (h x c.separator c.child) ∙ append_assoc (f x) (f c.child) _)
        | false ↦ ap (λ (l : List Pair). f x ++ l) (mend_pairs under j h c.child cs)
      ]

pub merge_pairs : (n : ℕ) (l : Tree n) (s : List ℕ) (r : Tree n) → pairs n (merge n l s r) ≡ pairs n l ++ pairs n r
merge_pairs zero l s r = refl
merge_pairs (suc n) l s r = across_append (pairs n) l.first l.rest _ r.rest

pub cut_pairs : (n : ℕ) (t : Tree n) → grown (pairs n) (cut n t) ≡ pairs n t
cut_pairs zero t = take-append-drop _ t
cut_pairs (suc n) t = give_up_pairs (pairs n) t.first _ _ ∙ ap (across (pairs n) t.first) (take-append-drop _ t.rest)

pub fit_pairs : (n : ℕ) (t : Tree n) → grown (pairs n) (fit (cost n) (cut n) t) ≡ pairs n t
unfolding fit
fit_pairs n t =
    elim (leb (cost n t) usable) as (λ b. grown (pairs n) (cond b (one t) (cut n t)) ≡ pairs n t) [ true ↦ refl | false ↦ cut_pairs n t ]

pub join_pairs : (n : ℕ) (l : Tree n) (s : List ℕ) (r : Tree n)
    → grown (pairs n) (join n l s r) ≡ pairs n l ++ pairs n r
join_pairs n l s r = fit_pairs n (merge n l s r) ∙ merge_pairs n l s r

-- Where the pairs lie.
pub within_wide : (lo lo' : List ℕ) (hi hi' : Bound) → AtMost lo' lo → ((a : List ℕ) → Under a hi → Under a hi')
    → (ps : List Pair) → Within lo hi ps → Within lo' hi' ps
within_wide lo lo' hi hi' p q ps h = All-weaker _ _ (λ x b. (most_trans lo' lo x.key p b.0, q x.key b.1)) ps h

module _ {X : Type 0} (S : List ℕ → Bound → X → Type 0) (f : X → List Pair) (in' : (lo : List ℕ) (hi : Bound) (x : X) → S lo hi x → Within lo hi (f x)) where
  pub ranges_within : (lo : List ℕ) (hi : Bound) (x : X) (cs : List (Cell X)) → Ranges S lo hi x cs
      → Within lo hi (across f x cs)
  ranges_within lo hi x [] h = All-append _ (f x) [] (in' lo hi x h.0) tt
  ranges_within lo hi x (c ∷ cs) h =
      All-append _ (f x) _
      (within_wide lo lo (before c.separator) hi (less_self lo) (λ a u. under_trans a c.separator hi u h.1.1) (f x) (in' lo (before c.separator) x h.0))
      (within_wide c.separator lo hi hi (most_from_less lo c.separator h.1.0) (λ a u. u) _ (ranges_within c.separator hi c.child cs (h.1.2, h.1.3)))

  pub place_pairs : (e : List Pair → List Pair) (k : List ℕ) → Local e k → (g : X → Grown X)
      → ((lo : List ℕ) (hi : Bound) (x : X) → S lo hi x → grown f (g x) ≡ e (f x))
      → (lo : List ℕ) (hi : Bound) (x : X) (cs : List (Cell X)) → Ranges S lo hi x cs
      → across f (place g k x cs).first (place g k x cs).rest ≡ e (across f x cs)
  unfolding place
  place_pairs e k loc g ge lo hi x [] h =
      in_place_pairs f (g x) [] ∙ (append-nil _ ∙ (ge lo hi x h.0 ∙ ap e (sym (append-nil (f x)))))
  place_pairs e k loc g ge lo hi x (c ∷ cs) h =
      by (key< k c.separator) refl (place_pairs e k loc g ge c.separator hi c.child cs (h.1.2, h.1.3))
    where
      by : (t : Bool) → key< k c.separator ≡ t
          → across f (place g k c.child cs).first (place g k c.child cs).rest ≡ e (across f c.child cs)
          → let b = cond t (in_place (g x) (c ∷ cs)) (prepend x c.separator (place g k c.child cs)) in across f b.first b.rest ≡ e (across f x (c ∷ cs))
      by true t r =
          in_place_pairs f (g x) (c ∷ cs) ∙ (ap (λ (l : List Pair). l ++ across f c.child cs) (ge lo (before c.separator) x h.0)
          ∙ sym (loc.left (f x) (across f c.child cs) (All-weaker _ _ (λ q b. less_most k c.separator q.key t b.0) _ (ranges_within c.separator hi c.child cs (h.1.2, h.1.3)))))
      by false t r = ap (λ (l : List Pair). f x ++ l) r
          ∙ sym (loc.right (f x) (across f c.child cs) (All-weaker _ _ (λ q b. less_most q.key c.separator k b.1 t) _ (in' lo (before c.separator) x h.0)))

pub within : (n : ℕ) (lo : List ℕ) (hi : Bound) (t : Tree n) → Ordered n lo hi t → Within lo hi (pairs n t)
within zero lo hi t h = h.1
within (suc n) lo hi t h = ranges_within (Ordered n) (pairs n) (within n) lo hi t.first t.rest h

-- an edit of the tree is the edit of its pairs
pub edit_pairs : (e : List Pair → List Pair) (k : List ℕ) → Local e k
    → (n : ℕ) (lo : List ℕ) (hi : Bound) (t : Tree n) → Ordered n lo hi t
    → grown (pairs n) (edit e k n t) ≡ e (pairs n t)
unfolding edit
edit_pairs e k loc zero lo hi t h = fit_pairs zero (e t)
edit_pairs e k loc (suc n) lo hi t h =
    fit_pairs (suc n) (mended (underfull n) (join n) (placed (edit e k n) k t))
    ∙ (mend_pairs (pairs n) (underfull n) (join n) (join_pairs n) _ _
    ∙ place_pairs (Ordered n) (pairs n) (within n) e k loc (edit e k n) (edit_pairs e k loc n) lo hi t.first t.rest h)

give_way_pairs : (n : ℕ) (x : Tree n) (cs : List (Cell (Tree n))) → pairs_of (give_way n x cs) ≡ across (pairs n) x cs
give_way_pairs n x [] = sym (append-nil _)
give_way_pairs n x (c ∷ cs) = refl

pub rooted_pairs : (n : ℕ) (g : Grown (Tree n)) → pairs_of (rooted n g) ≡ grown (pairs n) g
rooted_pairs zero (one t) = refl
rooted_pairs (suc n) (one t) = give_way_pairs n t.first t.rest
rooted_pairs n (two l s r) = ap (λ (x : List Pair). pairs n l ++ x) (append-nil (pairs n r))

-- the pairs rise
pub rising_append : (xs ys : List Pair) → Rising xs → Rising ys
    → AllByRecursion (λ (p : Pair). AllByRecursion (λ (q : Pair). Below p.key q.key) ys) xs → Rising (xs ++ ys)
rising_append [] ys h k a = k
rising_append (x ∷ xs) ys h k a = (All-append _ xs ys h.0 a.0, rising_append xs ys h.1 k a.1)

pub across_rising : (n : ℕ) → ((lo : List ℕ) (hi : Bound) (t : Tree n) → Ordered n lo hi t → Rising (pairs n t))
    → (lo : List ℕ) (hi : Bound) (x : Tree n) (cs : List (Cell (Tree n))) → Ranges (Ordered n) lo hi x cs
    → Rising (across (pairs n) x cs)
across_rising n f lo hi x [] h = rw append-nil (f lo hi x h.0)
across_rising n f lo hi x (c ∷ cs) h =
    let r = across_rising n f c.separator hi c.child cs (h.1.2, h.1.3) in
    let w = ranges_within (Ordered n) (pairs n) (within n) c.separator hi c.child cs (h.1.2, h.1.3) in
    rising_append (pairs n x) _ (f lo (before c.separator) x h.0) r
    (All-weaker _ _ (λ p b. All-weaker _ _ (λ q d. less_most p.key c.separator q.key b.1 d.0) _ w) (pairs n x) (within n lo (before c.separator) x h.0))

pub pairs_rising : (n : ℕ) (lo : List ℕ) (hi : Bound) (t : Tree n) → Ordered n lo hi t → Rising (pairs n t)
pairs_rising zero lo hi t h = h.0
pairs_rising (suc n) lo hi t h = across_rising n (pairs_rising n) lo hi t.first t.rest h

pub puts_insert_and_removes_delete_lem : PutsInsertAndRemovesDelete
puts_insert_and_removes_delete_lem b h k v = (
  rooted_pairs b.height _ ∙ edit_pairs (insert k v) k (insert_local k v) b.height [] none b.root (ordered b h),
  rooted_pairs b.height _ ∙ edit_pairs (delete k) k (delete_local k) b.height [] none b.root (ordered b h),
)

pub trees_are_maps_lem : TreesAreMaps
trees_are_maps_lem b h = pairs_rising b.height [] none b.root (ordered b h)
