-- In a tree whose pages are distinct, each page but the root has one parent, and the root has none.
use Rattle.std.proofs.Common.{◌≡◌, ℕ, zero, suc, ◌+◌, ◌≤◌, Bool, true, false, cond, ◌&&◌, ◌||◌, eqb, ◌≢◌, List, [], ◌∷◌, ◌++◌, map, length, sym, refl, ap, ◌∙◌, subst, zero-add, arith, length-append}
use Rattle.std.specs.List.{flat_map, list_any, AllByRecursion}
use Rattle.std.proofs.lemmas.Bool.{false≢true}
use Rattle.std.proofs.lemmas.Bool.Decides.{nat_tests}
use Rattle.paged.specs.Paged.{PagedTree, root_page, children, pages_of}
use Rattle.paged.specs.Sound.{Distinct}
use Rattle.paged.specs.Walk.{elem}
use Rattle.survey.specs.Laws.{is_parent}
use Rattle.survey.proofs.InTrees.{elem_append}

-- what holds of all pages holds of each
pub of_each : (P : ℕ → Type 0) (p : ℕ) (ps : List ℕ) → AllByRecursion P ps → elem p ps ≡ true → P p
unfolding elem
of_each P p [] h e = absurd (false≢true e)
of_each P p (q ∷ qs) h e = side (eqb p q) refl (of_each P p qs h.1) e
  where
    side : (t : Bool) → eqb p q ≡ t → (elem p qs ≡ true → P p) → (t || elem p qs) ≡ true → P p
    side true i f e = let z : p ≡ q = grind (arith, nat_tests) in subst P (sym z) h.0
    side false i f e = f e

no_more : (p : ℕ) (ps : List ℕ) → AllByRecursion (λ q. p ≢ q) ps → elem p ps ≡ false
no_more p ps h = side (elem p ps) refl
  where
    side : (t : Bool) → elem p ps ≡ t → t ≡ false
    side true e = absurd (of_each (λ q. p ≢ q) p ps h e refl)
    side false e = refl

-- how many times a page is one of these: once, where they are distinct
abbrev times : ℕ → List ℕ → ℕ
times p [] = 0
times p (q ∷ qs) = cond (eqb p q) 1 0 + times p qs

times_append : (p : ℕ) (xs ys : List ℕ) → times p (xs ++ ys) ≡ times p xs + times p ys
times_append p [] ys = sym (zero-add (times p ys))
times_append p (x ∷ xs) ys = let ih = times_append p xs ys in omega arith

once : (p : ℕ) (ps : List ℕ) → Distinct ps → times p ps ≡ cond (elem p ps) 1 0
unfolding elem
once p [] d = refl
once p (q ∷ qs) d = side (eqb p q) refl (once p qs d.1)
  where
    side : (t : Bool) → eqb p q ≡ t → times p qs ≡ cond (elem p qs) 1 0 → cond t 1 0 + times p qs ≡ cond (t || elem p qs) 1 0
    side true i h =
        let z : p ≡ q = grind (arith, nat_tests) in
        let none : elem p qs ≡ false = ap (λ x. elem x qs) z ∙ no_more q qs d.0 in
        let e : times p qs ≡ 0 = h ∙ ap (λ b. cond b 1 0) none in
        omega arith
    side false i h = zero-add (times p qs) ∙ h

-- the pages under the root
abbrev pub under : (n : ℕ) → PagedTree n → List ℕ
under zero t = []
under (suc n) t = flat_map (pages_of n) (children t.node)

pub pages_under : (n : ℕ) (t : PagedTree n) → pages_of n t ≡ root_page n t ∷ under n t
pages_under zero t = refl
pages_under (suc n) t = refl

-- the parents of page p, each as many times as p is its child
abbrev parents_of : (n : ℕ) → PagedTree n → ℕ → List ℕ
parents_of zero t p = []
parents_of (suc n) t p = flat_map (λ c. cond (eqb p (root_page n c)) (t.page ∷ parents_of n c p) (parents_of n c p)) (children t.node)

-- two tests of a child, and those of the others, sorted by test
regroup : (b a u e l : Bool) → (cond a (b || u) u || ((b && e) || l)) ≡ ((b && (a || e)) || (u || l))
regroup true a u e l = grind arith
regroup false a u e l = grind arith

module _ {X : Type 0} (root : X → ℕ) (ups : X → List ℕ) (page p : ℕ) where
  along : X → List ℕ
  along c = cond (eqb p (root c)) (page ∷ ups c) (ups c)

  -- as many parents of p as times that it is under the children
  counted : (pages : X → List ℕ) → ((x : X) → cond (eqb p (root x)) 1 0 + length (ups x) ≡ times p (pages x))
      → (xs : List X) → length (flat_map along xs) ≡ times p (flat_map pages xs)
  unfolding along
  counted pages each [] = refl
  counted pages each (x ∷ xs) =
      let one : (t : Bool) → length (cond t (page ∷ ups x) (ups x)) ≡ cond t 1 0 + length (ups x) = by in
      let l = length-append (along x) (flat_map along xs) in
      let a = times_append p (pages x) (flat_map pages xs) in
      let ih = counted pages each xs in
      let e = each x in
      let o = one (eqb p (root x)) in
      omega arith
    where
      by : (t : Bool) → length (cond t (page ∷ ups x) (ups x)) ≡ cond t 1 0 + length (ups x)
      by true = omega arith
      by false = sym (zero-add (length (ups x)))

  -- and they are the parents
  among : (q : ℕ) (f : X → Bool) → ((x : X) → elem q (ups x) ≡ f x)
      → (xs : List X) → elem q (flat_map along xs) ≡ ((eqb q page && elem p (map root xs)) || list_any f xs)
  unfolding along elem
  among q f each [] = by (eqb q page)
    where
      by : (t : Bool) → false ≡ ((t && false) || false)
      by true = refl
      by false = refl
  among q f each (x ∷ xs) =
      elem_append q (along x) (flat_map along xs) ∙ ap (λ b. elem q (along x) || b) (among q f each xs)
      ∙ by (eqb p (root x)) (elem p (map root xs)) (list_any f xs) ∙ ap (λ u. (eqb q page && elem p (map root (x ∷ xs))) || (u || list_any f xs)) (each x)
    where
      by : (a e l : Bool) → (elem q (cond a (page ∷ ups x) (ups x)) || ((eqb q page && e) || l)) ≡ ((eqb q page && (a || e)) || (elem q (ups x) || l))
      by true e l = regroup (eqb q page) true (elem q (ups x)) e l
      by false e l = regroup (eqb q page) false (elem q (ups x)) e l

counts : (n : ℕ) (t : PagedTree n) (p : ℕ) → length (parents_of n t p) ≡ times p (under n t)
unfolding along
counts zero t p = refl
counts (suc n) t p =
    counted (root_page n) (λ c. parents_of n c p) t.page p (pages_of n)
    (λ c. ap (λ k. cond (eqb p (root_page n c)) 1 0 + k) (counts n c p) ∙ ap (times p) (sym (pages_under n c))) (children t.node)

are_parents : (n : ℕ) (t : PagedTree n) (q p : ℕ) → elem q (parents_of n t p) ≡ is_parent n t q p
unfolding elem along
are_parents zero t q p = refl
are_parents (suc n) t q p =
    among (root_page n) (λ c. parents_of n c p) t.page p q (λ c. is_parent n c q p) (λ c. are_parents n c q p) (children t.node)

-- a list of one page, or of none
module _ (q : ℕ) where
  told : (ps : List ℕ) (b : Bool) → length ps ≡ cond b 1 0 → elem q ps ≡ true → b ≡ true
  unfolding elem
  told [] b l h = absurd (false≢true h)
  told (p ∷ ps) true l h = refl
  told (p ∷ ps) false l h = let bad : ⊥ = omega arith in absurd bad

  same : (ps : List ℕ) (r : ℕ) → length ps ≤ 1 → elem q ps ≡ true → elem r ps ≡ true → q ≡ r
  unfolding elem
  same [] r l h k = absurd (false≢true h)
  same (p ∷ []) r l h k = grind (arith, nat_tests)
  same (p ∷ x ∷ ps) r l h k = let bad : ⊥ = omega arith in absurd bad

some : (ps : List ℕ) (b : Bool) → length ps ≡ cond b 1 0 → b ≡ true → (q : ℕ) × (elem q ps ≡ true)
unfolding elem
some [] true l h = let bad : ⊥ = omega arith in absurd bad
some ps false l h = absurd (false≢true h)
some (p ∷ ps) true l h = (p, grind (arith, nat_tests))

module _ (n : ℕ) (t : PagedTree n) (apart : Distinct (pages_of n t)) (p : ℕ) where
  split : Distinct (root_page n t ∷ under n t)
  split = subst Distinct (pages_under n t) apart

  pub root_not_under : elem (root_page n t) (under n t) ≡ false
  root_not_under = no_more (root_page n t) (under n t) split.0

  one_or_none : length (parents_of n t p) ≡ cond (elem p (under n t)) 1 0
  one_or_none = counts n t p ∙ once p (under n t) split.1

  pub parent_if_under : elem p (under n t) ≡ true → (q : ℕ) × (is_parent n t q p ≡ true)
  parent_if_under h = let s = some (parents_of n t p) (elem p (under n t)) one_or_none h in (s.0, sym (are_parents n t s.0 p) ∙ s.1)

  pub under_if_parent : (q : ℕ) → is_parent n t q p ≡ true → elem p (under n t) ≡ true
  under_if_parent q h = told q (parents_of n t p) (elem p (under n t)) one_or_none (are_parents n t q p ∙ h)

  pub one_parent : (q r : ℕ) → is_parent n t q p ≡ true → is_parent n t r p ≡ true → q ≡ r
  one_parent q r h k =
      same q (parents_of n t p) r (few (elem p (under n t)) one_or_none) (are_parents n t q p ∙ h) (are_parents n t r p ∙ k)
    where
      few : (b : Bool) → length (parents_of n t p) ≡ cond b 1 0 → length (parents_of n t p) ≤ 1
      few true l = omega arith
      few false l = omega arith
