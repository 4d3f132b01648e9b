-- One child after another gets its parent.
use Rattle.std.proofs.Common.{◌≡◌, ℕ, zero, suc, ◌+◌, ◌<◌, ◌≤◌, ◌≢◌, Bool, true, false, cond, ◌||◌, eqb, List, [], ◌∷◌, ◌++◌, map, length, take, get_or, set, Some, None, Option, sym, refl, ap, ◌∙◌, subst, arith}
use Rattle.std.proofs.lemmas.Bool.Decides.{nat_tests}
use Rattle.std.proofs.lemmas.List.{take_more, take_all, get_or-set_same, get_or-set_other, length-map}
use Rattle.cuts.specs.Nodes.{Cell, Branch}
use Rattle.tree.specs.Search.{child_at}
use Rattle.page.specs.Branches.{child_of}
use Rattle.paged.specs.Paged.{children}
use Rattle.paged.specs.Walk.{elem}
use Rattle.survey.specs.Families.{Adopts}

pub elem_more : (p c : ℕ) (ps : List ℕ) → elem p (ps ++ c ∷ []) ≡ (elem p ps || eqb p c)
unfolding elem
elem_more p c [] = side (eqb p c)
  where
    side : (t : Bool) → (t || false) ≡ (false || t)
    side true = refl
    side false = refl
elem_more p c (q ∷ qs) = rw (elem_more p c qs) (side (eqb p q) (elem p qs) (eqb p c))
  where
    side : (t u v : Bool) → (t || (u || v)) ≡ ((t || u) || v)
    side true u v = refl
    side false u v = refl

-- child i of a branch, as code asks for it
child_in : (x : ℕ) (cs : List (Cell ℕ)) (i : ℕ) → i ≤ length cs → get_or (x ∷ map (λ c. c.child) cs) i 0 ≡ child_at i x cs
child_in x cs zero h = refl
child_in x [] (suc i) h = let bad : ⊥ = omega arith in absurd bad
child_in x (c ∷ cs) (suc i) h = child_in c.child cs i (omega arith)

pub length_children : (b : Branch ℕ) → length (children b) ≡ suc (length b.rest)
length_children b = ap suc (length-map b.rest (λ (c : Cell ℕ). c.child))

module _ (b : Branch ℕ) (i c : ℕ) (is : Some c ≡ child_of i b) where
  within : i ≤ length b.rest
  within = grind (arith, nat_tests)

  child_is : c ≡ get_or (children b) i 0
  child_is = let e : c ≡ child_at i b.first b.rest = grind (arith, nat_tests) in e ∙ sym (child_in b.first b.rest i within)

  next : take (i + 1) (children b) ≡ take i (children b) ++ c ∷ []
  next = take_more (children b) i 0 (omega (arith, within, length_children b)) ∙ ap (λ (x : ℕ). take i (children b) ++ x ∷ []) (sym child_is)

  module _ (parent : ℕ) (before now after : List (Option ℕ)) (long : length now ≡ 1024) (e : after ≡ set now c (Some parent)) where
    pub adopt_more : Adopts (take i (children b)) parent before now → Adopts (take (i + 1) (children b)) parent before after
    adopt_more h p lp = rw (e, next, elem_more p c (take i (children b))) (side (eqb p c) refl (elem p (take i (children b))) (h p lp))
      where
        side : (t : Bool) → eqb p c ≡ t → (u : Bool) → get_or now p None ≡ cond u (Some parent) (get_or before p None)
            → get_or (set now c (Some parent)) p None ≡ cond (u || t) (Some parent) (get_or before p None)
        side true q u k =
            let z : p ≡ c = grind (arith, nat_tests) in
            let w : p < length now = omega arith in
            ap (λ j. get_or (set now j (Some parent)) p None) (sym z) ∙ get_or-set_same now p (Some parent) None w ∙ by u
          where
            by : (u : Bool) → Some parent ≡ cond (u || true) (Some parent) (get_or before p None)
            by true = refl
            by false = refl
        side false q u k =
            let z : p ≢ c = grind (arith, nat_tests) in
            get_or-set_other now c p (Some parent) None z ∙ k ∙ by u
          where
            by : (u : Bool) → cond u (Some parent) (get_or before p None) ≡ cond (u || false) (Some parent) (get_or before p None)
            by true = refl
            by false = refl

    pub adopt_last : length b.rest ≤ i → Adopts (take i (children b)) parent before now → Adopts (children b) parent before after
    adopt_last l h =
        let all : take (i + 1) (children b) ≡ children b = take_all (i + 1) (children b) (omega (arith, length_children b)) in
        subst (λ (cs : List ℕ). Adopts cs parent before after) all (adopt_more h)
