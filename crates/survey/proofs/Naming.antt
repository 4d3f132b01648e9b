-- Which pages name a page as their child, below a bound that rises.
use Rattle.std.proofs.Common.{◌≡◌, ℕ, ◌+◌, ◌<◌, Bool, true, false, cond, ◌&&◌, eqb, List, get_or, Some, None, Ok, Err, Option, sym, refl, ap, ◌∙◌, subst, arith}
use Rattle.std.proofs.lemmas.Bool.Decides.{nat_tests}
use Rattle.device.specs.Medium.{Medium}
use Rattle.device.specs.Calls.{Reads}
use Rattle.device.specs.History.{History}
use Rattle.device.specs.Looking.{Looks}
use Rattle.device.specs.declared.fault.DeviceFault.{DeviceFault}
use Rattle.device.specs.declared.fault.DeviceFault.TheVariants.{Outside, Off}
use Rattle.device.proofs.Looking.{looks_none, looks_one, looks_more, reads_keep}
use Rattle.page.specs.Kinds.{branch_rules}
use Rattle.page.specs.Loads.{OneRead}
use Rattle.page.specs.Reading.{first_fault, sound}
use Rattle.page.specs.Views.{branch_in}
use Rattle.page.specs.declared.fault.Cause.{Cause}
use Rattle.page.proofs.Sounds.{sound_none}
use Rattle.paged.specs.Paged.{children}
use Rattle.paged.specs.Walk.{elem}
use Rattle.survey.specs.Families.{names, ParentIs, TellsParents, Adopts}
use Rattle.survey.specs.declared.parents.Parents.{Parents}
use Rattle.survey.proofs.Looks.{looks_as}
use Rattle.survey.proofs.Readings.{unsound}

-- the parents as the pages below k say
abbrev pub UpTo : (m : ℕ → List ℕ) (k : ℕ) (marks : List Bool) → List (Option ℕ) → Type 0
UpTo m k marks ps = (p : ℕ) → p < 1024 → ParentIs m k marks p (get_or ps p None)

module _ (m : ℕ → List ℕ) (k : ℕ) (marks : List Bool) where
  one_more : (p : ℕ) (o : Option ℕ) → names m marks k p ≡ false → ParentIs m k marks p o → ParentIs m (k + 1) marks p o
  one_more p (Some q) f h = (omega (arith, h.0), h.1)
  one_more p None f h = λ q l. side q l (eqb q k) refl
    where
      side : (q : ℕ) → q < k + 1 → (t : Bool) → eqb q k ≡ t → names m marks q p ≡ false
      side q l true e = let z : q ≡ k = grind (arith, nat_tests) in rw z f
      side q l false e = h q (grind (arith, nat_tests))

  pub up_past : (ps : List (Option ℕ)) → ((p : ℕ) → names m marks k p ≡ false) → UpTo m k marks ps → UpTo m (k + 1) marks ps
  up_past ps f h p l = one_more p (get_or ps p None) (f p) (h p l)

  pub unmarked : get_or marks k false ≡ false → (p : ℕ) → names m marks k p ≡ false
  unfolding names
  unmarked e p = rw e refl

  pub no_branch : sound branch_rules (m k) ≡ false → (p : ℕ) → names m marks k p ≡ false
  unfolding names
  no_branch e p = rw e (side (get_or marks k false))
    where
      side : (t : Bool) → (t && false) ≡ false
      side true = refl
      side false = refl

  pub as_elem : get_or marks k false ≡ true → sound branch_rules (m k) ≡ true → (p : ℕ) → names m marks k p ≡ elem p (children (branch_in (m k)))
  unfolding names
  as_elem e f p = rw (e, f) refl

  pub up_branch : (ps qs : List (Option ℕ)) → get_or marks k false ≡ true → sound branch_rules (m k) ≡ true
      → Adopts (children (branch_in (m k))) k ps qs → UpTo m k marks ps → UpTo m (k + 1) marks qs
  up_branch ps qs e f a h p l = subst (ParentIs m (k + 1) marks p) (sym (a p l)) (side (elem p (children (branch_in (m k)))) (as_elem e f p))
    where
      side : (t : Bool) → names m marks k p ≡ t → ParentIs m (k + 1) marks p (cond t (Some k) (get_or ps p None))
      side true q = (omega arith, q)
      side false q = one_more p (get_or ps p None) q (h p l)

-- the loop over the pages
module _ (P : History → Type 0) (m : Medium) (marks : List Bool) where
  pub up_none : (ps : List (Option ℕ)) → ((p : ℕ) → p < 1024 → get_or ps p None ≡ None) → Looks P m P m (λ _. UpTo m.bytes 0 marks ps)
  up_none ps e = looks_none _ (λ h i p l. subst (ParentIs m.bytes 0 marks p) (sym (e p l)) (λ q z. let bad : ⊥ = omega arith in absurd bad))

  module _ (Q : History → Type 0) (n : Medium) (k : ℕ) (ps : List (Option ℕ)) (go : Looks P m Q n (λ _. UpTo m.bytes k marks ps)) where
    pub go_past : get_or marks k false ≡ false → Looks P m Q n (λ _. UpTo m.bytes (k + 1) marks ps)
    go_past e = looks_as _ _ go (λ t h. up_past m.bytes k marks ps (unmarked m.bytes k marks e) h)

    module _ (R : History → Type 0) (o : Medium) (b : List ℕ) (r : OneRead Q n k b (Ok tt) R o) where
      on_read : (qs : List (Option ℕ)) → (b ≡ m.bytes k → UpTo m.bytes k marks ps → UpTo m.bytes (k + 1) marks qs) → Looks P m R o (λ _. UpTo m.bytes (k + 1) marks qs)
      on_read qs f = looks_more _ (λ _. Reads n k b (Ok tt) o) _ go (looks_one _ k b (Ok tt) r (λ _ _ s. s))
          (λ t u lt at lu au h s. f (s.2 ∙ (reads_keep m t n lt at).same_bytes k) h)

      pub go_other : (c : Cause) → first_fault branch_rules b ≡ Some c → Looks P m R o (λ _. UpTo m.bytes (k + 1) marks ps)
      go_other c e = on_read ps (λ is h. up_past m.bytes k marks ps (no_branch m.bytes k marks (ap (sound branch_rules) (sym is) ∙ unsound branch_rules b c e)) h)

      pub go_branch : (qs : List (Option ℕ)) → get_or marks k false ≡ true → first_fault branch_rules b ≡ None → Adopts (children (branch_in b)) k ps qs
          → Looks P m R o (λ _. UpTo m.bytes (k + 1) marks qs)
      go_branch qs e f a = on_read qs (λ is h.
          up_branch m.bytes k marks ps qs e (ap (sound branch_rules) (sym is) ∙ sound_none branch_rules b f)
          (subst (λ (y : List ℕ). Adopts (children (branch_in y)) k ps qs) is a) h)

    pub go_off : (R : History → Type 0) (o : Medium) (b : List ℕ) (f : DeviceFault) → k < m.size → OneRead Q n k b (Err f) R o
        → Looks P m R o (λ _. (o.on ≡ false) × (f ≡ Off))
    go_off R o b Outside l r = looks_more _ (λ _. Reads n k b (Err Outside) o) _ go (looks_one _ k b (Err Outside) r (λ _ _ s. s))
        (λ t u lt at lu au h s. let e = (reads_keep m t n lt at).same_size in let bad : ⊥ = omega (arith, s.0) in absurd bad)
    go_off R o b Off l r = looks_more _ (λ _. Reads n k b (Err Off) o) _ go (looks_one _ k b (Err Off) r (λ _ _ s. s))
        (λ t u lt at lu au h s. (s.1.is_off, refl))

    pub off_told : (R : History → Type 0) (o : Medium) (b : List ℕ) (f : DeviceFault) → k < m.size → OneRead Q n k b (Err f) R o
        → Looks P m R o (λ _. TellsParents m.bytes m.size marks o.on (Err f))
    off_told R o b f l r = go_off R o b f l r

  pub ends_told : (Q : History → Type 0) (n : Medium) (k : ℕ) (ps : Parents) → Looks P m Q n (λ _. UpTo m.bytes k marks ps.parents) → k ≡ m.size
      → Looks P m Q n (λ _. TellsParents m.bytes m.size marks n.on (Ok ps))
  ends_told Q n k ps go e = looks_as _ _ go (λ t h. subst (λ (j : ℕ). UpTo m.bytes j marks ps.parents) e h)
