-- What the readings of a page say of its content.
use Rattle.std.proofs.Common.{◌≡◌, ℕ, false, List, length, Some, None, refl, ap, ◌∙◌}
use Rattle.tree.specs.Trees.{branch_cost}
use Rattle.page.specs.Kinds.{Rules, leaf_rules, branch_rules}
use Rattle.page.specs.Reading.{first_fault, sound}
use Rattle.page.specs.Views.{branch_in}
use Rattle.page.specs.declared.fault.Cause.{Cause}
use Rattle.page.proofs.Sounds.{sound_none}
use Rattle.meta.specs.Test.{read_meta}
use Rattle.survey.specs.Contents.{content_of, branch_fill}
use Rattle.survey.specs.declared.contents.Content.TheVariants.{Branch, Unused}
use Rattle.survey.specs.declared.contents.Fill.{Fill}

pub unsound : (k : Rules) (b : List ℕ) (c : Cause) → first_fault k b ≡ Some c → sound k b ≡ false
unfolding sound
unsound k b c e = rw e refl

-- bytes that are no meta page, and no leaf
module _ (size at : ℕ) (b : List ℕ) (c : Cause) (m : read_meta at size b ≡ None) (l : first_fault leaf_rules b ≡ Some c) where
  pub is_branch : first_fault branch_rules b ≡ None → (bytes : List ℕ) → bytes ≡ b → (n k : ℕ) → n ≡ length (branch_in bytes).rest → k ≡ branch_cost (branch_in bytes)
      → Branch (record { cells = n; cost = k }) ≡ content_of size at b
  is_branch e bytes p n k q r =
      let filled : ◌≡◌ {A = Fill} (record { cells = n; cost = k }) (branch_fill b) =
      λ i. record { cells = (q ∙ ap (λ x. length (branch_in x).rest) p) i; cost = (r ∙ ap (λ x. branch_cost (branch_in x)) p) i } in
      rw (m, unsound leaf_rules b c l, sound_none branch_rules b e) (ap Branch filled)

  pub is_unused : (d : Cause) → first_fault branch_rules b ≡ Some d → Unused ≡ content_of size at b
  is_unused d e = rw (m, unsound leaf_rules b c l, unsound branch_rules b d e) refl
