-- What is said of a page besides what its bytes are.
use Rattle.std.specs.Prelude.{ℕ, Bool, false, cond, Some, None, Option, ◌==◌}
use Rattle.survey.specs.Families.{place_in}
use Rattle.survey.specs.declared.contents.Content.{Content}
use Rattle.survey.specs.declared.contents.Content.TheVariants.{Meta, Leaf, Branch, Unused}
use Rattle.survey.specs.declared.row.Note.{Note}
use Rattle.survey.specs.declared.row.Note.TheVariants.{Nothing, Newest, Stands}
use Rattle.survey.specs.declared.family.Tree.{Tree}

abbrev pub is_commit : Option ℕ → ℕ → Bool
is_commit None c = false
is_commit (Some n) c = n == c

-- of a leaf or a branch, where a tree is known
abbrev pub node_note : Option Tree → ℕ → Note
node_note None p = Nothing
node_note (Some t) p = Stands (place_in t p)

-- of page p with this content; `newest` is the commit number of the newest meta page
abbrev pub note_of : (newest : Option ℕ) → Option Tree → (p : ℕ) → Content → Note
note_of newest t p (Meta m) = cond (is_commit newest m.commit) Newest Nothing
note_of newest t p (Leaf f) = node_note t p
note_of newest t p (Branch f) = node_note t p
note_of newest t p Unused = Nothing
