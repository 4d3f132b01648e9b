-- What a page of a card is, by its bytes.
use Rattle.std.specs.Prelude.{ℕ, cond, List, length, Some, None, Option}
use Rattle.tree.specs.Trees.{leaf_cost, branch_cost}
use Rattle.page.specs.Kinds.{leaf_rules, branch_rules}
use Rattle.page.specs.Reading.{sound}
use Rattle.page.specs.Views.{pairs_in, branch_in}
use Rattle.meta.specs.Test.{read_meta}
use Rattle.meta.specs.declared.Meta.{Meta as MetaPage}
use Rattle.survey.specs.declared.contents.Content.{Content}
use Rattle.survey.specs.declared.contents.Content.TheVariants.{Meta, Leaf, Branch, Unused}
use Rattle.survey.specs.declared.contents.Fill.{Fill}

-- the cells of a leaf are its pairs, and those of a branch its separators, each with the child after it
abbrev pub leaf_fill : List ℕ → Fill
leaf_fill b = record { cells = length (pairs_in b); cost = leaf_cost (pairs_in b) }

abbrev pub branch_fill : List ℕ → Fill
branch_fill b = record { cells = length (branch_in b).rest; cost = branch_cost (branch_in b) }

-- a page that is no meta page: a leaf or a branch, if reading finds nothing wrong with it as such
abbrev pub node_in : List ℕ → Content
node_in b = cond (sound leaf_rules b) (Leaf (leaf_fill b)) (cond (sound branch_rules b) (Branch (branch_fill b)) Unused)

abbrev pub or_node : List ℕ → Option MetaPage → Content
or_node b (Some m) = Meta m
or_node b None = node_in b

-- Page `at` of a card with so many pages, whose bytes are b. Of all pages only 0 and 1 can pass the meta test.
abbrev pub content_of : (size at : ℕ) → List ℕ → Content
content_of size at b = or_node b (read_meta at size b)
