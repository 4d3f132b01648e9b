use Rattle.std.proofs.Common.{◌≡◌, ◌^◌, ◌<◌, true, [], ◌∷◌, ◌++◌, ap, ◌∙◌, arith}
use Rattle.cuts.specs.Keys.{KeyFits}
use Rattle.tree.specs.Trees.{branch, cell}
use Rattle.page.specs.Kinds.{branch_body, branch_good, branch_key, cell_of}
use Rattle.page.specs.Layout.{cells_of}
use Rattle.page.specs.Reading.{rising}
use Rattle.page.proofs.BranchLists.{body_good, cell_body}
use Rattle.page.proofs.BranchSteps.{node_is}
use Rattle.page.proofs.Branches.{body_small}
use Rattle.page.proofs.Costs.{cost_started}
use Rattle.page.proofs.Lengths.{tested_key}
use Rattle.page.proofs.branch.calls.CellPage+BranchCell.root.Goals as goal
use Rattle.page.proofs.branch.calls.CellPage+BranchCell.root.Goals.{After-as_slice, After-push}

fits : (c : After-as_slice) → KeyFits c.args.separator.now
fits c = tested_key c.args.separator.now c.if-not-is_key_len.ensures

body : (c : After-as_slice) → c.as_slice.result.now ≡ branch_body (cell c.args.separator.now c.args.right)
body c = c.as_slice.ensures ∙ c.branch_cell-cell.ensures

good : (c : After-as_slice) → branch_good c.as_slice.result.now ≡ true
good c = ap branch_good (body c) ∙ body_good c.args.separator.now c.args.right (fits c)

one : (c : After-push) → cells_of c.push.new.self.bytes ≡ c.as_slice.result.now ∷ []
one c = c.push.ensures.cells ∙ ap (λ xs. xs ++ c.as_slice.result.now ∷ []) c.new-draft.ensures.cells

pub push-requires : goal.push-requires
push-requires c =
    let t = (goal.at.push-requires c).After-as_slice in
    omega (arith, cost_started c.new-draft.ensures.cells, body_small c.as_slice.result.now (good t))

pub finish-requires-clause-rises : goal.finish-requires-clause-rises
unfolding rising
finish-requires-clause-rises c = ap (rising branch_key) (one (goal.at.finish-requires-clause-rises c).After-push)

pub returns : goal.returns
returns c =
    let t = goal.at.returns c in
    let s = c.args.separator.now in
    let x = c.args.right in
    let l : x < 2 ^ 32 = omega arith in (
      fits t.After-as_slice,
      node_is c.finish.result c.args.left _ (c.finish.ensures.left ∙ (c.push.ensures.left ∙ c.new-draft.ensures.left)) (c.finish.ensures.cells ∙ one t.After-push)
          ∙ ap (λ d. branch c.args.left (d ∷ [])) (ap cell_of (body t.After-as_slice) ∙ cell_body s x l),
    )
