use Rattle.std.proofs.Common.{refl, ap, arith}
use Rattle.page.specs.Kinds.{branch_rules}
use Rattle.page.specs.Layout.{cost}
use Rattle.page.proofs.Children.{page_parts}
use Rattle.page.proofs.branch.edits.CellPage+BranchCell.with_first.Goals as goal

pub splice-requires : goal.splice-requires
splice-requires c = record { keep = omega arith; skip = omega arith; rises = (page_parts branch_rules c.args.self.now.bytes c.args.self.now.sound).2 }

pub whole-requires : goal.whole-requires
whole-requires c =
    let p = page_parts branch_rules c.args.self.now.bytes c.args.self.now.sound in
    record { room = omega (arith, ap cost c.splice.ensures, p.0.room); leftmost = refl }
