use Rattle.std.proofs.Common.{sym, ◌∙◌, arith}
use Rattle.survey.proofs.Naming.{up_none, go_past, go_other, go_branch, ends_told, off_told}
use Rattle.survey.proofs.parents.Parents.of.Goals as goal
use Rattle.survey.proofs.parents.Parents.of.Goals.{in-Ok, in-Err-Damaged}

pub loop-page-init : goal.loop-page-init
loop-page-init g c = up_none (g.R.Reader.past c.args.reader.now) (g.R.Reader.medium c.args.reader.now) c.args.marks.now.marked c.none-parents.result.parents c.none-parents.ensures

pub loop-page-preserved-then-not-has : goal.loop-page-preserved-then-not-has
loop-page-preserved-then-not-has g c =
    go_past (g.R.Reader.past c.args.reader.now) (g.R.Reader.medium c.args.reader.now) c.args.marks.now.marked _ _ c.loop-page.page c.loop-page.parents.parents c.loop-page.invariant
    (sym c.has.ensures ∙ c.if-not-has.true)

pub returns-in-Err-Device : goal.returns-in-Err-Device
returns-in-Err-Device g c =
    let e = rw c.in-Err-Device.field-0-is at c.in-Err-Device.ensures in
    off_told (g.R.Reader.past c.args.reader.now) (g.R.Reader.medium c.args.reader.now) c.args.marks.now.marked _ _ c.loop-page.page c.loop-page.parents.parents c.loop-page.invariant
    _ _ _ _ (omega (arith, c.loop-page-test.true, c.pages-page-end.ensures)) e.1

pub loop-page-preserved : goal.loop-page-preserved
loop-page-preserved g c =
    elim c.match-load.branch [
      | in-Ok w ↦
          rw w.parents-is
          (go_branch (g.R.Reader.past c.args.reader.now) (g.R.Reader.medium c.args.reader.now) c.args.marks.now.marked _ _ c.loop-page.page c.loop-page.parents.parents c.loop-page.invariant
          _ _ w.in-Ok.branch.bytes w.in-Ok.ensures.0 w.adopt.new.self.parents (sym c.has.ensures ∙ c.if-not-has.false) w.in-Ok.ensures.1 w.adopt.ensures)
      | in-Err-Damaged w ↦
          let e = rw w.in-Err-Damaged.field-0-is at w.in-Err-Damaged.ensures in
          rw w.parents-is
          (go_other (g.R.Reader.past c.args.reader.now) (g.R.Reader.medium c.args.reader.now) c.args.marks.now.marked _ _ c.loop-page.page c.loop-page.parents.parents c.loop-page.invariant
          _ _ _ e.1 _ e.2)
    ]

pub returns : goal.returns
returns g c =
    ends_told (g.R.Reader.past c.args.reader.now) (g.R.Reader.medium c.args.reader.now) c.args.marks.now.marked _ _ c.loop-page.page c.loop-page.parents c.loop-page.invariant (omega (arith, c.loop-page-test.false, c.loop-page.auto.page-end, c.pages-page-end.ensures))
