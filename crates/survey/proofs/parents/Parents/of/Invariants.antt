use Rattle.device.specs.Looking.{Looks}
use Rattle.survey.proofs.Naming.{UpTo}
use Rattle.survey.proofs.parents.Parents.of.Given as goal

abbrev pub invariant-loop-page : goal.invariant-loop-page
invariant-loop-page g l =
    Looks (g.R.Reader.past l.initial.reader) (g.R.Reader.medium l.initial.reader) (g.R.Reader.past l.reader) (g.R.Reader.medium l.reader)
    (λ _. UpTo (g.R.Reader.medium l.initial.reader).bytes l.page l.marks.marked l.parents.parents)
