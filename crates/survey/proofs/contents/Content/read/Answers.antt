use Rattle.std.proofs.Common.{sym}
use Rattle.survey.proofs.Readings.{is_branch, is_unused}
use Rattle.survey.proofs.contents.Content.read.Goals as goal

pub returns-in-Ok-read : goal.returns-in-Ok-read
returns-in-Ok-read c =
    is_branch c.args.pages c.args.at c.args.bytes.now c.in_default-read.field-0 (sym c.in_default.ensures) c.in_default-read.ensures c.in-Ok-read.ensures.1 c.in-Ok-read.branch.bytes c.in-Ok-read.ensures.0
    c.len-in-Ok-read.result c.cost-in-Ok-read.result c.len-in-Ok-read.ensures c.cost-in-Ok-read.ensures

pub returns : goal.returns
returns c =
    is_unused c.args.pages c.args.at c.args.bytes.now c.in_default-read.field-0 (sym c.in_default.ensures) c.in_default-read.ensures
    c.in_default-read-2.field-0 c.in_default-read-2.ensures
