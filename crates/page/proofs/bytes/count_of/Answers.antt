use Rattle.std.proofs.Common.{sym, ◌∙◌}
use Rattle.page.proofs.Pages.{count_of}
use Rattle.page.proofs.bytes.count_of.Goals as goal

pub returns : goal.returns
returns c = c.read16.ensures ∙ sym (count_of c.args.page.now)
