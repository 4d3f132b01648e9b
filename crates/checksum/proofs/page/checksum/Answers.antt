use Rattle.std.proofs.Common.{◌≡◌, length, rules}
use Rattle.checksum.proofs.Parts.{by_parts, rest}
use Rattle.checksum.proofs.page.checksum.Goals as goal

pub returns : goal.returns
returns c =
    let page = c.args.page.now in
    let l : length page ≡ 512 = search rules in
    by_parts page c.update-head.result c.update-blank.result c.update.result
    c.update-head.ensures c.update-blank.ensures (let e = rest page l in search rules)
