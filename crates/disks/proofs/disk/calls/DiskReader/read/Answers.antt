use Rattle.device.specs.Medium.{zeros}
use Rattle.std.proofs.Common.{Ok, map, ap, rules, arith}
use Rattle.std.proofs.lemmas.Grind.{common_steps}
use Rattle.disks.specs.Disks.{DiskReads}
use Rattle.disks.proofs.Steps.{read_happens}
use Rattle.disks.proofs.disk.calls.DiskReader.read.Goals as goal

pub returns-in_err-admit_at-clause-meaning : goal.returns-in_err-admit_at-clause-meaning
returns-in_err-admit_at-clause-meaning g c =
    let old = c.args.self.now in
    let new = c.admit_at.new.self in
    let x : DiskReads old c.args.page zeros c.from_residual.result new = search rules in
    read_happens g.met.S.Stored.sound old.pages.items old.fuse new.pages.items new.fuse _ _ _ x.admits.answers (ap (λ v. map g.S.Stored.kept v.items) x.admits.same_pages) x.admits.counts x.shows

pub returns-clause-meaning : goal.returns-clause-meaning
returns-clause-meaning g c =
    let a = c.in_ok-admit_at.ensures in
    let old = c.args.self.now in
    let new = c.admit_at.new.self in
    let x : DiskReads old c.args.page c.bytes.result.now (Ok tt) new = grind (arith, common_steps) in
    read_happens g.met.S.Stored.sound old.pages.items old.fuse new.pages.items new.fuse _ _ _ x.admits.answers (ap (λ v. map g.S.Stored.kept v.items) x.admits.same_pages) x.admits.counts x.shows
