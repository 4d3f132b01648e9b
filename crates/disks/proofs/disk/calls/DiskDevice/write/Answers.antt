use Rattle.std.proofs.Common.{map, set, ap, ◌∙◌, rules}
use Rattle.disks.specs.Kept.{written, page_at}
use Rattle.disks.specs.Disks.{DiskWrites}
use Rattle.disks.proofs.Pages.{wrote_at}
use Rattle.disks.proofs.Steps.{inside, write_happens}
use Rattle.disks.proofs.disk.calls.DiskDevice.write.Goals as goal

pub returns-in_err-admit_at-clause-meaning : goal.returns-in_err-admit_at-clause-meaning
returns-in_err-admit_at-clause-meaning g c =
    let old = c.args.self.now in
    let new = c.admit_at.new.self in
    let x : DiskWrites old c.args.page c.args.bytes.now c.from_residual.result new = search rules in
    write_happens g.met.S.Stored.sound old.pages.items old.fuse new.pages.items new.fuse _ _ _ x.answers x.replaces x.counts

pub returns : goal.returns
returns g c =
    let a = c.in_ok-admit_at.ensures in
    let b = c.args.bytes.now in
    let p = c.args.page in
    let old = c.args.self.now in
    let new = c.admit_at.new.self in
    let l = inside g.S.Stored.kept old.pages.items p _ a.answers in
    let e = wrote_at g.S.Stored.kept g.S.Stored.at_once b new.pages.items p c.index_mut.result.now c.write.new.self (rw a.same_pages l) c.index_mut.ensures.value c.write.ensures
    ∙ ap (λ v. set (map g.S.Stored.kept v.items) p (written g.S.Stored.at_once b (page_at (map g.S.Stored.kept v.items) p))) a.same_pages in
    record {
      meaning = write_happens g.met.S.Stored.sound old.pages.items old.fuse (set new.pages.items p c.write.new.self) new.fuse _ _ _ a.answers e a.counts;
      exact = record { answers = a.answers; replaces = e; counts = a.counts };
    }
