use Rattle.std.proofs.Common.{◌≡◌, refl, rules, arith}
use Rattle.std.specs.Vec.{with_items}
use Rattle.disks.specs.declared.fuse.Fuse.{Fuse}
use Rattle.disks.specs.Fuses.{renewed}
use Rattle.disks.specs.Kept.{restored}
use Rattle.disks.proofs.Pages.{turned_more, all_turned, none_turned}
use Rattle.disks.proofs.Steps.{return_happens}
use Rattle.disks.proofs.disk.calls.DiskPowerCycle.power_return.Goals as goal

pub loop-page-preserved : goal.loop-page-preserved
loop-page-preserved g c =
    let l = c.loop-page in
    turned_more g.S.Stored.kept restored c.deref_mut-page-items.result.now l.page-items l.page-index c.page-item.result c.restore.new.self (omega arith) (omega arith) l.invariant c.restore.ensures.restores c.restore.ensures.same

pub returns : goal.returns
returns g c =
    let old = c.args.self.now in
    let l = c.loop-page in
    let items = (with_items old.pages l.page-items).items in
    let from = c.deref_mut-page-items.ensures.value in
    let e = all_turned g.S.Stored.kept restored old.pages c.deref_mut-page-items.result.now l.page-items l.page-index from (omega arith) (omega arith) l.invariant in
    let h = λ (k : Fuse) (n : k ≡ renewed old.fuse). return_happens g.met.S.Stored.sound old.pages.items old.fuse items k e n in record {
      meaning = search (rules, h);
      exact = record {
        restores = e;
        same = none_turned g.S.Stored.kept restored old.pages c.deref_mut-page-items.result.now l.page-items l.page-index from l.invariant;
        same_vector = (l.page-items, refl);
        renews = search rules;
      };
    }
