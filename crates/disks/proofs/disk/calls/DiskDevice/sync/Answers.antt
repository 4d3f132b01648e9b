use Rattle.std.proofs.Common.{◌≡◌, Ok, sym, refl, rules, arith}
use Rattle.std.specs.Vec.{with_items}
use Rattle.disks.specs.declared.fuse.Fuse.{Fuse}
use Rattle.disks.specs.Fuses.{lasts, counted}
use Rattle.disks.specs.Kept.{settled}
use Rattle.disks.proofs.Pages.{vec_same, turned_more, all_turned, none_turned}
use Rattle.disks.proofs.Steps.{sync_happens}
use Rattle.disks.proofs.disk.calls.DiskDevice.sync.Goals as goal

pub returns-in_err-call-clause-meaning : goal.returns-in_err-call-clause-meaning
returns-in_err-call-clause-meaning g c =
    let old = c.args.self.now in
    let h = λ (k : Fuse) (e : k ≡ counted old.fuse). sync_happens g.met.S.Stored.sound old.pages.items old.fuse old.pages.items k c.from_residual.result (search rules) (search rules) e in
    search (rules, h)

pub returns-in_err-call-clause-exact : goal.returns-in_err-call-clause-exact
returns-in_err-call-clause-exact g c =
    let old = c.args.self.now in
    record {
      answers = search rules;
      settles = search rules;
      same = λ _. refl;
      untouched = λ _. refl;
      same_vector = (old.pages.items, sym (vec_same old.pages old.pages.items refl));
      counts = search rules;
    }

pub loop-page-preserved : goal.loop-page-preserved
loop-page-preserved g c =
    let l = c.loop-page in
    turned_more g.S.Stored.kept settled c.deref_mut-page-items.result.now l.page-items l.page-index c.page-item.result c.settle.new.self (omega arith) (omega arith) l.invariant c.settle.ensures.settles c.settle.ensures.same

pub returns : goal.returns
returns g c =
    let old = c.args.self.now in
    let l = c.loop-page in
    let items = (with_items old.pages l.page-items).items in
    let from = c.deref_mut-page-items.ensures.value in
    let e = all_turned g.S.Stored.kept settled old.pages c.deref_mut-page-items.result.now l.page-items l.page-index from (omega arith) (omega arith) l.invariant in
    let h = λ (k : Fuse) (n : k ≡ counted old.fuse) (r : Ok tt ≡ lasts (counted old.fuse)). sync_happens g.met.S.Stored.sound old.pages.items old.fuse items k (Ok tt) r e n in record {
      meaning = search (rules, h);
      exact = record {
        answers = search rules;
        settles = e;
        same = none_turned g.S.Stored.kept settled old.pages c.deref_mut-page-items.result.now l.page-items l.page-index from l.invariant;
        untouched = λ q. cc;
        same_vector = (l.page-items, refl);
        counts = search rules;
      };
    }
