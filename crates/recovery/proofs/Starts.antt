-- A store that was just formatted, beside a fresh record.
use Rattle.std.proofs.Common.{◌≡◌, ◌≤◌, List, [], length, None, sym, refl, ap, ◌∙◌, subst, arith}
use Rattle.std.proofs.lemmas.Bool.Decides.{nat_tests}
use Rattle.cuts.specs.Nodes.{Pair}
use Rattle.device.specs.Medium.{Medium}
use Rattle.meta.specs.Test.{read_meta}
use Rattle.meta.proofs.Judged.{zeros_not_read}
use Rattle.tree.specs.Sound.{SoundTree}
use Rattle.tree.proofs.Kept.{the_empty_tree_is_sound_lem}
use Rattle.store.specs.Formatting.{first_meta, Fresh}
use Rattle.store.specs.Model.{shut}
use Rattle.store.specs.Snapshots.{Snapshot, IsSound, model_at}
use Rattle.recovery.specs.Record.{fresh}
use Rattle.recovery.proofs.Safe.{Whole, Mild}
use Rattle.recovery.specs.Promise.{Agrees}
use Rattle.recovery.proofs.Tracks.{Tracks, settled_safe}

module _ (m : Medium) (f : Fresh m) where
  enough : 16 ≤ m.size
  enough = let r = f.room in grind (arith, nat_tests)

  at_most : m.size ≤ 1024
  at_most = let r = f.room in grind (arith, nat_tests)

  whole : Whole m (first_meta m.size)
  whole = record {
    good = record { pages = refl; low = omega arith; high = let e = enough in omega arith; some = omega arith; few = omega arith; parity = refl };
    fits = record { pages = let e = at_most in omega arith; root = omega arith; commit = omega arith; pairs = omega arith; levels = omega arith };
    tree = record {
      starts = refl;
      lies = (f.leaf, refl);
      sound = subst (λ (ps : List Pair). SoundTree (record { height = 0; root = ps })) (sym f.empty) the_empty_tree_is_sound_lem;
      apart = (tt, tt);
      inside = ((omega arith, let e = enough in omega arith), tt);
      counts = ap length f.empty;
    };
    firm = (f.durable 2, tt);
  }

  none_other : Mild fresh (first_meta m.size) m (m.bytes 1)
  none_other y e =
      let z : read_meta 1 m.size (m.bytes 1) ≡ None = ap (read_meta 1 m.size) f.second ∙ zeros_not_read 1 m.size in
      cc

pub starts : (s : Snapshot) → Fresh s.medium → IsSound s → model_at s ≡ shut → Tracks s.medium [] fresh s
starts s f sound e =
    let m = s.medium in
    record {
      version = first_meta m.size;
      safe = settled_safe m [] fresh (first_meta m.size) m f.room (whole m f) refl f.empty f.first (f.durable 0) (f.durable 1) refl (none_other m f);
      leads = refl;
      settled = λ _. f.durable 1;
      sound = sound;
      agrees = subst (Agrees fresh) (sym e) refl;
    }
