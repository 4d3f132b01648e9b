-- Each call that at most reads, and a power return: the store goes on as the record does.
use Rattle.std.proofs.Common.{Bool, List, ◌++◌, Option, Result, sym, refl, ap, ◌∙◌, subst}
use Rattle.std.specs.List.{AllByRecursion}
use Rattle.cuts.specs.Nodes.{Pair}
use Rattle.device.specs.Medium.{Medium}
use Rattle.device.specs.History.{History, Leads}
use Rattle.faults.specs.declared.fault.StoreFault.{StoreFault}
use Rattle.store.specs.Client.{Does, Steps, ReadsMap, answered}
use Rattle.store.specs.Model.{Model, Stepped}
use Rattle.store.specs.Reading.{version_of}
use Rattle.store.specs.Snapshots.{Snapshot, model_at}
use Rattle.store.specs.Versions.{Sound, model_of}
use Rattle.store.specs.declared.client.Answer.{Answer}
use Rattle.store.specs.declared.client.Answer.TheVariants.{Done}
use Rattle.store.specs.declared.client.Call.TheVariants.{PowerReturn}
use Rattle.recovery.specs.Premise.{Premise}
use Rattle.recovery.specs.Promise.{Agrees, map_read, ReadsWell}
use Rattle.recovery.specs.Record.{Record, no_working, unless_off}
use Rattle.recovery.proofs.Safe.{other, return_safe}
use Rattle.recovery.proofs.Tracks.{Tracks, Alike, alike_safe, IsQuiet, reads_quiet, quieted}
use Rattle.recovery.proofs.Models.{alike_no_working, alike_unless, reads_agrees, reads_well}

module _ (s z : Snapshot) (a : Result Answer StoreFault) (t : History) (l : Leads s.medium t z.medium) (base : Medium) (h : History) (k : Record) (i : Tracks base h k s) where
  -- a step of the model, with no call of the device
  pub step_tracks : (model : Model → Stepped Unit) (after : Record → Result Answer StoreFault → Record) → Alike k (after k a)
      → ((m : Model) → Agrees k m → Agrees (after k (answered (λ _. Done) (model m).answer)) (model m).model)
      → Steps model s z a t → Tracks base (t ++ h) (after k a) z
  step_tracks model after alike agrees (r, q, e, m, o) =
      let b = o i.sound in
      quieted base h k (after k a) s z t l (subst (AllByRecursion IsQuiet) (sym e) tt) alike b.sound
      (subst (Agrees (after k a)) (sym b.becomes)
      (subst (λ v. Agrees (after k v) (model (model_at s)).model) (sym (q ∙ ap (answered (λ _. Done)) b.answers)) (agrees (model_at s) i.agrees)))
      i

  -- a read of the map
  pub read_tracks : (fits : Bool) (want : List Pair → Option Pair) → ReadsMap fits want s z a t → Tracks base (t ++ h) (unless_off a k) z
  read_tracks fits want (r, buffer, q, reads, o) =
      let b = o i.sound in
      quieted base h k (unless_off a k) s z t l (reads_quiet _ t reads) (alike_unless k a) b.sound
      (subst (Agrees (unless_off a k)) (sym b.becomes)
      (rw q (reads_agrees s.medium.bytes (version_of s.state) r buffer k z.medium.on fits want (model_at s) i.agrees b.hands)))
      i

  pub read_well : (fits : Bool) (want : List Pair → Option Pair) → ReadsMap fits want s z a t → ReadsWell (map_read k) want a
  read_well fits want (r, buffer, q, reads, o) =
      subst (ReadsWell (map_read k) want) (sym q) (reads_well s.medium.bytes (version_of s.state) r buffer k z.medium.on fits want (model_at s) i.agrees (o i.sound).hands)

  -- a power return
  pub return_tracks : Does PowerReturn s z a t → Premise base (t ++ h) → Tracks base (t ++ h) (no_working k) z
  return_tracks (q, w, _, r, e) =
      subst (λ u. Premise base (u ++ h) → Tracks base (u ++ h) (no_working k) z) (sym e)
      (λ p. record {
        version = i.version;
        safe = alike_safe base _ k (no_working k) i.version z.medium (alike_no_working k) (return_safe base h k i.version s.medium z.medium r p.1 i.safe);
        leads = (refl, i.leads);
        settled = λ _. r.durable (other i.version);
        sound = subst (λ v. Sound z.medium v z.held) (sym w) tt;
        agrees = subst (λ v. Agrees (no_working k) (model_of z.medium.bytes v)) (sym w) refl;
      })
