-- Each step of the model, beside what it makes of the client's record.
use Rattle.std.proofs.Common.{◌≡◌, ℕ, ◌+◌, Bool, true, false, cond, List, is_some, Some, None, Ok, Err, Option, Result, ◌==◌, sym, refl, ap, ◌∙◌, subst}
use Rattle.cuts.specs.Nodes.{Pair}
use Rattle.faults.specs.declared.fault.StoreFault.{StoreFault}
use Rattle.faults.specs.declared.fault.StoreFault.TheVariants.{LastCommit}
use Rattle.store.specs.Client.{answered}
use Rattle.store.specs.Model.{Model, shut, idle, active, Stepped, stepped, last_number, begins, aborts, commits, looked, reads}
use Rattle.store.specs.Reading.{HandsOut}
use Rattle.store.specs.declared.client.Answer.{Answer}
use Rattle.store.specs.declared.client.Answer.TheVariants.{Number, Cell, Done}
use Rattle.meta.specs.declared.Meta.{Meta}
use Rattle.recovery.specs.Promise.{Agrees, map_read, ReadsWell, CommitsWell}
use Rattle.recovery.specs.Record.{Record, working_or, no_working, answers_off, unless_off, begun, aborted}
use Rattle.recovery.proofs.Tracks.{Alike}

pub alike_same : (k : Record) → Alike k k
alike_same k = record { number = refl; committed = refl; in_doubt = refl }

pub alike_no_working : (k : Record) → Alike k (no_working k)
alike_no_working k = record { number = refl; committed = refl; in_doubt = refl }

pub alike_unless : (k : Record) (a : Result Answer StoreFault) → Alike k (unless_off a k)
alike_unless k a = by (answers_off a)
  where
    by : (b : Bool) → Alike k (cond b (no_working k) k)
    by true = alike_no_working k
    by false = alike_same k

pub alike_begun : (k : Record) (a : Result Answer StoreFault) → Alike k (begun k a)
alike_begun k (Ok Done) = record { number = refl; committed = refl; in_doubt = refl }
alike_begun k (Ok (Number c)) = alike_same k
alike_begun k (Ok (Cell c)) = alike_same k
alike_begun k (Err f) = alike_unless k (Err f)

pub alike_aborted : (k : Record) (a : Result Answer StoreFault) → Alike k (aborted k a)
alike_aborted k (Ok Done) = alike_no_working k
alike_aborted k (Ok (Number c)) = alike_same k
alike_aborted k (Ok (Cell c)) = alike_same k
alike_aborted k (Err f) = alike_unless k (Err f)

abbrev done : Result Unit StoreFault → Result Answer StoreFault
done r = answered (λ _. Done) r

pub begins_agrees : (k : Record) (s : Model) → Agrees k s → Agrees (begun k (done (begins s).answer)) (begins s).model
begins_agrees k shut a = a
begins_agrees k (idle c m) a = by (c == last_number)
  where
    by : (b : Bool) →
        let s : Stepped Unit = cond b (stepped (Err LastCommit) (idle c m)) (stepped (Ok tt) (active c m m)) in
        Agrees (begun k (done s.answer)) s.model
    by true = a
    by false = (ap Some (sym a.3), a.1, a.2, a.3)
begins_agrees k (active c m w) a = a

pub aborts_agrees : (k : Record) (s : Model) → Agrees k s → Agrees (aborted k (done (aborts s).answer)) (aborts s).model
aborts_agrees k shut a = a
aborts_agrees k (idle c m) a = a
aborts_agrees k (active c m w) a = (refl, a.1, a.2, a.3)

module _ (bytes : ℕ → List ℕ) (v : Option Meta) (r : Result ℕ StoreFault) (buffer : List ℕ) where
  looked_agrees : (k : Record) (on fits : Bool) (o : Option Pair) (s : Model) → Agrees k s → HandsOut bytes v (looked on fits o s).answer r buffer
      → Agrees (unless_off (answered Cell r) k) (looked on fits o s).model
  looked_agrees k on false o s a h = subst (λ r. Agrees (unless_off (answered Cell r) k) s) (sym h.0) a
  looked_agrees k false true o s a h = subst (λ r. (unless_off (answered Cell r) k).working ≡ None) (sym h.0) refl
  looked_agrees k true true None s a h = subst (λ r. Agrees (unless_off (answered Cell r) k) s) (sym h.0) a
  looked_agrees k true true (Some p) s a h = subst (λ r. Agrees (unless_off (answered Cell r) k) s) (sym h.1) a

  pub reads_agrees : (k : Record) (on fits : Bool) (want : List Pair → Option Pair) (s : Model) → Agrees k s → HandsOut bytes v (reads on fits want s).answer r buffer
      → Agrees (unless_off (answered Cell r) k) (reads on fits want s).model
  reads_agrees k on fits want shut a h = subst (λ r. Agrees (unless_off (answered Cell r) k) shut) (sym h.0) a
  reads_agrees k on fits want (idle c m) a h = looked_agrees k on fits (want m) (idle c m) a h
  reads_agrees k on fits want (active c m w) a h = looked_agrees k on fits (want w) (active c m w) a h

  -- what a read answers is of the record's map
  looked_well : (on fits : Bool) (map : List Pair) (want : List Pair → Option Pair) (o : Option Pair) (s : Model) → want map ≡ o → HandsOut bytes v (looked on fits o s).answer r buffer
      → ReadsWell map want (answered Cell r)
  looked_well on false map want o s e h = subst (λ r. ReadsWell map want (answered Cell r)) (sym h.0) (λ q. cc)
  looked_well false true map want o s e h = subst (λ r. ReadsWell map want (answered Cell r)) (sym h.0) (λ q. cc)
  looked_well true true map want None s e h = subst (λ r. ReadsWell map want (answered Cell r)) (sym h.0) (λ q. e)
  looked_well true true map want (Some p) s e h = subst (λ r. ReadsWell map want (answered Cell r)) (sym h.1) (ap is_some e)

  pub reads_well : (k : Record) (on fits : Bool) (want : List Pair → Option Pair) (s : Model) → Agrees k s → HandsOut bytes v (reads on fits want s).answer r buffer
      → ReadsWell (map_read k) want (answered Cell r)
  reads_well k on fits want shut a h = subst (λ r. ReadsWell (map_read k) want (answered Cell r)) (sym h.0) (λ q. cc)
  reads_well k on fits want (idle c m) a h =
      let e : map_read k ≡ m = ap (λ w. working_or w k.committed) a.0 ∙ sym a.3 in
      subst (λ x. ReadsWell x want (answered Cell r)) (sym e) (looked_well on fits m want (want m) (idle c m) refl h)
  reads_well k on fits want (active c m w) a h =
      let e : map_read k ≡ w = ap (λ w. working_or w k.committed) a.0 in
      subst (λ x. ReadsWell x want (answered Cell r)) (sym e) (looked_well on fits w want (want w) (active c m w) refl h)

-- an accepted commit has the next number
commits_number : (k : Record) (on : Bool) (s : Model) → Agrees k s → CommitsWell k (answered Number (commits on s).answer)
commits_number k on shut a = tt
commits_number k on (idle c m) a = tt
commits_number k true (active c m w) a = ap (λ n. Number (n + 1)) a.2
commits_number k false (active c m w) a = tt

pub commits_well : (k : Record) (on : Bool) (s : Model) (r : Result ℕ StoreFault) → Agrees k s → r ≡ (commits on s).answer → CommitsWell k (answered Number r)
commits_well k on s r a e = subst (λ r. CommitsWell k (answered Number r)) (sym e) (commits_number k on s a)
