-- Each call of a client: the store stays sound, and goes on as the record does.
use Rattle.std.proofs.Common.{◌≡◌, Bool, true, false, cond, ◌⊎◌, [], ◌++◌, Some, None, Ok, Err, Option, Result, vec_items, sym, refl, ◌∙◌, subst, inl, inr, ⊎_elim}
use Rattle.std.specs.List.{AllByRecursion}
use Rattle.device.specs.Medium.{Medium}
use Rattle.device.specs.History.{History, Leads}
use Rattle.faults.specs.declared.fault.StoreFault.{StoreFault}
use Rattle.search.specs.Finding.{pair_with}
use Rattle.tree.specs.Maps.{first_above}
use Rattle.walk.specs.Checking.{fits_pages}
use Rattle.store.specs.Acting.{CallsIf}
use Rattle.store.specs.Client.{Does, answered}
use Rattle.store.specs.Formatting.{FormatsTo, WritesOutFor}
use Rattle.store.specs.Model.{Model, shut, idle, active, off, begins, aborts, formatted, formats}
use Rattle.store.specs.Reading.{is_key, is_short}
use Rattle.store.specs.Snapshots.{Snapshot, IsSound, model_at}
use Rattle.store.specs.States.{can_restart}
use Rattle.store.specs.Versions.{Sound, model_of}
use Rattle.store.specs.declared.client.Answer.{Answer}
use Rattle.store.specs.declared.client.Answer.TheVariants.{Done}
use Rattle.store.specs.declared.client.Call.{Call}
use Rattle.store.specs.declared.client.Call.TheVariants.{Format, Open, Begin, Get, After, Abort, Commit, PowerReturn}
use Rattle.store.specs.declared.state.State.{State}
use Rattle.store.specs.declared.state.State.TheVariants.{Shut, Idle, InTransaction}
use Rattle.recovery.specs.Premise.{Premise}
use Rattle.recovery.specs.Promise.{AgreesIfKnown, Agrees, CommitsWell, Claim, Segment, Since, since, on_by}
use Rattle.recovery.specs.Record.{Record, answers_off, begun, aborted, formatted_by, recorded}
use Rattle.recovery.proofs.Calls.{step_tracks, read_tracks, read_well, return_tracks}
use Rattle.recovery.proofs.Commits.{commit_tracks}
use Rattle.recovery.proofs.Models.{alike_same, alike_begun, alike_aborted, begins_agrees, aborts_agrees, commits_well}
use Rattle.recovery.proofs.Opens.{ready, open_goes}
use Rattle.recovery.proofs.Starts.{starts}
use Rattle.recovery.proofs.Tracks.{Tracks, IsQuiet, quieted}

pub stays_sound : (c : Call) (s z : Snapshot) (a : Result Answer StoreFault) (t : History) → Does c s z a t → IsSound s → IsSound z
stays_sound Format s z a t d i = (d.2.2 i).sound
stays_sound Open s z a t d i = (d.2.1 (ready s.medium s.state s.held i)).sound
stays_sound Begin s z a t d i = (d.4 i).sound
stays_sound (Get key) s z a t d i = (d.4 i).sound
stays_sound (After key) s z a t d i = (d.4 i).sound
stays_sound Abort s z a t d i = (d.4 i).sound
stays_sound Commit s z a t d i = (d.2.1 i).sound
stays_sound PowerReturn s z a t d i = subst (λ v. Sound z.medium v z.held) (sym d.1) tt

-- The store s has the record k, which the device's calls w since the last format led to; where nothing is known, no more is said.
abbrev pub Follows : Since → Option Record → Snapshot → Type 0
Follows w None s = Unit {0}
Follows w (Some k) s = Tracks w.base w.calls k s

pub follows_agrees : (w : Since) (k : Option Record) (s : Snapshot) → Follows w k s → AgreesIfKnown k (model_at s)
follows_agrees w None s i = tt
follows_agrees w (Some k) s i = i.agrees

-- the calls t of the device in one call of the client
abbrev pub segment : History → Snapshot → Segment
segment t z = record { calls = t; after = z }

-- a store whose model was shut or idle refuses a format because power failed, or made no call, and its model q is as it was
abbrev Refused : History → StoreFault → (q m : Model) → Type 0
Refused t f q m = (answers_off (Err f) ≡ true) ⊎ ((t ≡ []) × (q ≡ m))

refused_by : (t : History) (f : StoreFault) (q : Model) (fits on : Bool) (W : Type 0) (m : Model) → CallsIf fits t W → Err f ≡ (formatted on fits m).answer → q ≡ (formatted on fits m).model → Refused t f q m
refused_by t f q false on W m c e g = inr (c, g)
refused_by t f q true true W m c e g = cc
refused_by t f q true false W m c e g = inl (let p : f ≡ off = cc in rw p refl)

refused : (t : History) (f : StoreFault) (q : Model) (m : Medium) (s : State) (on : Bool) (W : Type 0) → CallsIf (can_restart s m.size) t W
    → Err f ≡ (formats on (fits_pages m.size) (model_of m.bytes s)).answer → q ≡ (formats on (fits_pages m.size) (model_of m.bytes s)).model → Refused t f q (model_of m.bytes s)
refused t f q m Shut on W c e g = refused_by t f q (fits_pages m.size) on W shut c e g
refused t f q m (Idle x) on W c e g = refused_by t f q (fits_pages m.size) on W (model_of m.bytes (Idle x)) c e g
refused t f q m (InTransaction x) on W c e g = inr (c, g)

-- an accepted one leaves the store shut
formats_shut : (on fits : Bool) (s : Model) → Ok tt ≡ (formats on fits s).answer → (formats on fits s).model ≡ shut
formats_shut true true shut e = refl
formats_shut false true shut e = cc
formats_shut on false shut e = cc
formats_shut true true (idle c m) e = refl
formats_shut false true (idle c m) e = cc
formats_shut on false (idle c m) e = cc
formats_shut on fits (active c m w) e = cc

module _ (s z : Snapshot) (t : History) (l : Leads s.medium t z.medium) (sound : IsSound s) (w : Since) where
  same : (k : Option Record) → t ≡ [] → model_at z ≡ model_at s → IsSound z → Follows w k s → Follows (since w.base (t ++ w.calls)) k z
  same None e g q i = tt
  same (Some k) e g q i = quieted w.base w.calls k k s z t l (subst (AllByRecursion IsQuiet) (sym e) tt) (alike_same k) q (subst (Agrees k) (sym g) i.agrees) i

  -- a format, with its answer
  format_goes : (k : Option Record) (r : Result Unit StoreFault) → FormatsTo s z t r → (Premise w.base (t ++ w.calls) → Follows w k s) → let v = on_by Format (answered (λ _. Done) r) (segment t z) w in
      Premise v.base v.calls → Follows v (formatted_by k (answered (λ _. Done) r)) z
  format_goes k (Ok u) d i p = let o = d.2 sound in starts z d.1 o.sound (o.becomes ∙ formats_shut _ _ _ o.answers)
  format_goes k (Err f) d i p =
      let o = d.2 sound in
      ⊎_elim
      (λ e. subst (λ b. Follows (since w.base (t ++ w.calls)) (cond b None k) z) (sym e) tt)
      (λ (e, g). either (answers_off (Err f)) (same k e g o.sound (i p)))
      (refused t f (model_at z) s.medium s.state z.medium.on (WritesOutFor s.medium.size t (Err f)) d.0 o.answers o.becomes)
    where
      either : (b : Bool) → Follows (since w.base (t ++ w.calls)) k z → Follows (since w.base (t ++ w.calls)) (cond b None k) z
      either true x = tt
      either false x = x

-- no more is claimed of any call but an opening
nothing : (k : Option Record) (a : Result Answer StoreFault) (n : Medium) → Claim k Format a n
nothing None a n = tt
nothing (Some k) a n = tt

-- Where the store had the record before a call, it has it after it, and the answer is as promised.
pub each_goes : (c : Call) (s z : Snapshot) (a : Result Answer StoreFault) (t : History) → Leads s.medium t z.medium → Does c s z a t → IsSound s
    → (w : Since) (k : Option Record) → (Premise w.base (t ++ w.calls) → Follows w k s) → let v = on_by c a (segment t z) w in
    (Premise v.base v.calls → Follows v (recorded k c a) z) × (Premise w.base (t ++ w.calls) → Claim k c a z.medium)
each_goes Format s z a t l (r, e, d) q w k i =
    (subst (λ (a : Result Answer StoreFault). let v = on_by Format a (segment t z) w in Premise v.base v.calls → Follows v (formatted_by k a) z) (sym e) (format_goes s z t l q w k r d i), (λ _. nothing k a z.medium))
each_goes Open s z a t l d q w None i = ((λ _. tt), (λ _. tt))
each_goes Begin s z a t l d q w None i = ((λ _. tt), (λ _. tt))
each_goes (Get key) s z a t l d q w None i = ((λ _. tt), (λ _. tt))
each_goes (After key) s z a t l d q w None i = ((λ _. tt), (λ _. tt))
each_goes Abort s z a t l d q w None i = ((λ _. tt), (λ _. tt))
each_goes Commit s z a t l d q w None i = ((λ _. tt), (λ _. tt))
each_goes PowerReturn s z a t l d q w None i = ((λ _. tt), (λ _. tt))
each_goes Open s z a t l d q w (Some k) i = ((λ p. (open_goes s z t l w.base w.calls k (i p) a d).0), (λ p. (open_goes s z t l w.base w.calls k (i p) a d).1))
each_goes Begin s z a t l d q w (Some k) i = ((λ p. step_tracks s z a t l w.base w.calls k (i p) begins begun (alike_begun k a) (begins_agrees k) d), (λ _. tt))
each_goes (Get key) s z a t l d q w (Some k) i = ((λ p. read_tracks s z a t l w.base w.calls k (i p) (is_key (vec_items key)) (pair_with (vec_items key)) d), (λ p. read_well s z a t l w.base w.calls k (i p) (is_key (vec_items key)) (pair_with (vec_items key)) d))
each_goes (After key) s z a t l d q w (Some k) i = ((λ p. read_tracks s z a t l w.base w.calls k (i p) (is_short (vec_items key)) (first_above (vec_items key)) d), (λ p. read_well s z a t l w.base w.calls k (i p) (is_short (vec_items key)) (first_above (vec_items key)) d))
each_goes Abort s z a t l d q w (Some k) i = ((λ p. step_tracks s z a t l w.base w.calls k (i p) aborts aborted (alike_aborted k a) (aborts_agrees k) d), (λ _. tt))
each_goes Commit s z a t l d q w (Some k) i = (
  (λ p. commit_tracks s z a t l d w.base w.calls k (i p)),
  (λ p. subst (CommitsWell k) (sym d.1) (commits_well k z.medium.on (model_at s) d.0 (i p).agrees (d.2.1 (i p).sound).answers)),
)
each_goes PowerReturn s z a t l d q w (Some k) i = ((λ p. return_tracks s z a t l w.base w.calls k (i p) d p), (λ _. tt))
