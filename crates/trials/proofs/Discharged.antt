-- What a run asks of the power returns holds on a simulated disk.
use Rattle.std.proofs.Common.{◌≡◌, ℕ, Bool, true, false, cond, List, [], ◌∷◌, ◌++◌, Result, sym, ap, ◌∙◌, subst, inl, append_assoc, Ok, Err, zero, suc, replicate, refl, is_some, is_ok, Some, None, Option}
use Rattle.std.specs.Option.{option_map}
use Rattle.std.proofs.lemmas.Bool.{both_ways}
use Rattle.device.specs.Medium.{Medium, Durable}
use Rattle.device.specs.History.{Event, did_read, did_write, did_sync, power_returned, History, Leads, last_durable}
use Rattle.device.proofs.Looking.{leads_more}
use Rattle.disks.specs.Accounts.{ShowsDurable, Faithful, NeverVolatile, Accounts}
use Rattle.disks.specs.Disks.{pages_of, disk_medium, disk_past}
use Rattle.disks.specs.Kept.{blank, page_at}
use Rattle.disks.specs.declared.disk.Disk.{Disk}
use Rattle.disks.specs.declared.stored.Stored.{Ghosts}
use Rattle.faults.specs.declared.fault.StoreFault.{StoreFault}
use Rattle.recovery.specs.Premise.{MakesUpNone, Premise}
use Rattle.recovery.specs.Promise.{AgreesIfKnown, Claim, Segment, Since, since, is_formatted, Claims, Passes, calls_of, Keeps}
use Rattle.recovery.specs.Record.{Record, answers_off, recorded}
use Rattle.recovery.specs.Runs.{RunsTo}
use Rattle.recovery.specs.declared.running.Entry.{Entry}
use Rattle.recovery.proofs.Runs.{premise_before}
use Rattle.recovery.proofs.Tracks.{last_is}
use Rattle.store.specs.Snapshots.{Snapshot, snap, model_at}
use Rattle.store.specs.declared.client.Answer.{Answer}
use Rattle.store.specs.Client.{Does}
use Rattle.store.specs.declared.client.Call.{Call}
use Rattle.store.specs.declared.client.Call.TheVariants.{Format, Open, Begin, Get, After, Abort, Commit, PowerReturn}
use Rattle.store.specs.declared.store.Store.{Store}
use Rattle.store.specs.declared.state.State.{State}
use Rattle.store.specs.declared.state.Held.{Held}
use Rattle.trials.specs.Trials.{Anything, FromDurable}

passes_lead : (s : Snapshot) (cs : List Call) (bs : List (Result Answer StoreFault)) (gs : List Segment) (z : Snapshot) → Passes s cs bs gs z → Leads s.medium (calls_of gs) z.medium
passes_lead s [] [] [] z p = ap (λ (v : Snapshot). v.medium) p
passes_lead s [] [] (g ∷ gs) z p = absurd p
passes_lead s [] (b ∷ bs) gs z p = absurd p
passes_lead s (c ∷ cs) [] gs z p = absurd p
passes_lead s (c ∷ cs) (b ∷ bs) [] z p = absurd p
passes_lead s (c ∷ cs) (b ∷ bs) (g ∷ gs) z p = leads_more s.medium g.after.medium z.medium g.calls (calls_of gs) p.1 (passes_lead g.after cs bs gs z p.3)

-- an accepted format leaves a durable medium
formatted_durable : (c : Call) (a : Result Answer StoreFault) (s z : Snapshot) (t : History) → Does c s z a t → is_formatted c a ≡ true → Durable z.medium
formatted_durable Format a s z t (Ok u, e, d) f = d.1.durable
formatted_durable Format a s z t (Err x, e, d) f = let g = subst (λ v. is_ok v ≡ true) e f in cc
formatted_durable Open a s z t d f = cc
formatted_durable Begin a s z t d f = cc
formatted_durable (Get key) a s z t d f = cc
formatted_durable (After key) a s z t d f = cc
formatted_durable Abort a s z t d f = cc
formatted_durable Commit a s z t d f = cc
formatted_durable PowerReturn a s z t d f = cc

-- a call that is no accepted format lets nothing be known that was not
mapped_known : (k : Option Record) (f : Record → Record) → is_some (option_map f k) ≡ true → is_some k ≡ true
mapped_known None f e = e
mapped_known (Some k) f e = refl

still_known : (k : Option Record) (c : Call) (a : Result Answer StoreFault) → is_formatted c a ≡ false → is_some (recorded k c a) ≡ true → is_some k ≡ true
still_known k Format (Ok a) n e = cc
still_known k Format (Err f) n e = by (answers_off (Err f)) e
  where
    by : (b : Bool) → is_some (cond b None k) ≡ true → is_some k ≡ true
    by true e = cc
    by false e = e
still_known k Open a n e = mapped_known k _ e
still_known k Begin a n e = mapped_known k _ e
still_known k (Get key) a n e = mapped_known k _ e
still_known k (After key) a n e = mapped_known k _ e
still_known k Abort a n e = mapped_known k _ e
still_known k Commit a n e = mapped_known k _ e
still_known k PowerReturn a n e = mapped_known k _ e

-- What was asked holds of the calls since each accepted format, up to the end: `full` are all calls from the medium `from` on,
-- to the store z.
module _ (from : Medium) (full : History) (z : Snapshot)
    (met : (b : Medium) (t u : History) → Durable b → Leads from t b → Leads b u z.medium → u ++ t ≡ full → Premise b u) where
  pub claims_met : (s : Snapshot) (w : Since) (t : History) (k : Option Record) (cs : List Call) (bs : List (Result Answer StoreFault)) (gs : List Segment)
      → Passes s cs bs gs z → Leads from t w.base → Leads w.base w.calls s.medium → (is_some k ≡ true → Durable w.base) → calls_of gs ++ (w.calls ++ t) ≡ full
      → Claims Premise w k cs bs gs → Claims Anything w k cs bs gs
  claims_met s w t k [] [] [] p l m d e c = tt
  claims_met s w t k [] [] (g ∷ gs) p l m d e c = absurd c
  claims_met s w t k [] (a ∷ bs) gs p l m d e c = absurd c
  claims_met s w t k (x ∷ cs) [] gs p l m d e c = absurd c
  claims_met s w t k (x ∷ cs) (a ∷ bs) [] p l m d e c = absurd c
  claims_met s w t k (x ∷ cs) (a ∷ bs) (g ∷ gs) p l m d e c =
      let rest = next (is_formatted x a) (since g.after.medium []) (since w.base u) refl
      (λ f y. (
        (λ _. y.0 tt),
        claims_met g.after (since g.after.medium []) (u ++ t) (recorded k x a) cs bs gs p.3 (leads_more from w.base g.after.medium t u l leads) refl (λ _. formatted_durable x a s g.after g.calls p.0 f) split y.1,
      ))
      (λ f y. (
        (λ _. known (recorded k x a) (λ q. premise (d (still_known k x a f q))) y.0),
        claims_met g.after (since w.base u) t (recorded k x a) cs bs gs p.3 l leads (λ q. d (still_known k x a f q)) split y.1,
      ))
      (c.1, c.2) in
      ((λ _. here k d c.0), rest.0, rest.1)
    where
      u : History
      u = g.calls ++ w.calls

      leads : Leads w.base u g.after.medium
      leads = leads_more w.base s.medium g.after.medium w.calls g.calls m p.1

      -- all calls, as those up to the end of this one, and the others
      split : calls_of gs ++ (u ++ t) ≡ full
      split = ap (λ v. calls_of gs ++ v) (append_assoc g.calls w.calls t) ∙ sym (append_assoc (calls_of gs) g.calls (w.calls ++ t)) ∙ e

      premise : Durable w.base → Premise w.base u
      premise b =
          premise_before w.base (calls_of gs) u
          (met w.base t (calls_of gs ++ u) b l (leads_more w.base g.after.medium z.medium u (calls_of gs) leads (passes_lead g.after cs bs gs z p.3)) (append_assoc (calls_of gs) u t ∙ split))

      here : (k : Option Record) → (is_some k ≡ true → Durable w.base) → (Premise w.base u → Claim k x a g.after.medium) → Claim k x a g.after.medium
      here None d c = tt
      here (Some k) d c = c (premise (d refl))

      -- the store after it, as the record has it
      After : (Medium → History → Type 0) → Since → Type 0
      After asked v = (asked v.base v.calls → AgreesIfKnown (recorded k x a) (model_at g.after)) × Claims asked v (recorded k x a) cs bs gs

      known : (k' : Option Record) → (is_some k' ≡ true → Premise w.base u) → (Premise w.base u → AgreesIfKnown k' (model_at g.after)) → AgreesIfKnown k' (model_at g.after)
      known None q y = tt
      known (Some k') q y = y (q refl)

      next : (b : Bool) (v v' : Since) → is_formatted x a ≡ b → (is_formatted x a ≡ true → After Premise v → After Anything v)
          → (is_formatted x a ≡ false → After Premise v' → After Anything v') → After Premise (cond b v v') → After Anything (cond b v v')
      next true v v' e f g = f e
      next false v v' e f g = g e

-- where no page is ever volatile, none is made up
none_volatile : (base : Medium) (h : History) (m : Medium) (e : Event) (n : Medium) → Durable m → MakesUpNone base h m e n
none_volatile base h m (did_read p b r) n d = tt
none_volatile base h m (did_write p b r) n d = tt
none_volatile base h m (did_sync r) n d = tt
none_volatile base h m power_returned n d = λ p l v x e. absurd (both_ways (m.volatile p) (d p) v)

never_premise : (base : Medium) (u t : History) → NeverVolatile (u ++ t) → Premise base u
never_premise base [] t n = tt
never_premise base (s ∷ u) t n = (never_premise base u t n.0, none_volatile base u s.before s.event s.after n.1)

-- seen from a medium on the way that was durable
durable_from : (m m₀ : Medium) (t u : History) (p : ℕ) → Leads m t m₀ → m₀.volatile p ≡ false → last_durable m (u ++ t) p ≡ last_durable m₀ u p
durable_from m m₀ t [] p l d = last_is m t m₀ p l d
durable_from m m₀ t (s ∷ u) p l d = ap (λ b. cond (s.after.volatile p) b (s.after.bytes p)) (durable_from m m₀ t u p l d)

shown : (m m₀ : Medium) (t u : History) (v : Medium) (e : Event) (n : Medium) → Leads m t m₀ → Durable m₀ → ShowsDurable m (u ++ t) e n → MakesUpNone m₀ u v e n
shown m m₀ t u v (did_read p b r) n l d s = tt
shown m m₀ t u v (did_write p b r) n l d s = tt
shown m m₀ t u v (did_sync r) n l d s = tt
shown m m₀ t u v power_returned n l d s = λ p _ _ x e. inl (s p ∙ durable_from m m₀ t u p l (d p))

faithful_premise : (m m₀ : Medium) (t u : History) → Leads m t m₀ → Durable m₀ → Faithful m (u ++ t) → Premise m₀ u
faithful_premise m m₀ t [] l d f = tt
faithful_premise m m₀ t (s ∷ u) l d f = (faithful_premise m m₀ t u l d f.0, shown m m₀ t u s.before s.event s.after l d f.1)

-- of either kind of disk, from one that is durable on
met : (at_once : Bool) (durable : ℕ → List ℕ) (m m₀ n : Medium) (t u : History) → Durable m → Leads m t m₀ → Durable m₀ → Leads m₀ u n
    → Accounts at_once durable n (u ++ t) → Premise m₀ u
met true durable m m₀ n t u d l e p a = never_premise m₀ u t a
met false durable m m₀ n t u d l e p a = faithful_premise m m₀ t u l e (a m d (leads_more m m₀ n t u l p)).0

-- a run over the disk d
module _ {S : Type 0} {g : Ghosts S} (d : Disk S g) where
  kept : (e : Disk S g) (state : State) (held : Held) (cs : List Call) (bs : List (Result Answer StoreFault))
      → Keeps Premise (disk_past d) (disk_medium d) (disk_past e) (snap (disk_medium e) state held) cs bs
      → Keeps Anything (FromDurable (disk_past d) (disk_medium d)) (disk_medium d) (disk_past e) (snap (disk_medium e) state held) cs bs
  kept e state held cs bs w h (p, q) =
      let k = w h p in
      let account = λ (p : ℕ). (page_at (pages_of e) p).durable in
      let asked = λ (b : Medium) (t u : History) (x : Durable b) (l : Leads q.0 t b) (r : Leads b u (disk_medium e)) (f : u ++ t ≡ calls_of k.1 ++ h).
      met g.at_once account q.0 b (disk_medium e) t u q.1 l x r (subst (Accounts g.at_once account (disk_medium e)) (sym f) k.2) in
      (k.0, k.1, k.2, k.3, k.4, claims_met q.0 (calls_of k.1 ++ h) (snap (disk_medium e) state held) asked k.0 (since (disk_medium d) []) h None cs bs k.1 k.4 q.2 k.3.medium (λ x. cc) refl k.5)

  pub discharged : (before after : List Entry) (z : Store (Disk S g)) → RunsTo disk_past disk_medium Premise (disk_past d) d before after z
      → RunsTo disk_past disk_medium Anything (FromDurable (disk_past d) (disk_medium d)) d before after z
  discharged before after z (bs, e, w) = (bs, e, kept z.device z.state z.held _ bs w)

-- a blank page is durable
pub blank_durable : (n p : ℕ) → (page_at (replicate n blank) p).volatile ≡ false
blank_durable zero p = refl
blank_durable (suc n) zero = refl
blank_durable (suc n) (suc p) = blank_durable n p
