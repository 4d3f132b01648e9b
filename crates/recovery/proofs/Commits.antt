-- A commit: until its last sync the next version is in doubt, and then it is the record's.
use Rattle.std.proofs.Common.{Bool, ◌≡◌, ℕ, ◌+◌, ◌%◌, true, false, ◌⊎◌, List, [], ◌∷◌, ◌++◌, Some, None, Ok, Err, Result, sym, refl, ap, ◌∙◌, subst, inl, inr, arith}
use Rattle.std.specs.List.{AllByRecursion}
use Rattle.cuts.specs.Nodes.{Pair}
use Rattle.std.proofs.lemmas.Bool.{both_ways}
use Rattle.device.specs.Medium.{Medium}
use Rattle.device.specs.Calls.{KeepsBut, Writes, Syncs}
use Rattle.device.specs.History.{did_write, did_sync, step, History, Leads}
use Rattle.device.specs.declared.fault.DeviceFault.{DeviceFault}
use Rattle.device.specs.declared.fault.DeviceFault.TheVariants.{Outside, Off}
use Rattle.device.proofs.Looking.{leads_more}
use Rattle.faults.specs.declared.fault.StoreFault.{StoreFault}
use Rattle.meta.specs.Layout.{meta_page}
use Rattle.meta.specs.declared.Meta.{Meta}
use Rattle.store.specs.Client.{answered}
use Rattle.store.specs.Model.{shut, idle, commits}
use Rattle.store.specs.Calls.{Obeys, SealedBy, Commits}
use Rattle.store.specs.Sealing.{page_for, ComesToLast, Seals}
use Rattle.store.specs.Snapshots.{Snapshot, snap, IsSound, model_at}
use Rattle.store.specs.Versions.{pages_held, pairs_held, Stands}
use Rattle.store.specs.declared.client.Answer.{Answer}
use Rattle.store.specs.declared.client.Answer.TheVariants.{Number}
use Rattle.store.specs.declared.state.Held.{Held}
use Rattle.store.specs.declared.state.State.{State}
use Rattle.store.specs.declared.state.State.TheVariants.{Shut, Idle, InTransaction}
use Rattle.store.specs.declared.state.Transaction.{Transaction}
use Rattle.store.proofs.Kept.{all_true, stands_keep, pairs_keep}
use Rattle.store.proofs.Commits.{same, sealed, cut_off}
use Rattle.recovery.specs.Record.{Record, record_of, no_working, committed_by, now_in_doubt, now_committed}
use Rattle.recovery.proofs.Safe.{Whole, Safe, other, doubting, write_safe, mild_before}
use Rattle.recovery.specs.Promise.{Agrees}
use Rattle.recovery.proofs.Tracks.{Tracks, settled_safe, IsQuiet, quiet_calls, quieted}
use Rattle.recovery.proofs.Models.{alike_no_working}

-- a write that at most changed its page, and left there what was written or what was there
abbrev Puts : Medium → ℕ → List ℕ → Medium → Type 0
Puts m p b n = KeepsBut p m n × ((n.bytes p ≡ b) ⊎ (n.bytes p ≡ m.bytes p))

puts : (m : Medium) (p : ℕ) (b : List ℕ) (r : Result Unit DeviceFault) (n : Medium) → Writes m p b r n → Puts m p b n
puts m p b (Ok u) n w = (w.3, inl w.2)
puts m p b (Err Outside) n w = subst (Puts m p b) (sym w.1) (record { same_size = refl; same_bytes = λ q _. refl; stays_durable = λ q _ v. v }, inr refl)
puts m p b (Err Off) n w = (w.3, w.2)

-- a version that stands is whole after a sync
abbrev Stood : Medium → Medium → Meta → Type 0
Stood m n w = Whole n w × (pairs_held n.bytes w ≡ pairs_held m.bytes w)

stood : (m n : Medium) (w : Meta) (marks : List Bool) → Stands m w marks → Syncs m (Ok tt) n → Stood m n w
stood m n w marks s y =
    let k = stands_keep m n w marks y.2 s in (
      record { good = k.stands.good; fits = k.stands.fits; tree = k.stands.tree; firm = all_true (λ p. n.volatile p ≡ false) y.1 (pages_held n.bytes w) },
      pairs_keep m n w marks k,
    )

-- the record while the map d is in doubt
abbrev pub doubtful_record : Record → List Pair → Record
doubtful_record k d = record_of k.number k.committed None (Some d)

-- The calls of a commit that makes the version w durable, where k was the record before it.
module _ (base : Medium) (h : History) (k : Record) (x w : Meta) (m : Medium) (marks : List Bool) (i : Safe base h k x m) (none : k.in_doubt ≡ None)
    (next : w.commit ≡ x.commit + 1) (stands : Stands m w marks) where
  abbrev d : List Pair
  d = pairs_held m.bytes w

  abbrev k₂ : Record
  k₂ = doubtful_record k d

  after_sync : (r : Result Unit DeviceFault) (n : Medium) → Syncs m r n → Safe base (step m (did_sync r) n ∷ h) k₂ x n
  after_sync r n s =
      doubting base (step m (did_sync r) n ∷ h) k k₂ x n d none refl refl refl
      (quiet_calls base h k x m (step m (did_sync r) n ∷ []) n (refl, refl) (inr (r, refl, s), tt) i)

  after_write : (m₁ : Medium) (r : Result Unit DeviceFault) (n : Medium) → Syncs m (Ok tt) m₁ → Writes m₁ (page_for w) (meta_page w) r n
      → Safe base (step m₁ (did_write (page_for w) (meta_page w) r) n ∷ step m (did_sync (Ok tt)) m₁ ∷ h) k₂ x n
  after_write m₁ r n s wrote =
      let f : History = step m (did_sync (Ok tt)) m₁ ∷ h in
      let e : other x ≡ page_for w = ap (λ c. c % 2) (sym next) in
      let v = stood m m₁ w marks stands s in
      subst (λ (q : ℕ). Writes m₁ q (meta_page w) r n → Safe base (step m₁ (did_write q (meta_page w) r) n ∷ f) k₂ x n) e
      (λ u. let p = puts m₁ (other x) (meta_page w) r n u in write_safe base f k₂ x w m₁ n r d p.0 p.1 next v.0 v.1 refl (after_sync (Ok tt) m₁ s))
      wrote

  after_last : (r : Result Unit DeviceFault) (n : Medium) (t : History) → ComesToLast r w m n t → Safe base (t ++ h) k₂ x n
  after_last r n t (m₁, m₂, s, wrote, last, e) =
      subst (λ (u : History). Safe base (u ++ h) k₂ x n) (sym e)
      (quiet_calls base (step m₁ (did_write (page_for w) (meta_page w) (Ok tt)) m₂ ∷ step m (did_sync (Ok tt)) m₁ ∷ h) k₂ x m₂ (step m₂ (did_sync r) n ∷ []) n (refl, refl) (inr (r, refl, last), tt) (after_write m₁ (Ok tt) m₂ s wrote))

  pub after_seal : (f : DeviceFault) (n : Medium) (t : History) → Seals w m n t (Err f) → Safe base (t ++ h) k₂ x n
  after_seal f n t (inl (s, e)) = subst (λ (u : History). Safe base (u ++ h) k₂ x n) (sym e) (after_sync (Err f) n s)
  after_seal f n t (inr (inl (m₁, s, wrote, e))) = subst (λ (u : History). Safe base (u ++ h) k₂ x n) (sym e) (after_write m₁ (Err f) n s wrote)
  after_seal f n t (inr (inr c)) = after_last (Err f) n t c

-- what a commit comes to
module _ (m : Medium) (b : Held) (z : Snapshot) (t : History) (l : Leads m t z.medium) (base : Medium) (h : History) (k : Record) where
  abbrev Goes-on : Result ℕ StoreFault → Type 0
  Goes-on r = Tracks base (t ++ h) (committed_by k (answered Number r)) z

  -- outside a transaction
  refused : (s : State) → Tracks base h k (snap m s b) → (t ≡ []) × (z.medium ≡ m) → IsSound z → Agrees (no_working k) (model_at z) → Tracks base (t ++ h) (no_working k) z
  refused s i c sound agrees = quieted base h k (no_working k) (snap m s b) z t l (subst (AllByRecursion IsQuiet) (sym c.0) tt) (alike_no_working k) sound agrees i

  module _ (v : Transaction) (i : Tracks base h k (snap m (InTransaction v) b)) where
    abbrev x : Meta
    x = i.version

    abbrev w : Meta
    w = v.working

    abbrev map : List Pair
    map = pairs_held m.bytes w

    next : w.commit ≡ x.commit + 1
    next = let a = i.sound.2 in let n = i.agrees.2 in let e = i.safe.number in omega arith

    leads : Leads base (t ++ h) z.medium
    leads = leads_more base m z.medium h t i.leads l

    done : ComesToLast (Ok tt) w m z.medium t → IsSound z → model_at z ≡ idle (v.committed.commit + 1) map → Tracks base (t ++ h) (record_of (k.number + 1) map None None) z
    done (m₁, m₂, s, wrote, last, e) sound becomes =
        let n = z.medium in
        let before = after_last base h k x w m b.working.marked i.safe i.agrees.1 next i.sound.1 (Ok tt) n t (m₁, m₂, s, wrote, last, e) in
        let c = sealed m m₁ m₂ n v.committed w b.committed.marked b.working.marked i.sound.0 i.sound.1 i.sound.2 s wrote last in
        let p = pairs_keep m n w b.working.marked (same m m₁ m₂ n v.committed w b.committed.marked b.working.marked i.sound.0 i.sound.1 i.sound.2 s wrote last) in
        let k' = record_of (k.number + 1) map None None in
        record {
          version = w;
          safe = settled_safe base (t ++ h) k' w n c.room
              (record { good = c.stands.good; fits = c.stands.fits; tree = c.stands.tree; firm = c.tree_durable })
              (next ∙ ap (λ z. z + 1) i.safe.number) p c.page c.page_durable (last.1 (other w)) leads (mild_before k' x w n next before.whole before.page);
          leads = leads;
          settled = λ _. last.1 (other w);
          sound = sound;
          agrees = subst (Agrees k') (sym becomes) (refl, refl, ap (λ z. z + 1) i.agrees.2, refl);
        }

    cut : (f : DeviceFault) → Seals w m z.medium t (Err f) → z.medium.on ≡ false → IsSound z → model_at z ≡ shut → Tracks base (t ++ h) (doubtful_record k map) z
    cut f s on sound becomes = record {
      version = x;
      safe = after_seal base h k x w m b.working.marked i.safe i.agrees.1 next i.sound.1 f z.medium t s;
      leads = leads;
      settled = λ e. absurd (both_ways z.medium.on on e);
      sound = sound;
      agrees = subst (Agrees (doubtful_record k map)) (sym becomes) refl;
    }

    sealed_goes : (r : Result ℕ StoreFault) → SealedBy w m z.medium t r → Obeys (snap m (InTransaction v) b) z (commits z.medium.on) r → Goes-on r
    sealed_goes (Ok c) s o =
        let on : z.medium.on ≡ true = s.4.0.is_on in
        let e : now_committed k k.working ≡ record_of (k.number + 1) map None None = ap (now_committed k) i.agrees.0 in
        subst (λ k. Tracks base (t ++ h) k z) (sym e) (done s o.sound (rw on at o.becomes))
    sealed_goes (Err f) (g, q, s) o =
        let c = cut_off m z.medium w t g i.safe.room s in
        let e : committed_by k (Err f) ≡ doubtful_record k map = rw (q, c.0) (ap (now_in_doubt k) i.agrees.0) in
        subst (λ k. Tracks base (t ++ h) k z) (sym e) (cut g s c.1 o.sound (rw c.1 at o.becomes))

  by_state : (s : State) (r : Result ℕ StoreFault) → Tracks base h k (snap m s b) → Commits (snap m s b) z t r → Goes-on r
  by_state Shut r i c =
      let o = c.1 i.sound in
      subst Goes-on (sym o.answers) (refused Shut i c.0 o.sound (subst (Agrees (no_working k)) (sym o.becomes) refl))
  by_state (Idle y) r i c =
      let o = c.1 i.sound in
      let g = i.agrees in
      subst Goes-on (sym o.answers) (refused (Idle y) i c.0 o.sound (subst (Agrees (no_working k)) (sym o.becomes) (refl, g.1, g.2, g.3)))
  by_state (InTransaction v) r i c = sealed_goes v i r c.0 (c.1 i.sound)

pub commit_tracks : (s z : Snapshot) (a : Result Answer StoreFault) (t : History) → Leads s.medium t z.medium → (r : Result ℕ StoreFault) × (a ≡ answered Number r) × Commits s z t r
    → (base : Medium) (h : History) (k : Record) → Tracks base h k s → Tracks base (t ++ h) (committed_by k a) z
commit_tracks s z a t l (r, q, c) base h k i = rw q (by_state s.medium s.held z t l base h k s.state r i c)
