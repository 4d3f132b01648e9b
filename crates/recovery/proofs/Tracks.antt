-- The store and the client's record, from call to call.
use Rattle.std.proofs.Common.{◌≡◌, ℕ, Bool, true, false, ◌⊎◌, List, [], ◌∷◌, ◌++◌, Ok, Err, Result, sym, refl, ap, ◌∙◌, subst, inl, inr, ⊎_elim}
use Rattle.std.specs.List.{AllByRecursion}
use Rattle.std.proofs.ByRecursion.{All-append, All-weaker}
use Rattle.std.proofs.lemmas.Bool.{both_ways}
use Rattle.device.specs.Medium.{Medium}
use Rattle.device.specs.Calls.{Keeps, Reads, Syncs}
use Rattle.device.specs.History.{Step, step, History, Leads, did_sync, last_durable, written_by}
use Rattle.device.specs.Looking.{IsRead}
use Rattle.device.specs.declared.fault.DeviceFault.{DeviceFault}
use Rattle.device.specs.declared.fault.DeviceFault.TheVariants.{Outside, Off}
use Rattle.device.proofs.Looking.{keeps_same, keeps_more, read_keeps, leads_more}
use Rattle.meta.specs.Layout.{meta_page}
use Rattle.meta.specs.declared.Meta.{Meta}
use Rattle.walk.specs.Checking.{fits_pages}
use Rattle.store.specs.Acting.{CallsIf}
use Rattle.store.specs.Opening.{SyncsAndReads}
use Rattle.store.specs.Snapshots.{Snapshot, IsSound, model_at}
use Rattle.store.specs.Versions.{pairs_held}
use Rattle.recovery.specs.Promise.{Agrees}
use Rattle.recovery.specs.Record.{Record}
use Rattle.recovery.proofs.Safe.{Whole, Mild, Safe, mine, other, quiet_safe}

-- The calls h led from the medium `base` to the store s, and k is the record of its client.
pub record Tracks (base : Medium) (h : History) (k : Record) (s : Snapshot) : Type 0 where
  pub version : Meta
  pub safe : Safe base h k version s.medium
  pub leads : Leads base h s.medium
  pub settled : s.medium.on ≡ true → s.medium.volatile (other version) ≡ false
  pub sound : IsSound s
  pub agrees : Agrees k (model_at s)

-- two records that differ in the working map at most
pub record Alike (k k' : Record) : Type 0 where
  pub number : k'.number ≡ k.number
  pub committed : k'.committed ≡ k.committed
  pub in_doubt : k'.in_doubt ≡ k.in_doubt

pub alike_safe : (base : Medium) (h : History) (k k' : Record) (x : Meta) (m : Medium) → Alike k k' → Safe base h k x m → Safe base h k' x m
alike_safe base h k k' x m a s = record {
  room = s.room;
  whole = s.whole;
  number = s.number ∙ sym a.number;
  map = s.map ∙ sym a.committed;
  page = s.page;
  firm = s.firm;
  now = mild _ s.now;
  was = mild _ s.was;
  wrote = λ v. mild _ (s.wrote v);
}
  where
    mild : (b : List ℕ) → Mild k x m b → Mild k' x m b
    mild b f y e =
        ⊎_elim (λ l. inl l)
        (λ d. inr (record { map = d.map; in_doubt_lem = a.in_doubt ∙ d.in_doubt_lem; next = d.next; whole = d.whole; pairs = d.pairs }))
        (f y e)

-- a page that is durable now was last durable now
pub last_is : (base : Medium) (h : History) (m : Medium) (p : ℕ) → Leads base h m → m.volatile p ≡ false → last_durable base h p ≡ m.bytes p
last_is base [] m p l v = ap (λ z. z.bytes p) (sym l)
last_is base (s ∷ h) m p l v =
    let e : s.after.volatile p ≡ false = ap (λ z. z.volatile p) (sym l.0) ∙ v in
    rw e (ap (λ z. z.bytes p) (sym l.0))

-- where both meta pages are durable, what counts is what they hold now
pub settled_safe : (base : Medium) (h : History) (k : Record) (x : Meta) (m : Medium) → fits_pages m.size ≡ true → Whole m x → x.commit ≡ k.number → pairs_held m.bytes x ≡ k.committed
    → m.bytes (mine x) ≡ meta_page x → m.volatile (mine x) ≡ false → m.volatile (other x) ≡ false → Leads base h m → Mild k x m (m.bytes (other x)) → Safe base h k x m
settled_safe base h k x m room whole number map page firm durable leads now = record {
  room = room;
  whole = whole;
  number = number;
  map = map;
  page = page;
  firm = firm;
  now = now;
  was = subst (Mild k x m) (sym (last_is base h m (other x) leads durable)) now;
  wrote = λ v. absurd (both_ways (m.volatile (other x)) durable v);
}

-- calls that read or sync
sync_keeps : (m : Medium) (a : Result Unit DeviceFault) (n : Medium) → Syncs m a n → Keeps m n
sync_keeps m (Ok u) n s = s.2
sync_keeps m (Err Outside) n s = absurd s
sync_keeps m (Err Off) n s = s.1

sync_on : (m : Medium) (a : Result Unit DeviceFault) (n : Medium) → Syncs m a n → n.on ≡ true → m.on ≡ true
sync_on m (Ok u) n s e = s.0.was_on
sync_on m (Err Outside) n s e = absurd s
sync_on m (Err Off) n s e = absurd (both_ways n.on s.0.is_off e)

read_on : (m : Medium) (p : ℕ) (b : List ℕ) (a : Result Unit DeviceFault) (n : Medium) → Reads m p b a n → n.on ≡ true → m.on ≡ true
read_on m p b (Ok u) n r e = r.1.was_on
read_on m p b (Err Outside) n r e = ap (λ z. z.on) (sym r.2) ∙ e
read_on m p b (Err Off) n r e = absurd (both_ways n.on r.1.is_off e)

-- the step is a read or a sync
abbrev pub IsQuiet : Step → Type 0
IsQuiet s = IsRead s ⊎ ((a : Result Unit DeviceFault) × (s.event ≡ did_sync a) × Syncs s.before a s.after)

-- the calls of a read and of an opening are such
pub reads_quiet : (b : Bool) (t : History) → CallsIf b t (AllByRecursion IsRead t) → AllByRecursion IsQuiet t
reads_quiet true t r = All-weaker IsRead IsQuiet (λ _ i. inl i) t r
reads_quiet false t r = subst (AllByRecursion IsQuiet) (sym r) tt

pub opening_quiet : (b : Bool) (m : Medium) (t : History) → CallsIf b t (SyncsAndReads m t) → AllByRecursion IsQuiet t
opening_quiet true m t (n, a, u, e, s, r, _) =
    subst (AllByRecursion IsQuiet) (sym e) (All-append IsQuiet u (step m (did_sync a) n ∷ []) (All-weaker IsRead IsQuiet (λ _ i. inl i) u r) (inr (a, refl, s), tt))
opening_quiet false m t e = subst (AllByRecursion IsQuiet) (sym e) tt

-- what such a call keeps: the pages, and the last write to each; and that the device was on, if it still is
pub record Quiet (s : Step) : Type 0 where
  pub keeps : Keeps s.before s.after
  pub writes_none : (p : ℕ) (b : List ℕ) → written_by s.event p b ≡ b
  pub was_on : s.after.on ≡ true → s.before.on ≡ true

quiet_step : (s : Step) → IsQuiet s → Quiet s
quiet_step s q = ⊎_elim
    (λ (p, c, a, e, r). record {
      keeps = read_keeps s.before p c a s.after r;
      writes_none = λ x b. ap (λ v. written_by v x b) e;
      was_on = read_on s.before p c a s.after r;
    })
    (λ (a, e, r). record {
      keeps = sync_keeps s.before a s.after r;
      writes_none = λ x b. ap (λ v. written_by v x b) e;
      was_on = sync_on s.before a s.after r;
    })
    q

pub quiet_keeps : (m : Medium) (t : History) (n : Medium) → Leads m t n → AllByRecursion IsQuiet t → Keeps m n
quiet_keeps m [] n l a = subst (Keeps m) (sym l) (keeps_same m)
quiet_keeps m (s ∷ t) n l a = subst (Keeps m) (sym l.0) (keeps_more (quiet_keeps m t s.before l.1 a.1) (quiet_step s a.0).keeps)

pub quiet_on : (m : Medium) (t : History) (n : Medium) → Leads m t n → AllByRecursion IsQuiet t → n.on ≡ true → m.on ≡ true
quiet_on m [] n l a e = ap (λ z. z.on) (sym l) ∙ e
quiet_on m (s ∷ t) n l a e = quiet_on m t s.before l.1 a.1 ((quiet_step s a.0).was_on (ap (λ z. z.on) (sym l.0) ∙ e))

pub quiet_calls : (base : Medium) (h : History) (k : Record) (x : Meta) (m : Medium) (t : History) (n : Medium) → Leads m t n → AllByRecursion IsQuiet t → Safe base h k x m → Safe base (t ++ h) k x n
quiet_calls base h k x m [] n l a s = subst (Safe base h k x) (sym l) s
quiet_calls base h k x m (s ∷ t) n l a i =
    let q = quiet_step s a.0 in
    subst (Safe base (s ∷ (t ++ h)) k x) (sym l.0)
    (quiet_safe base (t ++ h) k x s.before s.after s.event q.keeps (q.writes_none (other x)) (quiet_calls base h k x m t s.before l.1 a.1 i))

-- from one store to the next, by such calls
pub quieted : (base : Medium) (h : History) (k k' : Record) (s z : Snapshot) (t : History) → Leads s.medium t z.medium → AllByRecursion IsQuiet t → Alike k k' → IsSound z → Agrees k' (model_at z)
    → Tracks base h k s → Tracks base (t ++ h) k' z
quieted base h k k' s z t l q alike sound agrees i = record {
  version = i.version;
  safe = alike_safe base (t ++ h) k k' i.version z.medium alike (quiet_calls base h k i.version s.medium t z.medium l q i.safe);
  leads = leads_more base s.medium z.medium h t i.leads l;
  settled = λ on. (quiet_keeps s.medium t z.medium l q).stays_durable (other i.version) (i.settled (quiet_on s.medium t z.medium l q on));
  sound = sound;
  agrees = agrees;
}
