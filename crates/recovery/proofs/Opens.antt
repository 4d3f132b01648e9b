-- An opening: what it finds is the record's commit, or the one in doubt.
use Rattle.std.proofs.Common.{is_some, ◌≡◌, ℕ, ◌+◌, ◌%◌, ◌<◌, true, false, ◌⊎◌, List, ◌++◌, Some, None, Ok, Err, Result, ◌==◌, sym, refl, ap, ◌∙◌, subst, inl, inr, arith, ⊎_elim}
use Rattle.std.specs.List.{AllByRecursion}
use Rattle.std.proofs.lemmas.Bool.{both_ways, cases_Bool, eq-eqb, ne_eqb}
use Rattle.store.specs.declared.state.Held.{Held}
use Rattle.store.specs.declared.state.State.{State}
use Rattle.store.specs.declared.state.State.TheVariants.{Shut, Idle, InTransaction}
use Rattle.cuts.specs.Nodes.{Pair}
use Rattle.device.specs.Medium.{Medium}
use Rattle.device.specs.Calls.{Keeps}
use Rattle.device.specs.History.{History, Leads}
use Rattle.device.proofs.Looking.{same_pages, leads_more}
use Rattle.faults.specs.declared.fault.StoreFault.{StoreFault}
use Rattle.meta.specs.Test.{read_meta}
use Rattle.meta.specs.declared.Meta.{Meta}
use Rattle.paged.specs.Paged.{as_tree}
use Rattle.paged.proofs.Exactly.{walks_accept_sound_trees_lem}
use Rattle.tree.specs.Maps.{Rising}
use Rattle.tree.proofs.Flat.{trees_are_maps_lem}
use Rattle.walk.specs.Checking.{fits_pages, newest_in, holding, held_by, found_on}
use Rattle.faults.specs.declared.fault.StoreFault.TheVariants.{InTransaction as IsInTransaction}
use Rattle.store.specs.Client.{answered}
use Rattle.store.specs.Model.{Model, shut, idle, active, Stepped, off, opened, opens}
use Rattle.store.specs.Opening.{map_in, map_on, Ready, Opens}
use Rattle.store.specs.Snapshots.{Snapshot, IsSound, model_at}
use Rattle.store.specs.Versions.{height_of, tree_of, pairs_held, Sound}
use Rattle.store.specs.declared.client.Answer.{Answer}
use Rattle.store.specs.declared.client.Answer.TheVariants.{Number}
use Rattle.store.proofs.Found.{read_tells}
use Rattle.recovery.specs.Promise.{Agrees, Finds, OpensOrIsOff, Unless}
use Rattle.recovery.specs.Record.{Record, record_of, no_working, no_doubt, opened_by}
use Rattle.recovery.proofs.Safe.{Whole, Doubt, Safe, mine, other, Newest, itself, doubtful, newest_of, mild_before}
use Rattle.recovery.proofs.Tracks.{Tracks, settled_safe, IsQuiet, opening_quiet, quiet_keeps, quiet_on, quiet_calls, quieted}
use Rattle.recovery.proofs.Models.{alike_same, alike_no_working}

-- what an opening finds on a medium with this version
module _ (n : Medium) (x : Meta) (room : fits_pages n.size ≡ true) (newest : newest_in n.bytes n.size ≡ Some x) (w : Whole n x) where
  pub found : found_on n.bytes n.size true ≡ Ok (record { meta = x; tree = tree_of n.bytes x })
  found =
      let walk = (walks_accept_sound_trees_lem n.bytes n.size (height_of x) x.root x.pairs w.good.low w.good.high (tree_of n.bytes x)).1 w.tree in
      let held = ap (held_by n.bytes n.size) newest ∙ ap (holding x) walk in
      rw room held

  pub finds : (c : ℕ) (ps : List Pair) → x.commit ≡ c → pairs_held n.bytes x ≡ ps → Finds n c ps
  finds c ps e p = record {
    held = record { meta = x; tree = tree_of n.bytes x };
    walked = found;
    number = e;
    pairs = p;
    rising = subst Rising p (trees_are_maps_lem (as_tree (height_of x) (tree_of n.bytes x)) w.tree.sound);
    low = w.good.few;
  }

-- the record after an opening that answers its number, or the next one
next_apart : (c n : ℕ) → c ≡ n → (c ≡ n + 1 → ⊥)
next_apart c n e q = omega arith

record_same : (k : Record) (c : ℕ) → c ≡ k.number → opened_by k (Ok (Number c)) ≡ no_doubt k
record_same k c e = let f : (c == k.number + 1) ≡ false = ne_eqb _ _ (next_apart c k.number e) in rw f refl

record_next : (k : Record) (c : ℕ) (d : List Pair) → c ≡ k.number + 1 → k.in_doubt ≡ Some d → opened_by k (Ok (Number c)) ≡ record_of (k.number + 1) d k.working None
record_next k c d e q = let f : (c == k.number + 1) ≡ true = eq-eqb _ _ e in rw (f, q) refl

-- An opening outside a transaction, by quiet calls: the store is then what was found on the device.
module _ (base : Medium) (h : History) (k : Record) (s z : Snapshot) (t : History) (l : Leads s.medium t z.medium) (q : AllByRecursion IsQuiet t)
    (i : Tracks base h k s) (sound : IsSound z) (none : k.working ≡ None) where
  abbrev here : Medium
  here = z.medium

  abbrev x : Meta
  x = i.version

  keeps : Keeps s.medium here
  keeps = quiet_keeps s.medium t here l q

  safe : Safe base (t ++ h) k x here
  safe = quiet_calls base h k x s.medium t here l q i.safe

  leads : Leads base (t ++ h) here
  leads = leads_more base s.medium here h t i.leads l

  durable : here.on ≡ true → here.volatile (other x) ≡ false
  durable on = keeps.stays_durable (other x) (i.settled (quiet_on s.medium t here l q on))

  abbrev Opened : Result ℕ StoreFault → Type 0
  Opened r = Tracks base (t ++ h) (opened_by k (answered Number r)) z × Unless k.working (OpensOrIsOff k (answered Number r) here)

  -- as the claim has it, since there is no working map
  claimed : (a : Result Answer StoreFault) → OpensOrIsOff k a here → Unless k.working (OpensOrIsOff k a here)
  claimed a c = subst (λ w. Unless w (OpensOrIsOff k a here)) (sym none) c

  refused : here.on ≡ false → model_at z ≡ shut → Opened (Err off)
  refused on m = (
    quieted base h k (no_working k) s z t l q (alike_no_working k) sound (subst (Agrees (no_working k)) (sym m) refl) i,
    claimed (Err off) ((λ e. absurd (both_ways here.on on e)), (λ _. refl)),
  )

  -- the version y was found, and k' is then the record
  accepted : (k' : Record) (y : Meta) → here.on ≡ true → opened_by k (Ok (Number y.commit)) ≡ k' → (y.commit ≡ k.number) ⊎ ((y.commit ≡ k.number + 1) × (is_some k.in_doubt ≡ true))
      → newest_in here.bytes here.size ≡ Some y → Safe base (t ++ h) k' y here → here.volatile (other y) ≡ false → k'.working ≡ None → k'.in_doubt ≡ None
      → model_at z ≡ idle y.commit (pairs_held here.bytes y) → Opened (Ok y.commit)
  accepted k' y on e c newest w d nw nd m = (
    record {
      version = y;
      safe = subst (λ (v : Record). Safe base (t ++ h) v y here) (sym e) w;
      leads = leads;
      settled = λ _. d;
      sound = sound;
      agrees = subst (λ (v : Record). Agrees v (model_at z)) (sym e) (subst (Agrees k') (sym m) (nw, nd, w.number, w.map));
    },
    claimed (Ok (Number y.commit)) (
      (λ _. (y.commit, refl, c, subst (λ (v : Record). Finds here y.commit v.committed) (sym e) (finds here y w.room newest w.whole y.commit k'.committed refl w.map))),
      (λ f. absurd (both_ways here.on f on)),
    ),
  )

  -- the record's own
  own : here.on ≡ true → newest_in here.bytes here.size ≡ Some x → ((y : Meta) → read_meta (other x) here.size (here.bytes (other x)) ≡ Some y → y.commit < x.commit)
      → model_at z ≡ idle x.commit (pairs_held here.bytes x) → Opened (Ok x.commit)
  own on newest older m =
      accepted (no_doubt k) x on (record_same k x.commit safe.number) (inl safe.number) newest
      (settled_safe base (t ++ h) (no_doubt k) x here safe.room safe.whole safe.number safe.map safe.page safe.firm (durable on) leads (λ y e. inl (older y e)))
      (durable on) none refl m

  -- the one in doubt
  doubted : here.on ≡ true → (y : Meta) → newest_in here.bytes here.size ≡ Some y → read_meta (other x) here.size (here.bytes (other x)) ≡ Some y → Doubt k x here y
      → model_at z ≡ idle y.commit (pairs_held here.bytes y) → Opened (Ok y.commit)
  doubted on y newest reads d m =
      let p : mine y ≡ other x = ap (λ c. c % 2) d.next in
      let o : other y ≡ mine x = let n = d.next in omega arith in
      let e : y.commit ≡ k.number + 1 = d.next ∙ ap (λ c. c + 1) safe.number in
      let now : here.volatile (other y) ≡ false = ap here.volatile o ∙ safe.firm in
      accepted (record_of (k.number + 1) d.map k.working None) y on (record_next k y.commit d.map e d.in_doubt_lem) (inr (e, ap is_some d.in_doubt_lem)) newest
      (settled_safe base (t ++ h) (record_of (k.number + 1) d.map k.working None) y here safe.room d.whole e d.pairs
      (ap here.bytes p ∙ (read_tells (other x) here.size (here.bytes (other x)) y reads).0) (ap here.volatile p ∙ durable on) now leads (mild_before (record_of (k.number + 1) d.map k.working None) x y here d.next safe.whole safe.page))
      now none refl m

  -- the medium holds the same before the calls
  same_map : map_on s.medium here.on ≡ map_on here here.on
  same_map = sym (λ j. map_in (found_on (same_pages keeps j) (keeps.same_size j) here.on))

  abbrev OpenedAs : Result (ℕ × List Pair) StoreFault → Type 0
  OpenedAs f = model_at z ≡ (opened f).model → Opened (opened f).answer

  outside : OpenedAs (map_on s.medium here.on)
  outside = ⊎_elim on off' (cases_Bool here.on)
    where
      as_found : here.on ≡ true → (y : Meta) → newest_in here.bytes here.size ≡ Some y → Whole here y → map_on s.medium here.on ≡ Ok (y.commit, pairs_held here.bytes y)
      as_found e y newest w = same_map ∙ ap (map_on here) e ∙ ap map_in (found here y safe.room newest w)

      by : here.on ≡ true → Newest k x here → OpenedAs (map_on s.medium here.on)
      by e (itself newest older) = subst OpenedAs (sym (as_found e x newest safe.whole)) (own e newest older)
      by e (doubtful y newest reads d) = subst OpenedAs (sym (as_found e y newest d.whole)) (doubted e y newest reads d)

      on : here.on ≡ true → OpenedAs (map_on s.medium here.on)
      on e = by e (newest_of base (t ++ h) k x here safe)

      off' : here.on ≡ false → OpenedAs (map_on s.medium here.on)
      off' e =
          let room = i.safe.room in
          let f : map_on s.medium here.on ≡ Err off = rw (e, room) refl in
          subst OpenedAs (sym f) (refused e)

pub ready : (m : Medium) (s : State) (b : Held) → Sound m s b → Ready m s b
ready m Shut b i = tt
ready m (Idle x) b i = tt
ready m (InTransaction x) b i = i

-- in a transaction nothing is claimed
claimed_within : (k : Record) (a : Result Answer StoreFault) (n : Medium) (w : List Pair) → k.working ≡ Some w → Unless k.working (OpensOrIsOff k a n)
claimed_within k a n w e = subst (λ o. Unless o (OpensOrIsOff k a n)) (sym e) tt

module _ (s z : Snapshot) (t : History) (l : Leads s.medium t z.medium) (base : Medium) (h : History) (k : Record) (i : Tracks base h k s) where
  abbrev Goes-on : Result Answer StoreFault → Type 0
  Goes-on a = Tracks base (t ++ h) (opened_by k a) z × Unless k.working (OpensOrIsOff k a z.medium)

  abbrev step : Model → Stepped ℕ
  step m = opens (map_on s.medium z.medium.on) m

  by_model : (m : Model) → AllByRecursion IsQuiet t → IsSound z → Agrees k m → model_at z ≡ (step m).model → Goes-on (answered Number (step m).answer)
  by_model shut q w g e = outside base h k s z t l q i w g e
  by_model (idle c v) q w g e = outside base h k s z t l q i w g.0 e
  by_model (active c v u) q w g e = (quieted base h k k s z t l q (alike_same k) w (subst (Agrees k) (sym e) g) i, claimed_within k (Err IsInTransaction) z.medium u g.0)

  pub open_goes : (a : Result Answer StoreFault) → (r : Result ℕ StoreFault) × (a ≡ answered Number r) × Opens s z t r → Goes-on a
  open_goes a (r, e, o) =
      let b = o.1 (ready s.medium s.state s.held i.sound) in
      subst Goes-on (sym (e ∙ ap (answered Number) b.answers)) (by_model (model_at s) (opening_quiet _ s.medium t o.0) b.sound i.agrees b.becomes)
