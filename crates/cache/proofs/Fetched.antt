-- What reading a page below does, whichever way it ends.
use Rattle.std.proofs.Common.{◌≡◌, ℕ, ◌<◌, Bool, false, List, None, Ok, Err, Option, Result, sym, refl, ap, ◌∙◌, subst, arith}
use Rattle.std.proofs.lemmas.Bool.{both_ways}
use Rattle.device.specs.History.{Event, did_read}
use Rattle.device.specs.declared.fault.DeviceFault.{DeviceFault}
use Rattle.device.specs.declared.Reader.{Ghosts}
use Rattle.cache.specs.declared.copy.Copied.{Copied}
use Rattle.cache.specs.declared.place.Place.{Place}
use Rattle.cache.specs.declared.cache.Cache.{Cache}
use Rattle.cache.specs.declared.slots.Slots.{Slots}
use Rattle.cache.specs.Held.{pages_in, is_changed, copy_of, slot_at, Replaces}
use Rattle.cache.specs.Cached.{pages_of, over, copies_of, cache_medium, HappensTo}
use Rattle.cache.specs.Calls.{admitted, Leaves, Tidied, Calls, Fetches, CacheReads}
use Rattle.cache.specs.Inner.{Goes, Placed, Finding}
use Rattle.cache.proofs.Steps.{Passes, settles_more, keeps_more}
use Rattle.cache.proofs.Takes.{over_keeps, agrees_keeps, take_read}

pub goes_more : {B : Type 0} {R : Ghosts B} {c d e : Cache B} (r : Result Unit DeviceFault)
    → Goes R c (Ok tt) d → Goes R d r e → Goes R c r e
goes_more {R = R} {c = c} {d = d} {e = e} r x y = record {
  follows = λ a.
      let u = x.follows a in let v = y.follows u.1 in
      (settles_more (cache_medium R c) (cache_medium R d) (cache_medium R e) r u.0 v.0, v.1);
}

pub fetch_done : {B : Type 0} {R : Ghosts B} {c d e : Cache B} {t : Slots} (o : Option Copied) (k : Copied)
    → Goes R c (Ok tt) d → Passes R d (did_read k.page k.bytes (Ok tt)) (Ok tt) e
    → Replaces o k (copies_of d) (copy_of (pages_in t.all)) → is_changed o ≡ false → copies_of d k.page ≡ None → k.changed ≡ false
    → HappensTo R c (did_read k.page k.bytes (Ok tt)) (record { below = e.below; slots = t; off = e.off })
fetch_done {R = R} {c = c} {d = d} {e = e} {t = t} o k x h r cl free un = record {
  follows = λ g a.
      let u = x.follows a in
      let w = h.happens.follows u.1.led u.1.is_past in
      let m = R.medium c.below in let m₁ = R.medium d.below in let n = R.medium e.below in
      let f = copies_of d in
      let keep = w.0.3 in
      let ag = agrees_keeps f d.off d.off m₁ n keep (λ z. absurd (both_ways m₁.on (u.1.agrees.knows_off z) w.0.1.was_on)) (λ _ _. w.0.1.is_on) u.1.agrees in
      let l : k.page < n.size = rw keep.same_size w.0.0 in
      let tk = take_read f (copy_of (pages_in t.all)) d.off n o k ag r cl free un (w.0.2 ∙ sym (keep.same_bytes k.page)) l in
      let all = keeps_more (cache_medium R c) (over f n) (over (copy_of (pages_in t.all)) n) (keeps_more (cache_medium R c) (cache_medium R d) (over f n) u.0.2 (over_keeps f m₁ n keep)) tk.0 in (
        (
          rw (sym u.0.2.same_size) w.0.0,
          record { was_on = sym u.0.0 ∙ w.0.1.was_on; is_on = w.0.1.is_on },
          sh k (f k.page) free w.0.2 ∙ u.0.2.same_bytes k.page,
          all,
        ),
        record { led = _; is_past = w.1; agrees = rw h.learns tk.1 },
      );
}
  where
    sh : (k : Copied) (f : Option Copied) → f ≡ None → k.bytes ≡ (R.medium d.below).bytes k.page → k.bytes ≡ (over (λ _. f) (R.medium d.below)).bytes k.page
    sh k f z y = rw z y

-- the page that leaves is gone after another took its slot
pub taken_put : (ss ts us : List (Option Copied)) {i : Place} {o : Option Copied} {k : Copied} → Leaves ss k.page o → Placed ss k.page i o ts
    → Replaces (slot_at ts i.number) k (copy_of ts) (copy_of us) → Replaces o k (copy_of ss) (copy_of us)
taken_put ss ts us l p r = record {
  was = l.was;
  new = r.new;
  gone = λ x n h. r.gone x n (p.there x h);
  others = λ x n h. let z = p.others x n h in r.others x n z.0 ∙ z.1;
}

pub calls_same : {B : Type 0} {R : Ghosts B} {c d e : Cache B} {v : Event} {r : Result Unit DeviceFault}
    → d ≡ c → Passes R d v r e → Calls R c v e
calls_same {B = B} {R = R} {e = e} {v = v} z h =
    subst (λ (x : Cache B). Calls R x v e) z h.happens

pub fetches_crowded : {B : Type 0} {R : Ghosts B} {c d : Cache B} (q : ℕ) (b : List ℕ) (y : DeviceFault)
    → Finding R c q (Err y) d → Fetches R c q b (Err y) d
fetches_crowded q b y h = record {
  leaver = h.leaver;
  leaves = h.leaves;
  holds_it = h.tidied;
  one_call = λ z. absurd (both_ways false refl (h.quiet z).0);
}

pub fetches_lost : {B : Type 0} {R : Ghosts B} {c d e : Cache B} (q : ℕ) (i : Place) (b : List ℕ) (y : DeviceFault)
    → Finding R c q (Ok i) d → Passes R d (did_read q b (Err y)) (Err y) e → Fetches R c q b (Err y) e
fetches_lost {c = c} q i b y h p = record {
  leaver = h.leaver;
  leaves = h.leaves;
  holds_it = subst (λ (s : Slots). Tidied (pages_of c) (pages_in s.all)) (sym p.same_slots) h.tidied;
  one_call = λ z. calls_same (h.quiet z).1 p;
}

-- the slot that was found is still there after a call of the device
pub placed_there : {B : Type 0} {R : Ghosts B} {c d e : Cache B} {v : Event} {r : Result Unit DeviceFault} (q : ℕ) (i : Place)
    → (h : Finding R c q (Ok i) d) → Passes R d v r e → Placed (pages_of c) q i h.leaver (pages_of e)
placed_there {c = c} q i h p =
    subst (λ (s : Slots). Placed (pages_of c) q i h.leaver (pages_in s.all)) (sym p.same_slots) h.places

pub fetches_done : {B : Type 0} {R : Ghosts B} {c d e : Cache B} {t : Slots} (i : Place) (k : Copied)
    → Finding R c k.page (Ok i) d → Passes R d (did_read k.page k.bytes (Ok tt)) (Ok tt) e
    → copies_of c k.page ≡ None → k.changed ≡ false
    → Replaces (slot_at (pages_of e) i.number) k (copies_of e) (copy_of (pages_in t.all))
    → HappensTo R c (did_read k.page k.bytes (Ok tt)) (record { below = e.below; slots = t; off = e.off })
    × Fetches R c k.page k.bytes (Ok tt) (record { below = e.below; slots = t; off = e.off })
fetches_done {R = R} {c = c} {d = d} {e = e} {t = t} i k h p free un r =
    let r' : Replaces (slot_at (pages_of d) i.number) k (copies_of d) (copy_of (pages_in t.all)) =
    subst (λ (s : Slots). Replaces (slot_at (pages_in s.all) i.number) k (copy_of (pages_in s.all)) (copy_of (pages_in t.all))) p.same_slots r in
    let z = h.places.misses free in
    let k' : Copied = record { page = k.page; changed = false; bytes = k.bytes } in
    let same : k ≡ k' = ap (λ (b : Bool). record { page = k.page; changed = b; bytes = k.bytes }) un in
    let tk = taken_put (pages_of c) (pages_of d) (pages_in t.all) h.leaves h.places r' in (
      fetch_done {R = R} {c = c} {d = d} {e = e} {t = t} (slot_at (pages_of d) i.number) k h.goes p r' z.0 z.1 un,
      record {
        leaver = h.leaver;
        leaves = h.leaves;
        holds_it = subst (λ (x : Copied). Replaces h.leaver x (copies_of c) (copy_of (pages_in t.all))) same tk;
        one_call = λ y. calls_same (h.quiet y).1 p;
      },
    )

pub reads_lost : {B : Type 0} {R : Ghosts B} {c d : Cache B} (q : ℕ) (b : List ℕ) (y : DeviceFault) → admitted R c q ≡ Ok tt
    → copies_of c q ≡ None → Fetches R c q b (Err y) d → CacheReads R c q b (Err y) d
reads_lost q b y a m f = record { reads = rw (a, m) f; holds_it = λ z. absurd (let n : ◌≡◌ {A = ℕ} 0 1 = cc in omega arith) }
