-- What a sync does, whichever way it ends.
use Rattle.std.proofs.Common.{◌≡◌, ℕ, zero, suc, ◌+◌, ◌<◌, ◌≤◌, true, false, List, [], ◌∷◌, length, set, None, Ok, Err, Option, Result, sym, refl, ap, ◌∙◌, subst, inl, inr, ⊎_elim, arith}
use Rattle.std.proofs.lemmas.List.{get_or-set_same, get_or-set_other, get_or_past}
use Rattle.std.proofs.lemmas.Bool.{both_ways, cases_Bool, cases_eq, cases_lt, cond-true, cond-false, or_from}
use Rattle.device.specs.History.{did_sync}
use Rattle.device.specs.declared.fault.DeviceFault.{DeviceFault}
use Rattle.device.specs.declared.fault.DeviceFault.TheVariants.{Outside, Off}
use Rattle.device.specs.declared.Reader.{Ghosts}
use Rattle.cache.specs.declared.copy.Copied.{Copied}
use Rattle.cache.specs.declared.cache.Cache.{Cache}
use Rattle.cache.specs.declared.slots.Slots.{Slots}
use Rattle.cache.specs.Held.{pages_in, has, is_changed, copy_of, slot_at, cleaned}
use Rattle.cache.specs.Cached.{pages_of, over, copies_of, cache_medium, HappensTo}
use Rattle.cache.specs.Calls.{Tidied, Clean, Flushed, Syncing}
use Rattle.cache.specs.Inner.{flushed, Goes, FlushesAll, FlushedTo}
use Rattle.cache.proofs.Copies.{length_slots, within_slots}
use Rattle.cache.proofs.Steps.{Passes, keeps_more}
use Rattle.cache.proofs.Flushes.{cleaned_clean}
use Rattle.cache.proofs.Places.{changed_cleaned, tidied_same, tidied_set}
use Rattle.cache.proofs.Takes.{over_keeps, agrees_keeps}
use Rattle.cache.proofs.Fetched.{goes_more, calls_same}

clean_copy : (ss : List (Option Copied)) → Clean ss → (p : ℕ) → is_changed (copy_of ss p) ≡ false
clean_copy [] h p = refl
clean_copy (s ∷ ss) h p = ⊎_elim
    (λ t. ap is_changed (cond-true (has s p) s (copy_of ss p) t) ∙ h zero)
    (λ t. ap is_changed (cond-false (has s p) s (copy_of ss p) t) ∙ clean_copy ss (λ i. h (suc i)) p)
    (cases_Bool (has s p))

tidied_more : (ss ts us : List (Option Copied)) → Tidied ss ts → Tidied ts us → Tidied ss us
tidied_more ss ts us a b p = ⊎_elim
    (λ x. ⊎_elim (λ y. inl (y ∙ x)) (λ y. inr (y ∙ ap cleaned x)) (b p))
    (λ x. ⊎_elim (λ y. inr (y ∙ x)) (λ y. inr (y ∙ ap cleaned x ∙ cleaned_clean (cleaned (copy_of ss p)) (changed_cleaned (copy_of ss p)))) (b p))
    (a p)

flushed_all : (ss ts : List (Option Copied)) → Tidied ss ts → Clean ts → (p : ℕ) → copy_of ts p ≡ cleaned (copy_of ss p)
flushed_all ss ts a h p = ⊎_elim
    (λ x. let e : is_changed (copy_of ss p) ≡ false = ap is_changed (sym x) ∙ clean_copy ts h p in x ∙ sym (cleaned_clean (copy_of ss p) e))
    (λ x. x)
    (a p)

-- one slot more
clean_set : (ss : List (Option Copied)) (k : ℕ) → k < length ss → ((i : ℕ) → i < k → is_changed (slot_at ss i) ≡ false)
    → (i : ℕ) → i < k + 1 → is_changed (slot_at (set ss k (cleaned (slot_at ss k))) i) ≡ false
clean_set ss k l h i j = ⊎_elim
    (λ e. rw e (ap is_changed (get_or-set_same ss k (cleaned (slot_at ss k)) None l) ∙ changed_cleaned (slot_at ss k)))
    (λ e. ap is_changed (get_or-set_other ss k i (cleaned (slot_at ss k)) None e) ∙ h i (omega arith))
    (cases_eq i k)

pub flushed_more : {B : Type 0} {R : Ghosts B} {c d e : Cache B} (k : ℕ) → k < 8
    → FlushedTo R c k d → Goes R d (Ok tt) e → pages_of e ≡ flushed (Ok tt) (pages_of d) k
    → (is_changed (slot_at (pages_of d) k) ≡ false → e ≡ d) → FlushedTo R c (k + 1) e
flushed_more {B = B} {c = c} {d = d} {e = e} k w f x s q = record {
  goes = goes_more (Ok tt) f.goes x;
  tidied = tidied_more (pages_of c) (pages_of d) (pages_of e) f.tidied (subst (Tidied (pages_of d)) (sym s) (tidied_set d.slots (record { number = k; within = w })));
  cleans = λ i j. ap (λ (ss : List (Option Copied)). is_changed (slot_at ss i)) s ∙ clean_set (pages_of d) k (within_slots d.slots (record { number = k; within = w })) f.cleans i j;
  quiet = λ z. let y = f.quiet z in q (ap (λ (x : Cache B). is_changed (slot_at (pages_of x) k)) y ∙ z k) ∙ y;
}

pub flushed_lost : {B : Type 0} {R : Ghosts B} {c d e : Cache B} (k : ℕ) (y : DeviceFault)
    → FlushedTo R c k d → Goes R d (Err y) e → pages_of e ≡ (pages_of d)
    → (is_changed (slot_at (pages_of d) k) ≡ false → ◌≡◌ {A = Result (Unit {0}) DeviceFault} (Err y) (Ok tt)) → FlushesAll R c (Err y) e
flushed_lost {B = B} {c = c} {d = d} {e = e} k y f x s q = record {
  goes = goes_more (Err y) f.goes x;
  flushes = tidied_more (pages_of c) (pages_of d) (pages_of e) f.tidied (tidied_same _ _ s);
  cleans = λ z. absurd (let n : ◌≡◌ {A = ℕ} 0 1 = cc in omega arith);
  quiet = λ z. let w = q (ap (λ (x : Cache B). is_changed (slot_at (pages_of x) k)) (f.quiet z) ∙ z k) in absurd (let n : ◌≡◌ {A = ℕ} 0 1 = cc in omega arith);
}

pub flushed_done : {B : Type 0} {R : Ghosts B} {c d : Cache B} (k : ℕ) → 8 ≤ k
    → FlushedTo R c k d → FlushesAll R c (Ok tt) d
flushed_done {c = c} {d = d} k w f = record {
  goes = f.goes;
  flushes = flushed_all (pages_of c) (pages_of d) f.tidied all;
  cleans = λ _. all;
  quiet = λ z. (refl, f.quiet z);
}
  where
    all : Clean (pages_of d)
    all i = ⊎_elim
        (λ l. f.cleans i (omega arith))
        (λ l. ap is_changed (get_or_past (pages_of d) i None (omega (arith, length_slots d.slots))))
        (cases_lt i 8)

pub sync_refused : {B : Type 0} {R : Ghosts B} {c d : Cache B} (y : DeviceFault)
    → Goes R c (Err y) d
    → HappensTo R c (did_sync (Err y)) d
sync_refused Outside h = record { follows = λ _ a. absurd (h.follows a).0 }
sync_refused Off h = record { follows = λ _ a. let u = h.follows a in (u.0, u.1) }

pub sync_done : {B : Type 0} {R : Ghosts B} {c d e : Cache B} (r : Result Unit DeviceFault)
    → Goes R c (Ok tt) d → Clean (pages_of d) → Passes R d (did_sync r) r e
    → HappensTo R c (did_sync r) e
sync_done {R = R} {c = c} {d = d} {e = e} (Ok _) x h p = record {
  follows = λ _ a.
      let u = x.follows a in
      let w = p.happens.follows u.1.led u.1.is_past in
      let f = copies_of d in let m = R.medium d.below in let n = R.medium e.below in
      let v = ap (λ (s : Slots). copy_of (pages_in s.all)) p.same_slots in (
        rw v (
          record { was_on = sym u.0.0 ∙ w.0.0.was_on; is_on = w.0.0.is_on },
          λ q. or_from (is_changed (f q)) (n.volatile q) (clean_copy (pages_of d) h q) (w.0.1 q),
          keeps_more (cache_medium R c) (over f m) (over f n) u.0.2 (over_keeps f m n w.0.2),
        ),
        record { led = _; is_past = w.1; agrees = rw (v, p.learns) (agrees_keeps f d.off d.off m n w.0.2 (λ z. absurd (both_ways m.on (u.1.agrees.knows_off z) w.0.0.was_on)) (λ _ _. w.0.0.is_on) u.1.agrees) },
      );
}
sync_done (Err Outside) x h p = record { follows = λ _ a. let u = x.follows a in absurd (p.happens.follows u.1.led u.1.is_past).0 }
sync_done {R = R} {c = c} {d = d} {e = e} (Err Off) x h p = sync_refused {c = c} Off (goes_more {d = d} (Err Off) x (record {
  follows = λ a.
      let w = p.happens.follows a.led a.is_past in
      let f = copies_of d in let m = R.medium d.below in let n = R.medium e.below in
      let v = ap (λ (s : Slots). copy_of (pages_in s.all)) p.same_slots in (
        rw v (record { is_off = w.0.0.is_off; still = λ z. ap (over f) (w.0.0.still z) }, over_keeps f m n w.0.1),
        record { led = _; is_past = w.1; agrees = rw (v, p.learns) (agrees_keeps f d.off true m n w.0.1 (λ _. w.0.0.is_off) (λ z. absurd (both_ways true z refl)) a.agrees) },
      );
}))

pub syncs_done : {B : Type 0} {R : Ghosts B} {c d e : Cache B} (r : Result Unit DeviceFault)
    → FlushesAll R c (Ok tt) d → Passes R d (did_sync r) r e → Syncing R false c r e
syncs_done {c = c} {d = d} {e = e} r f p = (go r, λ z. calls_same (f.quiet z).1 p)
  where
    same : pages_of e ≡ pages_of d
    same = ap (λ (s : Slots). (pages_in s.all)) p.same_slots

    go : (r : Result Unit DeviceFault) → Flushed (pages_of c) r (pages_of e)
    go (Ok _) = λ q. ap (λ (ss : List (Option Copied)). copy_of ss q) same ∙ f.flushes q
    go (Err _) = λ q. inr (ap (λ (ss : List (Option Copied)). copy_of ss q) same ∙ f.flushes q)
