-- Each call of a disk that is done as its `exact` says is one that the rules allow.
use Rattle.std.proofs.Common.{◌≡◌, ℕ, zero, suc, ◌+◌, ◌-◌, ◌^◌, ◌<◌, min, Bool, true, false, cond, not, ◌||◌, ◌==◌, List, [], ◌∷◌, length, map, set, is_ok, Ok, Err, Result, nat_lt, inr, refl, ap, sym, ◌∙◌, arith, length-set, get_or-set_same, get_or-set_other}
use Rattle.std.proofs.lemmas.Bool.{ltb-true, ltb-false}
use Rattle.std.proofs.lemmas.List.{length-map}
use Rattle.device.specs.Medium.{Medium, zeros, Durable}
use Rattle.device.specs.Calls.{Keeps, KeepsBut, StaysOn, IsOff, Reads, Writes, Syncs, Returns}
use Rattle.device.specs.History.{Event, did_read, did_write, did_sync, power_returned, Allowed, Happens}
use Rattle.device.specs.declared.fault.DeviceFault.{DeviceFault}
use Rattle.device.specs.declared.fault.DeviceFault.TheVariants.{Outside, Off}
use Rattle.disks.specs.declared.fuse.Fuse.{Fuse}
use Rattle.disks.specs.declared.stored.Stored.{Ghosts}
use Rattle.disks.specs.Fuses.{powered, counted, renewed}
use Rattle.disks.specs.Kept.{Kept, Sound, written, settled, restored, page_at}
use Rattle.disks.specs.Disks.{medium_of, past_of}
use Rattle.disks.proofs.Pages.{sound_at, page_at-map}
use Rattle.disks.proofs.Past.{Restores, accounts_after, none}

-- a fuse that is off counts no more, so what is on after a call was on before it
off_stays : (f : Fuse) → powered f ≡ false → counted f ≡ f
off_stays f e = ap (λ v. record { limit = f.limit; calls = cond v (min (f.calls + 1) (2 ^ 64 - 1)) f.calls }) e

unless_off : (b : Bool) → (b ≡ false → b ≡ true) → b ≡ true
unless_off true h = refl
unless_off false h = h refl

was_on : (f : Fuse) → powered (counted f) ≡ true → powered f ≡ true
was_on f e = unless_off (powered f) (λ n. sym (ap powered (off_stays f n)) ∙ e)

-- the pages and the fuse of a disk are its medium
abbrev medium : List Kept → Fuse → Medium
medium ks f = medium_of ks (powered f)

-- the answer to a call, by whether power lasts for it, and by whether it names a page inside
abbrev lasting : Bool → Result Unit DeviceFault
lasting o = cond o (Ok tt) (Err Off)

abbrev answered : Bool → Bool → Result Unit DeviceFault
answered i o = cond i (lasting o) (Err Outside)

same : (ks : List Kept) (f g : Fuse) → Keeps (medium ks f) (medium ks g)
same ks f g = record { same_size = refl; same_bytes = λ p. refl; stays_durable = λ p e. e }

stays_on : (ks ls : List Kept) (f : Fuse) → powered (counted f) ≡ true → StaysOn (medium ks f) (medium ls (counted f))
stays_on ks ls f o = record { was_on = was_on f o; is_on = o }

is_off : (ks : List Kept) (f : Fuse) → powered (counted f) ≡ false → IsOff (medium ks f) (medium ks (counted f))
is_off ks f o = record { is_off = o; still = λ e. ap (medium ks) (off_stays f e) }

reads : (ks : List Kept) (f : Fuse) (p : ℕ) (i o : Bool) → nat_lt p (length ks) ≡ i → powered (counted f) ≡ o
    → Reads (medium ks f) p (cond (is_ok (answered i o)) (page_at ks p).bytes zeros) (answered i o) (medium ks (cond i (counted f) f))
reads ks f p true true i o = (ltb-true p (length ks) i, stays_on ks ks f o, refl, same ks f (counted f))
reads ks f p true false i o = (ltb-true p (length ks) i, is_off ks f o, refl, same ks f (counted f))
reads ks f p false o i _ = (ltb-false p (length ks) i, refl, refl)

keeps_but : (ks : List Kept) (k : Kept) (f g : Fuse) (p : ℕ) → KeepsBut p (medium ks f) (medium (set ks p k) g)
keeps_but ks k f g p = record {
  same_size = length-set ks p k;
  same_bytes = λ q n. ap (λ l. l.bytes) (get_or-set_other ks p q k _ n);
  stays_durable = λ q n e. ap (λ l. l.volatile) (get_or-set_other ks p q k _ n) ∙ e;
}

writes : (a : Bool) (b : List ℕ) (ks : List Kept) (f : Fuse) (p : ℕ) (i o : Bool) → nat_lt p (length ks) ≡ i → powered (counted f) ≡ o
    → Writes (medium ks f) p b (answered i o) (medium (cond (is_ok (answered i o)) (set ks p (written a b (page_at ks p))) ks) (cond i (counted f) f))
writes a b ks f p true true i o =
    let h = ltb-true p (length ks) i in
    let k = written a b (page_at ks p) in
    (h, stays_on ks (set ks p k) f o, ap (λ l. l.bytes) (get_or-set_same ks p k _ h), keeps_but ks k f (counted f) p)
writes a b ks f p true false i o =
    (ltb-true p (length ks) i, is_off ks f o, inr refl, record { same_size = refl; same_bytes = λ q _. refl; stays_durable = λ q _ e. e })
writes a b ks f p false o i _ = (ltb-false p (length ks) i, refl)

settles : (ks : List Kept) (f g : Fuse) → Durable (medium (map settled ks) g) × Keeps (medium ks f) (medium (map settled ks) g)
settles ks f g =
    let e = λ (p : ℕ). page_at-map settled ks p refl in
    let v = λ (p : ℕ). ap (λ l. l.volatile) (e p) in
    (v, record { same_size = length-map ks settled; same_bytes = λ p. ap (λ l. l.bytes) (e p); stays_durable = λ p _. v p })

syncs : (ks : List Kept) (f : Fuse) (o : Bool) → powered (counted f) ≡ o
    → Syncs (medium ks f) (lasting o) (medium (cond (is_ok (lasting o)) (map settled ks) ks) (counted f))
syncs ks f true o = let s = settles ks f (counted f) in (stays_on ks (map settled ks) f o, s.0, s.1)
syncs ks f false o = (is_off ks f o, same ks f (counted f))

any_limit : (n : ℕ) → (n == 0 || nat_lt 0 n) ≡ true
any_limit n = grind arith

returned : (a : Bool) (ks : List Kept) (f : Fuse) → ((p : ℕ) → Sound a (page_at ks p)) → Returns (medium ks f) (medium (map restored ks) (renewed f))
returned a ks f sound =
    let e = λ (p : ℕ). page_at-map restored ks p refl in record {
      is_on = any_limit f.limit;
      durable = λ p. ap (λ l. l.volatile) (e p);
      same_size = length-map ks restored;
      keeps = λ p v. ap (λ l. l.bytes) (e p) ∙ (sound p).agrees v;
    }

-- a page that a write or a sync leaves volatile was last durable when it was before
by_sync : (a : Bool) (x y : List ℕ) → not a ≡ true → cond a x y ≡ y
by_sync false x y e = refl
by_sync true x y e = cc

write_lasts : (a : Bool) (b : List ℕ) (ks : List Kept) (q p : ℕ) → (page_at (set ks q (written a b (page_at ks q))) p).volatile ≡ true
    → (page_at (set ks q (written a b (page_at ks q))) p).durable ≡ (page_at ks p).durable
write_lasts a b [] q p v = refl
write_lasts a b (k ∷ ks) zero zero v = by_sync a b k.durable v
write_lasts a b (k ∷ ks) zero (suc p) v = refl
write_lasts a b (k ∷ ks) (suc q) zero v = refl
write_lasts a b (k ∷ ks) (suc q) (suc p) v = write_lasts a b ks q p v

write_lasts_if : (o a : Bool) (b : List ℕ) (ks : List Kept) (q p : ℕ) → (page_at (cond o (set ks q (written a b (page_at ks q))) ks) p).volatile ≡ true
    → (page_at (cond o (set ks q (written a b (page_at ks q))) ks) p).durable ≡ (page_at ks p).durable
write_lasts_if true a b ks q p v = write_lasts a b ks q p v
write_lasts_if false a b ks q p v = refl

sync_lasts_if : (o : Bool) (ks : List Kept) (p : ℕ) → (page_at (cond o (map settled ks) ks) p).volatile ≡ true
    → (page_at (cond o (map settled ks) ks) p).durable ≡ (page_at ks p).durable
sync_lasts_if true ks p v = let n = ap (λ l. l.volatile) (page_at-map settled ks p refl) in cc
sync_lasts_if false ks p v = refl

-- a call that is not refused names a page inside
inside_if : (i o : Bool) → Ok tt ≡ answered i o → i ≡ true
inside_if true o e = refl
inside_if false o e = cc

pub inside : {S : Type 0} (kept : S → Kept) (xs : List S) (p : ℕ) (o : Bool) → Ok tt ≡ answered (nat_lt p (length (map kept xs))) o → p < length xs
inside kept xs p o e = let h = ltb-true p (length (map kept xs)) (inside_if _ o e) in omega (arith, length-map xs kept)

-- The pages xs and the fuse f of a disk become ys and k.
module _ {S : Type 0} {g : Ghosts S} (sound : (s : S) → Sound g.at_once (g.kept s)) (xs : List S) (f : Fuse) (ys : List S) (k : Fuse) where
  abbrev ks : List Kept
  ks = map g.kept xs

  abbrev ls : List Kept
  ls = map g.kept ys

  abbrev Did : Event → Type 0
  Did v = Happens (past_of g.at_once ks (powered f)) (medium ks f) v (past_of g.at_once ls (powered k)) (medium ls k)

  did : (v : Event) → Allowed (medium ks f) v (medium ls k)
      → ((p : ℕ) → (page_at ls p).volatile ≡ true → (page_at ls p).durable ≡ (page_at ks p).durable)
      → Restores v ks ls
      → Did v
  did v a l r = record {
    follows = λ h i. (
      a,
      accounts_after g.at_once ks ls v (powered f) (powered k) h (record {
        sound = sound_at g.at_once g.kept sound xs;
        sound_after = sound_at g.at_once g.kept sound ys;
        lasts = l;
        restores = r;
      }) i,
    );
  }

  pub read_happens : (p : ℕ) (b : List ℕ) (r : Result Unit DeviceFault)
      → r ≡ answered (nat_lt p (length ks)) (powered (counted f))
      → ls ≡ ks
      → k ≡ cond (nat_lt p (length ks)) (counted f) f
      → b ≡ cond (is_ok r) (page_at ks p).bytes zeros
      → Did (did_read p b r)
  read_happens p b r answers same_pages counts shows =
      did (did_read p b r)
      (rw (shows, answers, same_pages, counts) (reads ks f p _ _ refl refl))
      (λ q _. ap (λ js. (page_at js q).durable) same_pages)
      tt

  pub write_happens : (p : ℕ) (b : List ℕ) (r : Result Unit DeviceFault)
      → r ≡ answered (nat_lt p (length ks)) (powered (counted f))
      → ls ≡ cond (is_ok r) (set ks p (written g.at_once b (page_at ks p))) ks
      → k ≡ cond (nat_lt p (length ks)) (counted f) f
      → Did (did_write p b r)
  write_happens p b r answers replaces counts =
      did (did_write p b r)
      (rw (replaces, answers, counts) (writes g.at_once b ks f p _ _ refl refl))
      (rw replaces (write_lasts_if (is_ok r) g.at_once b ks p))
      tt

  pub sync_happens : (r : Result Unit DeviceFault)
      → r ≡ lasting (powered (counted f))
      → ls ≡ cond (is_ok r) (map settled ks) ks
      → k ≡ counted f
      → Did (did_sync r)
  sync_happens r answers settles counts =
      did (did_sync r)
      (rw (settles, answers, counts) (syncs ks f _ refl))
      (rw settles (sync_lasts_if (is_ok r) ks))
      tt

  pub return_happens : ls ≡ map restored ks → k ≡ renewed f → Did power_returned
  return_happens restores renews =
      let e = λ (q : ℕ). page_at-map restored ks q refl in
      did power_returned
      (rw (restores, renews) (returned g.at_once ks f (sound_at g.at_once g.kept sound xs)))
      (rw restores (λ q _. ap (λ l. l.durable) (e q)))
      (rw restores (λ q. ap (λ l. l.bytes) (e q)))

-- the empty history may be that of any disk
pub starts : {S : Type 0} {g : Ghosts S} → ((s : S) → Sound g.at_once (g.kept s)) → (xs : List S) (on : Bool) → past_of g.at_once (map g.kept xs) on []
starts {S} {g} sound xs on = none g.at_once (map g.kept xs) on (sound_at g.at_once g.kept sound xs)
