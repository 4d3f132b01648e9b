-- What is kept from call to call: the record's commit is durable and whole, and the other meta page holds an older one, or
-- the one in doubt, which is then whole, too.
use Rattle.std.proofs.Common.{◌≡◌, ℕ, ◌+◌, ◌%◌, ◌<◌, ◌≤◌, Bool, true, false, cond, ltb, ◌⊎◌, List, ◌∷◌, Some, None, Option, Result, sym, refl, ap, ◌∙◌, subst, inl, inr, ⊎_elim, arith}
use Rattle.std.specs.List.{AllByRecursion}
use Rattle.std.proofs.ByRecursion.{All-weaker}
use Rattle.std.proofs.lemmas.Bool.Decides.{nat_tests}
use Rattle.std.proofs.lemmas.Bool.{cases_Bool, cases_eq, eq-eqb, lt-ltb, le-ltb, both_ways}
use Rattle.device.specs.Medium.{Medium}
use Rattle.device.specs.Calls.{Keeps, KeepsBut, Returns}
use Rattle.device.specs.History.{Event, did_write, power_returned, step, History, last_durable, last_written, written_by}
use Rattle.device.specs.declared.fault.DeviceFault.{DeviceFault}
use Rattle.cuts.specs.Nodes.{Pair}
use Rattle.meta.specs.Laws.{Fits}
use Rattle.meta.specs.Layout.{meta_page}
use Rattle.meta.specs.Shape.{Good}
use Rattle.meta.specs.Test.{read_meta, newer}
use Rattle.meta.specs.declared.Meta.{Meta}
use Rattle.paged.specs.Paged.{pages_of, pairs_on}
use Rattle.paged.specs.Sound.{SoundOn, Inside}
use Rattle.tree.proofs.Leaves.{all_both}
use Rattle.walk.specs.Checking.{fits_pages, newest_in}
use Rattle.store.specs.Versions.{height_of, tree_of, pages_held, pairs_held}
use Rattle.store.proofs.Kept.{tree_same, sound_same, meta_reads}
use Rattle.recovery.specs.Premise.{MakesUpNone}
use Rattle.recovery.specs.Record.{Record}

-- a version that lies whole on durable pages
pub record Whole (m : Medium) (x : Meta) : Type 0 where
  pub good : Good (x.commit % 2) m.size x
  pub fits : Fits x
  pub tree : SoundOn m.bytes m.size (height_of x) x.root x.pairs (tree_of m.bytes x)
  pub firm : AllByRecursion (λ (p : ℕ). m.volatile p ≡ false) (pages_held m.bytes x)

-- durable pages that are no meta pages stay as they are
pub record Holds (m n : Medium) : Type 0 where
  pub size : n.size ≡ m.size
  pub pages : (p : ℕ) → 2 ≤ p → m.volatile p ≡ false → (n.bytes p ≡ m.bytes p) × (n.volatile p ≡ false)

pub holds_keep : (m n : Medium) → Keeps m n → Holds m n
holds_keep m n k = record { size = k.same_size; pages = λ p _ d. (k.same_bytes p, k.stays_durable p d) }

pub holds_but : (m n : Medium) (q : ℕ) → q < 2 → KeepsBut q m n → Holds m n
holds_but m n q l k = record {
  size = k.same_size;
  pages = λ p i d. let ne : p ≡ q → ⊥ = λ e. omega arith in (k.same_bytes p ne, k.stays_durable p ne d);
}

pub holds_return : (m n : Medium) → Returns m n → Holds m n
holds_return m n r = record { size = r.same_size; pages = λ p _ d. (r.keeps p d, r.durable p) }

pub record Kept (m n : Medium) (x : Meta) : Type 0 where
  pub whole : Whole n x
  pub pairs : pairs_held n.bytes x ≡ pairs_held m.bytes x

pub whole_holds : (m n : Medium) (x : Meta) → Holds m n → Whole m x → Kept m n x
whole_holds m n x h w =
    let both : AllByRecursion (λ p. (n.bytes p ≡ m.bytes p) × (n.volatile p ≡ false)) (pages_held m.bytes x) =
    all_both (Inside m.size) (λ p. m.volatile p ≡ false) (λ p. (n.bytes p ≡ m.bytes p) × (n.volatile p ≡ false)) (λ p i d. h.pages p i.0 d) (pages_held m.bytes x) w.tree.inside w.firm in
    let same : AllByRecursion (λ p. n.bytes p ≡ m.bytes p) (pages_held m.bytes x) = All-weaker _ _ (λ _ i. i.0) (pages_held m.bytes x) both in
    let t = tree_same m.bytes n.bytes m.size x.pairs x same w.tree in
    record {
      whole = record {
        good = subst (λ z. Good (x.commit % 2) z x) (sym h.size) w.good;
        fits = w.fits;
        tree =
            subst (λ z. SoundOn n.bytes z (height_of x) x.root x.pairs (tree_of n.bytes x)) (sym h.size)
            (subst (λ v. SoundOn n.bytes m.size (height_of x) x.root x.pairs v) (sym t) (sound_same m.bytes n.bytes m.size (height_of x) x.root x.pairs (tree_of m.bytes x) same w.tree));
        firm = subst (λ v. AllByRecursion (λ p. n.volatile p ≡ false) (pages_of (height_of x) v)) (sym t) (All-weaker _ _ (λ _ i. i.1) (pages_held m.bytes x) both);
      };
      pairs = ap (λ v. pairs_on (height_of x) v) t;
    }

-- the page of a number, and the other one
abbrev pub mine : Meta → ℕ
mine x = x.commit % 2

abbrev pub other : Meta → ℕ
other x = (x.commit + 1) % 2

-- the version y is the one in doubt
pub record Doubt (k : Record) (x : Meta) (m : Medium) (y : Meta) : Type 0 where
  pub map : List Pair
  pub in_doubt_lem : k.in_doubt ≡ Some map
  pub next : y.commit ≡ x.commit + 1
  pub whole : Whole m y
  pub pairs : pairs_held m.bytes y ≡ map

-- what may stand in the other page
abbrev pub Mild : Record → Meta → Medium → List ℕ → Type 0
Mild k x m b = (y : Meta) → read_meta (other x) m.size b ≡ Some y → (y.commit < x.commit) ⊎ Doubt k x m y

pub record Safe (base : Medium) (h : History) (k : Record) (x : Meta) (m : Medium) : Type 0 where
  pub room : fits_pages m.size ≡ true
  pub whole : Whole m x
  pub number : x.commit ≡ k.number
  pub map : pairs_held m.bytes x ≡ k.committed
  pub page : m.bytes (mine x) ≡ meta_page x
  pub firm : m.volatile (mine x) ≡ false
  pub now : Mild k x m (m.bytes (other x))
  pub was : Mild k x m (last_durable base h (other x))
  pub wrote : m.volatile (other x) ≡ true → Mild k x m (last_written base h (other x))

-- from medium to medium
pub mild_holds : (k : Record) (x : Meta) (m n : Medium) (b : List ℕ) → Holds m n → Mild k x m b → Mild k x n b
mild_holds k x m n b h f y e =
    ⊎_elim (λ l. inl l)
    (λ d. let w = whole_holds m n y h d.whole in inr (record { map = d.map; in_doubt_lem = d.in_doubt_lem; next = d.next; whole = w.whole; pairs = w.pairs ∙ d.pairs }))
    (f y (subst (λ s. read_meta (other x) s b ≡ Some y) h.size e))

mild_as : (k : Record) (x : Meta) (m : Medium) (b c : List ℕ) → b ≡ c → Mild k x m c → Mild k x m b
mild_as k x m b c e f y q = f y (subst (λ v. read_meta (other x) m.size v ≡ Some y) e q)

-- either the page is volatile, or it is as the medium has it
mild_cond : (k : Record) (x : Meta) (m : Medium) (v : Bool) (b c : List ℕ) → Mild k x m b → Mild k x m c → Mild k x m (cond v b c)
mild_cond k x m true b c f g = f
mild_cond k x m false b c f g = g

not_two : (x : Meta) → mine x ≡ other x → ⊥
not_two x e = omega arith

volatile_back : (m n : Medium) (p : ℕ) → (m.volatile p ≡ false → n.volatile p ≡ false) → n.volatile p ≡ true → m.volatile p ≡ true
volatile_back m n p f e = ⊎_elim (λ t. t) (λ t. absurd (both_ways (n.volatile p) (f t) e)) (cases_Bool (m.volatile p))

-- a call that keeps all pages
pub quiet_safe : (base : Medium) (h : History) (k : Record) (x : Meta) (m n : Medium) (e : Event) → Keeps m n → ((b : List ℕ) → written_by e (other x) b ≡ b)
    → Safe base h k x m → Safe base (step m e n ∷ h) k x n
quiet_safe base h k x m n e keeps same s =
    let hold = holds_keep m n keeps in
    let w = whole_holds m n x hold s.whole in
    let now = mild_as k x n _ _ (keeps.same_bytes (other x)) (mild_holds k x m n _ hold s.now) in
    record {
      room = ap fits_pages keeps.same_size ∙ s.room;
      whole = w.whole;
      number = s.number;
      map = w.pairs ∙ s.map;
      page = keeps.same_bytes (mine x) ∙ s.page;
      firm = keeps.stays_durable (mine x) s.firm;
      now = now;
      was = mild_cond k x n (n.volatile (other x)) _ _ (mild_holds k x m n _ hold s.was) now;
      wrote = λ v. mild_as k x n _ _ (same (last_written base h (other x))) (mild_holds k x m n _ hold (s.wrote (volatile_back m n (other x) (keeps.stays_durable (other x)) v)));
    }

-- a power return
pub return_safe : (base : Medium) (h : History) (k : Record) (x : Meta) (m n : Medium) → Returns m n → MakesUpNone base h m power_returned n
    → Safe base h k x m → Safe base (step m power_returned n ∷ h) k x n
return_safe base h k x m n r honest s =
    let hold = holds_return m n r in
    let w = whole_holds m n x hold s.whole in
    let now = shown (m.volatile (other x)) refl in
    record {
      room = ap fits_pages r.same_size ∙ s.room;
      whole = w.whole;
      number = s.number;
      map = w.pairs ∙ s.map;
      page = r.keeps (mine x) s.firm ∙ s.page;
      firm = r.durable (mine x);
      now = now;
      was = mild_cond k x n (n.volatile (other x)) _ _ (mild_holds k x m n _ hold s.was) now;
      wrote = λ v. absurd (both_ways (n.volatile (other x)) (r.durable (other x)) v);
    }
  where
    shown : (v : Bool) → m.volatile (other x) ≡ v → Mild k x n (n.bytes (other x))
    shown false e y q = mild_as k x n _ _ (r.keeps (other x) e) (mild_holds k x m n _ (holds_return m n r) s.now) y q
    shown true e y q =
        ⊎_elim (λ z. mild_holds k x m n _ (holds_return m n r) s.was y (subst (λ b. read_meta (other x) n.size b ≡ Some y) z q))
        (λ z. mild_holds k x m n _ (holds_return m n r) (s.wrote e) y (subst (λ b. read_meta (other x) n.size b ≡ Some y) z q))
        (honest (other x) (omega arith) e y q)

-- a commit: from when on the next version is in doubt
pub doubting : (base : Medium) (h : History) (k k' : Record) (x : Meta) (m : Medium) (d : List Pair) → k.in_doubt ≡ None → k'.number ≡ k.number → k'.committed ≡ k.committed → k'.in_doubt ≡ Some d
    → Safe base h k x m → Safe base h k' x m
doubting base h k k' x m d none n c i s = record {
  room = s.room;
  whole = s.whole;
  number = s.number ∙ sym n;
  map = s.map ∙ sym c;
  page = s.page;
  firm = s.firm;
  now = older _ s.now;
  was = older _ s.was;
  wrote = λ v. older _ (s.wrote v);
}
  where
    older : (b : List ℕ) → Mild k x m b → Mild k' x m b
    older b f y e = ⊎_elim (λ l. inl l) (λ z. let a = z.in_doubt_lem in let q = none in cc) (f y e)

-- the write of its meta page, refused or not
pub write_safe : (base : Medium) (h : History) (k : Record) (x w : Meta) (m n : Medium) (r : Result Unit DeviceFault) (d : List Pair)
    → KeepsBut (other x) m n → (n.bytes (other x) ≡ meta_page w) ⊎ (n.bytes (other x) ≡ m.bytes (other x))
    → w.commit ≡ x.commit + 1 → Whole m w → pairs_held m.bytes w ≡ d → k.in_doubt ≡ Some d
    → Safe base h k x m → Safe base (step m (did_write (other x) (meta_page w) r) n ∷ h) k x n
write_safe base h k x w m n r d keeps put next whole pairs doubt s =
    let hold = holds_but m n (other x) (omega arith) keeps in
    let v = whole_holds m n x hold s.whole in
    let mild : Mild k x n (meta_page w) = itself in
    let now : Mild k x n (n.bytes (other x)) = ⊎_elim (λ e. mild_as k x n _ _ e mild) (λ e. mild_as k x n _ _ e (mild_holds k x m n _ hold s.now)) put in
    record {
      room = ap fits_pages keeps.same_size ∙ s.room;
      whole = v.whole;
      number = s.number;
      map = v.pairs ∙ s.map;
      page = keeps.same_bytes (mine x) (not_two x) ∙ s.page;
      firm = keeps.stays_durable (mine x) (not_two x) s.firm;
      now = now;
      was = mild_cond k x n (n.volatile (other x)) _ _ (mild_holds k x m n _ hold s.was) now;
      wrote = λ _. mild_as k x n _ _ (rw (eq-eqb (other x) (other x) refl)) mild;
    }
  where
    itself : Mild k x n (meta_page w)
    itself y e =
        let u = whole_holds m n w (holds_but m n (other x) (omega arith) keeps) whole in
        let p : other x ≡ w.commit % 2 = ap (λ c. c % 2) (sym next) in
        let q : read_meta (other x) n.size (meta_page w) ≡ Some w = subst (λ z. read_meta z n.size (meta_page w) ≡ Some w) (sym p) (meta_reads n.size w u.whole.good u.whole.fits) in
        let same : w ≡ y = cc in
        inr (subst (Doubt k x n) same (record { map = d; in_doubt_lem = doubt; next = next; whole = u.whole; pairs = u.pairs ∙ pairs }))

-- what is found: the record's version, or the one in doubt
pub data Newest (k : Record) (x : Meta) (m : Medium) : Type 0 where
  itself : newest_in m.bytes m.size ≡ Some x → ((y : Meta) → read_meta (other x) m.size (m.bytes (other x)) ≡ Some y → y.commit < x.commit) → Newest k x m
  doubtful : (y : Meta) → newest_in m.bytes m.size ≡ Some y → read_meta (other x) m.size (m.bytes (other x)) ≡ Some y → Doubt k x m y → Newest k x m

-- of the two pages, by the number's parity
abbrev pick : Meta → Option Meta → Option Meta
pick x None = Some x
pick x (Some y) = cond (ltb x.commit y.commit) (Some y) (Some x)

newest_by : (f : ℕ → List ℕ) (size : ℕ) (x : Meta) (o : Option Meta) → read_meta (mine x) size (f (mine x)) ≡ Some x → read_meta (other x) size (f (other x)) ≡ o
    → ((y : Meta) → o ≡ Some y → y.commit ≡ x.commit → ⊥) → newest_in f size ≡ pick x o
newest_by f size x o a b ne = ⊎_elim even odd (cases_eq (x.commit % 2) 0)
  where
    even : x.commit % 2 ≡ 0 → newest_in f size ≡ pick x o
    even z =
        let a' : read_meta 0 size (f 0) ≡ Some x = subst (λ q. read_meta q size (f q) ≡ Some x) z a in
        let b' : read_meta 1 size (f 1) ≡ o = subst (λ q. read_meta q size (f q) ≡ o) (omega arith) b in
        rw (a', b') (by o)
      where
        by : (o : Option Meta) → newer (Some x) o ≡ pick x o
        by None = refl
        by (Some y) = refl

    odd : (x.commit % 2 ≡ 0 → ⊥) → newest_in f size ≡ pick x o
    odd z =
        let a' : read_meta 1 size (f 1) ≡ Some x = subst (λ q. read_meta q size (f q) ≡ Some x) (omega arith) a in
        let b' : read_meta 0 size (f 0) ≡ o = subst (λ q. read_meta q size (f q) ≡ o) (omega arith) b in
        rw (a', b') (by o ne)
      where
        by : (o : Option Meta) → ((y : Meta) → o ≡ Some y → y.commit ≡ x.commit → ⊥) → newer o (Some x) ≡ pick x o
        by None n = refl
        by (Some y) n = let q = n y refl in grind (arith, nat_tests)

-- which of the two versions is the newest
pub newest_of : (base : Medium) (h : History) (k : Record) (x : Meta) (m : Medium) → Safe base h k x m → Newest k x m
newest_of base h k x m s = by (read_meta (other x) m.size (m.bytes (other x))) refl
  where
    here : read_meta (mine x) m.size (m.bytes (mine x)) ≡ Some x
    here = ap (read_meta (mine x) m.size) s.page ∙ meta_reads m.size x s.whole.good s.whole.fits

    apart : (y : Meta) → read_meta (other x) m.size (m.bytes (other x)) ≡ Some y → y.commit ≡ x.commit → ⊥
    apart y e q = ⊎_elim (λ l. omega arith) (λ d. let n = d.next in omega arith) (s.now y e)

    by : (o : Option Meta) → read_meta (other x) m.size (m.bytes (other x)) ≡ o → Newest k x m
    by None e = itself (newest_by m.bytes m.size x None here e (λ y q. cc)) (λ y q. cc)
    by (Some y) e =
        let n = newest_by m.bytes m.size x (Some y) here e (λ v q. apart v (e ∙ q)) in
        ⊎_elim
        (λ l. let f : ltb x.commit y.commit ≡ false = le-ltb _ _ (omega arith) in
        itself (rw f at n) (λ v q. let same : y ≡ v = cc in subst (λ (v : Meta). v.commit < x.commit) same l))
        (λ d. let g = d.next in let f : ltb x.commit y.commit ≡ true = lt-ltb _ _ (omega arith) in
        doubtful y (rw f at n) e d)
        (s.now y e)

-- once the next version counts, that before it is the older one
pub mild_before : (k : Record) (x y : Meta) (m : Medium) → y.commit ≡ x.commit + 1 → Whole m x → m.bytes (mine x) ≡ meta_page x → Mild k y m (m.bytes (other y))
mild_before k x y m n w page v e =
    let o : other y ≡ mine x = omega arith in
    let a : read_meta (mine x) m.size (meta_page x) ≡ Some v = subst (λ b. read_meta (mine x) m.size b ≡ Some v) page (subst (λ q. read_meta q m.size (m.bytes q) ≡ Some v) o e) in
    let b : read_meta (mine x) m.size (meta_page x) ≡ Some x = meta_reads m.size x w.good w.fits in
    let same : x ≡ v = cc in
    inl (subst (λ (v : Meta). v.commit < y.commit) same (omega arith))
