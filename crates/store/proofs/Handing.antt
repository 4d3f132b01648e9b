-- What get and after hand out, by what their search found.
use Rattle.std.proofs.Common.{◌≡◌, ℕ, ◌<◌, Bool, true, false, List, [], Some, None, Ok, Err, Option, Result, sym, refl, ap, subst}
use Rattle.std.specs.List.{AllByRecursion}
use Rattle.std.specs.Result.{result_ok}
use Rattle.std.proofs.ByRecursion.{All-weaker}
use Rattle.device.specs.Medium.{Medium, zeros}
use Rattle.device.specs.Calls.{Keeps}
use Rattle.device.specs.History.{History}
use Rattle.device.specs.Looking.{IsRead, Looks}
use Rattle.device.specs.declared.fault.DeviceFault.TheVariants.{Off}
use Rattle.device.proofs.Looking.{looks_none, reads_keep, same_pages}
use Rattle.cuts.specs.Nodes.{Pair}
use Rattle.page.specs.Kinds.{leaf_rules}
use Rattle.page.specs.declared.fault.PageFault.{PageFault}
use Rattle.page.specs.declared.fault.PageFault.TheVariants.{Device}
use Rattle.meta.specs.declared.Meta.{Meta}
use Rattle.faults.specs.declared.fault.StoreFault.{StoreFault}
use Rattle.faults.specs.declared.fault.StoreFault.TheVariants.{Shut as IsShut, KeyLength, Absent, Page}
use Rattle.paged.specs.Sound.{Inside}
use Rattle.paged.proofs.Accepted.{none_of}
use Rattle.search.specs.Finding.{Answers, Standing, Finds, Searches, PlaceOf}
use Rattle.search.specs.declared.Place.{Place}
use Rattle.store.specs.Acting.{CallsIf}
use Rattle.store.specs.Model.{looked, reads}
use Rattle.store.specs.Reading.{version_of, Hands, HandsIfSound, shut_if_off}
use Rattle.store.specs.Snapshots.{snap}
use Rattle.store.specs.States.{version_in, can_read}
use Rattle.store.specs.Versions.{height_of, tree_of, pages_held, pairs_held, Stands, Sound, model_of}
use Rattle.store.specs.declared.state.State.{State}
use Rattle.store.specs.declared.state.State.TheVariants.{Shut, Idle, InTransaction}
use Rattle.store.specs.declared.state.Held.{Held}
use Rattle.store.proofs.Kept.{stands_keep, committed_keep}

-- a sound store stays sound while pages keep their bytes
pub sound_keep : (m n : Medium) (s : State) (b : Held) → Keeps m n → Sound m s b → Sound n s b
sound_keep m n Shut b k h = tt
sound_keep m n (Idle x) b k h = committed_keep m n x _ k h
sound_keep m n (InTransaction x) b k h = (committed_keep m n x.committed _ k h.0, (stands_keep m n x.working _ k h.1).stands, h.2)

pub model_keep : (m n : Medium) (s : State) → Keeps m n → model_of n.bytes s ≡ model_of m.bytes s
model_keep m n s k = ap (λ f. model_of f s) (same_pages k)

version_is : (s : State) (x : Meta) → Ok x ≡ version_in s → version_of s ≡ Some x
version_is s x e = ap result_ok (sym e)

version_stands : (m : Medium) (s : State) (b : Held) (x : Meta) → version_of s ≡ Some x → Sound m s b → (marks : List Bool) × Stands m x marks
version_stands m Shut b x e h = cc
version_stands m (Idle y) b x e h = let q : y ≡ x = cc in (_, subst (λ v. Stands m v b.committed.marked) q h.stands)
version_stands m (InTransaction y) b x e h = let q : y.working ≡ x = cc in (_, subst (λ v. Stands m v b.working.marked) q h.1)

reads_at : (f : ℕ → List ℕ) (s : State) (x : Meta) (on fits : Bool) (want : List Pair → Option Pair) → version_of s ≡ Some x
    → reads on fits want (model_of f s) ≡ looked on fits (want (pairs_held f x)) (model_of f s)
reads_at f Shut x on fits want e = cc
reads_at f (Idle y) x on fits want e = let q : y ≡ x = cc in ap (λ v. looked on fits (want (pairs_held f v)) (model_of f (Idle y))) q
reads_at f (InTransaction y) x on fits want e = let q : y.working ≡ x = cc in ap (λ v. looked on fits (want (pairs_held f v)) (model_of f (InTransaction y))) q

standing : (m : Medium) (x : Meta) (marks : List Bool) → Stands m x marks → Standing m (height_of x) x.root (tree_of m.bytes x)
standing m x marks s = record {
  starts = s.tree.starts;
  lies = s.tree.lies;
  inside = All-weaker (Inside m.size) (λ p. p < m.size) (λ p i. i.1) (pages_held m.bytes x) s.tree.inside;
}

module _ (m : Medium) (s : State) (b : Held) (want : List Pair → Option Pair) where
  -- refused before a call of the device
  pub shut_refused : (f : StoreFault) (on fits : Bool) → Err f ≡ version_in s → Sound m s b → Hands (snap m s b) (snap m s b) (reads on fits want) (Err f) zeros
  shut_refused f on fits e h = by s e h
    where
      by : (s : State) → Err f ≡ version_in s → Sound m s b → Hands (snap m s b) (snap m s b) (reads on fits want) (Err f) zeros
      by Shut e h = let q : f ≡ IsShut = cc in record { hands = (ap Err q, refl); becomes = refl; sound = tt }
      by (Idle x) e h = cc
      by (InTransaction x) e h = cc

  pub length_refused : (x : Meta) (on fits : Bool) → version_of s ≡ Some x → fits ≡ false → Sound m s b → Hands (snap m s b) (snap m s b) (reads on fits want) (Err KeyLength) zeros
  length_refused x on fits e f h = let r = reads_at m.bytes s x on fits want e in record { hands = rw (r, f) (refl, refl); becomes = rw (r, f); sound = h }

  -- what the search says of the tree
  module _ (n : Medium) (x : Meta) (height : ℕ) (r : Result (Option Place) PageFault) (e : version_of s ≡ Some x) (g : height ≡ height_of x)
      (k : Keeps m n) (found : Finds m n.on (record { root = x.root; height = height }) want r) (h : Sound m s b) where
    searched : Answers m.bytes (height_of x) (tree_of m.bytes x) n.on (want (pairs_held m.bytes x)) r
    searched = let v = version_stands m s b x e h in found (height_of x) (tree_of m.bytes x) g (standing m x v.0 v.1) v.1.tree.sound

    step_is : reads n.on true want (model_of m.bytes s) ≡ looked n.on true (want (pairs_held m.bytes x)) (model_of m.bytes s)
    step_is = reads_at m.bytes s x n.on true want e

    fault_by : (q : PageFault) (on : Bool) (o : Option Pair) → Answers m.bytes (height_of x) (tree_of m.bytes x) on o (Err q) → (on ≡ false) × (q ≡ Device Off)
    fault_by q false o a = (refl, cc)
    fault_by q true None a = cc
    fault_by q true (Some p) a = let z = a.1 in cc

    pub fault_handed : (q : PageFault) → r ≡ Err q → Hands (snap m s b) (snap n (shut_if_off r s) b) (reads n.on true want) (Err (Page q)) zeros
    fault_handed q z =
        let a = fault_by q n.on _ (subst (λ v. Answers m.bytes (height_of x) (tree_of m.bytes x) n.on (want (pairs_held m.bytes x)) v) z searched) in
        record { hands = rw (step_is, a.0, a.1) (refl, refl); becomes = rw (step_is, z, a.0, a.1); sound = rw (z, a.1) tt }

    none_by : (on : Bool) (o : Option Pair) → Answers m.bytes (height_of x) (tree_of m.bytes x) on o (Ok None) → (on ≡ true) × (o ≡ None)
    none_by false o a = cc
    none_by true None a = (refl, refl)
    none_by true (Some p) a = let z = a.1 in cc

    pub none_handed : r ≡ Ok None → Hands (snap m s b) (snap n (shut_if_off r s) b) (reads n.on true want) (Err Absent) zeros
    none_handed z =
        let a = none_by n.on _ (subst (λ v. Answers m.bytes (height_of x) (tree_of m.bytes x) n.on (want (pairs_held m.bytes x)) v) z searched) in
        record { hands = rw (step_is, a.0, a.1) (refl, refl); becomes = rw (step_is, z, a.0, a.1) (model_keep m n s k); sound = rw z (sound_keep m n s b k h) }

    some_by : (place : Place) (on : Bool) (o : Option Pair) → Answers m.bytes (height_of x) (tree_of m.bytes x) on o (Ok (Some place))
        → (on ≡ true) × ((p : Pair) × (o ≡ Some p) × PlaceOf m.bytes (height_of x) (tree_of m.bytes x) p place)
    some_by place false o a = cc
    some_by place true None a = cc
    some_by place true (Some p) a = let z = a.1 in let q : a.0 ≡ place = cc in (refl, (p, refl, subst (PlaceOf m.bytes (height_of x) (tree_of m.bytes x) p) q a.2))

    pub some_handed : (place : Place) → r ≡ Ok (Some place) → Hands (snap m s b) (snap n (shut_if_off r s) b) (reads n.on true want) (Ok place.cell) place.leaf.bytes
    some_handed place z =
        let a = some_by place n.on _ (subst (λ v. Answers m.bytes (height_of x) (tree_of m.bytes x) n.on (want (pairs_held m.bytes x)) v) z searched) in
        let p = a.1.2 in
        record {
          hands = rw (step_is, a.0, a.1.1) (
            place.cell,
            refl,
            record { meta = x; is_version = e; page = p.page; of_tree = p.of_leaf; bytes_are = p.bytes_are; is_leaf = none_of leaf_rules place.leaf.bytes place.leaf.sound; within = p.holds.within; pair_is = p.holds.pair_is },
          );
          becomes = rw (step_is, z, a.0, a.1.1) (model_keep m n s k);
          sound = rw z (sound_keep m n s b k h);
        }

-- through the reads of the search
pub looks_keep : {P : History → Type 0} {m : Medium} {Q : History → Type 0} {n : Medium} (F G : History → Type 0) → Looks P m Q n F → ((t : History) → AllByRecursion IsRead t → Keeps m n → F t → G t) → Looks P m Q n G
looks_keep {P} {m} {Q} {n} F G l f = record {
  follows = λ h p. let a = l.follows h p in (a.0, a.1, a.2, a.3, f a.0 a.3 (reads_keep m a.0 n a.2 a.3) a.4);
}

-- a read that is refused for the state or for its key makes no call, and one that is not may read
none_shut : (s : State) (fits : Bool) (f : StoreFault) → Err f ≡ version_in s → can_read s fits ≡ false
none_shut Shut fits f e = refl
none_shut (Idle x) fits f e = cc
none_shut (InTransaction x) fits f e = cc

none_short : (s : State) (fits : Bool) → fits ≡ false → can_read s fits ≡ false
none_short Shut fits e = refl
none_short (Idle x) fits e = e
none_short (InTransaction x) fits e = e

by_none : (b : Bool) → b ≡ false → CallsIf b [] (AllByRecursion IsRead [])
by_none b e = subst (λ v. CallsIf v [] (AllByRecursion IsRead [])) (sym e) refl

by_reads : (s : State) (x : Meta) (t : History) → Ok x ≡ version_in s → AllByRecursion IsRead t → CallsIf (can_read s true) t (AllByRecursion IsRead t)
by_reads Shut x t e r = cc
by_reads (Idle y) x t e r = r
by_reads (InTransaction y) x t e r = r

-- the whole of a read, by its way out
module _ (P : History → Type 0) (m : Medium) (s : State) (b : Held) (want : List Pair → Option Pair) where
  abbrev pub Reading : (fits : Bool) (Q : History → Type 0) (n : Medium) (z : State) (a : Result ℕ StoreFault) (buffer : List ℕ) → Type 0
  Reading fits Q n z a buffer = Looks P m Q n (λ t. CallsIf (can_read s fits) t (AllByRecursion IsRead t) × HandsIfSound (snap m s b) (snap n z b) fits want a buffer)

  pub at_shut : (fits : Bool) (f : StoreFault) → Err f ≡ version_in s → Reading fits P m s (Err f) zeros
  at_shut fits f e = looks_none _ (λ _ _. (by_none _ (none_shut s fits f e), λ h. shut_refused m s b want f m.on fits e h))

  pub at_length : (fits : Bool) (x : Meta) → Ok x ≡ version_in s → fits ≡ false → Reading fits P m s (Err KeyLength) zeros
  at_length fits x e f = looks_none _ (λ _ _. (by_none _ (none_short s fits f), λ h. length_refused m s b want x m.on fits (version_is s x e) f h))

  module _ (Q : History → Type 0) (n : Medium) (x : Meta) (height : ℕ) (r : Result (Option Place) PageFault) (z : State) (e : Ok x ≡ version_in s) (g : height ≡ height_of x)
      (l : Searches P m Q n (record { root = x.root; height = height }) want r) (y : z ≡ shut_if_off r s) where
    pub at_fault : (q : PageFault) → r ≡ Err q → Reading true Q n z (Err (Page q)) zeros
    at_fault q i = looks_keep _ _ l (λ t a k w. (by_reads s x t e a, λ h. rw y (fault_handed m s b want n x height r (version_is s x e) g k w h q i)))

    pub at_none : r ≡ Ok None → Reading true Q n z (Err Absent) zeros
    at_none i = looks_keep _ _ l (λ t a k w. (by_reads s x t e a, λ h. rw y (none_handed m s b want n x height r (version_is s x e) g k w h i)))

    pub at_some : (place : Place) → r ≡ Ok (Some place) → Reading true Q n z (Ok place.cell) place.leaf.bytes
    at_some place i = looks_keep _ _ l (λ t a k w. (by_reads s x t e a, λ h. rw y (some_handed m s b want n x height r (version_is s x e) g k w h place i)))
