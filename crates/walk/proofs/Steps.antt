-- One call of the walk, step by step: a page, then its children from the left.
use Rattle.std.proofs.Common.{◌≡◌, ℕ, zero, suc, ◌+◌, ◌-◌, ◌*◌, ◌<◌, ◌≤◌, Bool, true, false, cond, eqb, ltb, ◌≢◌, List, [], ◌∷◌, ◌++◌, length, get_or, set, Some, None, Ok, Err, Option, Result, sym, refl, ap, ◌∙◌, subst, append_assoc, arith, get_or-set_other, get_or-set_same}
use Rattle.std.proofs.lemmas.Bool.Decides.{nat_tests}
use Rattle.std.proofs.lemmas.List.Sums.{sum_by-set}
use Rattle.device.specs.Medium.{Medium}
use Rattle.device.specs.Calls.{Reads}
use Rattle.device.specs.History.{History, did_read, step}
use Rattle.device.specs.Looking.{Looks, pages_read}
use Rattle.device.specs.declared.fault.DeviceFault.TheVariants.{Outside, Off}
use Rattle.device.proofs.Looking.{looks_none, looks_one, looks_more, reads_keep, same_pages, pages_read_append}
use Rattle.tree.specs.Sound.{Bound}
use Rattle.page.specs.Loads.{OneRead}
use Rattle.page.specs.Views.{pairs_in, branch_in}
use Rattle.page.specs.declared.fault.Cause.{Cause}
use Rattle.page.specs.declared.fault.Cause.TheVariants.{Child}
use Rattle.page.specs.declared.fault.PageFault.{PageFault}
use Rattle.page.specs.declared.fault.PageFault.TheVariants.{Device, Damaged}
use Rattle.paged.specs.Walk.{leaf_fault, branch_fault, Slot, slots_of, elem, admits, damage, Walked, fault, fine, then, along, walk}
use Rattle.walk.specs.Marking.{MarksAre, marked, free}
use Rattle.walk.specs.Walking.{Tests, answer, Left, Told, Walks}

-- marks
pub marks_more : (b : List Bool) (seen : List ℕ) (page : ℕ) → length b ≡ 1024 → page < 1024 → MarksAre b seen → MarksAre (set b page true) (page ∷ seen)
unfolding elem
marks_more b seen page e l h p lp = side (eqb p page) refl
  where
    side : (t : Bool) → eqb p page ≡ t → get_or (set b page true) p false ≡ elem p (page ∷ seen)
    side true q = let z : p ≡ page = grind (arith, nat_tests) in let k : page < length b = omega arith in rw (z, get_or-set_same) (grind (arith, nat_tests))
    side false q = let z : p ≢ page = grind (arith, nat_tests) in rw (get_or-set_other, q) (h p lp)

pub marked_more : (b : List Bool) (page : ℕ) → length b ≡ 1024 → page < 1024 → get_or b page false ≡ false → marked (set b page true) ≡ marked b + 1
marked_more b page e l f =
    let s = sum_by-set (λ (x : Bool). cond x 1 0) b page true false (omega arith) in
    let s' : marked (set b page true) + 0 ≡ marked b + 1 = rw f at s in
    omega arith

free_is : (b : List Bool) (met : List ℕ) (size p : ℕ) → size ≤ 1024 → MarksAre b met → free size b p ≡ admits size met p
free_is b met size p l h = side (ltb p size) refl
  where
    side : (t : Bool) → ltb p size ≡ t → free size b p ≡ admits size met p
    side true q = let k : p < 1024 = grind (arith, nat_tests) in rw (h p k)
    side false q = grind (arith, nat_tests)

pub free_tells : (b : List Bool) (size p : ℕ) → free size b p ≡ true → (p < size) × (get_or b p false ≡ false)
free_tells b size p e = (grind (arith, nat_tests), grind (arith, nat_tests))

-- answers
ok_answer : (on : Bool) (w : Walked) (k : ℕ) → Ok k ≡ answer on w → (on ≡ true) × ((met : List ℕ) × (w ≡ fine met k))
ok_answer false w k e = let z : ◌≡◌ {A = ℕ} 0 1 = cc in let bad : ⊥ = omega arith in absurd bad
ok_answer true (fault d) k e = let z : ◌≡◌ {A = ℕ} 0 1 = cc in let bad : ⊥ = omega arith in absurd bad
ok_answer true (fine met j) k e = let q : j ≡ k = cc in (refl, (met, ap (fine met) q))

err_then : (on : Bool) (w : Walked) (f : List ℕ → ℕ → Walked) (x : PageFault) → Err x ≡ answer on w → Err x ≡ answer on (then w f)
err_then false w f x e = e
err_then true (fault d) f x e = e
err_then true (fine met j) f x e = let z : ◌≡◌ {A = ℕ} 0 1 = cc in let bad : ⊥ = omega arith in absurd bad

err_left : (b : List Bool) (ps : List ℕ) (on : Bool) (w : Walked) (x : PageFault) → Err x ≡ answer on w → Left b ps on w
err_left b ps false w x e = tt
err_left b ps true (fault d) x e = tt
err_left b ps true (fine met j) x e = let z : ◌≡◌ {A = ℕ} 0 1 = cc in let bad : ⊥ = omega arith in absurd bad

told_err : (b : List Bool) (ps : List ℕ) (on : Bool) (w : Walked) (x : PageFault) → Err x ≡ answer on w → Told b ps on w (Err x)
told_err b ps on w x e = record { answered = e; left = err_left b ps on w x e }

told_fine : (b : List Bool) (ps met : List ℕ) (on : Bool) (w : Walked) (k : ℕ) → on ≡ true → w ≡ fine met k → MarksAre b met → ps ≡ met → Told b ps on w (Ok k)
told_fine b ps met on w k o e h q = record { answered = rw (o, e); left = rw (o, e) (h, q) }

-- the walk, one page on
pub leaf_fault_lem : (m : ℕ → List ℕ) (size : ℕ) (root : Bool) (h : ℕ) (lo : List ℕ) (hi : Bound) (page : ℕ) (seen : List ℕ) (c : Cause)
    → h ≡ 0 → leaf_fault root lo hi (m page) ≡ Some c → walk m size root h lo hi page seen ≡ fault (damage page c)
unfolding walk
leaf_fault_lem m size root zero lo hi page seen c z e = rw e
leaf_fault_lem m size root (suc h) lo hi page seen c z e = let bad : ⊥ = omega arith in absurd bad

pub branch_fault_lem : (m : ℕ → List ℕ) (size : ℕ) (root : Bool) (h : ℕ) (lo : List ℕ) (hi : Bound) (page : ℕ) (seen : List ℕ) (c : Cause)
    → (h ≡ 0 → ⊥) → branch_fault root lo hi (m page) ≡ Some c → walk m size root h lo hi page seen ≡ fault (damage page c)
unfolding walk
branch_fault_lem m size root zero lo hi page seen c z e = absurd (z refl)
branch_fault_lem m size root (suc h) lo hi page seen c z e = rw e

walk_leaf : (m : ℕ → List ℕ) (size : ℕ) (root : Bool) (h : ℕ) (lo : List ℕ) (hi : Bound) (page : ℕ) (seen : List ℕ)
    → h ≡ 0 → leaf_fault root lo hi (m page) ≡ None → walk m size root h lo hi page seen ≡ fine (page ∷ seen) (length (pairs_in (m page)))
unfolding walk
walk_leaf m size root zero lo hi page seen z e = rw e
walk_leaf m size root (suc h) lo hi page seen z e = let bad : ⊥ = omega arith in absurd bad

-- the walk of a child, by the height of the parent
abbrev pub below : (size h : ℕ) → (ℕ → List ℕ) → Slot ℕ → List ℕ → Walked
below size h m s = walk m size false (h - 1) s.low s.high s.child

walk_branch : (m : ℕ → List ℕ) (size : ℕ) (root : Bool) (h : ℕ) (lo : List ℕ) (hi : Bound) (page : ℕ) (seen : List ℕ)
    → (h ≡ 0 → ⊥) → branch_fault root lo hi (m page) ≡ None
    → walk m size root h lo hi page seen ≡ along (below size h m) size page (slots_of lo hi (branch_in (m page))) (page ∷ seen) 0
unfolding walk
walk_branch m size root zero lo hi page seen z e = absurd (z refl)
walk_branch m size root (suc h) lo hi page seen z e =
    let q : suc h - 1 ≡ h = omega arith in
    subst (λ (j : ℕ). walk m size root (suc h) lo hi page seen ≡ along (λ s. walk m size false j s.low s.high s.child) size page (slots_of lo hi (branch_in (m page))) (page ∷ seen) 0) (sym q) (rw e)

along_refused : (w : Slot ℕ → List ℕ → Walked) (size page : ℕ) (s : Slot ℕ) (ss : List (Slot ℕ)) (met : List ℕ) (pairs : ℕ)
    → admits size met s.child ≡ false → along w size page (s ∷ ss) met pairs ≡ fault (damage page Child)
unfolding along
along_refused w size page s ss met pairs e = rw e

along_admitted : (w : Slot ℕ → List ℕ → Walked) (size page : ℕ) (s : Slot ℕ) (ss : List (Slot ℕ)) (met : List ℕ) (pairs : ℕ)
    → admits size met s.child ≡ true → along w size page (s ∷ ss) met pairs ≡ then (w s met) (λ met' k. along w size page ss met' (pairs + k))
unfolding along
along_admitted w size page s ss met pairs e = rw e

along_done : (w : Slot ℕ → List ℕ → Walked) (size page : ℕ) (met : List ℕ) (pairs : ℕ) → along w size page [] met pairs ≡ fine met pairs
unfolding along
along_done w size page met pairs = refl

-- a page that could not be had, or has a fault
module _ (P : History → Type 0) (m : Medium) (Q : History → Type 0) (n : Medium) (size page : ℕ) (b : List Bool) (w : (ℕ → List ℕ) → List ℕ → Walked)
    (inside : page < size) where
  pub walks_err : {T : Type 0} (fault_of : List ℕ → Option Cause) (bytes : T → List ℕ) (x : PageFault)
      → ((f : ℕ → List ℕ) (seen : List ℕ) (c : Cause) → fault_of (f page) ≡ Some c → w f seen ≡ fault (damage page c))
      → Tests {T = T} fault_of bytes P m page (Err x) Q n → Walks P m Q n size b (set b page true) w (Err x)
  walks_err fault_of bytes (Device Outside) wf (c, r) = record {
    room = tt;
    looks = looks_one _ page c (Err Outside) r (λ h p e sz. let k = e.0 in let bad : ⊥ = omega arith in absurd bad);
  }
  walks_err fault_of bytes (Device Off) wf (c, r) = record {
    room = tt;
    looks = looks_one _ page c (Err Off) r (λ h p e sz seen k. told_err _ _ n.on (w m.bytes seen) (Device Off) (rw e.1.is_off));
  }
  walks_err fault_of bytes (Damaged d) wf (c, r, f, q) = record {
    room = tt;
    looks = looks_one _ page c (Ok tt) r (λ h p e sz seen k.
        let z : w m.bytes seen ≡ fault d = wf m.bytes seen d.cause (ap fault_of (sym e.2) ∙ f) ∙ ap (λ y. fault (damage y d.cause)) (sym q) in
        told_err _ _ n.on (w m.bytes seen) (Damaged d) (rw (e.1.is_on, z)));
  }

-- a leaf
module _ (P : History → Type 0) (m : Medium) (Q : History → Type 0) (n : Medium) (size : ℕ) (root : Bool) (h : ℕ) (lo : List ℕ) (hi : Bound) (page : ℕ) (b : List Bool)
    (small : size ≤ 1024) (inside : page < size) (long : length b ≡ 1024) (unmet : get_or b page false ≡ false) where
  pub walks_leaf : (bytes : List ℕ) (k : ℕ) → h ≡ 0 → OneRead P m page bytes (Ok tt) Q n → leaf_fault root lo hi bytes ≡ None → k ≡ length (pairs_in bytes) → k ≤ 248
      → Walks P m Q n size b (set b page true) (λ f. walk f size root h lo hi page) (Ok k)
  walks_leaf bytes k z r e l few = record {
    room = omega (arith, marked_more b page long (omega arith) unmet);
    looks = looks_one _ page bytes (Ok tt) r (λ h' p s sz seen mk.
        let v : walk m.bytes size root h lo hi page seen ≡ fine (page ∷ seen) k =
        walk_leaf m.bytes size root h lo hi page seen z (ap (leaf_fault root lo hi) (sym s.2) ∙ e) ∙ ap (λ y. fine (page ∷ seen) (length (pairs_in y))) (sym s.2) ∙ ap (fine (page ∷ seen)) (sym l) in
        told_fine _ _ (page ∷ seen) n.on _ k s.1.is_on v (marks_more b seen page long (omega arith) mk) refl);
  }

-- the loop over the children of a branch: what is left gives what the whole gives
pub record Going (P : History → Type 0) (m : Medium) (Q : History → Type 0) (n : Medium) (size page : ℕ) (down : (ℕ → List ℕ) → Slot ℕ → List ℕ → Walked) (all left : List (Slot ℕ)) (b b' : List Bool) (pairs : ℕ) : Type 0 where
  pub room : pairs + 248 * marked b ≤ 248 * marked b'
  pub looks : Looks P m Q n
      (λ t. m.on ≡ true → size ≤ m.size → (seen : List ℕ) → MarksAre b seen
      → (met : List ℕ) × MarksAre b' met × (n.on ≡ true) × (pages_read t ++ seen ≡ met)
      × (along (down m.bytes) size page all seen 0 ≡ along (down m.bytes) size page left met pairs))

pub going_none : (P : History → Type 0) (m : Medium) (size page : ℕ) (down : (ℕ → List ℕ) → Slot ℕ → List ℕ → Walked) (all : List (Slot ℕ)) (b : List Bool)
    → Going P m P m size page down all all b b 0
going_none P m size page down all b =
    record { room = omega arith; looks = looks_none _ (λ h p on sz seen k. (seen, k, on, refl, refl)) }

read_more : (u t : History) (seen met met' : List ℕ) → pages_read t ++ seen ≡ met → pages_read u ++ met ≡ met' → pages_read (u ++ t) ++ seen ≡ met'
read_more u t seen met met' e f =
    ap (λ ps. ps ++ seen) (pages_read_append u t) ∙ append_assoc (pages_read u) (pages_read t) seen ∙ ap (λ ps. pages_read u ++ ps) e ∙ f

-- what the loop comes to, from before its first child on
abbrev pub Ends : (P : History → Type 0) (m : Medium) (size page : ℕ) (down : (ℕ → List ℕ) → Slot ℕ → List ℕ → Walked) (all : List (Slot ℕ)) (b : List Bool)
    (R : History → Type 0) (o : Medium) (b' : List Bool) → Result ℕ PageFault → Type 0
Ends P m size page down all b R o b' a = Looks P m R o
    (λ t. m.on ≡ true → size ≤ m.size → (seen : List ℕ) → MarksAre b seen
    → Told b' (pages_read t ++ seen) o.on (along (down m.bytes) size page all seen 0) a)

module _ (P : History → Type 0) (m : Medium) (Q : History → Type 0) (n : Medium) (size page : ℕ) (down : (ℕ → List ℕ) → Slot ℕ → List ℕ → Walked)
    (all : List (Slot ℕ)) (b b' : List Bool) (pairs : ℕ) (small : size ≤ 1024) where
  pub going_more : (R : History → Type 0) (o : Medium) (s : Slot ℕ) (ss : List (Slot ℕ)) (b'' : List Bool) (k : ℕ)
      → Going P m Q n size page down all (s ∷ ss) b b' pairs → free size b' s.child ≡ true
      → Walks Q n R o size b' b'' (λ f. down f s) (Ok k) → Going P m R o size page down all ss b b'' (pairs + k)
  going_more R o s ss b'' k go f call = record {
    room = omega (arith, go.room, call.room);
    looks = looks_more _ _ _ go.looks call.looks (λ t u lt at lu au i j on sz seen mk.
        let keeps = reads_keep m t n lt at in
        let th = i on sz seen mk in
        let told = j (omega (arith, keeps.same_size)) th.0 th.1 in
        let a = ok_answer o.on (down n.bytes s th.0) k told.answered in
        let left = rw (a.0, a.1.1) at told.left in
        let e : down m.bytes s th.0 ≡ fine a.1.0 k = ap (λ g. down g s th.0) (sym (same_pages keeps)) ∙ a.1.1 in (
          a.1.0,
          left.0,
          a.0,
          read_more u t seen th.0 a.1.0 th.3 left.1,
          th.4 ∙ along_admitted (down m.bytes) size page s ss th.0 pairs (sym (free_is b' th.0 size s.child small th.1) ∙ f)
              ∙ ap (λ v. then v (λ met' j'. along (down m.bytes) size page ss met' (pairs + j'))) e,
        ));
  }

  pub going_broken : (R : History → Type 0) (o : Medium) (s : Slot ℕ) (ss : List (Slot ℕ)) (b'' : List Bool) (x : PageFault)
      → Going P m Q n size page down all (s ∷ ss) b b' pairs → free size b' s.child ≡ true
      → Walks Q n R o size b' b'' (λ f. down f s) (Err x) → Ends P m size page down all b R o b'' (Err x)
  going_broken R o s ss b'' x go f call =
      looks_more _ _ _ go.looks call.looks (λ t u lt at lu au i j on sz seen mk.
      let keeps = reads_keep m t n lt at in
      let th = i on sz seen mk in
      let told = j (omega (arith, keeps.same_size)) th.0 th.1 in
      let e : along (down m.bytes) size page all seen 0 ≡ then (down m.bytes s th.0) (λ met' j'. along (down m.bytes) size page ss met' (pairs + j')) =
      th.4 ∙ along_admitted (down m.bytes) size page s ss th.0 pairs (sym (free_is b' th.0 size s.child small th.1) ∙ f) in
      let a : Err x ≡ answer o.on (down m.bytes s th.0) = told.answered ∙ ap (λ g. answer o.on (down g s th.0)) (same_pages keeps) in
      told_err _ _ o.on _ x (rw e (err_then o.on (down m.bytes s th.0) _ x a)))

  pub going_refused : (s : Slot ℕ) (ss : List (Slot ℕ))
      → Going P m Q n size page down all (s ∷ ss) b b' pairs → free size b' s.child ≡ false → Ends P m size page down all b Q n b' (Err (Damaged (damage page Child)))
  going_refused s ss go f = record {
    follows = λ h p.
        let r = go.looks.follows h p in (
          r.0,
          r.1,
          r.2,
          r.3,
          λ on sz seen mk.
              let th = r.4 on sz seen mk in
              let e = th.4 ∙ along_refused (down m.bytes) size page s ss th.0 pairs (sym (free_is b' th.0 size s.child small th.1) ∙ f) in
              told_err _ _ n.on _ _ (rw (th.2, e)),
        );
  }

  pub going_done : Going P m Q n size page down all [] b b' pairs → Ends P m size page down all b Q n b' (Ok pairs)
  going_done go = record {
    follows = λ h p.
        let r = go.looks.follows h p in (
          r.0,
          r.1,
          r.2,
          r.3,
          λ on sz seen mk.
              let th = r.4 on sz seen mk in
              told_fine _ _ th.0 n.on _ pairs th.2 (th.4 ∙ along_done (down m.bytes) size page th.0 pairs) th.1 th.3,
        );
  }

-- a branch: its page is read and tested, then come its children
module _ (P : History → Type 0) (m : Medium) (Q : History → Type 0) (n : Medium) (size : ℕ) (root : Bool) (h : ℕ) (lo : List ℕ) (hi : Bound) (page : ℕ) (b : List Bool)
    (small : size ≤ 1024) (inside : page < size) (long : length b ≡ 1024)
    (bytes : List ℕ) (high : h ≡ 0 → ⊥) (r : OneRead P m page bytes (Ok tt) Q n) (good : branch_fault root lo hi bytes ≡ None) where
  pub begun : (R : History → Type 0) (o : Medium) (b'' : List Bool) (a : Result ℕ PageFault)
      → Ends Q n size page (below size h) (slots_of lo hi (branch_in bytes)) (set b page true) R o b'' a
      → Looks P m R o (λ t. size ≤ m.size → (seen : List ℕ) → MarksAre b seen → Told b'' (pages_read t ++ seen) o.on (walk m.bytes size root h lo hi page seen) a)
  begun R o b'' a ends =
      looks_more (λ t. (t ≡ step m (did_read page bytes (Ok tt)) n ∷ []) × Reads m page bytes (Ok tt) n) _ _
      (looks_one _ page bytes (Ok tt) r (λ h' p s. (refl, s))) ends
      (λ t u lt at lu au i j sz seen mk.
      let s = i.1 in
      let keeps = s.3 in
      let told = j s.1.is_on (omega (arith, keeps.same_size)) (page ∷ seen) (marks_more b seen page long (omega arith) mk) in
      let w : walk m.bytes size root h lo hi page seen ≡ along (below size h n.bytes) size page (slots_of lo hi (branch_in bytes)) (page ∷ seen) 0 =
      walk_branch m.bytes size root h lo hi page seen high (ap (branch_fault root lo hi) (sym s.2) ∙ good)
      ∙ ap (λ y. along (below size h m.bytes) size page (slots_of lo hi (branch_in y)) (page ∷ seen) 0) (sym s.2)
      ∙ ap (λ g. along (below size h g) size page (slots_of lo hi (branch_in bytes)) (page ∷ seen) 0) (sym (same_pages keeps)) in
      let ps : pages_read (u ++ t) ++ seen ≡ pages_read u ++ (page ∷ seen) =
      ap (λ z. pages_read (u ++ z) ++ seen) i.0 ∙ ap (λ z. z ++ seen) (pages_read_append u (step m (did_read page bytes (Ok tt)) n ∷ [])) ∙ append_assoc (pages_read u) (page ∷ []) seen in
      subst (λ z. Told b'' z o.on (walk m.bytes size root h lo hi page seen) a) (sym ps)
      (subst (λ z. Told b'' (pages_read u ++ (page ∷ seen)) o.on z a) (sym w) told))
