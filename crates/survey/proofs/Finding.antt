-- A tree that was recovered, and then the parents of its pages.
use Rattle.std.proofs.Common.{◌≡◌, ℕ, Bool, true, false, cond, List, Ok, Err, Result, refl, subst, arith}
use Rattle.device.specs.Medium.{Medium}
use Rattle.device.specs.History.{History}
use Rattle.device.specs.Looking.{Looks}
use Rattle.device.specs.declared.fault.DeviceFault.{DeviceFault}
use Rattle.device.proofs.Looking.{looks_more, reads_keep, same_pages}
use Rattle.faults.specs.Faults.{from_device}
use Rattle.faults.specs.declared.fault.StoreFault.{StoreFault}
use Rattle.faults.specs.declared.fault.StoreFault.TheVariants.{PageCount}
use Rattle.walk.specs.Checking.{fits_pages, powered, held_by, newest_in, Recovers}
use Rattle.walk.specs.declared.inspection.Recovered.{Recovered}
use Rattle.survey.specs.Families.{ParentsAre, TellsParents, FindsTree}
use Rattle.survey.specs.declared.parents.Parents.{Parents}

-- a device that holds a tree has room, and was on
module _ {T : Type 0} (r : Result T StoreFault) (h : T) where
  pub has_room : (fits on : Bool) → cond fits (powered on r) (Err PageCount) ≡ Ok h → fits ≡ true
  has_room true on e = refl
  has_room false on e = let z : ◌≡◌ {A = ℕ} 0 1 = cc in let bad : ⊥ = omega arith in absurd bad

  when_on : (fits on : Bool) → cond fits (powered on r) (Err PageCount) ≡ Ok h → cond fits (powered true r) (Err PageCount) ≡ Ok h
  when_on true true e = e
  when_on true false e = let z : ◌≡◌ {A = ℕ} 0 1 = cc in let bad : ⊥ = omega arith in absurd bad
  when_on false on e = e

module _ (P : History → Type 0) (m : Medium) (Q : History → Type 0) (n : Medium) (r : Recovered) (found : Looks P m Q n (λ t. Recovers m n.on t (Ok r)))
    (R : History → Type 0) (o : Medium) where
  pub tree_found : (ps : Parents) → Looks Q n R o (λ _. TellsParents n.bytes n.size r.marks.marked o.on (Ok ps))
      → Looks P m R o (λ _. FindsTree m.bytes m.size o.on (Ok (record { meta = r.meta; marks = r.marks; parents = ps })))
  tree_found ps l = looks_more _ _ _ found l (λ t u lt at lu au f g.
      let keeps = reads_keep m t n lt at in (
        f.0,
        when_on (held_by m.bytes m.size (newest_in m.bytes m.size)) _ (fits_pages m.size) n.on f.1,
        f.2,
        subst (λ (s : ℕ). ParentsAre m.bytes s r.marks.marked ps) keeps.same_size
            (subst (λ (b : ℕ → List ℕ). ParentsAre b n.size r.marks.marked ps) (same_pages keeps) g),
      ))

  pub tree_refused : (f : DeviceFault) → Looks Q n R o (λ _. TellsParents n.bytes n.size r.marks.marked o.on (Err f))
      → Looks P m R o (λ _. FindsTree m.bytes m.size o.on (Err (from_device f)))
  tree_refused f l = looks_more _ _ _ found l (λ t u lt at lu au a b.
      let room = has_room (held_by m.bytes m.size (newest_in m.bytes m.size)) _ (fits_pages m.size) n.on a.1 in
      rw (b.0, b.1, room) refl)
