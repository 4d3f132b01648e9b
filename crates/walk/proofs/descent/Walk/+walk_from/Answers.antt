use Rattle.std.proofs.Common.{◌≡◌, ℕ, ◌+◌, ◌≤◌, Bool, true, List, [], ◌∷◌, ◌++◌, drop, Result, refl, sym, ap, ◌∙◌, subst, arith}
use Rattle.std.proofs.lemmas.Result.{err_from_is_err_and}
use Rattle.std.proofs.lemmas.List.{drop_all}
use Rattle.device.specs.Medium.{Medium}
use Rattle.device.specs.History.{History}
use Rattle.device.specs.Looking.{Looks, pages_read}
use Rattle.page.specs.CellPages.{BranchPage}
use Rattle.page.specs.declared.fault.PageFault.{PageFault}
use Rattle.page.specs.CellPages.{LeafPage}
use Rattle.page.specs.Views.{branch_node}
use Rattle.paged.specs.Walk.{slots_of, walk}
use Rattle.paged.proofs.Accepted.{leaf_page_has}
use Rattle.walk.specs.Marking.{MarksAre, marked, free}
use Rattle.walk.specs.Spots.{low_of, high_of, slot_of}
use Rattle.walk.specs.Walking.{Told}
use Rattle.walk.proofs.Cells.{leaf_fault_at, branch_fault_at, leaf_same, branch_same}
use Rattle.walk.proofs.Slots.{length_slots}
use Rattle.walk.proofs.Steps.{Going, Ends, below, marked_more, leaf_fault_lem, branch_fault_lem, walks_err, walks_leaf, going_none, going_more, going_broken, going_refused, going_done, begun}
use Rattle.walk.proofs.descent.Walk.+walk_from.Goals as goal
use Rattle.walk.proofs.descent.Walk.+walk_from.Goals.{In_ok-branch, After-child-child, Else-not-admits, at-returns-then-not-admits-clause-walks, at-returns-in_err-pairs-clause-walks, at-loop-i-preserved, at-returns-in_ok-pairs-clause-walks}
use Rattle.walk.proofs.descent.Walk.+walk_from.Given as given

pub returns-in_err-leaf-clause-walks : goal.returns-in_err-leaf-clause-walks
returns-in_err-leaf-clause-walks g t c =
    let q = err_from_is_err_and c.from_residual.result c.from_residual.ensures.1 in
    let s = c.args.at in
    let w = c.args.self.now in
    rw (q.1, q.2, c.mark.ensures)
    (walks_err (g.R.Reader.past w.reader.now) (g.R.Reader.medium w.reader.now) (g.R.Reader.past c.load.new.reader) (g.R.Reader.medium c.load.new.reader) w.size s.page w.met.marked _ c.requires.inside
    (leaf_fault_at s) (λ (p : LeafPage). p.bytes) _
    (λ f seen k e. leaf_fault_lem f w.size s.is_root c.args.height (low_of s) (high_of s) s.page seen k c.if-height-eq0.true (leaf_same s (f s.page) ∙ e)) c.in_err-leaf.ensures)

pub overflow_cast-result : goal.overflow_cast-result
overflow_cast-result g t c =
    omega (arith, (leaf_page_has c.in_ok-leaf.leaf).few, c.len.ensures)

pub returns-then-height-eq0-clause-walks : goal.returns-then-height-eq0-clause-walks
returns-then-height-eq0-clause-walks g t c =
    let s = c.args.at in
    let w = c.args.self.now in
    let l = c.in_ok-leaf.leaf in
    let r = c.in_ok-leaf.ensures in
    rw c.mark.ensures
    (walks_leaf (g.R.Reader.past w.reader.now) (g.R.Reader.medium w.reader.now) (g.R.Reader.past c.load.new.reader) (g.R.Reader.medium c.load.new.reader) w.size s.is_root c.args.height (low_of s) (high_of s) s.page w.met.marked
    c.requires.small c.requires.inside w.met.long c.requires.unmet l.bytes c.len.result c.if-height-eq0.true r.0 (leaf_same s l.bytes ∙ r.1) c.len.ensures (omega (arith, (leaf_page_has l).few, c.len.ensures)))

pub returns-in_err-branch-clause-walks : goal.returns-in_err-branch-clause-walks
returns-in_err-branch-clause-walks g t c =
    let q = err_from_is_err_and c.from_residual-in_err-branch.result c.from_residual-in_err-branch.ensures.1 in
    let s = c.args.at in
    let w = c.args.self.now in
    rw (q.1, q.2, c.mark.ensures)
    (walks_err (g.R.Reader.past w.reader.now) (g.R.Reader.medium w.reader.now) (g.R.Reader.past c.load-2.new.reader) (g.R.Reader.medium c.load-2.new.reader) w.size s.page w.met.marked _ c.requires.inside
    (branch_fault_at s) (λ (p : BranchPage). p.bytes) _
    (λ f seen k e. branch_fault_lem f w.size s.is_root c.args.height (low_of s) (high_of s) s.page seen k c.if-height-eq0.false (branch_same s (f s.page) ∙ e)) c.in_err-branch.ensures)

pub loop-i-init : goal.loop-i-init
loop-i-init g t c = record { same_reader = refl; same_size = refl; going = going_none _ _ _ _ _ _ _ }

-- what the loop comes to, after the branch was read
whole : (g : given.Over) (t : ℕ) (c : In_ok-branch g t) (R : History → Type 0) (o : Medium) (b : List Bool) (a : Result ℕ PageFault)
    → Ends (g.R.Reader.past c.load-2.new.reader) (g.R.Reader.medium c.load-2.new.reader) c.args.self.now.size c.args.at.page (below c.args.self.now.size c.args.height)
    (slots_of (low_of c.args.at) (high_of c.args.at) (branch_node c.in_ok-branch.branch)) c.mark.new.self.marked R o b a
    → Looks (g.R.Reader.past c.args.self.now.reader.now) (g.R.Reader.medium c.args.self.now.reader.now) R o
    (λ u. c.args.self.now.size ≤ (g.R.Reader.medium c.args.self.now.reader.now).size → (seen : List ℕ) → MarksAre c.args.self.now.met.marked seen
    → Told b (pages_read u ++ seen) o.on (walk (g.R.Reader.medium c.args.self.now.reader.now).bytes c.args.self.now.size c.args.at.is_root c.args.height (low_of c.args.at) (high_of c.args.at) c.args.at.page seen) a)
whole g t c R o b a ends =
    let s = c.args.at in
    let w = c.args.self.now in
    let r = c.in_ok-branch.ensures in
    let P = g.R.Reader.past c.load-2.new.reader in
    let m = g.R.Reader.medium c.load-2.new.reader in
    let all = slots_of (low_of s) (high_of s) (branch_node c.in_ok-branch.branch) in
    begun (g.R.Reader.past w.reader.now) (g.R.Reader.medium w.reader.now) P m w.size s.is_root c.args.height (low_of s) (high_of s) s.page w.met.marked
    c.requires.small c.requires.inside w.met.long c.in_ok-branch.branch.bytes c.if-height-eq0.false r.0 (branch_same s c.in_ok-branch.branch.bytes ∙ r.1) R o b a
    (subst (λ (z : List Bool). Ends P m w.size s.page (below w.size c.args.height) all z R o b a) c.mark.ensures ends)

-- the loop at a child
turn : (g : given.Over) (t : ℕ) (c : After-child-child g t)
    → Going (g.R.Reader.past c.load-2.new.reader) (g.R.Reader.medium c.load-2.new.reader) (g.R.Reader.past c.loop-i.self.reader.now) (g.R.Reader.medium c.loop-i.self.reader.now)
    c.args.self.now.size c.args.at.page (below c.args.self.now.size c.args.height) (slots_of (low_of c.args.at) (high_of c.args.at) (branch_node c.in_ok-branch.branch))
    (slot_of c.child-child.result ∷ drop (c.loop-i.i + 1) (slots_of (low_of c.args.at) (high_of c.args.at) (branch_node c.in_ok-branch.branch))) c.mark.new.self.marked c.loop-i.self.met.marked c.loop-i.pairs
turn g t c = rw c.child-child.ensures.slot at c.loop-i.invariant.going

pub returns-then-not-admits-clause-walks : goal.returns-then-not-admits-clause-walks
returns-then-not-admits-clause-walks g t c =
    let a = at-returns-then-not-admits-clause-walks g t c in
    let f = sym c.admits.ensures ∙ c.if-not-admits.true in
    let e = going_refused _ _ _ _ _ _ _ _ _ _ _ c.requires.small _ _ (turn g t a.After-child-child) (rw c.loop-i.invariant.same_size at f) in
    rw (c.into.ensures, c.damage.ensures) (record { room = tt; looks = whole g t a.In_ok-branch _ _ _ _ e })

-- a child is walked with the size of the loop
child_free : (g : given.Over) (t : ℕ) (c : Else-not-admits g t) → free c.args.self.now.size c.loop-i.self.met.marked c.child-child.result.page ≡ true
child_free g t c = rw c.loop-i.invariant.same_size at (sym c.admits.ensures ∙ c.if-not-admits.false)

pub returns-in_err-pairs-clause-walks : goal.returns-in_err-pairs-clause-walks
returns-in_err-pairs-clause-walks g t c =
    let a = at-returns-in_err-pairs-clause-walks g t c in
    let q = err_from_is_err_and c.from_residual-in_err-pairs.result c.from_residual-in_err-pairs.ensures.1 in
    let v = rw (c.loop-i.invariant.same_size, c.child-child.ensures.below) at c.in_err-pairs.ensures.walks in
    let e = going_broken _ _ _ _ _ _ _ _ _ _ _ c.requires.small _ _ _ _ _ _ (turn g t a.After-child-child) (child_free g t a.Else-not-admits) v in
    rw (q.1, q.2) (record { room = tt; looks = whole g t a.In_ok-branch _ _ _ _ e })

pub loop-i-preserved : goal.loop-i-preserved
loop-i-preserved g t c =
    let a = at-loop-i-preserved g t c in
    let v = rw (c.loop-i.invariant.same_size, c.child-child.ensures.below) at c.in_ok-pairs.ensures.walks in record {
      same_reader = c.in_ok-pairs.ensures.same_reader ∙ c.loop-i.invariant.same_reader;
      same_size = c.in_ok-pairs.ensures.same_size ∙ c.loop-i.invariant.same_size;
      going = going_more _ _ _ _ _ _ _ _ _ _ _ c.requires.small _ _ _ _ _ _ (turn g t a.After-child-child) (child_free g t a.Else-not-admits) v;
    }

pub returns-in_ok-pairs-clause-walks : goal.returns-in_ok-pairs-clause-walks
returns-in_ok-pairs-clause-walks g t c =
    let a = at-returns-in_ok-pairs-clause-walks g t c in
    let s = c.args.at in
    let w = c.args.self.now in
    let b = branch_node c.in_ok-branch.branch in
    let all = slots_of (low_of s) (high_of s) b in
    let v = rw (c.loop-i.invariant.same_size, c.child-child.ensures.below) at c.in_ok-pairs.ensures.walks in
    let go = going_more _ _ _ _ _ _ _ _ _ _ _ c.requires.small _ _ _ _ _ _ (turn g t a.After-child-child) (child_free g t a.Else-not-admits) v in
    let none : drop (c.loop-i.i + 1) all ≡ [] = drop_all (c.loop-i.i + 1) all (omega (arith, length_slots (low_of s) (high_of s) b.first b.rest, c.len-i-end.ensures)) in
    let more = marked_more w.met.marked s.page w.met.long (omega (arith, c.requires.inside, c.requires.small)) c.requires.unmet in
    let e = going_done _ _ _ _ _ _ _ _ _ _ _ c.requires.small (rw none at go) in
    record { room = omega (arith, go.room, ap marked c.mark.ensures, more); looks = whole g t a.In_ok-branch _ _ _ _ e }
