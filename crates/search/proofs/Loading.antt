-- The loads of a search, and the calls below them.
use Rattle.std.proofs.Common.{◌≡◌, ℕ, zero, suc, ◌+◌, ◌<◌, Bool, true, List, length, Some, None, Ok, Err, Option, Result, sym, refl, ap, ◌∙◌, subst, arith}
use Rattle.std.specs.List.{AllByRecursion}
use Rattle.device.specs.Medium.{Medium}
use Rattle.device.specs.History.{History}
use Rattle.device.specs.Looking.{Looks}
use Rattle.device.specs.declared.fault.DeviceFault.TheVariants.{Outside, Off}
use Rattle.device.proofs.Looking.{looks_one, looks_more, reads_keep}
use Rattle.cuts.specs.Nodes.{Pair}
use Rattle.tree.specs.Search.{picked}
use Rattle.tree.specs.Sound.{SoundTree}
use Rattle.page.specs.Kinds.{Rules, leaf_rules, branch_rules}
use Rattle.page.specs.Loads.{Loads}
use Rattle.page.specs.Reading.{first_fault}
use Rattle.page.specs.Views.{pairs_in, branch_in}
use Rattle.page.specs.CellPages.{BranchPage}
use Rattle.page.specs.declared.fault.PageFault.{PageFault}
use Rattle.page.specs.declared.fault.PageFault.TheVariants.{Device, Damaged}
use Rattle.page.specs.CellPages.{LeafPage}
use Rattle.paged.specs.Paged.{PagedTree, root_page, pages_of, bare, as_tree, pairs_on, Lies}
use Rattle.search.specs.declared.Place.{Place}
use Rattle.search.specs.declared.Tree.{Tree}
use Rattle.search.specs.Finding.{Answers, Searches}
use Rattle.search.specs.Following.{Search, find_pair, find_next, InLeaf, Follows, Descends, tree_under}
use Rattle.search.proofs.Steps.{InChild, in_child, find_follows, after_first, after_last, after_next}

-- the page from which a tree lies has no fault, as a page of its kind
abbrev NoFault : Rules → Medium → ℕ → Type 0
NoFault K m height = (n : ℕ) (t : PagedTree n) → height ≡ n → Lies m.bytes n t → first_fault K (m.bytes (root_page n t)) ≡ None

leaf_faultless : (m : Medium) (height : ℕ) → height ≡ 0 → NoFault leaf_rules m height
leaf_faultless m height z zero t e l = l.0
leaf_faultless m height z (suc n) t e l = absurd (omega arith)

branch_faultless : (m : Medium) (height : ℕ) → (height ≡ 0 → ⊥) → NoFault branch_rules m height
branch_faultless m height z zero t e l = absurd (z e)
branch_faultless m height z (suc n) t e l = l.0

root_inside : (P : ℕ → Type 0) (n : ℕ) (t : PagedTree n) → AllByRecursion P (pages_of n t) → P (root_page n t)
root_inside P zero t h = h.0
root_inside P (suc n) t h = h.0

-- a leaf that was loaded
in_leaf : (b : ℕ → List ℕ) (leaf : LeafPage) (t : PagedTree zero) (q : Option Pair) (o : Option Place) → leaf.bytes ≡ b t.page → InLeaf leaf q o
    → Answers b zero t true q (Ok o)
in_leaf b leaf t None o e a = ap Ok a
in_leaf b leaf t (Some p) o e a =
    (a.0, ap Ok a.1, record { page = t.page; of_leaf = (0, omega arith, λ d. refl); bytes_are = a.2 ∙ e; holds = a.3 })

leaf_follows : (m : Medium) (on : Bool) (at : Tree) (s : Search) (leaf : LeafPage) (o : Option Place) → at.height ≡ 0 → on ≡ true → leaf.bytes ≡ m.bytes at.root
    → InLeaf leaf (s zero (pairs_in leaf.bytes)) o → Follows m on at s (Ok o)
leaf_follows m on at s leaf o z i e a (suc d) t h st = absurd (omega arith)
leaf_follows m on at s leaf o z i e a zero t h st =
    let b = e ∙ ap m.bytes (sym st.starts) in
    subst (λ x. Answers m.bytes zero t x (s zero t.node) (Ok o)) (sym i)
    (subst (λ (ps : List Pair). Answers m.bytes zero t true (s zero ps) (Ok o)) (ap pairs_in b ∙ st.lies.1) (in_leaf m.bytes leaf t _ o b a))

looks_weaker : {P : History → Type 0} {m : Medium} {Q : History → Type 0} {n : Medium} (F G : History → Type 0)
    → Looks P m Q n F → ((t : History) → F t → G t) → Looks P m Q n G
looks_weaker F G l f = record { follows = λ h p. let a = l.follows h p in (a.0, a.1, a.2, a.3, f a.0 a.4) }

module _ {P : History → Type 0} {m : Medium} {Q : History → Type 0} {n : Medium} (at : Tree) (s : Search) where
  -- a load that is refused: where a tree stands, the device is off
  load_refused : {T : Type 0} (K : Rules) (bytes : T → List ℕ) (f : PageFault) → NoFault K m at.height
      → Loads K bytes P m at.root (Err f) Q n → Descends P m Q n at s (Err f)
  load_refused K bytes (Device Outside) w l =
      looks_one _ at.root l.0 (Err Outside) l.1
      (λ h i r d t e st. let p = root_inside (λ q. q < m.size) d t st.inside in absurd (omega (arith, st.starts, r.0)))
  load_refused K bytes (Device Off) w l =
      looks_one _ at.root l.0 (Err Off) l.1
      (λ h i r d t e st. subst (λ b. Answers m.bytes d t b (s d (bare d t)) (Err (Device Off))) (sym r.1.is_off) refl)
  load_refused K bytes (Damaged x) w l =
      looks_one _ at.root l.0 (Ok tt) l.1
      (λ h i r d t e st.
      let a : first_fault K l.0 ≡ None = ap (first_fault K) (r.2 ∙ ap m.bytes (sym st.starts)) ∙ w d t e st.lies in
      let b = l.2 in
      let z : ◌≡◌ {A = ℕ} 0 1 = cc in absurd (omega arith))

  pub leaf_refused : (f : PageFault) → at.height ≡ 0 → Loads leaf_rules (λ (p : LeafPage). p.bytes) P m at.root (Err f) Q n → Descends P m Q n at s (Err f)
  leaf_refused f z l = load_refused leaf_rules (λ (p : LeafPage). p.bytes) f (leaf_faultless m at.height z) l

  pub branch_refused : (f : PageFault) → (at.height ≡ 0 → ⊥) → Loads branch_rules (λ (p : BranchPage). p.bytes) P m at.root (Err f) Q n
      → Descends P m Q n at s (Err f)
  branch_refused f z l = load_refused branch_rules (λ (p : BranchPage). p.bytes) f (branch_faultless m at.height z) l

  pub load_leaf : (leaf : LeafPage) (o : Option Place) → at.height ≡ 0 → Loads leaf_rules (λ (p : LeafPage). p.bytes) P m at.root (Ok leaf) Q n
      → InLeaf leaf (s zero (pairs_in leaf.bytes)) o → Descends P m Q n at s (Ok o)
  load_leaf leaf o z l a = looks_one _ at.root leaf.bytes (Ok tt) l.0 (λ h i r. leaf_follows m n.on at s leaf o z r.1.is_on r.2 a)

-- the branch b was loaded, and its child i searched
abbrev Searched : (P : History → Type 0) (m : Medium) (Q : History → Type 0) (n : Medium) (b : BranchPage) (at : Tree) (i : ℕ)
    → Search → Result (Option Place) PageFault → Type 0
Searched P m Q n b at i s r = Looks P m Q n (λ _. (b.bytes ≡ m.bytes at.root) × InChild m n.on at i s r)

picked_there : (k : List ℕ) {i : ℕ} {x y : List ℕ} → i ≡ picked k (branch_in x).rest → x ≡ y → i ≡ picked k (branch_in y).rest
picked_there k e f = e ∙ ap (λ z. picked k (branch_in z).rest) f

-- what a search comes to, after the child that the key lies under
module _ {P : History → Type 0} {m : Medium} {Q : History → Type 0} {n : Medium} {R : History → Type 0} {o : Medium}
    (b : BranchPage) (at : Tree) (i : ℕ) (child : Tree) (k : List ℕ) (up : at.height ≡ 0 → ⊥)
    (l : Loads branch_rules (λ (p : BranchPage). p.bytes) P m at.root (Ok b) Q n)
    (e : i ≡ picked k (branch_in b.bytes).rest) (c : child ≡ tree_under at i (branch_in b.bytes)) where
  searched : (s : Search) (r : Result (Option Place) PageFault) → Descends Q n R o child s r → Searched P m R o b at i s r
  searched s r d =
      looks_more (λ _. b.bytes ≡ m.bytes at.root) _ _ (looks_one _ at.root b.bytes (Ok tt) l.0 (λ h i r. r.2)) d
      (λ t u v y _ _ f g. (f, in_child m n o.on at i child s r (reads_keep m t n v y) (c ∙ ap (λ x. tree_under at i (branch_in x)) f) g))

  pub found_there : (r : Result (Option Place) PageFault) → Descends Q n R o child (find_pair k) r
      → Descends P m R o at (find_pair k) r
  found_there r d =
      looks_weaker _ _ (searched (find_pair k) r d) (λ t f. find_follows m at i k up (picked_there k e f.0) o.on r f.1)

  -- what the first search for the next pair gives counts, if it is not that there is none
  next_there : (r : Result (Option Place) PageFault) → (r ≡ Ok None → ⊥) → Descends Q n R o child (find_next k) r
      → Descends P m R o at (find_next k) r
  next_there r x d =
      looks_weaker _ _ (searched (find_next k) r d) (λ t f. after_first m at i k up (picked_there k e f.0) o.on r x f.1)

  pub next_failed : (f : PageFault) → Descends Q n R o child (find_next k) (Err f) → Descends P m R o at (find_next k) (Err f)
  next_failed f d = next_there (Err f) (λ x. let z : ◌≡◌ {A = ℕ} 0 1 = cc in absurd (omega arith)) d

  module _ (a : Option Place) (d : Descends Q n R o child (find_next k) (Ok a)) where
    pub next_found : (p : Place) → a ≡ Some p → Descends P m R o at (find_next k) (Ok (Some p))
    next_found p w =
        subst (λ (x : Option Place). Descends P m R o at (find_next k) (Ok x)) w
        (next_there (Ok a) (λ x. let z : ◌≡◌ {A = ℕ} 0 1 = cc in absurd (omega arith)) d)

    none_there : a ≡ None → Searched P m R o b at i (find_next k) (Ok None)
    none_there w = subst (λ (x : Option Place). Searched P m R o b at i (find_next k) (Ok x)) w (searched (find_next k) (Ok a) d)

    pub next_nowhere : a ≡ None → i ≡ length (branch_in b.bytes).rest → Descends P m R o at (find_next k) (Ok None)
    next_nowhere w z =
        looks_weaker _ _ (none_there w)
        (λ t f. after_last m at i k up (picked_there k e f.0) o.on (z ∙ ap (λ x. length (branch_in x).rest) f.0) f.1)

    pub next_beside : {S : History → Type 0} {q : Medium} (other : Tree) (r : Result (Option Place) PageFault) → a ≡ None
        → i < length (branch_in b.bytes).rest → other ≡ tree_under at (i + 1) (branch_in b.bytes) → Descends R o S q other (find_next k) r
        → Descends P m S q at (find_next k) r
    next_beside {S} {q} other r w z y v =
        looks_more _ _ _ (none_there w) v
        (λ t u x j _ _ f g.
        let less : i < length (branch_in (m.bytes at.root)).rest = subst (λ h. i < length (branch_in h).rest) f.0 z in
        after_next m at i k up (picked_there k e f.0) o.on q.on r less f.1
        (in_child m o q.on at (i + 1) other (find_next k) r (reads_keep m t o x j) (y ∙ ap (λ h. tree_under at (i + 1) (branch_in h)) f.0) g))

-- in a sound tree, a search finds what is wanted of the pairs
pub finds_in_sound : {P : History → Type 0} {m : Medium} {Q : History → Type 0} {n : Medium} (at : Tree) (s : Search) (want : List Pair → Option Pair)
    (r : Result (Option Place) PageFault) → ((d : ℕ) (t : PagedTree d) → SoundTree (as_tree d t) → s d (bare d t) ≡ want (pairs_on d t))
    → Descends P m Q n at s r → Searches P m Q n at want r
finds_in_sound {P} {m} {Q} {n} at s want r w l =
    looks_weaker _ _ l (λ h f d t e st so. subst (λ (o : Option Pair). Answers m.bytes d t n.on o r) (w d t so) (f d t e st))
