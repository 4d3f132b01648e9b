-- What versions keep when other pages change, and how the next one becomes the newest.
use Rattle.std.proofs.Common.{◌≡◌, ℕ, zero, suc, ◌+◌, ◌%◌, ◌<◌, Bool, true, false, ltb, ◌⊎◌, List, [], ◌∷◌, Some, sym, ap, ◌∙◌, subst, inl, inr, ⊎_elim, arith}
use Rattle.std.specs.List.{flat_map, AllByRecursion}
use Rattle.std.proofs.ByRecursion.{All-weaker}
use Rattle.std.proofs.lemmas.Bool.{lt-ltb, le-ltb, cases_eq}
use Rattle.device.specs.Medium.{Medium}
use Rattle.device.specs.Calls.{Keeps}
use Rattle.tree.proofs.Leaves.{all_split, all_both}
use Rattle.page.specs.Kinds.{leaf_rules, branch_rules}
use Rattle.page.specs.Reading.{first_fault}
use Rattle.page.specs.Views.{pairs_in, branch_in}
use Rattle.meta.specs.Laws.{Fits}
use Rattle.meta.specs.Layout.{meta_page}
use Rattle.meta.specs.Shape.{Good}
use Rattle.meta.specs.Test.{read_meta, newer}
use Rattle.meta.specs.declared.Meta.{Meta}
use Rattle.meta.proofs.Judged.{good_is, pages_read_back_lem}
use Rattle.paged.specs.Paged.{PagedTree, children, pages_of, pairs_on, Lies, tree_at}
use Rattle.paged.specs.Sound.{SoundOn, Inside}
use Rattle.paged.proofs.Lying.{one_tree_lies_lem}
use Rattle.walk.specs.Marking.{MarksAre}
use Rattle.walk.specs.Checking.{fits_pages, newest_in}
use Rattle.store.specs.Versions.{height_of, tree_of, pages_held, pairs_held, Stands, Committed}

-- a tree on pages that keep their bytes
all_joined : {X : Type 0} (P : ℕ → Type 0) (f : X → List ℕ) (xs : List X) → AllByRecursion P (flat_map f xs) → AllByRecursion (λ x. AllByRecursion P (f x)) xs
all_joined P f [] h = tt
all_joined P f (x ∷ xs) h = let p = all_split P (f x) (flat_map f xs) h in (p.0, all_joined P f xs p.1)

lies_same : (f g : ℕ → List ℕ) (n : ℕ) (t : PagedTree n) → AllByRecursion (λ p. g p ≡ f p) (pages_of n t) → Lies f n t → Lies g n t
lies_same f g zero t a l = (ap (first_fault leaf_rules) a.0 ∙ l.0, ap pairs_in a.0 ∙ l.1)
lies_same f g (suc n) t a l = (
  ap (first_fault branch_rules) a.0 ∙ l.0,
  ap branch_in a.0 ∙ l.1,
  all_both (λ x. AllByRecursion (λ p. g p ≡ f p) (pages_of n x)) (Lies f n) (Lies g n) (lies_same f g n) (children t.node) (all_joined (λ p. g p ≡ f p) (pages_of n) (children t.node) a.1) l.2,
)

pub sound_same : (f g : ℕ → List ℕ) (size n root count : ℕ) (t : PagedTree n) → AllByRecursion (λ p. g p ≡ f p) (pages_of n t) → SoundOn f size n root count t → SoundOn g size n root count t
sound_same f g size n root count t a s =
    record { starts = s.starts; lies = lies_same f g n t a s.lies; sound = s.sound; apart = s.apart; inside = s.inside; counts = s.counts }

pub tree_same : (f g : ℕ → List ℕ) (size count : ℕ) (x : Meta) → AllByRecursion (λ p. g p ≡ f p) (pages_held f x) → SoundOn f size (height_of x) x.root count (tree_of f x) → tree_of g x ≡ tree_of f x
tree_same f g size count x a s =
    let t = sound_same f g size (height_of x) x.root count (tree_of f x) a s in
    sym (one_tree_lies_lem g (height_of x) (tree_of f x) t.lies ∙ ap (tree_at g (height_of x)) t.starts)

pub record Same (m n : Medium) (x : Meta) (marks : List Bool) : Type 0 where
  pub stands : Stands n x marks
  pub tree : tree_of n.bytes x ≡ tree_of m.bytes x

pub stands_same : (m n : Medium) (x : Meta) (marks : List Bool) → n.size ≡ m.size → AllByRecursion (λ p. n.bytes p ≡ m.bytes p) (pages_held m.bytes x) → Stands m x marks → Same m n x marks
stands_same m n x marks e a s =
    let same = tree_same m.bytes n.bytes m.size x.pairs x a s.tree in
    let sound = sound_same m.bytes n.bytes m.size (height_of x) x.root x.pairs (tree_of m.bytes x) a s.tree in
    record {
      stands = record {
        good = subst (λ z. Good (x.commit % 2) z x) (sym e) s.good;
        fits = s.fits;
        tree = subst (λ z. SoundOn n.bytes z (height_of x) x.root x.pairs (tree_of n.bytes x)) (sym e) (subst (λ t. SoundOn n.bytes m.size (height_of x) x.root x.pairs t) (sym same) sound);
        marked = subst (λ t. MarksAre marks (pages_of (height_of x) t)) (sym same) s.marked;
      };
      tree = same;
    }

pub all_true : {X : Type 0} (P : X → Type 0) → ((x : X) → P x) → (xs : List X) → AllByRecursion P xs
all_true P f [] = tt
all_true P f (x ∷ xs) = (f x, all_true P f xs)

-- calls that keep all pages
pub stands_keep : (m n : Medium) (x : Meta) (marks : List Bool) → Keeps m n → Stands m x marks → Same m n x marks
stands_keep m n x marks k s = stands_same m n x marks k.same_size (all_true (λ p. n.bytes p ≡ m.bytes p) k.same_bytes (pages_held m.bytes x)) s

newest_same : (m n : Medium) → n.size ≡ m.size → n.bytes 0 ≡ m.bytes 0 → n.bytes 1 ≡ m.bytes 1 → newest_in n.bytes n.size ≡ newest_in m.bytes m.size
newest_same m n s a b = λ i. newer (read_meta 0 (s i) (a i)) (read_meta 1 (s i) (b i))

pub committed_keep : (m n : Medium) (x : Meta) (marks : List Bool) → Keeps m n → Committed m x marks → Committed n x marks
committed_keep m n x marks k c =
    let s = stands_keep m n x marks k c.stands in
    record {
      room = ap fits_pages k.same_size ∙ c.room;
      stands = s.stands;
      page = k.same_bytes (x.commit % 2) ∙ c.page;
      newest = newest_same m n k.same_size (k.same_bytes 0) (k.same_bytes 1) ∙ c.newest;
      page_durable = k.stays_durable (x.commit % 2) c.page_durable;
      tree_durable = subst (λ t. AllByRecursion (λ p. n.volatile p ≡ false) (pages_of (height_of x) t)) (sym s.tree) (All-weaker (λ p. m.volatile p ≡ false) (λ p. n.volatile p ≡ false) k.stays_durable (pages_held m.bytes x) c.tree_durable);
    }

pub pairs_keep : (m n : Medium) (x : Meta) (marks : List Bool) → Same m n x marks → pairs_held n.bytes x ≡ pairs_held m.bytes x
pairs_keep m n x marks s = ap (λ t. pairs_on (height_of x) t) s.tree

-- the pages of a tree are no meta pages
tree_pages : (m n : Medium) (q : ℕ) (x : Meta) (marks : List Bool) → q < 2 → ((p : ℕ) → (p ≡ q → ⊥) → n.bytes p ≡ m.bytes p) → Stands m x marks → AllByRecursion (λ p. n.bytes p ≡ m.bytes p) (pages_held m.bytes x)
tree_pages m n q x marks l f s = All-weaker (Inside m.size) (λ p. n.bytes p ≡ m.bytes p) (λ p i. f p (λ e. let a = i.0 in let bad : ⊥ = omega arith in bad)) (pages_held m.bytes x) s.tree.inside

pub stands_but : (m n : Medium) (q : ℕ) (x : Meta) (marks : List Bool) → q < 2 → n.size ≡ m.size → ((p : ℕ) → (p ≡ q → ⊥) → n.bytes p ≡ m.bytes p) → Stands m x marks → Same m n x marks
stands_but m n q x marks l e f s = stands_same m n x marks e (tree_pages m n q x marks l f s) s

pub meta_reads : (size : ℕ) (x : Meta) → Good (x.commit % 2) size x → Fits x → read_meta (x.commit % 2) size (meta_page x) ≡ Some x
meta_reads size x g f = pages_read_back_lem x (x.commit % 2) size f (good_is (x.commit % 2) size x g)

-- of the metas of two numbers in a row, each on its page, the later is the newer
pub later_newest : (f : ℕ → List ℕ) (size : ℕ) (x w : Meta) → Good (x.commit % 2) size x → Fits x → Good (w.commit % 2) size w → Fits w
    → f (x.commit % 2) ≡ meta_page x → f (w.commit % 2) ≡ meta_page w → w.commit ≡ x.commit + 1 → newest_in f size ≡ Some w
later_newest f size x w gx fx gw fw ex ew e = ⊎_elim even odd (halves x.commit)
  where
    halves : (c : ℕ) → (c % 2 ≡ 0) ⊎ (c % 2 ≡ 1)
    halves c = ⊎_elim (λ z. inl z) (λ z. inr (omega arith)) (cases_eq (c % 2) 0)

    rx : read_meta (x.commit % 2) size (f (x.commit % 2)) ≡ Some x
    rx = ap (read_meta (x.commit % 2) size) ex ∙ meta_reads size x gx fx

    rw' : read_meta (w.commit % 2) size (f (w.commit % 2)) ≡ Some w
    rw' = ap (read_meta (w.commit % 2) size) ew ∙ meta_reads size w gw fw

    even : x.commit % 2 ≡ 0 → newest_in f size ≡ Some w
    even z =
        let a : read_meta 0 size (f 0) ≡ Some x = subst (λ q. read_meta q size (f q) ≡ Some x) z rx in
        let b : read_meta 1 size (f 1) ≡ Some w = subst (λ q. read_meta q size (f q) ≡ Some w) (omega arith) rw' in
        let l : ltb x.commit w.commit ≡ true = lt-ltb _ _ (omega arith) in
        rw (a, b, l)

    odd : x.commit % 2 ≡ 1 → newest_in f size ≡ Some w
    odd z =
        let b : read_meta 1 size (f 1) ≡ Some x = subst (λ q. read_meta q size (f q) ≡ Some x) z rx in
        let a : read_meta 0 size (f 0) ≡ Some w = subst (λ q. read_meta q size (f q) ≡ Some w) (omega arith) rw' in
        let l : ltb w.commit x.commit ≡ false = le-ltb _ _ (omega arith) in
        rw (a, b, l)
