-- What is found on a device is a committed version.
use Rattle.std.proofs.Common.{◌≡◌, ℕ, ◌-◌, ◌%◌, Bool, true, false, cond, ◌&&◌, ltb, ◌⊎◌, List, Some, None, Ok, Err, Option, Result, sym, refl, ap, ◌∙◌, subst, inl, inr, ⊎_elim}
use Rattle.std.specs.Str.{bytes_eq}
use Rattle.std.proofs.lemmas.Slice.Eq.{bytes_eq-Decides}
use Rattle.std.proofs.lemmas.Bool.{and_parts}
use Rattle.device.specs.Medium.{Medium}
use Rattle.page.specs.declared.fault.Damage.{Damage}
use Rattle.meta.specs.Laws.{Fits}
use Rattle.meta.specs.Layout.{meta_page, meta_in}
use Rattle.meta.specs.Shape.{Good}
use Rattle.meta.specs.Test.{is_good, passes, read_meta, newer}
use Rattle.meta.specs.declared.Meta.{Meta}
use Rattle.meta.proofs.Judged.{good_from}
use Rattle.faults.specs.declared.fault.StoreFault.TheVariants.{PageCount}
use Rattle.paged.specs.Paged.{PagedTree, pages_of, tree_at}
use Rattle.paged.specs.Walk.{walked}
use Rattle.paged.specs.Sound.{SoundOn}
use Rattle.paged.proofs.Exactly.{walks_accept_sound_trees_lem}
use Rattle.paged.proofs.Lying.{one_tree_lies_lem}
use Rattle.walk.specs.Marking.{MarksAre}
use Rattle.walk.specs.Checking.{fits_pages, newest_in, Holding, holding, held_by, powered, found_on}
use Rattle.store.specs.Versions.{height_of, tree_of, pages_held, Committed}
use Rattle.store.proofs.Kept.{all_true}

-- a meta page that passes is the page of the meta that it says, and that is good
pub read_tells : (at size : ℕ) (b : List ℕ) (x : Meta) → read_meta at size b ≡ Some x → (b ≡ meta_page x) × Good at size x
unfolding read_meta passes
read_tells at size b x e = by (bytes_eq b (meta_page (meta_in b)) && is_good at size (meta_in b)) refl e
  where
    by : (t : Bool) → (bytes_eq b (meta_page (meta_in b)) && is_good at size (meta_in b)) ≡ t → cond t (Some (meta_in b)) None ≡ Some x → (b ≡ meta_page x) × Good at size x
    by true q h =
        let p = and_parts _ _ q in
        let s : meta_in b ≡ x = cc in
        ((bytes_eq-Decides _ _).0 p.0 ∙ ap meta_page s, subst (Good at size) s (good_from at size (meta_in b) p.1))
    by false q h = cc

newer_tells : (a b : Option Meta) (x : Meta) → newer a b ≡ Some x → (a ≡ Some x) ⊎ (b ≡ Some x)
newer_tells None b x e = inr e
newer_tells (Some y) None x e = inl e
newer_tells (Some y) (Some z) x e = by (ltb y.commit z.commit) e
  where
    by : (t : Bool) → cond t (Some z) (Some y) ≡ Some x → (Some y ≡ Some x) ⊎ (Some z ≡ Some x)
    by true h = inr h
    by false h = inl h

pub newest_tells : (f : ℕ → List ℕ) (size : ℕ) (x : Meta) → newest_in f size ≡ Some x → (f (x.commit % 2) ≡ meta_page x) × Good (x.commit % 2) size x
newest_tells f size x e = ⊎_elim (λ h. by 0 h) (λ h. by 1 h) (newer_tells (read_meta 0 size (f 0)) (read_meta 1 size (f 1)) x e)
  where
    by : (at : ℕ) → read_meta at size (f at) ≡ Some x → (f (x.commit % 2) ≡ meta_page x) × Good (x.commit % 2) size x
    by at h =
        let t = read_tells at size (f at) x h in
        subst (λ q. (f q ≡ meta_page x) × Good q size x) (sym t.1.parity) (t.0, t.1)

-- what is found
abbrev Fits-holding : (ℕ → List ℕ) → ℕ → Holding → Type 0
Fits-holding f size h = (newest_in f size ≡ Some h.meta) × (walked f size (h.meta.levels - 1) h.meta.root h.meta.pairs ≡ Ok h.tree)

held_tells : (f : ℕ → List ℕ) (size : ℕ) (o : Option Meta) (h : Holding) → newest_in f size ≡ o → held_by f size o ≡ Ok h → Fits-holding f size h
held_tells f size None h e q = cc
held_tells f size (Some y) h e q = by (walked f size (y.levels - 1) y.root y.pairs) refl q
  where
    by : (v : Result (PagedTree (y.levels - 1)) Damage) → walked f size (y.levels - 1) y.root y.pairs ≡ v → holding y v ≡ Ok h → Fits-holding f size h
    by (Ok t) w z = let s : record { meta = y; tree = t } ≡ h = cc in subst (Fits-holding f size) s (e, w)
    by (Err d) w z = cc

pub found_tells : (f : ℕ → List ℕ) (size : ℕ) (on : Bool) (h : Holding) → found_on f size on ≡ Ok h → (fits_pages size ≡ true) × (on ≡ true) × Fits-holding f size h
found_tells f size on h e = by (fits_pages size) on refl e
  where
    by : (t o : Bool) → fits_pages size ≡ t → cond t (powered o (held_by f size (newest_in f size))) (Err PageCount) ≡ Ok h → (fits_pages size ≡ true) × (o ≡ true) × Fits-holding f size h
    by true true q z = (q, refl, held_tells f size (newest_in f size) h refl z)
    by true false q z = cc
    by false o q z = cc

-- is committed, where all is durable
pub found_committed : (n : Medium) (x : Meta) (tree : PagedTree (x.levels - 1)) (marks : List Bool) → Fits x → found_on n.bytes n.size n.on ≡ Ok (record { meta = x; tree = tree })
    → MarksAre marks (pages_of (height_of x) tree) → ((p : ℕ) → n.volatile p ≡ false) → Committed n x marks × (tree_of n.bytes x ≡ tree)
found_committed n x tree marks fits e mk d =
    let t = found_tells n.bytes n.size n.on (record { meta = x; tree = tree }) e in
    let g = newest_tells n.bytes n.size x t.2.0 in
    let s = (walks_accept_sound_trees_lem n.bytes n.size (height_of x) x.root x.pairs g.1.low g.1.high tree).0 t.2.1 in
    let same : tree_of n.bytes x ≡ tree = sym (one_tree_lies_lem n.bytes (height_of x) tree s.lies ∙ ap (tree_at n.bytes (height_of x)) s.starts) in (
      record {
        room = t.0;
        stands = record {
          good = g.1;
          fits = fits;
          tree = subst (λ v. SoundOn n.bytes n.size (height_of x) x.root x.pairs v) (sym same) s;
          marked = subst (λ v. MarksAre marks (pages_of (height_of x) v)) (sym same) mk;
        };
        page = g.0;
        newest = t.2.0;
        page_durable = d (x.commit % 2);
        tree_durable = all_true (λ p. n.volatile p ≡ false) d (pages_held n.bytes x);
      },
      same,
    )
