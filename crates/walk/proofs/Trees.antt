-- The walk of a whole tree, and the recovery of a device.
use Rattle.std.proofs.Common.{◌≡◌, ℕ, ◌-◌, ◌≤◌, Bool, true, false, ◌||◌, List, [], ◌∷◌, ◌++◌, reverse, get_or, Some, Ok, Err, Result, sym, refl, ap, ◌∙◌, subst, arith}
use Rattle.std.proofs.lemmas.List.{append-nil, append_assoc, reverse-append}
use Rattle.std.proofs.lemmas.Bool.{eq-eqb}
use Rattle.std.proofs.lemmas.Bool.Decides.{nat_tests}
use Rattle.device.specs.Medium.{Medium}
use Rattle.device.specs.History.{History}
use Rattle.device.specs.Looking.{Looks, pages_read}
use Rattle.device.specs.declared.fault.DeviceFault.TheVariants.{Off}
use Rattle.device.proofs.Looking.{looks_more, reads_keep, same_pages, pages_read_append}
use Rattle.tree.specs.Sound.{none}
use Rattle.page.specs.declared.fault.Damage.{Damage}
use Rattle.page.specs.declared.fault.PageFault.{PageFault}
use Rattle.page.specs.declared.fault.PageFault.TheVariants.{Device, Damaged}
use Rattle.meta.specs.declared.Meta.{Meta}
use Rattle.faults.specs.declared.fault.StoreFault.TheVariants.{Page}
use Rattle.paged.specs.Paged.{PagedTree, pages_of, tree_at}
use Rattle.paged.specs.Walk.{elem, Walked, fault, fine, walk, walked}
use Rattle.paged.proofs.Judged.{Judged, onto, below, judged_walk, pages_found}
use Rattle.walk.specs.Marking.{MarksAre}
use Rattle.walk.specs.Walking.{Told, Walks}
use Rattle.walk.specs.Checking.{fits_pages, newest_in, holding, powered, found_on, Recovers, Newest, verdict, WalksTree}
use Rattle.walk.specs.declared.marks.Marks.{Marks}

-- the pages met are those of the tree, the last first
reverse_more : (p : ℕ) (ps met : List ℕ) → reverse (p ∷ ps) ++ met ≡ reverse ps ++ (p ∷ met)
reverse_more p ps met = ap (λ qs. qs ++ met) (reverse-append (p ∷ []) ps) ∙ append_assoc (reverse ps) (p ∷ []) met

onto_reverse : (ps met : List ℕ) → onto ps met ≡ reverse ps ++ met
onto_reverse [] met = refl
onto_reverse (p ∷ ps) met = onto_reverse ps (p ∷ met) ∙ sym (reverse_more p ps met)

elem_append : (p : ℕ) (xs ys : List ℕ) → elem p (xs ++ ys) ≡ (elem p xs || elem p ys)
unfolding elem
elem_append p [] ys = refl
elem_append p (x ∷ xs) ys = let ih = elem_append p xs ys in grind (arith, nat_tests)

elem_reverse : (p : ℕ) (xs : List ℕ) → elem p (reverse xs) ≡ elem p xs
unfolding elem
elem_reverse p [] = refl
elem_reverse p (x ∷ xs) =
    let ih = elem_reverse p xs in
    let a = elem_append p (reverse xs) (x ∷ []) in
    let e : elem p (reverse (x ∷ xs)) ≡ elem p (reverse xs ++ (x ∷ [])) = ap (elem p) (sym (append-nil (reverse (x ∷ xs))) ∙ reverse_more x xs []) in
    e ∙ a ∙ (grind (arith, nat_tests))

judged_met : (w : Walked) (b : Bool) (M met : List ℕ) (K k : ℕ) → Judged w b M K → w ≡ fine met k → met ≡ M
judged_met w true M met K k h e = cc
judged_met w false M met K k h e = let e' = h.1 in let z : ◌≡◌ {A = ℕ} 0 1 = cc in let bad : ⊥ = omega arith in absurd bad

met_pages : (m : ℕ → List ℕ) (size n root k : ℕ) (met : List ℕ) → walk m size true n [] none root [] ≡ fine met k → met ≡ reverse (pages_of n (tree_at m n root))
met_pages m size n root k met e =
    judged_met _ _ _ _ _ _ (judged_walk m size true n [] none root []) e
    ∙ onto_reverse (root ∷ below m n root) [] ∙ append-nil (reverse (root ∷ below m n root)) ∙ ap reverse (sym (pages_found m n root))

-- the answer of the walk
ok_fine : (on : Bool) (w : Walked) (k : ℕ) (b : List Bool) (ps : List ℕ) → Told b ps on w (Ok k)
    → (on ≡ true) × ((met : List ℕ) × (w ≡ fine met k) × MarksAre b met × (ps ≡ met))
ok_fine false w k b ps t = let e = t.answered in let z : ◌≡◌ {A = ℕ} 0 1 = cc in let bad : ⊥ = omega arith in absurd bad
ok_fine true (fault d) k b ps t = let e = t.answered in let z : ◌≡◌ {A = ℕ} 0 1 = cc in let bad : ⊥ = omega arith in absurd bad
ok_fine true (fine met j) k b ps t = let e = t.answered in let q : j ≡ k = cc in (refl, (met, ap (fine met) q, t.left.0, t.left.1))

-- the walk of the tree that a meta names
abbrev root_walk : (size : ℕ) (x : Meta) → (ℕ → List ℕ) → List ℕ → Walked
root_walk size x f = walk f size true (x.levels - 1) [] none x.root

-- a walk that finds no fault, and as many pairs as the meta says
walked_whole : (P : History → Type 0) (m : Medium) (Q : History → Type 0) (n : Medium) (size : ℕ) (x : Meta) (b b' : List Bool) → MarksAre b []
    → (k : ℕ) (marks : Marks) → marks.marked ≡ b' → k ≡ x.pairs → Walks P m Q n size b b' (root_walk size x) (Ok k)
    → Looks P m Q n (λ t. size ≤ m.size → WalksTree m size x n.on t (Ok marks))
walked_whole P m Q n size x b b' new k marks same e w = record {
  follows = λ h p.
      let r = w.looks.follows h p in (
        r.0,
        r.1,
        r.2,
        r.3,
        λ sz.
            let f = ok_fine n.on (root_walk size x m.bytes []) k b' _ (r.4 sz [] new) in
            let tree = tree_at m.bytes (x.levels - 1) x.root in
            let pages = met_pages m.bytes size (x.levels - 1) x.root k f.1.0 f.1.1 in (
              tree,
              rw (f.0, f.1.1, eq-eqb k x.pairs e),
              (λ p' l. ap (λ (z : List Bool). get_or z p' false) same ∙ f.1.2 p' l ∙ ap (elem p') pages ∙ elem_reverse p' (pages_of (x.levels - 1) tree)),
              sym (append-nil (pages_read r.0)) ∙ f.1.3 ∙ pages,
            ),
      );
}

-- The same of a reader that is lent to the walk: e is what it is when it comes back, and d what the walk left.
pub tree_walked : {D : Type 0} (past : D → History → Type 0) (medium : D → Medium) (P : History → Type 0) (m : Medium) (d e : D) → e ≡ d
    → (size : ℕ) (x : Meta) (b b' : List Bool) → MarksAre b []
    → (k : ℕ) (marks : Marks) → marks.marked ≡ b' → k ≡ x.pairs → Walks P m (past d) (medium d) size b b' (root_walk size x) (Ok k)
    → Looks P m (past e) (medium e) (λ t. size ≤ m.size → WalksTree m size x (medium e).on t (Ok marks))
tree_walked {D} past medium P m d e back size x b b' new k marks same c w =
    subst (λ (o : D). Looks P m (past o) (medium o) (λ t. size ≤ m.size → WalksTree m size x (medium o).on t (Ok marks))) (sym back)
    (walked_whole P m (past d) (medium d) size x b b' new k marks same c w)

-- the recovery: the newest meta, then its tree
pub room_tells : (size : ℕ) → fits_pages size ≡ true → (16 ≤ size) × (size ≤ 1024)
room_tells size e = (grind (arith, nat_tests), grind (arith, nat_tests))

holding_err : (x : Meta) (on : Bool) (v : Result (PagedTree (x.levels - 1)) Damage) (f : PageFault) → verdict on v ≡ Err f → powered on (holding x v) ≡ Err (Page f)
holding_err x false v f e = let q : Device Off ≡ f = cc in ap (λ z. Err (Page z)) q
holding_err x true (Ok t) f e = let z : ◌≡◌ {A = ℕ} 0 1 = cc in let bad : ⊥ = omega arith in absurd bad
holding_err x true (Err d) f e = let q : Damaged d ≡ f = cc in ap (λ z. Err (Page z)) q

holding_ok : (x : Meta) (on : Bool) (v : Result (PagedTree (x.levels - 1)) Damage) (t : PagedTree (x.levels - 1)) → verdict on v ≡ Ok t → powered on (holding x v) ≡ Ok (record { meta = x; tree = t })
holding_ok x false v t e = let z : ◌≡◌ {A = ℕ} 0 1 = cc in let bad : ⊥ = omega arith in absurd bad
holding_ok x true (Ok s) t e = let q : s ≡ t = cc in ap (λ (z : PagedTree (x.levels - 1)). Ok (record { meta = x; tree = z })) q
holding_ok x true (Err d) t e = let z : ◌≡◌ {A = ℕ} 0 1 = cc in let bad : ⊥ = omega arith in absurd bad

module _ (P : History → Type 0) (m : Medium) where
  module _ (Q : History → Type 0) (n : Medium) (size : ℕ) (is : size ≡ m.size) (room : fits_pages size ≡ true) where
    fits : fits_pages m.size ≡ true
    fits = ap fits_pages (sym is) ∙ room

    wide : 2 ≤ m.size
    wide = let r = (room_tells size room).0 in omega arith

    module _ (x : Meta) (newest : Looks P m Q n (λ t. 2 ≤ m.size → Newest m size n.on t (Ok (Some x)))) (R : History → Type 0) (o : Medium) where
      found_on_lem : (on : Bool) → Some x ≡ newest_in m.bytes size → found_on m.bytes m.size on ≡ powered on (holding x (walked m.bytes size (x.levels - 1) x.root x.pairs))
      found_on_lem on e = rw (fits, sym (subst (λ s. Some x ≡ newest_in m.bytes s) is e), sym is)

      pub tree_refused : (f : PageFault) → Looks Q n R o (λ t. size ≤ n.size → WalksTree n size x o.on t (Err f)) → Looks P m R o (λ t. Recovers m o.on t (Err (Page f)))
      tree_refused f l = looks_more _ _ _ newest l (λ t u lt at lu au i j.
          let k = reads_keep m t n lt at in
          let e = i wide in
          let v = subst (λ (g : ℕ → List ℕ). verdict o.on (walked g size (x.levels - 1) x.root x.pairs) ≡ Err f) (same_pages k) (j (omega (arith, k.same_size))) in
          found_on_lem o.on e.1 ∙ holding_err x o.on _ f v)

      pub tree_found : (marks : Marks) → Looks Q n R o (λ t. size ≤ n.size → WalksTree n size x o.on t (Ok marks)) → Looks P m R o (λ t. Recovers m o.on t (Ok (record { meta = x; marks = marks })))
      tree_found marks l = looks_more _ _ _ newest l (λ t u lt at lu au i j.
          let k = reads_keep m t n lt at in
          let e = i wide in
          let w = j (omega (arith, k.same_size)) in
          let v = subst (λ (g : ℕ → List ℕ). verdict o.on (walked g size (x.levels - 1) x.root x.pairs) ≡ Ok w.0) (same_pages k) w.1 in
          let pages = pages_of (x.levels - 1) w.0 in (
            w.0,
            found_on_lem o.on e.1 ∙ holding_ok x o.on _ w.0 v,
            w.2,
            pages_read_append u t ∙ ap (λ ps. ps ++ pages_read t) w.3 ∙ ap (λ ps. reverse pages ++ ps) e.2
                ∙ sym (sym (append-nil (reverse (0 ∷ 1 ∷ pages))) ∙ reverse_more 0 (1 ∷ pages) [] ∙ reverse_more 1 pages (0 ∷ [])),
          ))
