-- What the bytes of a page have that reading accepts, and the children of a branch by their number.
use Rattle.std.proofs.Common.{◌≡◌, ℕ, zero, suc, ◌+◌, ◌-◌, ◌*◌, ◌/◌, ◌%◌, ◌^◌, ◌<◌, ◌≤◌, Bool, true, false, cond, not, eqb, List, [], ◌∷◌, map, length, get_or, is_some, Some, None, Option, sym, refl, ap, ◌∙◌, arith}
use Rattle.std.proofs.lemmas.List.{length-map}
use Rattle.std.proofs.lemmas.Bool.{false≢true, true≢false, and_parts, leb-true, le-leb}
use Rattle.std.proofs.lemmas.Slice.Eq.{bytes_eq-Decides}
use Rattle.checksum.specs.Sealed.{is_sealed}
use Rattle.cuts.specs.Keys.{key<}
use Rattle.tree.specs.Trees.{branch}
use Rattle.tree.specs.Places.{separator_at}
use Rattle.tree.specs.Search.{picked, child_at}
use Rattle.page.specs.Branches.{BranchBytes, child_of}
use Rattle.page.specs.Kinds.{Rules, branch_key, branch_rules, cell_of}
use Rattle.page.specs.Layout.{Laid, laid_out, cells_of, left_of, sum_of}
use Rattle.page.specs.Places.{up_to}
use Rattle.page.specs.Reading.{every, layout, rising, shape_fault, first_fault, sound}
use Rattle.checksum.specs.Bytes.{word32}
use Rattle.page.specs.declared.fault.Cause.{Cause}
use Rattle.page.specs.declared.fault.Cause.TheVariants.{Checksum, Kind, Layout, Order}

parts_pass : (e l r : Bool) → cond (not e) (Some Kind) (cond (not l) (Some Layout) (cond (not r) (Some Order) None)) ≡ None
    → (l ≡ true) × (r ≡ true)
parts_pass false l r h = absurd (true≢false (ap is_some h))
parts_pass true false r h = absurd (true≢false (ap is_some h))
parts_pass true true false h = absurd (true≢false (ap is_some h))
parts_pass true true true h = (refl, refl)

no_fault : (s : Bool) (f : Option Cause) → not (is_some (cond (not s) (Some Checksum) f)) ≡ true → f ≡ None
no_fault false f h = absurd (false≢true h)
no_fault true None h = refl
no_fault true (Some x) h = absurd (false≢true h)

-- the numbers that stand in a page are small, since its bytes are
left_small : (k l q : ℕ) (cells : List (List ℕ)) (b : List ℕ) → b ≡ laid_out k l q cells → left_of b < 2 ^ 32
unfolding laid_out word32
left_small k l q cells b e =
    let f : left_of b ≡ l % 256 + l / 256 % 256 * 256 + l / 65536 % 256 * 65536 + l / 16777216 % 256 * 16777216 = ap left_of e in
    omega (arith, f)

sum_small : (k l q : ℕ) (cells : List (List ℕ)) (b : List ℕ) → b ≡ laid_out k l q cells → sum_of b < 2 ^ 32
unfolding laid_out word32
sum_small k l q cells b e =
    let f : sum_of b ≡ q % 256 + q / 256 % 256 * 256 + q / 65536 % 256 * 65536 + q / 16777216 % 256 * 16777216 = ap sum_of e in
    omega (arith, f)

laid_of : (k : Rules) (b : List ℕ) → layout k b ≡ true → Laid k.kind b × (every k.good (cells_of b) ≡ true)
unfolding layout
laid_of k b h =
    let p = and_parts _ _ h in
    let q = and_parts _ _ p.1 in
    let r = and_parts _ _ q.1 in
    let e = (bytes_eq-Decides _ _).0 r.1 in
    (record { room = leb-true _ _ r.0; child = left_small _ _ _ _ b e; word = sum_small _ _ _ _ b e; is = e }, p.0)

layout_left : (k : Rules) (b : List ℕ) → layout k b ≡ true → k.leftmost (left_of b) ≡ true
unfolding layout
layout_left k b h = (and_parts _ _ (and_parts _ _ h).1).0

module _ (k : Rules) (b : List ℕ) where
  -- what a page has whose only fault may be its checksum
  pub shape_parts : shape_fault k b ≡ None → Laid k.kind b × (every k.good (cells_of b) ≡ true) × (rising k.key (cells_of b) ≡ true)
  unfolding shape_fault
  shape_parts h =
      let p = parts_pass (eqb (get_or b 0 0) k.kind) (layout k b) (rising k.key (cells_of b)) h in
      let l = laid_of k b p.0 in
      (l.0, l.1, p.1)

  -- what a page that reading accepts has
  pub page_parts : sound k b ≡ true → Laid k.kind b × (every k.good (cells_of b) ≡ true) × (rising k.key (cells_of b) ≡ true)
  unfolding sound first_fault
  page_parts h = shape_parts (no_fault (is_sealed b) (shape_fault k b) h)

  pub left_allowed : sound k b ≡ true → k.leftmost (left_of b) ≡ true
  unfolding sound first_fault shape_fault
  left_allowed h =
      layout_left k b (parts_pass (eqb (get_or b 0 0) k.kind) (layout k b) (rising k.key (cells_of b)) (no_fault (is_sealed b) _ h)).0

pub branch_bytes_lem : (b : List ℕ) → sound branch_rules b ≡ true → BranchBytes b
branch_bytes_lem b h =
    let p = page_parts branch_rules b h in
    record { laid = p.0; goods = p.1; rises = p.2 }

pub picked_is : (k : List ℕ) (xs : List (List ℕ)) → up_to branch_key k xs ≡ picked k (map cell_of xs)
unfolding up_to
picked_is k [] = refl
picked_is k (x ∷ xs) = ap (λ n. cond (key< k (branch_key x)) 0 (suc n)) (picked_is k xs)

child_after : (i x : ℕ) (xs : List (List ℕ)) → i < length xs → child_at (suc i) x (map cell_of xs) ≡ word32 (get_or xs i []) 2
child_after i x [] h = absurd (omega arith)
child_after zero x (y ∷ xs) h = refl
child_after (suc i) x (y ∷ xs) h = child_after i (word32 y 2) xs (omega arith)

pub separator_at_lem : (i : ℕ) (xs : List (List ℕ)) → i < length xs → separator_at i (map cell_of xs) ≡ branch_key (get_or xs i [])
separator_at_lem i [] h = absurd (omega arith)
separator_at_lem zero (y ∷ xs) h = refl
separator_at_lem (suc i) (y ∷ xs) h = separator_at_lem i xs (omega arith)

module _ (x : ℕ) (xs : List (List ℕ)) where
  pub child_later : (i y : ℕ) → 1 ≤ i → i ≤ length (map cell_of xs) → y ≡ word32 (get_or xs (i - 1) []) 2 → Some y ≡ child_of i (branch x (map cell_of xs))
  child_later i y s h e =
      let n : suc (i - 1) ≡ i = omega arith in
      let c : child_at i x (map cell_of xs) ≡ word32 (get_or xs (i - 1) []) 2 = ap (λ m. child_at m x (map cell_of xs)) (sym n) ∙ child_after (i - 1) x xs (omega (arith, length-map xs cell_of)) in
      ap Some (e ∙ sym c) ∙ sym (ap (λ t. cond t (Some (child_at i x (map cell_of xs))) None) (le-leb _ _ h))
