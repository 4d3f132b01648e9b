-- A pair of a leaf, by the part of the page that its cell is.
use Rattle.std.proofs.Common.{◌≡◌, ℕ, ◌+◌, ◌-◌, ◌<◌, ◌≤◌, true, false, leb, List, [], length, get_or, take, drop, is_some, Some, None, Option, sym, refl, ap, ◌∙◌, arith}
use Rattle.std.proofs.lemmas.List.{length-map, length-drop, length-take-le, take-take, take_all, drop-take, drop-drop}
use Rattle.std.proofs.lemmas.Bool.{false≢true, le-leb, lt-leb}
use Rattle.page.specs.Kinds.{leaf_good, leaf_key, leaf_rules, pair_of}
use Rattle.page.specs.Layout.{Laid, cells_of, edge_at}
use Rattle.page.specs.Pairs.{PairSeen, pair_seen}
use Rattle.page.specs.Reading.{every, shape_fault}
use Rattle.page.specs.Views.{pairs_in, key_at, value_at}
use Rattle.page.specs.declared.fault.Cause.{Cause}
use Rattle.page.proofs.Children.{shape_parts}
use Rattle.page.proofs.Finds.{key_at_lem, value_at_lem}
use Rattle.page.specs.Goods.{leaf_parts_of}
use Rattle.page.proofs.Pages.{edge_is}
use Rattle.page.proofs.Tested.{every_at, part_is, edges_down}
use Rattle.page.proofs.Wholes.{few_cells}

-- the shape has no fault, by what was found of it
pub free_of : {f : Option Cause} (o : Option Cause) → o ≡ f → false ≡ is_some o → f ≡ None
free_of None e n = sym e
free_of (Some x) e n = absurd (false≢true n)

-- a part of a part
part_of : (b : List ℕ) (from n k m : ℕ) → k + m ≤ n → take m (drop k (take n (drop from b))) ≡ take m (drop (from + k) b)
part_of b from n k m h =
    let e : k + (n - k) ≡ n = omega arith in
    let f : drop k (take n (drop from b)) ≡ take (n - k) (drop k (drop from b)) = ap (λ j. drop k (take j (drop from b))) (sym e) ∙ drop-take k (n - k) (drop from b) in
    ap (take m) f ∙ (take-take m (n - k) (drop k (drop from b)) (omega arith) ∙ ap (take m) (drop-drop k from b))

-- a leaf, but perhaps for its checksum
module _ (b : List ℕ) (i : ℕ) (free : shape_fault leaf_rules b ≡ None) where
  pub past_the_cells : length (cells_of b) ≤ i → None ≡ pair_seen i b
  past_the_cells h =
      let l : leb (length (pairs_in b)) i ≡ true = le-leb _ _ (omega (arith, length-map (cells_of b) pair_of)) in
      rw (free, l)

  shape : Laid 1 b × (every leaf_good (cells_of b) ≡ true)
  shape = let p = shape_parts leaf_rules b free in (p.0, p.1)

  pub laid : Laid 1 b
  laid = shape.0

  module _ (h : i < length (cells_of b)) where
    pub good : leaf_good (get_or (cells_of b) i []) ≡ true
    good = every_at leaf_good (cells_of b) i shape.1 h

    pub few : i + 1 ≤ 248
    few = omega (arith, few_cells 1 b laid)

    edge_high : (j : ℕ) → j ≤ length (cells_of b) → edge_at b j ≤ 512
    edge_high j l = omega (arith, edge_is j laid l)

    pub begins_low : edge_at b (i + 1) ≤ 512
    begins_low = edge_high (i + 1) (omega arith)

    pub is_seen : (p : PairSeen) → p.key ≡ leaf_key (get_or (cells_of b) i []) → p.value ≡ drop (2 + get_or (get_or (cells_of b) i []) 0 0) (get_or (cells_of b) i [])
        → p.key_offset ≡ edge_at b (i + 1) + 2 → p.value_offset ≡ p.key_offset + length p.key → Some p ≡ pair_seen i b
    is_seen p ek ev eo eq =
        let l : leb (length (pairs_in b)) i ≡ false = lt-leb _ _ (omega (arith, length-map (cells_of b) pair_of)) in
        let k : p.key ≡ key_at (pairs_in b) i = ek ∙ sym (key_at_lem (cells_of b) i h) in
        let v : p.value ≡ value_at (pairs_in b) i = ev ∙ sym (value_at_lem (cells_of b) i h) in
        let o : p.value_offset ≡ edge_at b (i + 1) + 2 + length (key_at (pairs_in b) i) = eq ∙ (λ j. eo j + length (k j)) in
        rw (free, l) (λ j. Some (record { key = k j; value = v j; key_offset = eo j; value_offset = o j }))

    module _ (len : length b ≡ 512) where
      cell_is : take (edge_at b i - edge_at b (i + 1)) (drop (edge_at b (i + 1)) b) ≡ get_or (cells_of b) i []
      cell_is = part_is b i _ _ h refl refl

      cell_long : length (get_or (cells_of b) i []) ≡ edge_at b i - edge_at b (i + 1)
      cell_long =
          ap length (sym cell_is) ∙ length-take-le _ _ (omega (arith, edges_down 1 b laid i h, edge_high i (omega arith), length-drop (edge_at b (i + 1)) b))

      -- bytes of the cell are bytes of the page
      within : (k m : ℕ) → k + m ≤ length (get_or (cells_of b) i []) → take m (drop k (get_or (cells_of b) i [])) ≡ take m (drop (edge_at b (i + 1) + k) b)
      within k m l =
          ap (λ c. take m (drop k c)) (sym cell_is) ∙ part_of b (edge_at b (i + 1)) (edge_at b i - edge_at b (i + 1)) k m (omega (arith, cell_long))

      module _ (s : List ℕ) (o : ℕ) (e : s ≡ leaf_key (get_or (cells_of b) i [])) (f : o ≡ edge_at b (i + 1) + 2) where
        key_long : length s ≡ get_or (get_or (cells_of b) i []) 0 0
        key_long =
            let c = get_or (cells_of b) i [] in
            ap length e ∙ length-take-le (get_or c 0 0) (drop 2 c) (omega (arith, length-drop 2 c, (leaf_parts_of c good).long))

        pub key_lies : s ≡ take (length s) (drop o b)
        key_lies =
            let c = get_or (cells_of b) i [] in
            e ∙ (within 2 (get_or c 0 0) (omega (arith, (leaf_parts_of c good).long)) ∙ (λ j. take (sym key_long j) (drop (sym f j) b)))

        pub value_lies : (t : List ℕ) → t ≡ drop (2 + get_or (get_or (cells_of b) i []) 0 0) (get_or (cells_of b) i []) → t ≡ take (length t) (drop (o + length s) b)
        value_lies t d =
            let c = get_or (cells_of b) i [] in
            let m : length c ≡ 2 + get_or c 0 0 + get_or c 1 0 = (leaf_parts_of c good).long in
            let n : get_or c 1 0 ≡ length t = omega (arith, ap length d, length-drop (2 + get_or c 0 0) c) in
            let g : edge_at b (i + 1) + (2 + get_or c 0 0) ≡ o + length s = omega (arith, key_long) in
            let w : take (get_or c 1 0) t ≡ t = take_all (get_or c 1 0) t (omega arith) in
            sym w ∙ (ap (take (get_or c 1 0)) d ∙ (within (2 + get_or c 0 0) (get_or c 1 0) (omega arith) ∙ (λ j. take (n j) (drop (g j) b))))
