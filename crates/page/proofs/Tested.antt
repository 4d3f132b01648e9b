-- What the test of a page's layout goes by.
use Rattle.std.proofs.Common.{◌≡◌, ℕ, zero, suc, ◌+◌, ◌-◌, ◌*◌, ◌<◌, ◌≤◌, Bool, true, false, List, [], ◌∷◌, ◌++◌, length, get_or, take, drop, sym, refl, ap, ◌∙◌, ⊎_elim, add-one, arith}
use Rattle.std.proofs.lemmas.List.FromFn.{get_or-map-range_with_len}
use Rattle.std.proofs.lemmas.Slice.Eq.{bytes_eq-Decides}
use Rattle.std.proofs.lemmas.List.{take_more, take-append-drop, drop-drop, length-drop, length-take-le, get_or-drop, drop_all, append_assoc}
use Rattle.std.proofs.lemmas.Bool.{and_parts, and_from, cases_Bool, leb-true, le-leb, both_ways}
use Rattle.checksum.specs.Bytes.{le16, word16}
use Rattle.checksum.proofs.Words.{Bytes, word32_small, le16_back}
use Rattle.page.specs.Kinds.{Rules}
use Rattle.page.specs.Layout.{Laid, bodies, offsets, cells_of, cell_in, edge_at, left_of}
use Rattle.page.specs.Reading.{every, layout}
use Rattle.page.specs.Packed.{Packed}
use Rattle.page.proofs.Pages.{top_more, top_low, edge_is, count_of, bodies_append, offsets_append}

pub every_append : (good : List ℕ → Bool) (xs ys : List (List ℕ)) → every good xs ≡ true → every good ys ≡ true → every good (xs ++ ys) ≡ true
every_append good [] ys p q = q
every_append good (x ∷ xs) ys p q =
    let h = and_parts (good x) (every good xs) p in
    and_from _ _ h.0 (every_append good xs ys h.1 q)

pub every_at : (good : List ℕ → Bool) (xs : List (List ℕ)) (i : ℕ) → every good xs ≡ true → i < length xs → good (get_or xs i []) ≡ true
every_at good [] i p h = absurd (omega arith)
every_at good (x ∷ xs) zero p h = (and_parts (good x) (every good xs) p).0
every_at good (x ∷ xs) (suc i) p h = every_at good xs i (and_parts (good x) (every good xs) p).1 (omega arith)

-- a page that is laid out, of good cells
pub record Good (k : Rules) (b : List ℕ) : Type 0 where
  pub laid : Laid k.kind b
  pub goods : every k.good (cells_of b) ≡ true
  pub left : k.leftmost (left_of b) ≡ true

pub good_from : (k : Rules) (b : List ℕ) → Bytes b → layout k b ≡ true → Good k b
unfolding layout
good_from k b bytes h =
    let p = and_parts _ _ h in
    let q = and_parts _ _ p.1 in
    let r = and_parts _ _ q.1 in
    record {
      laid = record { room = leb-true _ _ r.0; child = word32_small b 8 bytes; word = word32_small b 12 bytes; is = (bytes_eq-Decides _ _).0 r.1 };
      goods = p.0;
      left = q.0;
    }

pub layout_from : (k : Rules) (b : List ℕ) → Good k b → layout k b ≡ true
unfolding layout
layout_from k b g =
    and_from _ _ g.goods (and_from _ _ g.left (and_from _ _ (le-leb _ _ g.laid.room) ((bytes_eq-Decides _ _).1 g.laid.is)))

pub not_laid : (k : Rules) (b : List ℕ) → Bytes b → (Good k b → ⊥) → layout k b ≡ false
not_laid k b bytes h = ⊎_elim (λ t. absurd (h (good_from k b bytes t))) (λ f. f) (cases_Bool (layout k b))

pub cell_here : (bytes : List ℕ) (i : ℕ) → i < length (cells_of bytes) → get_or (cells_of bytes) i [] ≡ cell_in bytes i
unfolding cells_of
cell_here bytes i h = get_or-map-range_with_len (cell_in bytes) 0 (word16 bytes 2) i i [] (omega (arith, count_of bytes)) (omega arith)

-- the bytes between two edges
pub part_is : (bytes : List ℕ) (i from end : ℕ) → i < length (cells_of bytes) → from ≡ edge_at bytes (i + 1) → end ≡ edge_at bytes i → take (end - from) (drop from bytes) ≡ get_or (cells_of bytes) i []
unfolding cell_in
part_is bytes i from end h ef ee =
    let e = cell_here bytes i h in
    cc

module _ (k : ℕ) (b : List ℕ) (s : Laid k b) (i : ℕ) (h : i < length (cells_of b)) where
  pub edges_down : edge_at b (i + 1) ≤ edge_at b i
  edges_down = omega (arith, edge_is i s (omega arith), edge_is (i + 1) s (omega arith), top_more (cells_of b) i h)

  pub edge_low : 16 + 2 * length (cells_of b) ≤ edge_at b (i + 1)
  edge_low = omega (arith, edge_is (i + 1) s (omega arith), top_low (cells_of b) (i + 1), s.room)

take_two : (xs : List ℕ) (i : ℕ) → i + 2 ≤ length xs → take (i + 2) xs ≡ take i xs ++ (get_or xs i 0 ∷ get_or xs (i + 1) 0 ∷ [])
take_two xs i h =
    let e = take_more xs i 0 (omega arith) in
    let f = take_more xs (i + 1) 0 (omega arith) in
    let n : i + 1 + 1 ≡ i + 2 = omega arith in
    let a = append_assoc (take i xs) (get_or xs i 0 ∷ []) (get_or xs (i + 1) 0 ∷ []) in
    ap (λ m. take m xs) (sym n) ∙ (f ∙ (ap (λ r. r ++ get_or xs (i + 1) 0 ∷ []) e ∙ a))

-- one offset more
point_more : (b : List ℕ) (i w : ℕ) → Bytes b → length b ≡ 512 → i ≤ 247 → w ≡ word16 b (16 + 2 * i)
    → take (2 * (i + 1)) (drop 16 b) ≡ take (2 * i) (drop 16 b) ++ le16 w
unfolding word16
point_more b i w bytes len h e =
    let n : 2 * (i + 1) ≡ 2 * i + 2 = omega arith in
    let x : get_or (drop 16 b) (2 * i) 0 ≡ get_or b (16 + 2 * i) 0 = get_or-drop 16 b (2 * i) 0 in
    let y : get_or (drop 16 b) (2 * i + 1) 0 ≡ get_or b (16 + 2 * i + 1) 0 = get_or-drop 16 b (2 * i + 1) 0 ∙ ap (λ m. get_or b m 0) (omega arith) in
    let t = take_two (drop 16 b) (2 * i) (omega (arith, length-drop 16 b)) in
    let l = le16_back (get_or b (16 + 2 * i) 0) (get_or b (16 + 2 * i + 1) 0) (bytes _) (bytes _) in
    let f : get_or (drop 16 b) (2 * i) 0 ∷ get_or (drop 16 b) (2 * i + 1) 0 ∷ [] ≡ le16 w = cc in
    ap (λ m. take m (drop 16 b)) n ∙ (t ∙ ap (λ r. take (2 * i) (drop 16 b) ++ r) f)

-- the bytes from one place on are those up to another and those from there on
drop_split : (b : List ℕ) (from end : ℕ) → from ≤ end → take (end - from) (drop from b) ++ drop end b ≡ drop from b
drop_split b from end h =
    let e : drop (end - from) (drop from b) ≡ drop end b = drop-drop (end - from) from b ∙ ap (λ m. drop m b) (omega arith) in
    ap (λ r. take (end - from) (drop from b) ++ r) (sym e) ∙ take-append-drop (end - from) (drop from b)

pub packed_none : (k : Rules) (b : List ℕ) → length b ≡ 512 → length (cells_of b) ≤ 248 → Packed k b 0
unfolding edge_at bodies offsets
packed_none k b len few = record {
  goods = refl;
  low = omega arith;
  high = omega arith;
  packs = sym (drop_all 512 b (omega arith));
  points = refl;
}

pub packed_more : (k : Rules) (b : List ℕ) (i from end : ℕ) → Bytes b → length b ≡ 512 → length (cells_of b) ≤ 248 → i < length (cells_of b)
    → from ≡ edge_at b (i + 1) → end ≡ edge_at b i → from ≤ end → 16 + 2 * length (cells_of b) ≤ from
    → k.good (take (end - from) (drop from b)) ≡ true → Packed k b i → Packed k b (i + 1)
unfolding edge_at bodies offsets
packed_more k b i from end bytes len few h ef ee le low good p =
    let xs = cells_of b in
    let c = get_or xs i [] in
    let t = take_more xs i [] h in
    let pc = part_is b i from end h ef ee in
    let high = p.high in
    let lc : length c ≡ end - from = sym (ap length pc) ∙ length-take-le (end - from) (drop from b) (omega (arith, length-drop from b)) in
    let w : from ≡ word16 b (16 + 2 * i) = ef ∙ ap (edge_at b) (add-one i) in
    let lb : length (bodies (take i xs)) ≡ 512 - end = ap length p.packs ∙ (length-drop (edge_at b i) b ∙ omega arith) in
    let v : 512 - length (bodies (take i xs)) - length c ≡ from = omega arith in
    let eb : bodies (take i xs) ≡ drop end b = p.packs ∙ ap (λ m. drop m b) (sym ee) in
    record {
      goods = rw t (every_append k.good (take i xs) (c ∷ []) p.goods (and_from _ _ (sym (ap k.good pc) ∙ good) refl));
      low = omega arith;
      high = omega arith;
      packs = ap bodies t ∙ (bodies_append (take i xs) (c ∷ []) ∙ (ap (λ r. c ++ r) eb ∙ (ap (λ r. r ++ drop end b) (sym pc) ∙ (drop_split b from end le ∙ ap (λ m. drop m b) ef))));
      points = ap (offsets 512) t ∙ (offsets_append 512 (take i xs) (c ∷ []) ∙ (ap (λ r. r ++ le16 (512 - length (bodies (take i xs)) - length c)) p.points ∙ (ap (λ m. take (2 * i) (drop 16 b) ++ le16 m) v ∙ sym (point_more b i from bytes len (omega arith) w))));
    }

-- all else being right, the leftmost child decides
pub layout_is : (k : Rules) (b : List ℕ) → Bytes b → Laid k.kind b → every k.good (cells_of b) ≡ true → layout k b ≡ k.leftmost (left_of b)
layout_is k b bytes s g =
    ⊎_elim
    (λ t. layout_from k b (record { laid = s; goods = g; left = t }) ∙ sym t)
    (λ f. not_laid k b bytes (λ p. both_ways (k.leftmost (left_of b)) f p.left) ∙ sym f)
    (cases_Bool (k.leftmost (left_of b)))
