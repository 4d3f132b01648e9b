-- A page from its parts: the header, the offsets, the zeros and the cells.
use Rattle.std.proofs.Common.{◌≡◌, ℕ, ◌+◌, ◌-◌, ◌*◌, ◌<◌, ◌≤◌, List, [], ◌∷◌, ◌++◌, length, get_or, take, drop, sym, ap, ◌∙◌, arith}
use Rattle.std.proofs.lemmas.List.FromFn.{fill_by_all}
use Rattle.std.proofs.lemmas.List.{take_all, take-append-drop, drop-drop, length-drop, length-append, length-take-le, get_or-take, get_or-drop, get_or_append_left, get_or-append_right, get_or-replicate, append_assoc}
use Rattle.checksum.specs.Bytes.{le16, word16, word32, zeros}
use Rattle.checksum.proofs.Words.{le32_back, all_zero, Bytes, word32_small, le16_back}
use Rattle.page.specs.Kinds.{Rules}
use Rattle.page.specs.Layout.{Laid, bodies, offsets, cost, header, laid_out, cells_of, edge_at, left_of, sum_of}
use Rattle.page.specs.Packed.{Packed, Headed}
use Rattle.page.proofs.Pages.{edge_is, count_of, lowest_is, length_offsets, length_zeros}

sixteen : (b : List ℕ) → 16 ≤ length b → take 16 b ≡
    get_or b 0 0 ∷ get_or b 1 0 ∷ get_or b 2 0 ∷ get_or b 3 0 ∷ get_or b 4 0 ∷ get_or b 5 0 ∷ get_or b 6 0 ∷ get_or b 7 0
    ∷ get_or b 8 0 ∷ get_or b 9 0 ∷ get_or b 10 0 ∷ get_or b 11 0 ∷ get_or b 12 0 ∷ get_or b 13 0 ∷ get_or b 14 0 ∷ get_or b 15 0 ∷ []
sixteen b h = fill_by_all (λ i. get_or b i 0) (take 16 b) 16 0 (length-take-le 16 b h) (λ i l. get_or-take 16 b i 0 l)

-- a header by its fields
fields : ℕ → ℕ → List ℕ → List ℕ → ℕ → ℕ → List ℕ → List ℕ → List ℕ
fields k x n w y z l q = k ∷ x ∷ (n ++ (w ++ (y ∷ z ∷ (l ++ q))))

same_fields : {k k' x x' y y' z z' : ℕ} {n n' w w' l l' q q' : List ℕ} → k ≡ k' → x ≡ x' → n ≡ n' → w ≡ w' → y ≡ y' → z ≡ z' → l ≡ l' → q ≡ q'
    → fields k x n w y z l q ≡ fields k' x' n' w' y' z' l' q'
same_fields a b c d e f g h = cc

header_is : (k w : ℕ) (b : List ℕ) → Bytes b → 16 ≤ length b → Headed k b w → take 16 b ≡ header k (left_of b) (sum_of b) (word16 b 2) w
unfolding word16 word32 fields
header_is k w b bytes h g =
    sixteen b h
    ∙ same_fields g.first g.second
    (sym (le16_back (get_or b 2 0) (get_or b 3 0) (bytes _) (bytes _)))
    (sym (le16_back (get_or b 4 0) (get_or b 5 0) (bytes _) (bytes _)) ∙ ap le16 g.lowest)
    g.seventh g.eighth
    (sym (le32_back (get_or b 8 0) (get_or b 9 0) (get_or b 10 0) (get_or b 11 0) (bytes _) (bytes _) (bytes _) (bytes _)))
    (sym (le32_back (get_or b 12 0) (get_or b 13 0) (get_or b 14 0) (get_or b 15 0) (bytes _) (bytes _) (bytes _) (bytes _)))

-- a list in four parts
four_parts : (b : List ℕ) (i j w : ℕ) → i ≤ w → b ≡ take 16 b ++ (take j (drop 16 b) ++ (take (w - (16 + j)) (drop (16 + j) b) ++ drop (16 + j + (w - (16 + j))) b))
four_parts b i j w h =
    let a = take-append-drop 16 b in
    let c = take-append-drop j (drop 16 b) in
    let d = drop-drop j 16 b in
    let e = take-append-drop (w - (16 + j)) (drop (16 + j) b) in
    let f = drop-drop (w - (16 + j)) (16 + j) b in
    sym (ap (λ r. take 16 b ++ (take j (drop 16 b) ++ (take (w - (16 + j)) (drop (16 + j) b) ++ r))) (sym f)
    ∙ (ap (λ r. take 16 b ++ (take j (drop 16 b) ++ r)) (e ∙ sym d) ∙ (ap (λ r. take 16 b ++ r) c ∙ a)))

-- the page, once its header, its zeros and its cells are what they should be
pub whole : (k : Rules) (b : List ℕ) (n w : ℕ) → Bytes b → length b ≡ 512 → n ≡ length (cells_of b) → w ≡ edge_at b n → Packed k b n → Headed k.kind b w
    → ((j : ℕ) → 16 + 2 * n ≤ j → j < w → get_or b j 0 ≡ 0) → Laid k.kind b
unfolding laid_out
whole k b n w bytes len en ew p g z =
    let xs = cells_of b in
    let t : take n xs ≡ xs = take_all n xs (omega arith) in
    let low = p.low in
    let high = p.high in
    let eb : bodies xs ≡ drop w b = ap bodies (sym t) ∙ (p.packs ∙ ap (λ m. drop m b) (sym ew)) in
    let eo : offsets 512 xs ≡ take (2 * n) (drop 16 b) = ap (offsets 512) (sym t) ∙ p.points in
    let lb : length (bodies xs) ≡ 512 - w = ap length eb ∙ (length-drop w b ∙ omega arith) in
    let lz : length (take (w - (16 + 2 * n)) (drop (16 + 2 * n) b)) ≡ w - (16 + 2 * n) = length-take-le (w - (16 + 2 * n)) (drop (16 + 2 * n) b) (omega (arith, length-drop (16 + 2 * n) b)) in
    let ez : take (w - (16 + 2 * n)) (drop (16 + 2 * n) b) ≡ zeros (496 - cost xs) =
    all_zero (take (w - (16 + 2 * n)) (drop (16 + 2 * n) b)) (λ i l. get_or-take (w - (16 + 2 * n)) (drop (16 + 2 * n) b) i 0 (omega arith) ∙ (get_or-drop (16 + 2 * n) b i 0 ∙ z (16 + 2 * n + i) (omega arith) (omega arith)))
    ∙ ap zeros (omega arith) in
    let ed : drop (16 + 2 * n + (w - (16 + 2 * n))) b ≡ bodies xs = ap (λ m. drop m b) (omega arith) ∙ sym eb in
    let eh : take 16 b ≡ header k.kind (left_of b) (sum_of b) (length xs) (512 - length (bodies xs)) =
    header_is k.kind w b bytes (omega arith) g ∙ (ap (λ m. header k.kind (left_of b) (sum_of b) m w) (sym (count_of b)) ∙ ap (header k.kind (left_of b) (sum_of b) (length xs)) (omega arith)) in
    record {
      room = omega arith;
      child = word32_small b 8 bytes;
      word = word32_small b 12 bytes;
      is = four_parts b 0 (2 * n) w (omega arith)
          ∙ (ap (λ r. r ++ (take (2 * n) (drop 16 b) ++ (take (w - (16 + 2 * n)) (drop (16 + 2 * n) b) ++ drop (16 + 2 * n + (w - (16 + 2 * n))) b))) eh
          ∙ (ap (λ r. header k.kind (left_of b) (sum_of b) (length xs) (512 - length (bodies xs)) ++ (r ++ (take (w - (16 + 2 * n)) (drop (16 + 2 * n) b) ++ drop (16 + 2 * n + (w - (16 + 2 * n))) b))) (sym eo)
          ∙ (ap (λ r. header k.kind (left_of b) (sum_of b) (length xs) (512 - length (bodies xs)) ++ (offsets 512 xs ++ (r ++ drop (16 + 2 * n + (w - (16 + 2 * n))) b))) ez
          ∙ ap (λ r. header k.kind (left_of b) (sum_of b) (length xs) (512 - length (bodies xs)) ++ (offsets 512 xs ++ (zeros (496 - cost xs) ++ r))) ed)));
    }

-- and back
module _ (k : ℕ) (b : List ℕ) (s : Laid k b) where
  pub few_cells : length (cells_of b) ≤ 248
  few_cells = omega (arith, s.room)

  pub edge_end : edge_at b (length (cells_of b)) ≡ 512 - length (bodies (cells_of b))
  edge_end = edge_is (length (cells_of b)) s (omega arith) ∙ ap (λ xs. 512 - length (bodies xs)) (take_all (length (cells_of b)) (cells_of b) (omega arith))

  pub headed_from : (w : ℕ) → w ≡ edge_at b (length (cells_of b)) → Headed k b w
  unfolding laid_out
  headed_from w e = record {
    first = ap (λ x. get_or x 0 0) s.is;
    second = ap (λ x. get_or x 1 0) s.is;
    lowest = lowest_is s ∙ (sym edge_end ∙ sym e);
    seventh = ap (λ x. get_or x 6 0) s.is;
    eighth = ap (λ x. get_or x 7 0) s.is;
  }

  pub zero_from : (n w j : ℕ) → n ≡ length (cells_of b) → w ≡ edge_at b (length (cells_of b)) → 16 + 2 * n ≤ j → j < w → get_or b j 0 ≡ 0
  unfolding laid_out
  zero_from n w j en ew l h =
      let H : List ℕ = header k (left_of b) (sum_of b) (length (cells_of b)) (512 - length (bodies (cells_of b))) in
      let O : List ℕ = offsets 512 (cells_of b) in
      let Z : List ℕ = zeros (496 - cost (cells_of b)) in
      let e : b ≡ (H ++ O) ++ (Z ++ bodies (cells_of b)) = s.is ∙ sym (append_assoc H O (Z ++ bodies (cells_of b))) in
      let n0 : length (H ++ O) ≡ 16 + 2 * n = omega (arith, length-append H O, length_offsets 512 (cells_of b)) in
      let r : j - (16 + 2 * n) < 496 - cost (cells_of b) = omega (arith, edge_end, s.room) in
      ap (λ x. get_or x j 0) e
      ∙ (get_or-append_right (H ++ O) (Z ++ bodies (cells_of b)) (16 + 2 * n) j 0 n0 l
      ∙ (get_or_append_left Z (bodies (cells_of b)) 0 (j - (16 + 2 * n)) (omega (arith, length_zeros (496 - cost (cells_of b))))
      ∙ get_or-replicate (496 - cost (cells_of b)) (j - (16 + 2 * n)) 0 0 r))
