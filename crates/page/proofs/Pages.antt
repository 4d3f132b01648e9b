-- What writes to a page leave, and what its words hold.
use Rattle.std.proofs.Common.{◌≡◌, ℕ, zero, suc, ◌+◌, ◌-◌, ◌*◌, ◌/◌, ◌%◌, ◌<◌, ◌≤◌, List, [], ◌∷◌, ◌++◌, length, get_or, take, drop, set, sym, refl, ap, ◌∙◌, add-one, arith}
use Rattle.std.specs.List.{between}
use Rattle.std.proofs.lemmas.Slice.{between_to_end}
use Rattle.std.proofs.lemmas.List.FromFn.{fill_by_all, length-map-range_with_len}
use Rattle.std.proofs.lemmas.List.{drop-drop, take-take, take-append-drop, drop_more, take_more, length-take-le, append_assoc, append-nil, length-append, take_at, drop_at, get_or_at, length-replicate, replicate-append-replicate}
use Rattle.checksum.specs.Bytes.{le16, le32, over, word16, word32, zeros}
use Rattle.checksum.proofs.Words.{four_bytes}
use Rattle.page.specs.Layout.{bodies, offsets, cost, header, laid_out, Shows, edge_at, cell_in, cells_of, left_of, sum_of, Laid}

-- where cell i ends, by the cells
abbrev pub top : List (List ℕ) → ℕ → ℕ
top cells i = 512 - length (bodies (take i cells))

-- a write over a part of the same length
pub over_at : (p m v s : List ℕ) (a : ℕ) → length p ≡ a → length m ≡ length v → over a v (p ++ (m ++ s)) ≡ p ++ (v ++ s)
unfolding over
over_at p m v s a la lm =
    let t = take_at p (m ++ s) a la in
    let n : length (p ++ m) ≡ a + length v = omega (arith, length-append p m) in
    let e : drop (a + length v) (p ++ (m ++ s)) ≡ s = rw (← append_assoc) (drop_at (p ++ m) s _ n) in
    cc

-- what stands in two bytes
pub word16_at : (p s : List ℕ) (x a : ℕ) → length p ≡ a → x < 65536 → word16 (p ++ (le16 x ++ s)) a ≡ x
unfolding word16
word16_at p s x a la h =
    let e = get_or_at p (x % 256) (x / 256 % 256 ∷ s) 0 a la in
    let n : length (p ++ x % 256 ∷ []) ≡ a + 1 = omega (arith, length-append p (x % 256 ∷ [])) in
    let f : get_or (p ++ (x % 256 ∷ x / 256 % 256 ∷ s)) (a + 1) 0 ≡ x / 256 % 256 = rw (← append_assoc p (x % 256 ∷ []) (x / 256 % 256 ∷ s)) (get_or_at (p ++ x % 256 ∷ []) (x / 256 % 256) s 0 _ n) in
    omega (arith, e, f)

pub bodies_append : (xs ys : List (List ℕ)) → bodies (xs ++ ys) ≡ bodies ys ++ bodies xs
unfolding bodies
bodies_append [] ys = sym (append-nil (bodies ys))
bodies_append (x ∷ xs) ys = ap (λ l. l ++ x) (bodies_append xs ys) ∙ append_assoc (bodies ys) (bodies xs) x

pub offsets_append : (top : ℕ) (xs ys : List (List ℕ)) → offsets top (xs ++ ys) ≡ offsets top xs ++ offsets (top - length (bodies xs)) ys
unfolding offsets bodies
offsets_append top [] ys = ap (λ t. offsets t ys) (omega arith)
offsets_append top (x ∷ xs) ys =
    let e : (top - length x) - length (bodies xs) ≡ top - length (bodies xs ++ x) = omega (arith, length-append (bodies xs) x) in
    let h = offsets_append (top - length x) xs ys in
    let k = ap (λ t. offsets t ys) e in
    cc

pub length_offsets : (top : ℕ) (xs : List (List ℕ)) → length (offsets top xs) ≡ 2 * length xs
unfolding offsets
length_offsets top [] = refl
length_offsets top (x ∷ xs) = omega (arith, length_offsets (top - length x) xs)

-- what the header's words hold
pub count_is : {k : ℕ} {bytes : List ℕ} {l q : ℕ} {cells : List (List ℕ)} → Shows k bytes l q cells → word16 bytes 2 ≡ length cells
unfolding laid_out
count_is {k} {bytes} {l} {q} {cells} s =
    ap (λ b. word16 b 2) s.is ∙ word16_at (k ∷ 0 ∷ []) _ (length cells) 2 refl (omega (arith, s.room))

pub lowest_is : {k : ℕ} {bytes : List ℕ} {l q : ℕ} {cells : List (List ℕ)} → Shows k bytes l q cells → word16 bytes 4 ≡ 512 - length (bodies cells)
unfolding laid_out
lowest_is {k} {bytes} {l} {q} {cells} s =
    ap (λ b. word16 b 4) s.is ∙ word16_at (k ∷ 0 ∷ le16 (length cells)) _ (512 - length (bodies cells)) 4 refl (omega arith)

-- what the header's words become
pub over_count : (k l q n n' w : ℕ) (x : List ℕ) → over 2 (le16 n') (header k l q n w ++ x) ≡ header k l q n' w ++ x
over_count k l q n n' w x = over_at (k ∷ 0 ∷ []) (le16 n) (le16 n') _ 2 refl refl

pub over_lowest : (k l q n w w' : ℕ) (x : List ℕ) → over 4 (le16 w') (header k l q n w ++ x) ≡ header k l q n w' ++ x
over_lowest k l q n w w' x = over_at (k ∷ 0 ∷ le16 n) (le16 w) (le16 w') _ 4 refl refl

pub over_leftmost : (k l l' q n w : ℕ) (x : List ℕ) → over 8 (le32 l') (header k l q n w ++ x) ≡ header k l' q n w ++ x
over_leftmost k l l' q n w x = over_at (k ∷ 0 ∷ (le16 n ++ (le16 w ++ (0 ∷ 0 ∷ [])))) (le32 l) (le32 l') _ 8 refl refl

-- a page's bytes from its parts
pub from_parts : (k l q : ℕ) (cells : List (List ℕ)) (n w z : ℕ) (o b : List ℕ) → length cells ≡ n → 512 - length b ≡ w → offsets 512 cells ≡ o → 496 - (2 * n + length b) ≡ z → bodies cells ≡ b → laid_out k l q cells ≡ header k l q n w ++ (o ++ (zeros z ++ b))
unfolding laid_out
from_parts k l q cells n w z o b en ew eo ez eb = simp (eb, eo, en, ew, ez)

pub zeros_split : (m n : ℕ) → zeros (m + n) ≡ zeros m ++ zeros n
zeros_split m n = sym (replicate-append-replicate m n 0)

pub length_zeros : (n : ℕ) → length (zeros n) ≡ n
length_zeros n = length-replicate n _

-- two writes between a page's offsets and its cells: `v` over `t`, and `b` over `m`
pub splice : (h o t z m r v b : List ℕ) (i a : ℕ) → length h + length o ≡ i → length t ≡ length v → length m ≡ length b → i + length t + length z ≡ a → over i v (over a b (h ++ (o ++ (((t ++ z) ++ m) ++ r)))) ≡ h ++ ((o ++ v) ++ (z ++ (b ++ r)))
splice h o t z m r v b i a lh lt lm la =
    let e1 : h ++ (o ++ (((t ++ z) ++ m) ++ r)) ≡ ((h ++ o) ++ (t ++ z)) ++ (m ++ r) = simp append_assoc in
    let e2 = over_at ((h ++ o) ++ (t ++ z)) m b r a (simp length-append (omega arith)) lm in
    let e3 : ((h ++ o) ++ (t ++ z)) ++ (b ++ r) ≡ (h ++ o) ++ (t ++ (z ++ (b ++ r))) = simp append_assoc in
    let e4 = over_at (h ++ o) t v (z ++ (b ++ r)) i (simp length-append lh) lt in
    let e5 : (h ++ o) ++ (v ++ (z ++ (b ++ r))) ≡ h ++ ((o ++ v) ++ (z ++ (b ++ r))) = simp append_assoc in
    cc

-- one more cell
pub append_page : (k l q : ℕ) (cells : List (List ℕ)) (b : List ℕ) (at : ℕ) → cost cells + 2 + length b ≤ 496 → at ≡ 512 - length (bodies cells) - length b → over 2 (le16 (length cells + 1)) (over 4 (le16 at) (over (16 + 2 * length cells) (le16 at) (over at b (laid_out k l q cells)))) ≡ laid_out k l q (cells ++ b ∷ [])
unfolding laid_out bodies offsets
append_page k l q cells b at room eat =
    let B : List ℕ = bodies cells in
    let O : List ℕ = offsets 512 cells in
    let n : ℕ = length cells in
    let w : ℕ = 512 - length B in
    let z : ℕ = 496 - (cost cells + 2 + length b) in
    let H : List ℕ = header k l q n w in
    let X : List ℕ = (O ++ le16 at) ++ (zeros z ++ (b ++ B)) in
    let e0 : zeros (496 - cost cells) ≡ (le16 0 ++ zeros z) ++ zeros (length b) = ap zeros (omega arith) ∙ (zeros_split (2 + z) (length b) ∙ ap (λ r. r ++ zeros (length b)) (zeros_split 2 z)) in
    let e1 : laid_out k l q cells ≡ H ++ (O ++ (((le16 0 ++ zeros z) ++ zeros (length b)) ++ B)) = ap (λ r. H ++ (O ++ (r ++ B))) e0 in
    let e2 = splice H O (le16 0) (zeros z) (zeros (length b)) B (le16 at) b (16 + 2 * n) at (omega (arith, length_offsets 512 cells)) refl (length_zeros (length b)) (omega (arith, length_zeros z)) in
    let e3 = over_lowest k l q n w at X in
    let e4 = over_count k l q n (n + 1) at X in
    let p = from_parts k l q (cells ++ b ∷ []) (n + 1) at z (O ++ le16 at) (b ++ B) (simp length-append (omega arith)) (simp length-append (omega arith)) (offsets_append 512 cells (b ∷ []) ∙ ap (λ t. O ++ le16 t) (sym eat)) (simp length-append (omega arith)) (bodies_append cells (b ∷ [])) in
    ap (λ y. over 2 (le16 (n + 1)) (over 4 (le16 at) (over (16 + 2 * n) (le16 at) (over at b y)))) e1
    ∙ (ap (λ y. over 2 (le16 (n + 1)) (over 4 (le16 at) y)) e2 ∙ (ap (over 2 (le16 (n + 1))) e3 ∙ (e4 ∙ sym p)))

pub cost_append : (xs ys : List (List ℕ)) → cost (xs ++ ys) ≡ cost xs + cost ys
cost_append xs ys =
    omega (arith, length-append xs ys, length-append (bodies ys) (bodies xs), ap length (bodies_append xs ys))

pub cost_one : (b : List ℕ) → cost (b ∷ []) ≡ 2 + length b
unfolding bodies
cost_one b = refl

-- the empty page
pub start_page : (k l : ℕ) → over 8 (le32 l) (over 4 (le16 512) (set (zeros 512) 0 k)) ≡ laid_out k l 0 []
unfolding laid_out bodies offsets
start_page k l =
    let e = over_lowest k 0 0 0 0 512 (zeros 496) in
    let f = over_leftmost k 0 l 0 0 512 (zeros 496) in
    let a : header k l 0 0 512 ++ zeros 496 ≡ header k l 0 0 512 ++ (zeros 496 ++ []) = simp append-nil in
    cc

-- a list of cells, split at one
pub split_cells : (cells : List (List ℕ)) (i : ℕ) → i < length cells → cells ≡ take i cells ++ (get_or cells i [] ∷ drop (i + 1) cells)
split_cells cells i h = sym (ap (λ r. take i cells ++ r) (sym (drop_more cells i [] h)) ∙ take-append-drop i cells)

-- where the cells end
pub top_more : (cells : List (List ℕ)) (i : ℕ) → i < length cells → top cells (i + 1) ≡ top cells i - length (get_or cells i [])
unfolding bodies
top_more cells i h =
    let e = bodies_append (take i cells) (get_or cells i [] ∷ []) in
    let t = take_more cells i [] h in
    let f : bodies (take (i + 1) cells) ≡ get_or cells i [] ++ bodies (take i cells) = ap bodies t ∙ e in
    omega (arith, ap length f, length-append (get_or cells i []) (bodies (take i cells)))

pub top_low : (cells : List (List ℕ)) (i : ℕ) → length (bodies (take i cells)) ≤ length (bodies cells)
top_low cells i =
    let e = ap bodies (take-append-drop i cells) in
    let f = bodies_append (take i cells) (drop i cells) in
    omega (arith, ap length e, ap length f, length-append (bodies (drop i cells)) (bodies (take i cells)))

regroup : (h o v p x : List ℕ) → h ++ ((o ++ (v ++ p)) ++ x) ≡ (h ++ o) ++ (v ++ (p ++ x))
regroup h o v p x = simp append_assoc

pub offset_is : {k : ℕ} {bytes : List ℕ} {l q : ℕ} {cells : List (List ℕ)} (i : ℕ) → Shows k bytes l q cells → i < length cells → word16 bytes (16 + 2 * i) ≡ top cells (i + 1)
unfolding laid_out offsets
offset_is {k} {bytes} {l} {q} {cells} i s h =
    let c : List ℕ = get_or cells i [] in
    let v : ℕ = top cells i - length c in
    let H : List ℕ = header k l q (length cells) (512 - length (bodies cells)) in
    let X : List ℕ = zeros (496 - cost cells) ++ bodies cells in
    let P : List ℕ = offsets v (drop (i + 1) cells) in
    let O : List ℕ = offsets 512 (take i cells) in
    let o : offsets 512 cells ≡ O ++ (le16 v ++ P) = ap (offsets 512) (split_cells cells i h) ∙ offsets_append 512 (take i cells) (c ∷ drop (i + 1) cells) in
    let e : bytes ≡ (H ++ O) ++ (le16 v ++ (P ++ X)) = s.is ∙ (ap (λ y. H ++ (y ++ X)) o ∙ regroup H O (le16 v) P X) in
    let n : length (H ++ O) ≡ 16 + 2 * i = omega (arith, length-append H O, length_offsets 512 (take i cells), length-take-le i cells (omega arith)) in
    ap (λ b. word16 b (16 + 2 * i)) e ∙ (word16_at (H ++ O) (P ++ X) v (16 + 2 * i) n (omega arith) ∙ sym (top_more cells i h))

regroup_cell : (h o z d c u : List ℕ) → h ++ (o ++ (z ++ ((d ++ c) ++ u))) ≡ (h ++ (o ++ (z ++ d))) ++ (c ++ u)
regroup_cell h o z d c u = simp append_assoc

-- the bytes from one edge to the next are the cell
pub cell_is : {k : ℕ} {bytes : List ℕ} {l q : ℕ} {cells : List (List ℕ)} (i : ℕ) → Shows k bytes l q cells → i < length cells → take (top cells i - top cells (i + 1)) (drop (top cells (i + 1)) bytes) ≡ get_or cells i []
unfolding laid_out bodies
cell_is {k} {bytes} {l} {q} {cells} i s h =
    let c : List ℕ = get_or cells i [] in
    let U : List ℕ = bodies (take i cells) in
    let D : List ℕ = bodies (drop (i + 1) cells) in
    let H : List ℕ = header k l q (length cells) (512 - length (bodies cells)) in
    let O : List ℕ = offsets 512 cells in
    let Z : List ℕ = zeros (496 - cost cells) in
    let P : List ℕ = H ++ (O ++ (Z ++ D)) in
    let b : bodies cells ≡ (D ++ c) ++ U = ap bodies (split_cells cells i h) ∙ bodies_append (take i cells) (c ∷ drop (i + 1) cells) in
    let e : bytes ≡ P ++ (c ++ U) = s.is ∙ (ap (λ y. H ++ (O ++ (Z ++ y))) b ∙ regroup_cell H O Z D c U) in
    let nb : length (bodies cells) ≡ length D + length c + length U = ap length b ∙ simp length-append in
    let np : length P ≡ top cells (i + 1) = omega (arith, length-append H (O ++ (Z ++ D)), length-append O (Z ++ D), length-append Z D, length_zeros (496 - cost cells), length_offsets 512 cells, top_more cells i h, s.room) in
    let nc : length c ≡ top cells i - top cells (i + 1) = omega (arith, top_more cells i h, s.room) in
    let d : drop (top cells (i + 1)) bytes ≡ c ++ U = ap (drop (top cells (i + 1))) e ∙ drop_at P (c ++ U) _ np in
    ap (take (top cells i - top cells (i + 1))) d ∙ take_at c U _ nc

pub leftmost_is : {k : ℕ} {bytes : List ℕ} {l q : ℕ} {cells : List (List ℕ)} → Shows k bytes l q cells → left_of bytes ≡ l
unfolding laid_out word32
leftmost_is {k} {bytes} {l} {q} {cells} s = ap left_of s.is ∙ four_bytes l s.child

pub sum_is : {k : ℕ} {bytes : List ℕ} {l q : ℕ} {cells : List (List ℕ)} → Shows k bytes l q cells → sum_of bytes ≡ q
unfolding laid_out word32
sum_is {k} {bytes} {l} {q} {cells} s = ap sum_of s.is ∙ four_bytes q s.word

-- a front of a list of cells costs no more
pub cost_take : (n : ℕ) (xs : List (List ℕ)) → cost (take n xs) ≤ cost xs
cost_take n xs = omega (arith, cost_append (take n xs) (drop n xs), ap cost (take-append-drop n xs))

pub cost_between_lem : (a i b : ℕ) (xs : List (List ℕ)) → i ≤ b → cost (between a i xs) ≤ cost (between a b xs)
cost_between_lem a i b xs h =
    let e = take-take (i - a) (b - a) (drop a xs) (omega arith) in
    omega (arith, cost_take (i - a) (between a b xs), ap cost e)

pub cost_none : cost [] ≡ 0
unfolding bodies
cost_none = refl

pub cost_split : (n : ℕ) (xs : List (List ℕ)) → cost (take n xs) + cost (drop n xs) ≡ cost xs
cost_split n xs = sym (cost_append (take n xs) (drop n xs)) ∙ ap cost (take-append-drop n xs)

-- what the bytes of a page say is what the page was made of
pub edge_is : {k : ℕ} {bytes : List ℕ} {l q : ℕ} {cells : List (List ℕ)} (i : ℕ) → Shows k bytes l q cells → i ≤ length cells → edge_at bytes i ≡ top cells i
unfolding edge_at bodies
edge_is zero s h = refl
edge_is {cells = cells} (suc i) s h = offset_is i s (omega arith) ∙ ap (top cells) (add-one i)

pub cell_in_lem : {k : ℕ} {bytes : List ℕ} {l q : ℕ} {cells : List (List ℕ)} (i : ℕ) → Shows k bytes l q cells → i < length cells → cell_in bytes i ≡ get_or cells i []
unfolding cell_in
cell_in_lem {bytes = bytes} {cells = cells} i s h =
    let e = edge_is i s (omega arith) in
    let f = edge_is (i + 1) s (omega arith) in
    let t = cell_is i s h in
    cc

pub cell_between : {k : ℕ} {bytes : List ℕ} {l q : ℕ} {cells : List (List ℕ)} (i end from : ℕ) → Shows k bytes l q cells → i < length cells
    → end ≡ edge_at bytes i → from ≡ edge_at bytes (i + 1) → take (end - from) (drop from bytes) ≡ get_or cells i []
unfolding cell_in
cell_between i end from s h e f = let t = cell_in_lem i s h in cc

pub cells_are : {k : ℕ} {bytes : List ℕ} {l q : ℕ} {cells : List (List ℕ)} → Shows k bytes l q cells → cells_of bytes ≡ cells
unfolding cells_of
cells_are {bytes = bytes} {cells = cells} s =
    sym (fill_by_all (cell_in bytes) cells (word16 bytes 2) [] (sym (count_is s)) (λ i h. sym (cell_in_lem i s (omega (arith, count_is s)))))

pub laid_from : {k : ℕ} {bytes : List ℕ} {l q : ℕ} {cells : List (List ℕ)} → Shows k bytes l q cells → Laid k bytes
laid_from {k} {bytes} {l} {q} {cells} s =
    let e = cells_are s in
    let f = leftmost_is s in
    let g = sum_is s in
    record {
      room = rw e s.room;
      child = rw f s.child;
      word = rw g s.word;
      is = s.is ∙ sym (ap (λ m. laid_out k m (sum_of bytes) (cells_of bytes)) f ∙ (ap (λ m. laid_out k l m (cells_of bytes)) g ∙ ap (laid_out k l q) e));
    }

-- how many cells, of any bytes
pub count_of : (bytes : List ℕ) → length (cells_of bytes) ≡ word16 bytes 2
unfolding cells_of
count_of bytes = length-map-range_with_len (cell_in bytes) 0 (word16 bytes 2)

-- the front and the back of a list of cells, as a copy names them
pub front_is : (i : ℕ) (xs : List (List ℕ)) → between 0 i xs ≡ take i xs
front_is i xs = ap (λ m. take m xs) (omega arith)

pub back_is : (i n : ℕ) (xs : List (List ℕ)) → n ≡ length xs → between i n xs ≡ drop i xs
back_is i n xs h = between_to_end xs i n (omega arith)

pub all_is : (n : ℕ) (xs : List (List ℕ)) → n ≡ length xs → between 0 n xs ≡ xs
all_is n xs h = back_is 0 n xs h

pub cost_drop : (i j : ℕ) (xs : List (List ℕ)) → i ≤ j → cost (drop j xs) ≤ cost (drop i xs)
cost_drop i j xs h =
    let e : drop (j - i) (drop i xs) ≡ drop j xs = drop-drop (j - i) i xs ∙ ap (λ m. drop m xs) (omega arith) in
    omega (arith, cost_split (j - i) (drop i xs), ap cost e)

pub cost_parts : (i n : ℕ) (xs : List (List ℕ)) → n ≡ length xs → cost (between 0 i xs) + cost (between i n xs) ≡ cost xs
cost_parts i n xs h = omega (arith, cost_split i xs, ap cost (front_is i xs), ap cost (back_is i n xs h))
