-- Numbers and their bytes.
use Rattle.std.proofs.Common.{◌≡◌, ℕ, zero, suc, ◌+◌, ◌*◌, ◌/◌, ◌%◌, ◌^◌, ◌-◌, ◌<◌, ◌≤◌, List, [], ◌∷◌, length, nat_eq, Decides, get_or, take, drop, refl, sym, ap, ◌∙◌, add-zero, lit<, arith}
use native.Mathlib.Nat.{div-div-eq-div-mul}
use Rattle.std.specs.List.{AllByRecursion, list_all}
use Rattle.std.specs.Int.{w16, w32, w64, from_le_bytes}
use Rattle.std.proofs.lemmas.List.{get_or-take, get_or-drop, length-take-le, length-drop}
use Rattle.std.proofs.lemmas.Bool.{and_parts, and_from, eqb-true, eq-eqb}
use Rattle.std.proofs.lemmas.Nat.{le_bytes_2, le_bytes_4, le_bytes_8, from_le_bytes-to_le_bytes_4, from_le_bytes-to_le_bytes_8}
use Rattle.checksum.specs.Bytes.{le16, le32, le64, word16, word32, word64, zeros}

-- each number is a byte
abbrev pub Bytes : List ℕ → Type 0
Bytes b = (i : ℕ) → get_or b i 0 < 256

-- what std reads from some bytes of a list
part_at : (k at : ℕ) (b w : List ℕ) (i : ℕ) → w ≡ take k (drop at b) → i < k → get_or w i 0 ≡ get_or b (at + i) 0
part_at k at b w i e l = ap (λ x. get_or x i 0) e ∙ (get_or-take k (drop at b) i 0 l ∙ get_or-drop at b i 0)

pub word16_read : (b w : List ℕ) (at n : ℕ) → w ≡ take 2 (drop at b) → n ≡ from_le_bytes w16 w → n ≡ word16 b at
unfolding word16
word16_read b w at n e h =
    let p = part_at 2 at b w in
    let z : get_or b (at + 0) 0 ≡ get_or b at 0 = ap (λ i. get_or b i 0) (add-zero at) in
    omega (arith, z, p 0 e (omega arith), p 1 e (omega arith))

pub word32_read : (b w : List ℕ) (at n : ℕ) → w ≡ take 4 (drop at b) → n ≡ from_le_bytes w32 w → n ≡ word32 b at
unfolding word32
word32_read b w at n e h =
    let p = part_at 4 at b w in
    let z : get_or b (at + 0) 0 ≡ get_or b at 0 = ap (λ i. get_or b i 0) (add-zero at) in
    omega (arith, z, p 0 e (omega arith), p 1 e (omega arith), p 2 e (omega arith), p 3 e (omega arith))

pub word64_read : (b w : List ℕ) (at n : ℕ) → w ≡ take 8 (drop at b) → n ≡ from_le_bytes w64 w → n ≡ word64 b at
unfolding word64 word32
word64_read b w at n e h =
    let p = part_at 8 at b w in
    let z : get_or b (at + 0) 0 ≡ get_or b at 0 = ap (λ i. get_or b i 0) (add-zero at) in
    let five : get_or b (at + 4 + 1) 0 ≡ get_or b (at + 5) 0 = ap (λ i. get_or b i 0) (omega arith) in
    let six : get_or b (at + 4 + 2) 0 ≡ get_or b (at + 6) 0 = ap (λ i. get_or b i 0) (omega arith) in
    let seven : get_or b (at + 4 + 3) 0 ≡ get_or b (at + 7) 0 = ap (λ i. get_or b i 0) (omega arith) in
    omega (
      arith,
      z,
      five,
      six,
      seven,
      p 0 e (omega arith),
      p 1 e (omega arith),
      p 2 e (omega arith),
      p 3 e (omega arith),
      p 4 e (omega arith),
      p 5 e (omega arith),
      p 6 e (omega arith),
      p 7 e (omega arith),
    )

-- the numbers that bytes hold are small
pub word32_small : (b : List ℕ) (at : ℕ) → Bytes b → word32 b at < 2 ^ 32
unfolding word32
word32_small b at h = omega (arith, h at, h (at + 1), h (at + 2), h (at + 3))

pub word64_small : (b : List ℕ) (at : ℕ) → Bytes b → word64 b at < 2 ^ 64
unfolding word64
word64_small b at h = omega (arith, word32_small b at h, word32_small b (at + 4) h)

-- the number that stands in the bytes of a number
pub four_bytes : (x : ℕ) → x < 2 ^ 32 → x % 256 + x / 256 % 256 * 256 + x / 65536 % 256 * 65536 + x / 16777216 % 256 * 16777216 ≡ x
four_bytes x h = omega (arith, from_le_bytes-to_le_bytes_4 x h)

-- eight bytes, each by one division
pub le64_is : (x : ℕ) → x % 256 ∷ x / 256 % 256 ∷ x / 65536 % 256 ∷ x / 16777216 % 256
    ∷ x / 4294967296 % 256 ∷ x / 1099511627776 % 256 ∷ x / 281474976710656 % 256 ∷ x / 72057594037927936 % 256 ∷ [] ≡ le64 x
le64_is x =
    let a : x / 4294967296 / 256 ≡ x / 1099511627776 = div-div-eq-div-mul x 4294967296 256 in
    let b : x / 4294967296 / 65536 ≡ x / 281474976710656 = div-div-eq-div-mul x 4294967296 65536 in
    let d : x / 4294967296 / 16777216 ≡ x / 72057594037927936 = div-div-eq-div-mul x 4294967296 16777216 in
    cc

pub eight_bytes : (x y : ℕ) → x < 2 ^ 64 → y ≡ x / 4294967296
    → x % 256 + x / 256 % 256 * 256 + x / 65536 % 256 * 65536 + x / 16777216 % 256 * 16777216
    + (y % 256 + y / 256 % 256 * 256 + y / 65536 % 256 * 65536 + y / 16777216 % 256 * 16777216) * 4294967296 ≡ x
eight_bytes x y h e =
    rw e (omega (arith, ap (from_le_bytes w64) (sym (le64_is x)) ∙ from_le_bytes-to_le_bytes_8 x h))

-- bytes as the bytes of the number that they hold
bytes_of : (xs : List ℕ) → AllByRecursion (λ x. x < 256) xs → Bytes xs
bytes_of [] h i = lit< tt
bytes_of (x ∷ xs) h zero = h.0
bytes_of (x ∷ xs) h (suc i) = bytes_of xs h.1 i

pub le16_back : (x y : ℕ) → x < 256 → y < 256 → le16 (x + y * 256) ≡ x ∷ y ∷ []
le16_back x y hx hy = le_bytes_2 (x ∷ y ∷ []) _ refl (bytes_of (x ∷ y ∷ []) (hx, (hy, tt))) (omega arith)

pub le32_back : (x y z w : ℕ) → x < 256 → y < 256 → z < 256 → w < 256
    → le32 (x + y * 256 + z * 65536 + w * 16777216) ≡ x ∷ y ∷ z ∷ w ∷ []
le32_back x y z w hx hy hz hw =
    le_bytes_4 (x ∷ y ∷ z ∷ w ∷ []) _ refl (bytes_of (x ∷ y ∷ z ∷ w ∷ []) (hx, (hy, (hz, (hw, tt))))) (omega arith)

pub le64_back : (a b c d e f g h : ℕ) → a < 256 → b < 256 → c < 256 → d < 256 → e < 256 → f < 256 → g < 256 → h < 256
    → le64 (a + b * 256 + c * 65536 + d * 16777216 + (e + f * 256 + g * 65536 + h * 16777216) * 4294967296)
    ≡ a ∷ b ∷ c ∷ d ∷ e ∷ f ∷ g ∷ h ∷ []
le64_back a b c d e f g h ha hb hc hd he hf hg hh =
    sym (le64_is _)
    ∙ le_bytes_8 (a ∷ b ∷ c ∷ d ∷ e ∷ f ∷ g ∷ h ∷ []) _ refl
    (bytes_of (a ∷ b ∷ c ∷ d ∷ e ∷ f ∷ g ∷ h ∷ []) (ha, (hb, (hc, (hd, (he, (hf, (hg, (hh, tt)))))))))
    (omega arith)

-- a list of nothing but zeros
pub all_zero : (xs : List ℕ) → ((i : ℕ) → i < length xs → get_or xs i 0 ≡ 0) → xs ≡ zeros (length xs)
all_zero [] h = refl
all_zero (x ∷ xs) h =
    let e : x ≡ 0 = h 0 (omega arith) in
    let f = all_zero xs (λ i l. h (suc i) (omega arith)) in
    cc

-- what a test of each byte tells of the bytes of a list from one place up to another
tests_zero : (xs : List ℕ) → Decides (list_all (λ x. nat_eq x 0) xs) ((i : ℕ) → i < length xs → get_or xs i 0 ≡ 0)
tests_zero [] = (λ e i l. refl, λ f. refl)
tests_zero (x ∷ xs) =
    let r = tests_zero xs in (
      λ e. by (eqb-true x 0 (and_parts _ _ e).0) (r.0 (and_parts _ _ e).1),
      λ f. and_from _ _ (eq-eqb x 0 (f 0 (omega arith))) (r.1 (λ i l. f (suc i) (omega arith))),
    )
  where
    by : x ≡ 0 → ((i : ℕ) → i < length xs → get_or xs i 0 ≡ 0) → (i : ℕ) → i < suc (length xs) → get_or (x ∷ xs) i 0 ≡ 0
    by e h zero l = e
    by e h (suc i) l = h i (omega arith)

pub part_is_zero : (b : List ℕ) (from n : ℕ) → from + n ≤ length b
    → Decides (list_all (λ x. nat_eq x 0) (take n (drop from b))) ((k : ℕ) → from ≤ k → k < from + n → get_or b k 0 ≡ 0)
part_is_zero b from n h =
    let r = tests_zero (take n (drop from b)) in
    let l : length (take n (drop from b)) ≡ n = length-take-le n (drop from b) (omega (arith, length-drop from b)) in
    let at : (i : ℕ) → i < n → get_or (take n (drop from b)) i 0 ≡ get_or b (from + i) 0 =
    λ i m. get_or-take n (drop from b) i 0 m ∙ get_or-drop from b i 0 in (
      λ e k a z.
          let i : from + (k - from) ≡ k = omega arith in
          ap (λ j. get_or b j 0) (sym i) ∙ (sym (at (k - from) (omega arith)) ∙ r.0 e (k - from) (omega arith)),
      λ f. r.1 (λ i m. at i (omega arith) ∙ f (from + i) (omega arith) (omega arith)),
    )
