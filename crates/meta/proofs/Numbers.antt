-- Numbers and their bytes: what more is known of them than checksum/proofs/Words says.
use Rattle.std.proofs.Common.{◌≡◌, ℕ, ◌+◌, ◌*◌, ◌/◌, ◌%◌, ◌^◌, ◌<◌, ◌++◌, ap, ◌∙◌, arith}
use native.Mathlib.Nat.{div-div-eq-div-mul, mod-add-div}
use Rattle.checksum.specs.Bytes.{le32, le64}

-- what the four low bytes hold
pub low_bytes : (x : ℕ) → x % 256 + x / 256 % 256 * 256 + x / 65536 % 256 * 65536 + x / 16777216 % 256 * 16777216 ≡ x % 4294967296
low_bytes x =
    let q : x / 256 / 256 ≡ x / 65536 = div-div-eq-div-mul x 256 256 in
    let r : x / 65536 / 256 ≡ x / 16777216 = div-div-eq-div-mul x 65536 256 in
    let t : x / 16777216 / 256 ≡ x / 4294967296 = div-div-eq-div-mul x 16777216 256 in
    omega (arith, mod-add-div x 256, mod-add-div (x / 256) 256, mod-add-div (x / 65536) 256, mod-add-div (x / 16777216) 256, mod-add-div x 4294967296)

-- the four low bytes are those of the low half
low_half : (l h : ℕ) → l < 2 ^ 32 → le32 (l + h * 4294967296) ≡ le32 l
low_half l h s =
    let n = l + h * 4294967296 in
    let a : n % 256 ≡ l % 256 = omega arith in
    let b : n / 256 ≡ l / 256 + h * 16777216 = omega arith in
    let b' : (l / 256 + h * 16777216) % 256 ≡ l / 256 % 256 = omega arith in
    let d : n / 65536 ≡ l / 65536 + h * 65536 = omega arith in
    let d' : (l / 65536 + h * 65536) % 256 ≡ l / 65536 % 256 = omega arith in
    let e : n / 16777216 ≡ l / 16777216 + h * 256 = omega arith in
    let e' : (l / 16777216 + h * 256) % 256 ≡ l / 16777216 % 256 = omega arith in
    cc

-- eight bytes by their halves
pub le64_halves : (l h : ℕ) → l < 2 ^ 32 → le64 (l + h * 4294967296) ≡ le32 l ++ le32 h
le64_halves l h s =
    let e : (l + h * 4294967296) / 4294967296 ≡ h = omega arith in
    ap (λ x. x ++ le32 ((l + h * 4294967296) / 4294967296)) (low_half l h s) ∙ ap (λ x. le32 l ++ le32 x) e
