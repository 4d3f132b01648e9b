-- Eight bits at once: what the table's entry at the low byte gives.
use Rattle.std.proofs.Common.{◌≡◌, ℕ, zero, suc, ◌*◌, ◌/◌, ◌%◌, ◌^◌, ◌<◌, sym, ap, ◌∙◌, mul-one, arith}
use lib.Bits.{bit_xor, xor_shr, xor_mod, xor_assoc, xor_zero_l, xor_zero_r, xor_shifted, shifted_half, shifted_even}
use Rattle.checksum.specs.Crc.{step, steps}

step_shifted : (a k l : ℕ) → step (bit_xor (a * 2 ^ suc k) l) ≡ bit_xor (a * 2 ^ k) (step l)
step_shifted a k l =
    let x = a * 2 ^ suc k in
    let h : bit_xor x l / 2 ≡ bit_xor (a * 2 ^ k) (l / 2) = xor_shr x l 1 ∙ ap (λ y. bit_xor y (l / 2)) (shifted_half a k) in
    let e : bit_xor x l % 2 ≡ l % 2 = xor_mod x l 1 ∙ (ap (λ y. bit_xor y (l % 2)) (shifted_even a k) ∙ xor_zero_l (l % 2)) in
    ap (λ y. bit_xor y (bit_xor x l % 2 * 3988292384)) h
    ∙ (ap (λ y. bit_xor (bit_xor (a * 2 ^ k) (l / 2)) (y * 3988292384)) e ∙ xor_assoc (a * 2 ^ k) (l / 2) (l % 2 * 3988292384))

steps_shifted : (k a l : ℕ) → steps k (bit_xor (a * 2 ^ k) l) ≡ bit_xor a (steps k l)
steps_shifted zero a l = ap (λ y. bit_xor y l) (mul-one a)
steps_shifted (suc k) a l = ap (steps k) (step_shifted a k l) ∙ steps_shifted k a (step l)

pub byte : (x : ℕ) → steps 8 x ≡ bit_xor (x / 256) (steps 8 (x % 256))
byte x =
    let m : x % 256 < 2 ^ 8 = omega arith in
    let e : bit_xor (x / 256 * 2 ^ 8) (x % 256) ≡ x = xor_shifted (x / 256) 8 (x % 256) m ∙ omega arith in
    sym (ap (steps 8) e) ∙ steps_shifted 8 (x / 256) (x % 256)

-- as the code has it: the register r, a byte b
pub turn : (r b : ℕ) → b < 256 → bit_xor (r / 256) (steps 8 (bit_xor (r % 256) b)) ≡ steps 8 (bit_xor r b)
turn r b h =
    let z : b / 256 ≡ 0 = omega arith in
    let n : b % 256 ≡ b = omega arith in
    let e : bit_xor r b / 256 ≡ r / 256 = xor_shr r b 8 ∙ (ap (bit_xor (r / 256)) z ∙ xor_zero_r (r / 256)) in
    let m : bit_xor r b % 256 ≡ bit_xor (r % 256) b = xor_mod r b 8 ∙ ap (bit_xor (r % 256)) n in
    ap (λ y. bit_xor (r / 256) (steps 8 y)) (sym m) ∙ (ap (λ y. bit_xor y (steps 8 (bit_xor r b % 256))) (sym e) ∙ sym (byte (bit_xor r b)))
