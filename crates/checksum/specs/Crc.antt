-- CRC-32, bit by bit: the reflected polynomial EDB88320 hex, with all bits set at the start and all turned at the
-- end.
use Rattle.std.specs.Prelude.{ℕ, zero, suc, ◌*◌, ◌/◌, ◌%◌, List, [], ◌∷◌, bit_xor}

-- A shift right by one, and then, if the bit shifted out was 1, an exclusive-or with the polynomial.
abbrev pub step : ℕ → ℕ
step r = bit_xor (r / 2) (r % 2 * 0xEDB88320)

abbrev pub steps : ℕ → ℕ → ℕ
steps zero r = r
steps (suc n) r = steps n (step r)

-- the register after the bytes, eight steps for each
unfoldable pub crc_from : ℕ → List ℕ → ℕ
crc_from r [] = r
crc_from r (b ∷ bs) = crc_from (steps 8 (bit_xor r b)) bs

unfoldable pub crc_of : List ℕ → ℕ
crc_of bytes = bit_xor (crc_from 0xFFFFFFFF bytes) 0xFFFFFFFF
