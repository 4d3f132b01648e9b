-- Numbers as bytes, the least byte first, the numbers that stand in a list of bytes, and writes to one.
use Rattle.std.specs.Prelude.{ℕ, ◌+◌, ◌*◌, ◌/◌, ◌%◌, List, [], ◌∷◌, ◌++◌, length, take, drop, replicate, slice_index}

abbrev pub le16 : ℕ → List ℕ
le16 x = x % 256 ∷ x / 256 % 256 ∷ []

abbrev pub le32 : ℕ → List ℕ
le32 x = x % 256 ∷ x / 256 % 256 ∷ x / 65536 % 256 ∷ x / 16777216 % 256 ∷ []

-- eight bytes: the low four, and the high four
abbrev pub le64 : ℕ → List ℕ
le64 x = le32 x ++ le32 (x / 4294967296)

abbrev pub zeros : ℕ → List ℕ
zeros n = replicate n 0

-- the number that stands at a place, in two bytes, in four and in eight
unfoldable pub word16 : List ℕ → ℕ → ℕ
word16 bytes at = slice_index bytes at + slice_index bytes (at + 1) * 256

unfoldable pub word32 : List ℕ → ℕ → ℕ
word32 bytes at =
    slice_index bytes at + slice_index bytes (at + 1) * 256 + slice_index bytes (at + 2) * 65536 + slice_index bytes (at + 3) * 16777216

unfoldable pub word64 : List ℕ → ℕ → ℕ
word64 bytes at = word32 bytes at + word32 bytes (at + 4) * 4294967296

-- the list with the bytes v written over it at a place
unfoldable pub over : ℕ → List ℕ → List ℕ → List ℕ
over at v bytes = take at bytes ++ (v ++ drop (at + length v) bytes)
