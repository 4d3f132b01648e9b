-- The checksum of a page, which stands in its bytes 12 to 15.
use Rattle.std.specs.Prelude.{ℕ, Bool, List, ◌∷◌, ◌++◌, take, drop}
use Rattle.std.specs.Str.{bytes_eq}
use Rattle.checksum.specs.Crc.{crc_of}
use Rattle.checksum.specs.Bytes.{le32, over}

-- the bytes with those four taken as zero
abbrev pub blanked : List ℕ → List ℕ
blanked page = take 12 page ++ (0 ∷ 0 ∷ 0 ∷ 0 ∷ drop 16 page)

unfoldable pub checksum_of : List ℕ → ℕ
checksum_of page = crc_of (blanked page)

-- the page with its checksum in its place
unfoldable pub sealed : List ℕ → List ℕ
sealed page = over 12 (le32 (checksum_of page)) page

-- whether the checksum in its place is right
unfoldable pub is_sealed : List ℕ → Bool
is_sealed page = bytes_eq (take 4 (drop 12 page)) (le32 (checksum_of page))
