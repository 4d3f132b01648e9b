-- The register over bytes that come in parts, and the parts of a page.
use Rattle.std.proofs.Common.{◌≡◌, ℕ, ◌-◌, ◌/◌, ◌%◌, ◌<◌, List, [], ◌∷◌, ◌++◌, length, get_or, take, drop, sym, refl, ap, ◌∙◌, arith}
use lib.Bits.{bit_xor}
use Rattle.std.proofs.lemmas.List.{take_rest}
use Rattle.std.proofs.Math.Seq.{get_or-append_seam}
use Rattle.checksum.specs.Crc.{steps, crc_from, crc_of}
use Rattle.checksum.specs.Sealed.{checksum_of}
use Rattle.checksum.proofs.Turn.{turn}

pub crc_append : (r : ℕ) (xs ys : List ℕ) → crc_from r (xs ++ ys) ≡ crc_from (crc_from r xs) ys
unfolding crc_from
crc_append r [] ys = refl
crc_append r (x ∷ xs) ys = crc_append (steps 8 (bit_xor r x)) xs ys

-- one byte more of a list of bytes, by the table's entry
pub crc_push : (r : ℕ) (bytes ys zs : List ℕ) (a x b : ℕ) → ((i : ℕ) → get_or bytes i 0 < 256) → ys ++ (x ∷ zs) ≡ bytes
    → a ≡ crc_from r ys → b ≡ bit_xor (a / 256) (steps 8 (bit_xor (a % 256) x)) → b ≡ crc_from r (ys ++ x ∷ [])
unfolding crc_from
crc_push r bytes ys zs a x b fits e ea eb =
    let g = get_or-append_seam ys x zs 0 in
    let h : x < 256 = omega (arith, fits (length ys), ap (λ l. get_or l (length ys) 0) e) in
    eb ∙ (turn a x h ∙ (ap (λ y. steps 8 (bit_xor y x)) ea ∙ sym (crc_append r ys (x ∷ []))))

-- a checksum by its three parts
pub by_parts : (page : List ℕ) (a b d : ℕ) → a ≡ crc_from 4294967295 (take 12 page) → b ≡ crc_from a (0 ∷ 0 ∷ 0 ∷ 0 ∷ [])
    → d ≡ crc_from b (drop 16 page) → bit_xor d 4294967295 ≡ checksum_of page
unfolding checksum_of crc_of
by_parts page a b d ea eb ed =
    let e = crc_append 4294967295 (take 12 page) (0 ∷ 0 ∷ 0 ∷ 0 ∷ drop 16 page) in
    let f = crc_append (crc_from 4294967295 (take 12 page)) (0 ∷ 0 ∷ 0 ∷ 0 ∷ []) (drop 16 page) in
    ap (λ x. bit_xor x 4294967295) cc

pub rest : (page : List ℕ) → length page ≡ 512 → take 496 (drop 16 page) ≡ drop 16 page
rest page l = ap (λ n. take (n - 16) (drop 16 page)) (sym l) ∙ take_rest page 16
