-- A page by what stands before its checksum, the checksum, and what stands after it.
use Rattle.std.proofs.Common.{◌≡◌, ℕ, true, List, ◌++◌, length, take, drop, sym, ap, ◌∙◌}
use Rattle.std.proofs.lemmas.List.{take-append-drop, drop-drop, take_at, drop_at}
use Rattle.std.proofs.lemmas.Slice.Eq.{bytes_eq-Decides}
use Rattle.checksum.specs.Bytes.{le32, over}
use Rattle.checksum.specs.Crc.{crc_of}
use Rattle.checksum.specs.Sealed.{blanked, checksum_of, sealed, is_sealed}

abbrev pub with_sum : List ℕ → List ℕ → ℕ → List ℕ
with_sum front rest sum = front ++ (le32 sum ++ rest)

module _ (front rest : List ℕ) (long : length front ≡ 12) where
  front_of : (q : ℕ) → take 12 (with_sum front rest q) ≡ front
  front_of q = take_at front (le32 q ++ rest) 12 long

  rest_of : (q : ℕ) → drop 16 (with_sum front rest q) ≡ rest
  rest_of q = sym (drop-drop 4 12 (with_sum front rest q)) ∙ ap (drop 4) (drop_at front (le32 q ++ rest) 12 long)

  -- whatever checksum stands there, it is taken as zero
  pub blanked_with_sum : (q : ℕ) → blanked (with_sum front rest q) ≡ with_sum front rest 0
  blanked_with_sum q = rw (front_of q, rest_of q)

  pub checksum_with_sum : (q : ℕ) → checksum_of (with_sum front rest q) ≡ crc_of (with_sum front rest 0)
  unfolding checksum_of
  checksum_with_sum q = ap crc_of (blanked_with_sum q)

  pub sealed_with_sum : (q : ℕ) → sealed (with_sum front rest q) ≡ with_sum front rest (crc_of (with_sum front rest 0))
  unfolding sealed over
  sealed_with_sum q = rw (checksum_with_sum q, front_of q, rest_of q)

  pub with_sum_sealed : is_sealed (with_sum front rest (crc_of (with_sum front rest 0))) ≡ true
  unfolding is_sealed
  with_sum_sealed =
      let q = crc_of (with_sum front rest 0) in
      (bytes_eq-Decides _ _).1 (ap (take 4) (drop_at front (le32 q ++ rest) 12 long) ∙ ap le32 (sym (checksum_with_sum q)))

-- the checksum being right, sealing changes nothing
pub sealed_back : (b : List ℕ) → is_sealed b ≡ true → sealed b ≡ b
unfolding sealed is_sealed over
sealed_back b h =
    let e : take 4 (drop 12 b) ≡ le32 (checksum_of b) = (bytes_eq-Decides _ _).0 h in
    ap (λ v. take 12 b ++ (v ++ drop 16 b)) (sym e)
    ∙ (ap (λ r. take 12 b ++ (take 4 (drop 12 b) ++ r)) (sym (drop-drop 4 12 b))
    ∙ (ap (λ r. take 12 b ++ r) (take-append-drop 4 (drop 12 b)) ∙ take-append-drop 12 b))
