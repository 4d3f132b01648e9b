-- A page with its checksum in its place.
use Rattle.std.proofs.Common.{◌≡◌, ℕ, ◌^◌, ◌<◌, ◌≤◌, true, List, sym, refl, ap, ◌∙◌}
use Rattle.std.proofs.lemmas.Slice.Eq.{bytes_eq-Decides}
use Rattle.checksum.specs.Bytes.{le32, over}
use Rattle.checksum.specs.Crc.{crc_of}
use Rattle.checksum.specs.Sealed.{blanked, checksum_of, sealed, is_sealed}
use Rattle.page.specs.Layout.{Shows, laid_out, page_of, cost}

module _ (k l : ℕ) (cells : List (List ℕ)) where
  -- whatever checksum stands there, it is taken as zero
  blanked_laid : (q : ℕ) → blanked (laid_out k l q cells) ≡ laid_out k l 0 cells
  unfolding laid_out
  blanked_laid q = refl

  pub checksum_laid : (q : ℕ) → checksum_of (laid_out k l q cells) ≡ crc_of (laid_out k l 0 cells)
  unfolding checksum_of
  checksum_laid q = ap crc_of (blanked_laid q)

  over_laid : (q c : ℕ) → over 12 (le32 c) (laid_out k l q cells) ≡ laid_out k l c cells
  unfolding laid_out over
  over_laid q c = refl

  pub sealed_laid : (q : ℕ) → sealed (laid_out k l q cells) ≡ page_of k l cells
  unfolding sealed page_of
  sealed_laid q =
      ap (λ c. over 12 (le32 c) (laid_out k l q cells)) (checksum_laid q) ∙ over_laid q (crc_of (laid_out k l 0 cells))

  pub page_sealed : is_sealed (page_of k l cells) ≡ true
  unfolding is_sealed page_of laid_out
  page_sealed =
      (bytes_eq-Decides _ _).1 (ap le32 (sym (checksum_laid (crc_of (laid_out k l 0 cells)))))

-- sealing a page that is laid out
pub seal_shows : {k : ℕ} {b : List ℕ} {l q : ℕ} {cells : List (List ℕ)} → Shows k b l q cells → sealed b ≡ page_of k l cells
seal_shows {k} {b} {l} {q} {cells} s = ap sealed s.is ∙ sealed_laid k l cells q

-- the page of a list shows that list
pub page_shows : (k l : ℕ) (cells : List (List ℕ)) → cost cells ≤ 496 → l < 2 ^ 32 → crc_of (laid_out k l 0 cells) < 2 ^ 32
    → Shows k (page_of k l cells) l (crc_of (laid_out k l 0 cells)) cells
unfolding page_of
page_shows k l cells room child word = record { room = room; child = child; word = word; is = refl }
