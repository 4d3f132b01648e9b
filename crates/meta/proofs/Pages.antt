-- A meta page from its parts, with its checksum, and back.
use Rattle.std.proofs.Common.{◌≡◌, ℕ, ◌+◌, ◌-◌, ◌*◌, ◌≤◌, true, List, [], ◌∷◌, ◌++◌, length, get_or, take, drop, set, sym, refl, ap, ◌∙◌, arith}
use Rattle.std.proofs.lemmas.List.FromFn.{fill_by_all}
use Rattle.std.proofs.lemmas.List.{take-append-drop, length-drop, length-take-le, get_or-take, get_or-drop, get_or-append_right, get_or-replicate}
use borrow.Rule.Slice.PartMut.{put_mid}
use Rattle.checksum.specs.Kinds.{kind_byte}
use Rattle.checksum.specs.declared.kind.Kind.TheVariants.{Meta as KindMeta}
use Rattle.checksum.specs.Crc.{crc_of}
use Rattle.checksum.specs.Sealed.{sealed, is_sealed}
use Rattle.checksum.specs.Bytes.{le32, le64, zeros, word32, word64}
use Rattle.meta.specs.Layout.{laid_out, meta_page, meta_in}
use Rattle.meta.specs.Laws.{Fits}
use Rattle.meta.specs.Shape.{Shaped}
use Rattle.meta.specs.declared.Meta.{Meta}
use Rattle.checksum.proofs.Seals.{sealed_with_sum, with_sum_sealed, sealed_back}
use Rattle.checksum.proofs.Words.{Bytes, four_bytes, eight_bytes, le32_back, le64_back, all_zero}

module _ (m : Meta) where
  -- what stands before the checksum, and after it
  abbrev before : List ℕ
  before = kind_byte KindMeta ∷ 1 ∷ 0 ∷ 0 ∷ (le32 m.pages ++ le32 m.root)

  abbrev behind : List ℕ
  behind = le64 m.commit ++ (le32 m.pairs ++ m.levels ∷ zeros 483)

  sealed_laid : (q : ℕ) → sealed (laid_out q m) ≡ laid_out (crc_of (laid_out 0 m)) m
  unfolding laid_out
  sealed_laid q = sealed_with_sum before behind refl q

  -- the page of a meta
  pub page_laid : meta_page m ≡ laid_out (crc_of (laid_out 0 m)) m
  unfolding meta_page
  page_laid = sealed_laid 0

  pub page_sealed : is_sealed (meta_page m) ≡ true
  unfolding laid_out
  page_sealed = ap is_sealed page_laid ∙ with_sum_sealed before behind refl

  laid_shaped : (q : ℕ) → Shaped (laid_out q m)
  unfolding laid_out
  laid_shaped q =
      let H : List ℕ = 3 ∷ 1 ∷ 0 ∷ 0 ∷ (le32 m.pages ++ (le32 m.root ++ (le32 q ++ (le64 m.commit ++ (le32 m.pairs ++ m.levels ∷ []))))) in
      record {
        first = refl;
        second = refl;
        third = refl;
        fourth = refl;
        rest = λ k l h. get_or-append_right H (zeros 483) 29 k 0 refl l ∙ get_or-replicate 483 (k - 29) 0 0 (omega arith);
      }

  pub page_shaped : Shaped (meta_page m)
  page_shaped = rw page_laid (laid_shaped (crc_of (laid_out 0 m)))

  pub page_length : length (meta_page m) ≡ 512
  unfolding laid_out
  page_length = ap length page_laid

  -- what encoding writes
  abbrev written : ℕ → List ℕ → List ℕ → List ℕ → List ℕ → List ℕ
  written k n r c p = set (put_mid 24 4 (put_mid 16 8 (put_mid 8 4 (put_mid 4 4 (set (set (zeros 512) 0 k) 1 1) n) r) c) p) 28 m.levels

  pub encoded : {k : ℕ} {n r c p : List ℕ} → k ≡ kind_byte KindMeta → n ≡ le32 m.pages → r ≡ le32 m.root → c ≡ le64 m.commit
      → p ≡ le32 m.pairs → sealed (written k n r c p) ≡ meta_page m
  unfolding meta_page laid_out
  encoded ek en er ec ep = rw (ek, en, er, ec, ep)

front : (b : List ℕ) → 29 ≤ length b → take 29 b ≡
    get_or b 0 0 ∷ get_or b 1 0 ∷ get_or b 2 0 ∷ get_or b 3 0 ∷ get_or b 4 0 ∷ get_or b 5 0 ∷ get_or b 6 0 ∷ get_or b 7 0
    ∷ get_or b 8 0 ∷ get_or b 9 0 ∷ get_or b 10 0 ∷ get_or b 11 0 ∷ get_or b 12 0 ∷ get_or b 13 0 ∷ get_or b 14 0 ∷ get_or b 15 0
    ∷ get_or b 16 0 ∷ get_or b 17 0 ∷ get_or b 18 0 ∷ get_or b 19 0 ∷ get_or b 20 0 ∷ get_or b 21 0 ∷ get_or b 22 0 ∷ get_or b 23 0
    ∷ get_or b 24 0 ∷ get_or b 25 0 ∷ get_or b 26 0 ∷ get_or b 27 0 ∷ get_or b 28 0 ∷ []
front b h = fill_by_all (λ i. get_or b i 0) (take 29 b) 29 0 (length-take-le 29 b h) (λ i l. get_or-take 29 b i 0 l)

-- a page by its parts
parts : ℕ → ℕ → ℕ → ℕ → List ℕ → List ℕ → List ℕ → List ℕ → List ℕ → ℕ → List ℕ → List ℕ
parts k v x y n r q c p l z = k ∷ v ∷ x ∷ y ∷ (n ++ (r ++ (q ++ (c ++ (p ++ l ∷ z)))))

same_parts : {k k' v v' x x' y y' : ℕ} (l : ℕ) {n n' r r' q q' c c' p p' z z' : List ℕ}
    → k ≡ k' → v ≡ v' → x ≡ x' → y ≡ y' → n ≡ n' → r ≡ r' → q ≡ q' → c ≡ c' → p ≡ p' → z ≡ z'
    → parts k v x y n r q c p l z ≡ parts k' v' x' y' n' r' q' c' p' l z'
same_parts l ek ev ex ey en er eq ec ep ez = cc

module _ (b : List ℕ) (bytes : Bytes b) (len : length b ≡ 512) (s : Shaped b) where
  back : drop 29 b ≡ zeros 483
  back =
      let l : length (drop 29 b) ≡ 483 = length-drop 29 b ∙ omega arith in
      all_zero (drop 29 b) (λ i h. get_or-drop 29 b i 0 ∙ s.rest (29 + i) (omega arith) (omega arith)) ∙ ap zeros l

  four : (i j k l : ℕ) → get_or b i 0 ∷ get_or b j 0 ∷ get_or b k 0 ∷ get_or b l 0 ∷ []
      ≡ le32 (get_or b i 0 + get_or b j 0 * 256 + get_or b k 0 * 65536 + get_or b l 0 * 16777216)
  four i j k l = sym (le32_back (get_or b i 0) (get_or b j 0) (get_or b k 0) (get_or b l 0) (bytes i) (bytes j) (bytes k) (bytes l))

  -- such bytes are laid out as the meta page of what they say, with whatever checksum
  whole : b ≡ laid_out (word32 b 12) (meta_in b)
  unfolding laid_out word32 word64 parts
  whole =
      sym (take-append-drop 29 b)
      ∙ (ap (λ x. x ++ drop 29 b) (front b (omega arith))
      ∙ same_parts (get_or b 28 0) s.first s.second s.third s.fourth
      (four 4 5 6 7) (four 8 9 10 11) (four 12 13 14 15)
      (sym (le64_back _ _ _ _ _ _ _ _ (bytes 16) (bytes 17) (bytes 18) (bytes 19) (bytes 20) (bytes 21) (bytes 22) (bytes 23)))
      (four 24 25 26 27) back)

  -- and, their checksum being right, they are that page
  pub is_page : is_sealed b ≡ true → b ≡ meta_page (meta_in b)
  is_page h =
      sym (sealed_back b h) ∙ (ap sealed whole ∙ (sealed_laid (meta_in b) (word32 b 12) ∙ sym (page_laid (meta_in b))))

-- metas whose numbers are the same
same_meta : {p p' r r' c c' n n' l l' : ℕ} → p ≡ p' → r ≡ r' → c ≡ c' → n ≡ n' → l ≡ l'
    → ◌≡◌ {A = Meta} (record { pages = p; root = r; commit = c; pairs = n; levels = l }) (record { pages = p'; root = r'; commit = c'; pairs = n'; levels = l' })
same_meta ep er ec en el = cc

laid_says : (m : Meta) (q : ℕ) → Fits m → meta_in (laid_out q m) ≡ m
unfolding laid_out word32 word64
laid_says m q f =
    same_meta (four_bytes m.pages f.pages) (four_bytes m.root f.root)
    (eight_bytes m.commit _ f.commit refl) (four_bytes m.pairs f.pairs) refl

-- the page of a meta says that meta
pub page_says : (m : Meta) → Fits m → meta_in (meta_page m) ≡ m
page_says m f = ap meta_in (page_laid m) ∙ laid_says m (crc_of (laid_out 0 m)) f
