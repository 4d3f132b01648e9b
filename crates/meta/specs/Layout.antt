-- The bytes of a meta page.
--
--     0         3, the kind of a meta page
--     1         1, the version
--     2 - 3     zero
--     4 - 7     the number of pages
--     8 - 11    the root page
--     12 - 15   the checksum: the CRC-32 of the page with these four bytes taken as zero
--     16 - 23   the commit number
--     24 - 27   the number of pairs
--     28        the number of levels
--     29 - 511  zero
use Rattle.std.specs.Prelude.{ℕ, List, ◌∷◌, ◌++◌, slice_index}
use Rattle.checksum.specs.Bytes.{le32, le64, zeros, word32, word64}
use Rattle.checksum.specs.Kinds.{kind_byte}
use Rattle.checksum.specs.Sealed.{sealed}
use Rattle.checksum.specs.declared.kind.Kind.TheVariants.{Meta as KindMeta}
use Rattle.meta.specs.declared.Meta.{Meta}

-- these bytes, with a number in the place of the checksum
unfoldable pub laid_out : ℕ → Meta → List ℕ
laid_out sum m =
    kind_byte KindMeta ∷ 1 ∷ 0 ∷ 0
    ∷ (le32 m.pages ++ (le32 m.root ++ (le32 sum ++ (le64 m.commit ++ (le32 m.pairs ++ m.levels ∷ zeros 483)))))

-- the one page of a meta
unfoldable pub meta_page : Meta → List ℕ
meta_page m = sealed (laid_out 0 m)

-- what bytes say, whatever they are
abbrev pub meta_in : List ℕ → Meta
meta_in b = record {
  pages = word32 b 4;
  root = word32 b 8;
  commit = word64 b 16;
  pairs = word32 b 24;
  levels = slice_index b 28;
}
