-- What holds of meta pages.
use Rattle.std.specs.Prelude.{◌≡◌, ℕ, ◌^◌, ◌<◌, true, false, List, length, Some, None, ◌≢◌, slice_index}
use Rattle.meta.specs.Layout.{meta_page}
use Rattle.checksum.specs.Bytes.{zeros}
use Rattle.meta.specs.Test.{is_good, passes, read_meta, newer}
use Rattle.meta.specs.declared.Meta.{Meta}

-- the numbers fit their places in the page
pub record Fits (m : Meta) : Type 0 where
  pub pages : m.pages < 2 ^ 32
  pub root : m.root < 2 ^ 32
  pub commit : m.commit < 2 ^ 64
  pub pairs : m.pairs < 2 ^ 32
  pub levels : m.levels < 2 ^ 8

-- the page of a good meta is read as that meta
abbrev pub PagesReadBack : Type 0
PagesReadBack = (m : Meta) (at pages : ℕ) → Fits m → is_good at pages m ≡ true → read_meta at pages (meta_page m) ≡ Some m

-- and no other bytes are: what is read as a meta is the page of that meta, which is good
abbrev pub NothingElseIsRead : Type 0
NothingElseIsRead = (b : List ℕ) (at pages : ℕ) (m : Meta) → ((k : ℕ) → slice_index b k < 2 ^ 8) → read_meta at pages b ≡ Some m
    → (b ≡ meta_page m) × (length b ≡ 512) × Fits m × (is_good at pages m ≡ true)

-- a page of zeros is not read
abbrev pub ZerosAreNotRead : Type 0
ZerosAreNotRead = (at pages : ℕ) → read_meta at pages (zeros 512) ≡ None

-- two metas read in the pages 0 and 1 have different commit numbers, and the newer is the one with the larger
abbrev pub TheNewerCounts : Type 0
TheNewerCounts = (a b : List ℕ) (pages : ℕ) (x y : Meta) → read_meta 0 pages a ≡ Some x → read_meta 1 pages b ≡ Some y
    → (x.commit ≢ y.commit)
    × (x.commit < y.commit → newer (Some x) (Some y) ≡ Some y)
    × (y.commit < x.commit → newer (Some x) (Some y) ≡ Some x)

-- worked cases: of commits 6 and 7, both good, 7 counts; and 7 is not good in page 0
abbrev pub SixAndSevenGivesSeven : Type 0
SixAndSevenGivesSeven = (a b : List ℕ) (pages : ℕ) (x y : Meta) → read_meta 0 pages a ≡ Some x → read_meta 1 pages b ≡ Some y
    → x.commit ≡ 6 → y.commit ≡ 7 → newer (read_meta 0 pages a) (read_meta 1 pages b) ≡ Some y

abbrev pub SevenIsNotForPageZero : Type 0
SevenIsNotForPageZero = (m : Meta) (pages : ℕ) → m.commit ≡ 7
    → (passes 0 pages (meta_page m) ≡ false) × (read_meta 0 pages (meta_page m) ≡ None)
