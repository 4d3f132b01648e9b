-- The meta test, and which of two meta pages counts.
use Rattle.std.specs.Prelude.{ℕ, ◌%◌, Bool, cond, ◌&&◌, List, Some, None, Option, ◌==◌, nat_le, nat_lt}
use Rattle.std.specs.Str.{bytes_eq}
use Rattle.meta.specs.Layout.{meta_page, meta_in}
use Rattle.meta.specs.declared.Meta.{Meta}

-- what the numbers of a meta must be, in page `at` of a reader with so many pages: the reader's number of pages, a
-- root among the pages but the first two, one to seven levels, and a commit number that belongs to page `at`
unfoldable pub is_good : (at pages : ℕ) → Meta → Bool
is_good at pages m =
    (m.pages == pages)
    && (nat_le 2 m.root && (nat_lt m.root pages && (nat_le 1 m.levels && (nat_le m.levels 7 && m.commit % 2 == at))))

-- the bytes are the meta page of what they say, and that is good
unfoldable pub passes : (at pages : ℕ) → List ℕ → Bool
passes at pages b = bytes_eq b (meta_page (meta_in b)) && is_good at pages (meta_in b)

-- what reading gives
unfoldable pub read_meta : (at pages : ℕ) → List ℕ → Option Meta
read_meta at pages b = cond (passes at pages b) (Some (meta_in b)) None

-- of what is read in page 0 and in page 1, that with the larger commit number
abbrev pub newer : Option Meta → Option Meta → Option Meta
newer None b = b
newer (Some x) None = Some x
newer (Some x) (Some y) = cond (nat_lt x.commit y.commit) (Some y) (Some x)
