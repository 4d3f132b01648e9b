-- The kinds of pages: the byte that stands for each, and its words.
use Rattle.std.specs.Prelude.{ℕ, cond, List, ◌++◌, codes, decimal, Ok, Err, Result, ◌==◌}
use Rattle.checksum.specs.declared.kind.Kind.{Kind}
use Rattle.checksum.specs.declared.kind.Kind.TheVariants.{Leaf, Branch, Meta}
use Rattle.checksum.specs.declared.kind.NoKind.{NoKind}

abbrev pub kind_byte : Kind → ℕ
kind_byte Leaf = 1
kind_byte Branch = 2
kind_byte Meta = 3

-- the kind that a byte stands for
abbrev pub kind_of : ℕ → Result Kind NoKind
kind_of byte =
    cond (byte == kind_byte Leaf) (Ok Leaf)
    (cond (byte == kind_byte Branch) (Ok Branch)
    (cond (byte == kind_byte Meta) (Ok Meta) (Err (record { 0 = byte }))))

abbrev pub kind_words : Kind → List ℕ
kind_words Leaf = codes "leaf"
kind_words Branch = codes "branch"
kind_words Meta = codes "meta"

abbrev pub no_kind_words : NoKind → List ℕ
no_kind_words e = codes "no kind of page has the byte " ++ decimal e.0
