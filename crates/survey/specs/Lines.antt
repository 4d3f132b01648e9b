-- What is printed of a card.
use Rattle.std.specs.Prelude.{ℕ, ◌-◌, List, [], ◌++◌, length, codes, decimal, replicate}
use Rattle.faults.specs.Words.{shown_fault}
use Rattle.walk.specs.declared.inspection.Summary.{Summary}
use Rattle.survey.specs.declared.verdict.Verdict.{Verdict}
use Rattle.survey.specs.declared.verdict.Verdict.TheVariants.{Sound, Refused}
use Rattle.survey.specs.declared.contents.Content.{Content}
use Rattle.survey.specs.declared.contents.Content.TheVariants.{Meta, Leaf, Branch, Unused}
use Rattle.survey.specs.declared.contents.Fill.{Fill}
use Rattle.survey.specs.declared.family.Place.{Place}
use Rattle.survey.specs.declared.family.Place.TheVariants.{Root, ChildOf, NoTree}
use Rattle.survey.specs.declared.row.Note.{Note}
use Rattle.survey.specs.declared.row.Note.TheVariants.{Nothing, Newest, Stands}
use Rattle.survey.specs.declared.row.Row.{Row}

abbrev pub summary_words : Summary → List ℕ
summary_words s =
    codes "sound: commit " ++ (decimal s.commit ++ (codes ", pairs " ++ (decimal s.pairs ++ (codes ", levels " ++ decimal s.levels))))

-- the line of a card
abbrev pub verdict_words : Verdict → List ℕ
verdict_words (Sound s) = summary_words s
verdict_words (Refused f) = shown_fault f

-- a number, with spaces before it up to a width
unfoldable pub aligned : (width : ℕ) → ℕ → List ℕ
aligned width n = replicate (width - length (decimal n)) 32 ++ decimal n

abbrev pub fill_words : Fill → List ℕ
fill_words f = codes "cells " ++ (aligned 2 f.cells ++ (codes ", cost " ++ aligned 3 f.cost))

abbrev pub content_words : Content → List ℕ
content_words (Meta m) = codes "meta    commit " ++ decimal m.commit
content_words (Leaf f) = codes "leaf    " ++ fill_words f
content_words (Branch f) = codes "branch  " ++ fill_words f
content_words Unused = codes "unused"

abbrev pub place_words : Place → List ℕ
place_words Root = codes ", the root"
place_words (ChildOf q) = codes ", child of " ++ decimal q
place_words NoTree = codes ", in no tree"

abbrev pub note_words : Note → List ℕ
note_words Nothing = []
note_words Newest = codes ", the newest"
note_words (Stands p) = place_words p

-- the line of a page
abbrev pub row_words : Row → List ℕ
row_words r = aligned 4 r.page ++ (codes "  " ++ (content_words r.content ++ note_words r.note))
