-- What is printed of the store's faults.
use Rattle.std.specs.Prelude.{ℕ, List, ◌++◌, codes, decimal}
use Rattle.page.specs.Faults.{page_words}
use Rattle.faults.specs.Numbers.{number}
use Rattle.faults.specs.declared.fault.StoreFault.{StoreFault}
use Rattle.faults.specs.declared.fault.StoreFault.TheVariants.{Shut, InTransaction, NoTransaction, KeyLength, Absent, NoMeta, Page, PageCount, LastCommit, NoCell}

-- what is refused, the page left out
abbrev pub plain_words : StoreFault → List ℕ
plain_words Shut = codes "the store is shut"
plain_words InTransaction = codes "in a transaction"
plain_words NoTransaction = codes "not in a transaction"
plain_words KeyLength = codes "the key is too short or too long"
plain_words Absent = codes "no such key"
plain_words NoMeta = codes "no meta page passes its test"
plain_words (Page f) = codes "a page could not be had"
plain_words PageCount = codes "the number of pages is not 16 to 1024"
plain_words LastCommit = codes "no commit number is left"
plain_words NoCell = codes "not a leaf page, or no such cell"

abbrev pub words : StoreFault → List ℕ
words Shut = plain_words Shut
words InTransaction = plain_words InTransaction
words NoTransaction = plain_words NoTransaction
words KeyLength = plain_words KeyLength
words Absent = plain_words Absent
words NoMeta = plain_words NoMeta
words (Page f) = page_words f
words PageCount = plain_words PageCount
words LastCommit = plain_words LastCommit
words NoCell = plain_words NoCell

-- the whole line
abbrev pub shown_fault : StoreFault → List ℕ
shown_fault f = codes "fault " ++ (decimal (number f) ++ (codes ": " ++ words f))
