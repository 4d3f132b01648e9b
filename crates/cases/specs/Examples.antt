-- Worked examples of the definitions, with the bytes and numbers written out.
use Rattle.std.specs.Prelude.{◌≡◌, ℕ, List, [], ◌∷◌, ◌++◌, take, drop}
use Rattle.cuts.specs.Keys.{separator}
use Rattle.cuts.specs.Nodes.{Pair, pair_cost}
use Rattle.cuts.specs.Cuts.{total}
use Rattle.cuts.specs.Laws.{leaf_cut}
use Rattle.tree.specs.Edits.{one, cut_leaf, join}
use Rattle.page.specs.Kinds.{leaf_body}
use Rattle.page.specs.Layout.{page_of}
use Rattle.meta.specs.Laws.{SixAndSevenGivesSeven, SevenIsNotForPageZero}

-- the texts, as bytes
abbrev pub cab : List ℕ
cab = 99 ∷ 97 ∷ 98 ∷ []

abbrev pub taxi : List ℕ
taxi = 116 ∷ 97 ∷ 120 ∷ 105 ∷ []

abbrev pub trip : List ℕ
trip = 116 ∷ 114 ∷ 105 ∷ 112 ∷ []

-- bytes `from` to `from + n - 1` of a leaf
abbrev pub leaf_bytes : (from n : ℕ) → List Pair → List ℕ
leaf_bytes from n [] = take n (drop from (page_of 1 0 []))
leaf_bytes from n (p ∷ ps) = take n (drop from (page_of 1 0 (leaf_body p ∷ [])))

-- the pair of "k" and "v"
abbrev pub kv : Pair
kv = record { key = 107 ∷ []; value = 118 ∷ [] }

-- two leaves that cost a and b, joined
abbrev pub Joined : ℕ → ℕ → (List Pair → List Pair → List ℕ → Type 0) → Type 0
Joined a b P = (l r : List Pair) (s : List ℕ) → total pair_cost l ≡ a → total pair_cost r ≡ b → P l r s

pub record Examples : Type 0 where
  -- "cab1290" and "cab13" are separated by "cab13", "cab" and "cab7" by "cab7", "taxi" and "trip" by "tr"
  pub numbers : separator (cab ++ 49 ∷ 50 ∷ 57 ∷ 48 ∷ []) (cab ++ 49 ∷ 51 ∷ []) ≡ cab ++ 49 ∷ 51 ∷ []
  pub prefixed : separator cab (cab ++ 55 ∷ []) ≡ cab ++ 55 ∷ []
  pub words : separator taxi trip ≡ 116 ∷ 114 ∷ []
  -- an empty leaf's lowest cell would begin at byte 512, which is 200 hex
  pub empty_leaf : leaf_bytes 4 2 [] ≡ 0x00 ∷ 0x02 ∷ []
  -- the cell of "k" and "v" begins at byte 508, which is 1FC hex
  pub offset : leaf_bytes 16 2 (kv ∷ []) ≡ 0xFC ∷ 0x01 ∷ []
  pub body : leaf_bytes 508 4 (kv ∷ []) ≡ 0x01 ∷ 0x01 ∷ 0x6B ∷ 0x76 ∷ []
  -- three cells of the largest cost are cut after the first
  pub three_large : leaf_cut (196 ∷ 196 ∷ 196 ∷ []) ≡ 1
  -- an underfull leaf and one of 373 make one leaf, with one of 374 they are cut
  pub joined_to_one : Joined 123 373 (λ l r s. join 0 l s r ≡ one (l ++ r))
  pub joined_and_cut : Joined 123 374 (λ l r s. join 0 l s r ≡ cut_leaf (l ++ r))
  -- of commits 6 and 7, both good, 7 counts; in page 0 commit 7 is not good
  pub newest : SixAndSevenGivesSeven
  pub misplaced : SevenIsNotForPageZero
