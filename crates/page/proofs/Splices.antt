-- Lists of cells in parts: the first of one page, perhaps a loose one, the last of a page.
use Rattle.std.proofs.Common.{◌≡◌, ℕ, ◌+◌, ◌-◌, ◌<◌, ◌≤◌, true, List, [], ◌∷◌, ◌++◌, length, get_or, take, drop, Option, Some, None, sym, refl, ap, ◌∙◌, arith}
use Rattle.std.specs.List.{between}
use Rattle.std.proofs.lemmas.List.{length-append, length-take-le, length-drop, get_or_append_left, get_or-append_right, get_or-take, get_or-drop}
use Rattle.std.proofs.lemmas.Bool.{and_from}
use Rattle.page.specs.Layout.{cost, cells_of}
use Rattle.page.specs.Lists.{cells_in}
use Rattle.page.specs.Kinds.{Rules}
use Rattle.page.specs.Reading.{every}
use Rattle.page.specs.Splices.{loose, parts, Spliced}
use Rattle.page.specs.declared.body.Body.{Body}
use Rattle.page.specs.declared.cell.Cell.{Ghosts}
use Rattle.page.specs.declared.splice.Splice.{Splice}
use Rattle.page.proofs.Pages.{cost_append, front_is, back_is}
use Rattle.page.proofs.Parts.{every_take, every_drop}
use Rattle.page.proofs.Tested.{every_append}

module _ {C : Type 0} {g : Ghosts C} where
  pub one_loose : (o : Option (Body C g)) (x : Body C g) → o ≡ Some x → loose o ≡ x.bytes.now ∷ []
  one_loose o x e = ap loose e

  pub no_loose : (o : Option (Body C g)) → o ≡ None → loose o ≡ []
  no_loose o e = ap loose e

  loose_good : (o : Option (Body C g)) → every g.rules.good (loose o) ≡ true
  loose_good None = refl
  loose_good (Some b) = and_from _ _ b.good refl

pub length_same : {a x : List ℕ} → a ≡ x → length (cells_of a) ≡ length (cells_of x)
length_same {a} {x} e = ap (λ z. length (cells_of z)) e

module _ (k : Rules) (a : List ℕ) (keep : ℕ) (m : List (List ℕ)) (b : List ℕ) (skip : ℕ) (p : Spliced k a keep m b skip) where
  front_length : length (take keep (cells_of a)) ≡ keep
  front_length = length-take-le keep (cells_of a) p.keep

  goods_spliced : every k.good (cells_of a) ≡ true → every k.good m ≡ true → every k.good (cells_of b) ≡ true → every k.good (parts a keep m b skip) ≡ true
  goods_spliced x z y =
      every_append k.good (take keep (cells_of a)) (m ++ drop skip (cells_of b)) (every_take k.good keep (cells_of a) x)
      (every_append k.good m (drop skip (cells_of b)) z (every_drop k.good skip (cells_of b) y))

  pub length_spliced : length (parts a keep m b skip) ≡ keep + length m + (length (cells_of b) - skip)
  length_spliced =
      let k = p.skip in
      omega (arith, front_length, length-append (take keep (cells_of a)) (m ++ drop skip (cells_of b)), length-append m (drop skip (cells_of b)), length-drop skip (cells_of b))

  pub at_front : (i : ℕ) → i < keep → get_or (parts a keep m b skip) i [] ≡ get_or (cells_of a) i []
  at_front i h =
      get_or_append_left (take keep (cells_of a)) (m ++ drop skip (cells_of b)) [] i (omega (arith, front_length))
      ∙ get_or-take keep (cells_of a) i [] h

  after_front : (i : ℕ) → keep ≤ i → get_or (parts a keep m b skip) i [] ≡ get_or (m ++ drop skip (cells_of b)) (i - keep) []
  after_front i h =
      get_or-append_right (take keep (cells_of a)) (m ++ drop skip (cells_of b)) keep i [] front_length h

  pub at_middle : (c : List ℕ) (i : ℕ) → m ≡ c ∷ [] → i - keep ≡ 0 → keep ≤ i → get_or (parts a keep m b skip) i [] ≡ c
  at_middle c i e z h =
      after_front i h ∙ (ap (λ r. get_or (r ++ drop skip (cells_of b)) (i - keep) []) e ∙ ap (λ n. get_or (c ∷ drop skip (cells_of b)) n []) z)

  pub at_back : (i j n : ℕ) → n ≡ length m → keep + n ≤ i → j ≡ skip + (i - keep - n) → get_or (parts a keep m b skip) i [] ≡ get_or (cells_of b) j []
  at_back i j n l h e =
      after_front i (omega arith)
      ∙ (get_or-append_right m (drop skip (cells_of b)) n (i - keep) [] (sym l) (omega arith)
      ∙ (get_or-drop skip (cells_of b) (i - keep - n) [] ∙ ap (λ z. get_or (cells_of b) z []) (sym e)))

  pub cost_spliced : (n : ℕ) → n ≡ length (cells_of b) → cost (parts a keep m b skip) ≡ cost (between 0 keep (cells_of a)) + cost m + cost (between skip n (cells_of b))
  cost_spliced n e =
      omega (arith, cost_append (take keep (cells_of a)) (m ++ drop skip (cells_of b)), cost_append m (drop skip (cells_of b)), ap cost (front_is keep (cells_of a)), ap cost (back_is skip n (cells_of b) e))

-- each cell of a list is good
pub list_good : {C : Type 0} {g : Ghosts C} (s : Splice C g) → every g.rules.good (cells_in s) ≡ true
list_good {C} {g} s = goods_spliced g.rules _ _ _ _ _ s.spliced s.front.goods (loose_good s.middle) s.back.goods
