use Rattle.std.proofs.Common.{◌≡◌, ℕ, ◌+◌, ◌<◌, List, [], length, get_or, drop, Some, sym, ap, ◌∙◌, arith, rules}
use Rattle.std.specs.List.{slice_get}
use Rattle.std.proofs.lemmas.Option.{slice_get_within, get_or_from_slice_get}
use Rattle.page.specs.Kinds.{leaf_key}
use Rattle.page.specs.Layout.{cells_of}
use Rattle.page.proofs.Leaves.{key_short}
use Rattle.page.proofs.Pairs.{good, begins_low, key_lies, value_lies}
use Rattle.page.proofs.leaf.pair.pair_in.Goals as goal

-- the cell that was found is the page's
module _ (b page : List ℕ) (i : ℕ) (body : List ℕ) (e : page ≡ b) (f : Some body ≡ slice_get (cells_of page) i) where
  there : slice_get (cells_of b) i ≡ Some body
  there = sym (f ∙ ap (λ z. slice_get (cells_of z) i) e)

  within : i < length (cells_of b)
  within = slice_get_within (cells_of b) i body there

  is : body ≡ get_or (cells_of b) i []
  is = sym (get_or_from_slice_get (cells_of b) i body [] there)

pub overflow_add-key_offset : goal.overflow_add-key_offset
overflow_add-key_offset c =
    let b = c.args.bytes.now in
    let i = c.args.cell in
    omega (arith, begins_low b i (sym c.in-Ok.ensures.fault) (within b _ i _ c.in-Ok.ensures.same c.in_ok-body.ensures))

pub overflow_add-value_offset : goal.overflow_add-value_offset
overflow_add-value_offset c =
    let b = c.args.bytes.now in
    let i = c.args.cell in
    let free = sym c.in-Ok.ensures.fault in
    let h = within b _ i _ c.in-Ok.ensures.same c.in_ok-body.ensures in
    let k = c.key-key.ensures ∙ ap leaf_key (is b _ i _ c.in-Ok.ensures.same c.in_ok-body.ensures) in
    omega (arith, begins_low b i free h, ap length k, key_short (get_or (cells_of b) i []) (good b i free h))

pub returns-clause-parts : goal.returns-clause-parts
returns-clause-parts c =
    let b = c.args.bytes.now in
    let i = c.args.cell in
    let free = sym c.in-Ok.ensures.fault in
    let h = within b _ i _ c.in-Ok.ensures.same c.in_ok-body.ensures in
    let w = is b _ i _ c.in-Ok.ensures.same c.in_ok-body.ensures in
    let len : length b ≡ 512 = search rules in
    let k = c.key-key.ensures ∙ ap leaf_key w in
    let v = c.value-value.ensures ∙ ap (λ s. drop (2 + get_or s 0 0) s) w in
    let o = ap (λ n. n + 2) c.edge-key_offset.ensures in
    (key_lies b i free h len _ _ k o, value_lies b i free h len _ _ k o _ v)
