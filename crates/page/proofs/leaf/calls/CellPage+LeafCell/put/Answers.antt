use Rattle.std.proofs.Common.{◌≡◌, ℕ, List, sym, ap, ◌∙◌, subst, arith}
use Rattle.std.proofs.lemmas.List.{length-map}
use Rattle.tree.specs.Maps.{pair, Rising}
use Rattle.tree.proofs.Insertion.{insert_rising}
use Rattle.page.specs.Growths.{fitted}
use Rattle.page.specs.Kinds.{leaf_body, leaf_key, leaf_rules, pair_of}
use Rattle.page.specs.Layout.{cells_of}
use Rattle.page.specs.Views.{pairs_in}
use Rattle.page.proofs.Children.{page_parts}
use Rattle.page.proofs.Finds.{up_to_pairs}
use Rattle.page.proofs.Places.{up_to_length}
use Rattle.page.proofs.Puts.{pair_back, rising_pairs, put_old, put_new}
use Rattle.page.proofs.Lengths.{tested_key}
use Rattle.page.proofs.leaf.calls.CellPage+LeafCell.put.Goals as goal

-- the cell of the pair that is put
cell_pair : (k v b : List ℕ) → b ≡ leaf_body (pair k v) → pair_of b ≡ pair k v
cell_pair k v b e = ap pair_of e ∙ pair_back (pair k v)

pub overflow_add-i : goal.overflow_add-i
overflow_add-i c =
    let f = c.in-Ok.ensures.0 in
    omega (arith, length-map (cells_of c.args.self.now.bytes) pair_of, (page_parts leaf_rules c.args.self.now.bytes c.args.self.now.sound).0.room)

pub with_cell-requires : goal.with_cell-requires
with_cell-requires c =
    let ps = pairs_in c.args.self.now.bytes in
    let k = c.args.key.now in
    let v = c.args.value.now in
    let e = c.as_slice.ensures ∙ c.leaf_cell-cell.ensures in
    let r = rising_pairs (cells_of c.args.self.now.bytes) (page_parts leaf_rules c.args.self.now.bytes c.args.self.now.sound).2 in
    let f = c.in-Ok.ensures.0 in
    record {
      keep = omega arith;
      skip = omega arith;
      rises = subst Rising (sym (put_old k v ps c.in-Ok.i _ r c.in-Ok.ensures (cell_pair k v _ e))) (insert_rising k v ps r);
    }

pub with_cell-requires-in-Err : goal.with_cell-requires-in-Err
with_cell-requires-in-Err c =
    let xs = cells_of c.args.self.now.bytes in
    let ps = pairs_in c.args.self.now.bytes in
    let k = c.args.key.now in
    let v = c.args.value.now in
    let e = c.as_slice.ensures ∙ c.leaf_cell-cell.ensures in
    let r = rising_pairs xs (page_parts leaf_rules c.args.self.now.bytes c.args.self.now.sound).2 in
    record {
      keep = omega arith;
      skip = omega (arith, c.in-Err.ensures.1, up_to_pairs k xs, up_to_length leaf_key k xs, length-map xs pair_of);
      rises = subst Rising (sym (put_new k v ps c.in-Err.at _ c.in-Err.ensures.0 c.in-Err.ensures.1 (cell_pair k v _ e))) (insert_rising k v ps r);
    }

pub returns-in-Ok : goal.returns-in-Ok
returns-in-Ok c =
    let ps = pairs_in c.args.self.now.bytes in
    let k = c.args.key.now in
    let v = c.args.value.now in
    let e = c.as_slice.ensures ∙ c.leaf_cell-cell.ensures in
    let r = rising_pairs (cells_of c.args.self.now.bytes) (page_parts leaf_rules c.args.self.now.bytes c.args.self.now.sound).2 in (
      tested_key k c.if-not-is_key_len.ensures,
      omega arith,
      c.with_cell.ensures ∙ ap fitted (put_old k v ps c.in-Ok.i _ r c.in-Ok.ensures (cell_pair k v _ e)),
    )

pub returns-in-Err : goal.returns-in-Err
returns-in-Err c =
    let ps = pairs_in c.args.self.now.bytes in
    let k = c.args.key.now in
    let v = c.args.value.now in
    let e = c.as_slice.ensures ∙ c.leaf_cell-cell.ensures in (
      tested_key k c.if-not-is_key_len.ensures,
      omega arith,
      c.with_cell-in-Err.ensures ∙ ap fitted (put_new k v ps c.in-Err.at _ c.in-Err.ensures.0 c.in-Err.ensures.1 (cell_pair k v _ e)),
    )
