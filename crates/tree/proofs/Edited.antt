-- What an edit does, by place and by key.
use Rattle.std.proofs.Common.{◌≡◌, ℕ, suc, ◌<◌, List, length, sym, ap, ◌∙◌}
use Rattle.cuts.specs.Keys.{AtMost}
use Rattle.cuts.specs.Nodes.{Pair}
use Rattle.tree.specs.Maps.{insert, delete, lookup}
use Rattle.tree.specs.Trees.{Tree, branch_cost, underfull, pairs_of}
use Rattle.tree.specs.Edits.{Grown, one, two, cut_branch, fit, join, edit, put, remove}
use Rattle.tree.specs.Sound.{Bound, Under, Light, Full}
use Rattle.tree.specs.Search.{picked, child_at, get}
use Rattle.tree.specs.Places.{edit_by_place}
use Rattle.tree.specs.Laws.{EditsGoByPlace, EditsChangeOneKey}
use Rattle.tree.proofs.Insertion.{rising_pairs_are_a_map_lem}
use Rattle.tree.proofs.Strict.{Strict, strict_from_sound}
use Rattle.tree.proofs.Flat.{puts_insert_and_removes_delete_lem, trees_are_maps_lem}
use Rattle.tree.proofs.Around.{Good}
use Rattle.tree.proofs.Kept.{Edits, insert_edits, delete_edits, edit_strict, ranges_light, full_forked, under_no, edits_keep_trees_sound_lem}
use Rattle.tree.proofs.ByPlace.{Settled, mend_place, at_picked}
use Rattle.tree.proofs.Searches.{search_finds_the_pair_lem}

good_settled : (n : ℕ) (lo : List ℕ) (hi : Bound) (g : Grown (Tree n))
    → Good (underfull n) (Light n (Strict n)) lo hi g → Settled (underfull n) g
good_settled n lo hi (one x) h = tt
good_settled n lo hi (two l s r) h = (h.5, h.6)

-- a child that comes back as two nodes is not underfull
pub settled : (e : List Pair → List Pair) (k : List ℕ) → Edits e k
    → (n : ℕ) (lo : List ℕ) (hi : Bound) (t : Tree (suc n)) → AtMost lo k → Under k hi
    → Light (suc n) (Strict (suc n)) lo hi t
    → Settled (underfull n) (edit e k n (child_at (picked k t.rest) t.first t.rest))
settled e k ed n lo hi t p q h =
    at_picked (Full n (Strict n)) (λ x. Settled (underfull n) (edit e k n x)) k
    (λ lo' hi' x p' q' z. good_settled n lo' hi' _ (edit_strict e k ed n lo' hi' x p' q' (full_forked n x (under_no n x z.0)) z.1))
    lo hi t.first t.rest p q h.1.0

pub edit_by_place_lem : (e : List Pair → List Pair) (k : List ℕ) → Edits e k
    → (n : ℕ) (lo : List ℕ) (hi : Bound) (t : Tree (suc n)) → AtMost lo k → Under k hi → 0 < length t.rest
    → Light (suc n) (Strict (suc n)) lo hi t → edit e k (suc n) t ≡ edit_by_place e k n t
unfolding edit
edit_by_place_lem e k ed n lo hi t p q f h =
    ap (fit branch_cost cut_branch)
    (mend_place (underfull n) (join n) (edit e k n) k t.first t.rest f (settled e k ed n lo hi t p q h)
    (ranges_light n (Strict n) lo hi t.first t.rest h.1.0).1)

pub edits_go_by_place_lem : EditsGoByPlace
edits_go_by_place_lem n lo hi t h f k p q =
    let s : Light (suc n) (Strict (suc n)) lo hi t = (h.0, strict_from_sound (suc n) lo hi t h.1) in (
      λ v a b. edit_by_place_lem (insert k v) k (insert_edits k v a b) n lo hi t p q f s,
      edit_by_place_lem (delete k) k (delete_edits k) n lo hi t p q f s,
    )

-- by key
pub edits_change_one_key_lem : EditsChangeOneKey
edits_change_one_key_lem b h k v a l =
    let s = edits_keep_trees_sound_lem b h in
    let e = puts_insert_and_removes_delete_lem b h k v in
    let m = rising_pairs_are_a_map_lem (pairs_of b) (trees_are_maps_lem b h) k v in
    let put-get : (k' : List ℕ) → get (put b k v) k' ≡ lookup k' (insert k v (pairs_of b)) =
    λ k'. search_finds_the_pair_lem (put b k v) (s.0 k v a l) k' ∙ ap (lookup k') e.0 in
    let remove-get : (k' : List ℕ) → get (remove b k) k' ≡ lookup k' (delete k (pairs_of b)) =
    λ k'. search_finds_the_pair_lem (remove b k) (s.1 k) k' ∙ ap (lookup k') e.1 in
    let same : (k' : List ℕ) → lookup k' (pairs_of b) ≡ get b k' = λ k'. sym (search_finds_the_pair_lem b h k') in (
      put-get k ∙ m.2,
      remove-get k ∙ m.3,
      λ k' n. (put-get k' ∙ ((m.4 k' n).0 ∙ same k'), remove-get k' ∙ ((m.4 k' n).1 ∙ same k')),
    )
