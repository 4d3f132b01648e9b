-- A write to a part of a slice.
use Rattle.std.proofs.Common.{◌≡◌, ℕ, ◌+◌, List, ◌++◌, length, take, drop, sym, ap, ◌∙◌}
use borrow.Rule.Slice.PartMut.{put_mid}
use Rattle.std.proofs.lemmas.List.{drop-drop}
use Rattle.checksum.specs.Bytes.{over}

pub put_over : (at k : ℕ) (bytes v w : List ℕ) → length w ≡ k → v ≡ w → put_mid at k bytes v ≡ over at w bytes
unfolding over
put_over at k bytes v w l e =
    let d : drop k (drop at bytes) ≡ drop (at + length w) bytes = drop-drop k at bytes ∙ ap (λ n. drop (at + n) bytes) (sym l) in
    ap (λ x. take at bytes ++ (x ++ drop k (drop at bytes))) e ∙ ap (λ x. take at bytes ++ (w ++ x)) d
