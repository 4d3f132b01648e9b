use Rattle.std.proofs.Common.{rules, ◌≡◌, ℕ, ◌/◌, ◌%◌, List, [], ◌∷◌, ◌++◌, refl, sym, subst, ◌∙◌, append_assoc, arith}
use lib.Bits.{bit_xor}
use Rattle.std.specs.Iterator.{AlwaysYields}
use Rattle.std.proofs.lemmas.Fn.{fold_over, slice_gives, fronts}
use Rattle.std.proofs.lemmas.List.{append-nil}
use Rattle.checksum.specs.Crc.{crc_from, steps}
use Rattle.checksum.proofs.Parts.{crc_push}
use Rattle.checksum.proofs.crc.update.Goals as goal

-- so far the register is that over the bytes taken, of which the slice begins
pub returns : goal.returns
unfolding crc_from
returns c =
    let bytes = c.args.bytes.now in
    let r = c.args.register in
    let Begun : List ℕ → ℕ → Type 0 = λ ys a. (zs : List ℕ) → ys ++ zs ≡ bytes → a ≡ crc_from r ys in
    let All : List ℕ → Type 0 = λ l. AlwaysYields fronts (λ y. y.now) c.iter.result l in
    fold_over fronts (λ y. y.now) _ Begun _
    (λ ys a x b f' h k.
    let q : b ≡ bit_xor (a / 256) (steps 8 (bit_xor (a % 256) x.now)) = search rules in (
      λ zs e.
          let e' : ys ++ (x.now ∷ zs) ≡ bytes = sym (append_assoc ys (x.now ∷ []) zs) ∙ e in
          crc_push r bytes ys zs a x.now b (λ i. omega (arith, c.type_inv.bytes i)) e' (h (x.now ∷ zs) e') q,
      refl,
    ))
    c.iter.result bytes r c.fold.result
    (subst All (search rules) (slice_gives c.iter.result))
    (λ zs e. refl) c.fold.ensures.ran [] (append-nil bytes)
