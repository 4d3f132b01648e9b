-- Numbers with spaces before them, as a format writes them.
use Rattle.std.proofs.Common.{◌≡◌, ℕ, zero, suc, ◌-◌, ◌^◌, false, List, [], ◌∷◌, ◌++◌, length, replicate, decimal, refl, ap, arith}
use Rattle.std.proofs.lemmas.List.{append-nil}
use Rattle.std.specs.Char.{encode_utf8}
use Rattle.std.specs.Fmt.{char_count, padded_integral, format_spec}
use Rattle.std.specs.List.{repeat}
use Rattle.survey.specs.Lines.{aligned}

blanks : ℕ → List ℕ
blanks k = repeat k (32 ∷ [])

spaces : (k : ℕ) → replicate k 32 ≡ blanks k
unfolding blanks
spaces zero = refl
spaces (suc k) = ap (λ (s : List ℕ). 32 ∷ s) (spaces k)

around : (p k z : ℕ) (d : List ℕ) → k ≡ p → z ≡ 0 → replicate k 32 ++ d ≡ (((blanks p ++ []) ++ []) ++ []) ++ (d ++ blanks z)
unfolding blanks
around p k z d e f = rw (e, f, append-nil (blanks p), append-nil (blanks p), append-nil (blanks p), append-nil d, spaces p) refl

pub is_aligned : (width n : ℕ) → aligned width n ≡ padded_integral (format_spec 32 3 0 width (2 ^ 64 - 1)) false [] (decimal n)
unfolding aligned padded_integral char_count encode_utf8 blanks
is_aligned width n =
    let l = length (decimal n) in
    around (width - l - 0 - 0) (width - l) ((width - l - 0 - 0) - (width - l - 0 - 0)) (decimal n) (omega arith) (omega arith)
