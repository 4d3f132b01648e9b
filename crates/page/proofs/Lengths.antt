-- The lengths of keys.
use Rattle.std.proofs.Common.{◌≡◌, true, List, ℕ, length, sym}
use Rattle.std.proofs.lemmas.Bool.{and_parts, leb-true}
use Rattle.cuts.specs.Keys.{KeyFits}
use Rattle.page.specs.Kinds.{is_key_length}

pub tested_key : (k : List ℕ) → true ≡ is_key_length (length k) → KeyFits k
tested_key k e =
    let p = and_parts _ _ (sym e) in
    (leb-true _ _ p.0, leb-true _ _ p.1)
