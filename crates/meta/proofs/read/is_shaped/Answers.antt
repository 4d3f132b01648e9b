use Rattle.std.proofs.Common.{rules, ◌≡◌, ℕ, ◌≤◌, ◌<◌, Decides, get_or, nat_eq, take, drop, arith}
use borrow.Author.Tests.{tests}
use Rattle.std.specs.List.{list_all}
use Rattle.std.proofs.lemmas.Iterator.{YieldsList-from_slice}
use Rattle.std.proofs.lemmas.Iterator.Search.{all_from_yields_List}
use Rattle.checksum.proofs.Words.{part_is_zero}
use Rattle.meta.proofs.read.is_shaped.Goals as goal

pub returns-then-bytes-eq0-2 : goal.returns-then-bytes-eq0-2
returns-then-bytes-eq0-2 c =
    let b = c.args.bytes.now in
    let z : c.all.result ≡ list_all (λ x. nat_eq x 0) (take 483 (drop 29 b)) =
    all_from_yields_List _ _ _ c.all.result c.all.ensures.ran (YieldsList-from_slice (take 483 (drop 29 b)) (cc)) (λ x r q k. search (rules, tests)) in
    let p : Decides c.all.result ((k : ℕ) → 29 ≤ k → k < 512 → get_or b k 0 ≡ 0) = rw z (part_is_zero b 29 483 (omega arith)) in
    search rules
