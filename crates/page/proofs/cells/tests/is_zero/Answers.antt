use Rattle.std.proofs.Common.{rules, ◌≡◌, ℕ, ◌+◌, ◌-◌, ◌≤◌, ◌<◌, Decides, get_or, nat_eq, take, drop, subst, arith}
use borrow.Author.Tests.{tests}
use Rattle.std.specs.List.{list_all}
use Rattle.std.proofs.lemmas.Iterator.{YieldsList-from_slice}
use Rattle.std.proofs.lemmas.Iterator.Search.{all_from_yields_List}
use Rattle.checksum.proofs.Words.{part_is_zero}
use Rattle.page.proofs.cells.tests.is_zero.Goals as goal

pub returns : goal.returns
returns c =
    let b = c.args.page.now in
    let i = c.args.from in
    let n : ℕ = c.args.to - i in
    let e : i + n ≡ c.args.to = omega arith in
    let z : c.all.result ≡ list_all (λ x. nat_eq x 0) (take n (drop i b)) =
    all_from_yields_List _ _ _ c.all.result c.all.ensures.ran (YieldsList-from_slice (take n (drop i b)) (cc)) (λ x r q k. search (rules, tests)) in
    rw z (subst (λ m. Decides (list_all (λ x. nat_eq x 0) (take n (drop i b))) ((k : ℕ) → i ≤ k → k < m → get_or b k 0 ≡ 0)) e (part_is_zero b i n (search rules)))
