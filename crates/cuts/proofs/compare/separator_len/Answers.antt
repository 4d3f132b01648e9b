use Rattle.std.proofs.Common.{◌≡◌, ℕ, Bool, nat_eq, ◌∙◌, rules}
use borrow.Author.Tests.{tests}
use Rattle.std.specs.List.{zip}
use Rattle.std.proofs.lemmas.Iterator.{YieldsList-from_slice, YieldsList-from_zip}
use Rattle.std.proofs.lemmas.Iterator.Search.{YieldsList-from_take_while}
use Rattle.std.proofs.lemmas.Iterator.Consumers.{count_from_yields_List}
use Rattle.std.proofs.lemmas.List.Folds.{length-prefix_len}
use Rattle.cuts.proofs.Separators.{shared, separator_taken}
use Rattle.cuts.proofs.compare.separator_len.Goals as goal

pub returns-clause-prefix : goal.returns-clause-prefix
returns-clause-prefix c =
    let left = c.args.left.now in
    let right = c.args.right.now in
    let same : ℕ × ℕ → Bool = λ p. nat_eq p.0 p.1 in
    let n : c.count-shared.result ≡ shared left right =
    count_from_yields_List c.take_while.result _ c.count-shared.ensures.ran
    (YieldsList-from_take_while _ same (YieldsList-from_zip (YieldsList-from_slice left (cc)) (YieldsList-from_slice right (cc)))
    c.take_while.ensures.closure c.take_while.ensures.done (λ x b q k. search (rules, tests)))
    ∙ length-prefix_len same (zip left right) in
    rw (c.min.ensures, n) (separator_taken left right)
