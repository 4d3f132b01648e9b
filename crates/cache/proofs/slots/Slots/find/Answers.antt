use Rattle.std.proofs.Common.{◌≡◌, true, false, rules}
use Rattle.std.proofs.lemmas.Iterator.{YieldsList-from_slice, IsFirst-from_position}
use borrow.Author.Tests.{tests}
use Rattle.cache.specs.declared.slot.Slot.{Slot}
use Rattle.cache.specs.Held.{has}
use Rattle.cache.proofs.Copies.{found}
use Rattle.cache.proofs.slots.Slots.find.Goals as goal

pub returns-in_err-number : goal.returns-in_err-number
returns-in_err-number c =
    let f = IsFirst-from_position _ _ c.position.result (λ (s : Slot). has s.copy c.args.page ≡ true) (λ (s : Slot). has s.copy c.args.page ≡ false) c.position.ensures.ran (YieldsList-from_slice c.args.self.now.all cc) (λ x q k. search (rules, tests)) (λ x q k. search (rules, tests)) in
    rw c.from_residual.ensures (rw (c.in_err-number.was) at (found _ _ _ c.args.self.now.distinct f))

pub returns : goal.returns
returns c =
    let f = IsFirst-from_position _ _ c.position.result (λ (s : Slot). has s.copy c.args.page ≡ true) (λ (s : Slot). has s.copy c.args.page ≡ false) c.position.ensures.ran (YieldsList-from_slice c.args.self.now.all cc) (λ x q k. search (rules, tests)) (λ x q k. search (rules, tests)) in
    rw (c.in_ok-number.was) at (found _ _ _ c.args.self.now.distinct f)
