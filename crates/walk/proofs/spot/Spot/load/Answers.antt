use Rattle.std.proofs.Common.{◌≡◌, ℕ, List, Some, None, Ok, Err, Option, refl, sym, ap, ◌∙◌, arith}
use Rattle.std.specs.Option.{option_map}
use Rattle.std.proofs.lemmas.Result.{err_from_is_err_and}
use Rattle.device.specs.Medium.{Medium}
use Rattle.device.specs.History.{History}
use Rattle.tree.specs.Search.{or_else}
use Rattle.page.specs.Kinds.{Rules}
use Rattle.page.specs.Loads.{Loads}
use Rattle.page.specs.declared.fault.Cause.{Cause}
use Rattle.page.specs.declared.fault.Damage.{Damage}
use Rattle.page.specs.declared.fault.PageFault.TheVariants.{Damaged}
use Rattle.paged.specs.Walk.{fault_in, damage}
use Rattle.walk.specs.Spots.{cells_cause}
use Rattle.walk.specs.Walking.{Tests}
use Rattle.walk.proofs.spot.Spot.load.Goals as goal

-- a page that was loaded, and is damaged for its place
loads_damaged : {T : Type 0} (K : Rules) (then : List ℕ → Option Cause) (bytes : T → List ℕ) (P : History → Type 0) (m : Medium) (p : ℕ) (Q : History → Type 0) (n : Medium)
    (t : T) (d : Damage) (o : Option Cause) → Loads K bytes P m p (Ok t) Q n → then (bytes t) ≡ o → Some d ≡ option_map (damage p) o
    → Tests {T = T} (fault_in K then) bytes P m p (Err (Damaged d)) Q n
loads_damaged K then bytes P m p Q n t d None l e s = let z : ◌≡◌ {A = ℕ} 0 1 = cc in absurd (omega arith)
loads_damaged K then bytes P m p Q n t d (Some c) l e s =
    let q : d ≡ damage p c = cc in
    (bytes t, l.0, ap (λ x. or_else x (then (bytes t))) l.1 ∙ e ∙ ap (λ (x : Damage). Some x.cause) (sym q), ap (λ (x : Damage). x.page) q)

pub returns-in_err-test : goal.returns-in_err-test
returns-in_err-test g c =
    let q = err_from_is_err_and c.from_residual-in_err-test.result c.from_residual-in_err-test.ensures.1 in
    let s = c.args.self in
    rw (q.1, q.2)
    (loads_damaged g.C.Cell.rules (cells_cause g.C.Cell g.C.Node.FEWEST s) (λ p. p.bytes) (g.R.Reader.past c.args.reader.now) (g.R.Reader.medium c.args.reader.now) s.page
    (g.R.Reader.past c.load.new.reader) (g.R.Reader.medium c.load.new.reader) c.in_ok-page.page c.in_err-test.field-0.0 _ c.in_ok-page.ensures refl c.in_err-test.ensures)
