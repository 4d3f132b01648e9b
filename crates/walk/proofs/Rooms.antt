-- The number of pages that a device may have.
use Rattle.std.proofs.Common.{◌≡◌, ℕ, Bool, true, false, cond, Ok, Err, Result, refl, sym, ◌∙◌, rules}
use Rattle.faults.specs.declared.fault.StoreFault.{StoreFault}
use Rattle.faults.specs.declared.fault.StoreFault.TheVariants.{PageCount}
use Rattle.walk.specs.Checking.{fits_pages, room_of}

-- a device that is not refused for its number of pages may have so many
pub room_fits : (size : ℕ) (r : Result Unit StoreFault) → r ≡ room_of size → r ≡ Ok tt → fits_pages size ≡ true
room_fits size r e f =
    let h : room_of size ≡ Ok tt = sym e ∙ f in
    by_case (fits_pages size) h
  where
    answer : Bool → Result Unit StoreFault
    answer b = cond b (Ok tt) (Err PageCount)

    by_case : (b : Bool) → answer b ≡ Ok tt → b ≡ true
    by_case true h = refl
    by_case false h = search rules
