-- The first fault, by what was found so far.
use Rattle.std.proofs.Common.{◌≡◌, ℕ, true, false, eqb, List, get_or, Some, None}
use Rattle.checksum.specs.Sealed.{is_sealed}
use Rattle.page.specs.Kinds.{Rules}
use Rattle.page.specs.Layout.{cells_of}
use Rattle.page.specs.Reading.{layout, rising, shape_fault, first_fault}
use Rattle.page.specs.declared.fault.Cause.TheVariants.{Checksum, Kind, Layout, Order}

module _ (k : Rules) (b : List ℕ) where
  pub fault_checksum : is_sealed b ≡ false → first_fault k b ≡ Some Checksum
  unfolding first_fault
  fault_checksum e = rw e

  pub fault_shape : is_sealed b ≡ true → first_fault k b ≡ shape_fault k b
  unfolding first_fault
  fault_shape e = rw e

  pub shape_kind : eqb (get_or b 0 0) k.kind ≡ false → shape_fault k b ≡ Some Kind
  unfolding shape_fault
  shape_kind e = rw e

  module _ (e : eqb (get_or b 0 0) k.kind ≡ true) where
    pub shape_layout : layout k b ≡ false → shape_fault k b ≡ Some Layout
    unfolding shape_fault
    shape_layout f = rw (e, f)

    pub shape_order : layout k b ≡ true → rising k.key (cells_of b) ≡ false → shape_fault k b ≡ Some Order
    unfolding shape_fault
    shape_order f h = rw (e, f, h)

    pub shape_none : layout k b ≡ true → rising k.key (cells_of b) ≡ true → shape_fault k b ≡ None
    unfolding shape_fault
    shape_none f h = rw (e, f, h)
