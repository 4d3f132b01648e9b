-- Pages that reading accepts.
use Rattle.std.proofs.Common.{◌≡◌, ℕ, Bool, true, false, cond, not, eqb, List, get_or, is_some, Some, None, Option, refl, ap, ◌∙◌}
use Rattle.std.proofs.lemmas.Bool.{false≢true, eq-eqb}
use Rattle.checksum.specs.Sealed.{is_sealed}
use Rattle.page.specs.Kinds.{Rules}
use Rattle.page.specs.Layout.{Shows, cells_of, laid_out, page_of}
use Rattle.page.specs.Reading.{every, layout, rising, shape_fault, first_fault, sound}
use Rattle.page.specs.declared.fault.Cause.{Cause}
use Rattle.page.specs.declared.fault.Cause.TheVariants.{Checksum, Kind, Layout, Order}
use Rattle.page.proofs.Pages.{cells_are, leftmost_is, laid_from}
use Rattle.page.proofs.Sealing.{page_sealed}
use Rattle.page.proofs.Tested.{Good, good_from, layout_from}
use Rattle.checksum.proofs.Words.{Bytes}

fault_by_lem : Bool → Bool → Bool → Bool → Option Cause
fault_by_lem s e l r = cond (not s) (Some Checksum) (cond (not e) (Some Kind) (cond (not l) (Some Layout) (cond (not r) (Some Order) None)))

all_pass : (s e l r : Bool) → not (is_some (fault_by_lem s e l r)) ≡ true → (s ≡ true) × (e ≡ true) × (l ≡ true) × (r ≡ true)
unfolding fault_by_lem
all_pass false e l r h = absurd (false≢true h)
all_pass true false l r h = absurd (false≢true h)
all_pass true true false r h = absurd (false≢true h)
all_pass true true true false h = absurd (false≢true h)
all_pass true true true true h = (refl, refl, refl, refl)

none_fails : (s e l r : Bool) → s ≡ true → e ≡ true → l ≡ true → r ≡ true → not (is_some (fault_by_lem s e l r)) ≡ true
unfolding fault_by_lem
none_fails s e l r hs he hl hr = rw (hs, he, hl, hr)

-- what a page that is accepted has
pub record Accepted (k : Rules) (b : List ℕ) : Type 0 where
  pub good : Good k b
  pub rises : rising k.key (cells_of b) ≡ true
  pub seals : is_sealed b ≡ true

pub accepted : (k : Rules) (b : List ℕ) → Bytes b → sound k b ≡ true → Accepted k b
unfolding sound first_fault shape_fault fault_by_lem
accepted k b bytes h =
    let p = all_pass (is_sealed b) (eqb (get_or b 0 0) k.kind) (layout k b) (rising k.key (cells_of b)) h in
    record { good = good_from k b bytes p.2; rises = p.3; seals = p.0 }

pub sound_none : (k : Rules) (b : List ℕ) → first_fault k b ≡ None → sound k b ≡ true
unfolding sound
sound_none k b e = ap (λ f. not (is_some f)) e

pub sound_from : (k : Rules) (b : List ℕ) → is_sealed b ≡ true → get_or b 0 0 ≡ k.kind → Good k b → rising k.key (cells_of b) ≡ true → sound k b ≡ true
unfolding sound first_fault shape_fault fault_by_lem
sound_from k b s e g r =
    none_fails (is_sealed b) (eqb (get_or b 0 0) k.kind) (layout k b) (rising k.key (cells_of b)) s (eq-eqb _ _ e) (layout_from k b g) r

first_byte : (k l : ℕ) (cells : List (List ℕ)) → get_or (page_of k l cells) 0 0 ≡ k
unfolding page_of laid_out
first_byte k l cells = refl

-- the page of a good list whose keys rise
pub page_sound : (k : Rules) (l q : ℕ) (cells : List (List ℕ)) (b : List ℕ) → b ≡ page_of k.kind l cells → Shows k.kind b l q cells
    → every k.good cells ≡ true → k.leftmost l ≡ true → rising k.key cells ≡ true → sound k b ≡ true
page_sound k l q cells b p s g m r =
    let e = cells_are s in
    let f = leftmost_is s in
    sound_from k b (ap is_sealed p ∙ page_sealed k.kind l cells) (ap (λ x. get_or x 0 0) p ∙ first_byte k.kind l cells)
    (record { laid = laid_from s; goods = ap (every k.good) e ∙ g; left = ap k.leftmost f ∙ m })
    (ap (rising k.key) e ∙ r)
