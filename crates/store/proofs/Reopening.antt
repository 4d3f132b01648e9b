-- An opening, by what its calls answer.
use Rattle.std.proofs.Common.{◌≡◌, Bool, true, [], ◌∷◌, ◌++◌, IfOk, Ok, Err, Result, sym, refl, ap, ◌∙◌, subst}
use Rattle.std.specs.List.{AllByRecursion}
use Rattle.device.specs.Medium.{Medium}
use Rattle.device.specs.Calls.{Keeps, Syncs}
use Rattle.device.specs.History.{History, Happens, step, did_sync}
use Rattle.device.specs.Looking.{IsRead, Looks}
use Rattle.device.specs.declared.fault.DeviceFault.{DeviceFault}
use Rattle.device.specs.declared.fault.DeviceFault.TheVariants.{Outside, Off}
use Rattle.device.proofs.Looking.{reads_keep, same_pages}
use Rattle.meta.specs.Laws.{Fits}
use Rattle.faults.specs.Faults.{from_device}
use Rattle.faults.specs.declared.fault.StoreFault.{StoreFault}
use Rattle.walk.specs.Checking.{fits_pages, found_on, Recovers}
use Rattle.walk.specs.declared.inspection.Recovered.{Recovered}
use Rattle.store.specs.Acting.{Acts, CallsIf}
use Rattle.store.specs.Opening.{SyncsAndReads, Reopens}
use Rattle.store.proofs.Acting.{acts_one, acts_more, acts_looks}
use Rattle.store.proofs.Found.{found_committed}

found_same : (m n : Medium) (on : Bool) → Keeps m n → found_on n.bytes n.size on ≡ found_on m.bytes m.size on
found_same m n on k = λ i. found_on (same_pages k i) (k.same_size i) on

module _ (P : History → Type 0) (m : Medium) (Q : History → Type 0) (n : Medium) (room : fits_pages m.size ≡ true) where
  pub sync_refused : (d : DeviceFault) → Happens P m (did_sync (Err d)) Q n → Acts P m Q n (λ t. CallsIf (fits_pages m.size) t (SyncsAndReads m t) × Reopens m n (Err (from_device d)))
  sync_refused Outside h = acts_one _ (did_sync (Err Outside)) h (λ s. absurd s)
  sync_refused Off h =
      let t : History = step m (did_sync (Err Off)) n ∷ [] in
      acts_one _ (did_sync (Err Off)) h (λ s. (subst (λ b. CallsIf b t (SyncsAndReads m t)) (sym room) (n, Err Off, [], refl, s, tt, refl), rw (room, s.0.is_off)))

  module _ (R : History → Type 0) (o : Medium) (first : Happens P m (did_sync (Ok tt)) Q n) where
    answered : (r : Result Recovered StoreFault) (t : History) → IfOk r (λ x. Fits x.meta) → Syncs m (Ok tt) n → Keeps n o → Recovers n o.on t r → Reopens m o r
    answered (Err f) t fits s k w = sym (found_same m n o.on s.2) ∙ w
    answered (Ok r) t fits s k (tree, e, mk, ps) =
        let here : found_on o.bytes o.size o.on ≡ Ok (record { meta = r.meta; tree = tree }) = found_same n o o.on k ∙ e in
        let c = found_committed o r.meta tree r.marks.marked fits here mk (λ p. k.stays_durable p (s.1 p)) in
        (tree, sym (found_same m n o.on s.2) ∙ e, c.0, c.1)

    pub recovered : (r : Result Recovered StoreFault) → IfOk r (λ x. Fits x.meta) → Looks Q n R o (λ t. Recovers n o.on t r)
        → Acts P m R o (λ t. CallsIf (fits_pages m.size) t (SyncsAndReads m t) × Reopens m o r)
    recovered r fits l =
        acts_more (λ t. (t ≡ step m (did_sync (Ok tt)) n ∷ []) × Syncs m (Ok tt) n) (λ u. AllByRecursion IsRead u × (Syncs m (Ok tt) n → Reopens m o r)) _
        (acts_one _ (did_sync (Ok tt)) first (λ s. (refl, s)))
        (acts_looks _ _ l (λ u lu au w. (au, λ s. answered r u fits s (reads_keep n u o lu au) w)))
        (λ t u _ _ _ _ i j. (
          subst (λ b. CallsIf b (u ++ t) (SyncsAndReads m (u ++ t))) (sym room) (n, Ok tt, u, ap (λ v. u ++ v) i.0, i.1, j.0, tt),
          j.1 i.1,
        ))
