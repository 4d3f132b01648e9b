-- A commit, by what became of its calls.
use Rattle.std.proofs.Common.{◌≡◌, ℕ, ◌+◌, ◌%◌, ◌≤◌, Bool, true, false, List, Ok, Err, Result, sym, refl, ap, ◌∙◌, subst, inl, inr, arith}
use Rattle.std.proofs.lemmas.Bool.Decides.{nat_tests}
use Rattle.device.specs.Medium.{Medium}
use Rattle.device.specs.Calls.{Writes, Syncs}
use Rattle.device.specs.History.{History}
use Rattle.device.specs.declared.fault.DeviceFault.{DeviceFault}
use Rattle.device.specs.declared.fault.DeviceFault.TheVariants.{Outside, Off}
use Rattle.meta.specs.Layout.{meta_page}
use Rattle.meta.specs.Shape.{Good}
use Rattle.meta.specs.declared.Meta.{Meta}
use Rattle.faults.specs.Faults.{from_device}
use Rattle.walk.specs.Checking.{fits_pages}
use Rattle.store.specs.Acting.{Acts}
use Rattle.store.specs.Calls.{Commits}
use Rattle.store.specs.Sealing.{page_for, Seals}
use Rattle.store.specs.Snapshots.{snap}
use Rattle.store.specs.Versions.{pages_held, Stands, Committed}
use Rattle.store.specs.declared.state.State.{State}
use Rattle.faults.specs.declared.fault.StoreFault.{StoreFault}
use Rattle.store.specs.declared.state.State.TheVariants.{Shut, Idle, InTransaction}
use Rattle.store.specs.declared.state.Held.{Held}
use Rattle.store.specs.declared.state.Transaction.{Transaction}
use Rattle.store.proofs.Acting.{acts_weaker}
use Rattle.store.proofs.Kept.{Same, all_true, stands_but, pairs_keep, later_newest}

module _ (m m₁ m₂ n : Medium) (x w : Meta) (b c : List Bool) (held : Committed m x b) (next : Stands m w c) (e : w.commit ≡ x.commit + 1)
    (first : Syncs m (Ok tt) m₁) (wrote : Writes m₁ (page_for w) (meta_page w) (Ok tt) m₂) (last : Syncs m₂ (Ok tt) n) where
  size_same : n.size ≡ m.size
  size_same = last.2.same_size ∙ wrote.3.same_size ∙ first.2.same_size

  bytes_same : (p : ℕ) → (p ≡ page_for w → ⊥) → n.bytes p ≡ m.bytes p
  bytes_same p ne = last.2.same_bytes p ∙ wrote.3.same_bytes p ne ∙ first.2.same_bytes p

  pub same : Same m n w c
  same = stands_but m n (page_for w) w c (omega arith) size_same bytes_same next

  pub sealed : Committed n w c
  sealed = record {
    room = ap fits_pages size_same ∙ held.room;
    stands = same.stands;
    page = page;
    newest =
        later_newest n.bytes n.size x w (subst (λ z. Good (x.commit % 2) z x) (sym size_same) held.stands.good) held.stands.fits same.stands.good same.stands.fits
        (bytes_same (x.commit % 2) (λ z. let bad : ⊥ = omega arith in bad) ∙ held.page) page e;
    page_durable = last.1 (page_for w);
    tree_durable = all_true (λ p. n.volatile p ≡ false) last.1 (pages_held n.bytes w);
  }
    where
      page : n.bytes (page_for w) ≡ meta_page w
      page = last.2.same_bytes (page_for w) ∙ wrote.2

-- power failed
pub cut_off : (m n : Medium) (w : Meta) (t : History) (d : DeviceFault) → fits_pages m.size ≡ true → Seals w m n t (Err d) → (d ≡ Off) × (n.on ≡ false)
cut_off m n w t Outside r (inl s) = absurd s.0
cut_off m n w t Outside r (inr (inl s)) = let a = s.2.0 in let k = s.1.2.same_size in let q : 16 ≤ m.size = grind (arith, nat_tests) in let bad : ⊥ = omega arith in absurd bad
cut_off m n w t Outside r (inr (inr s)) = absurd s.4
cut_off m n w t Off r (inl s) = (refl, s.0.0.is_off)
cut_off m n w t Off r (inr (inl s)) = (refl, s.2.1.is_off)
cut_off m n w t Off r (inr (inr s)) = (refl, s.4.0.is_off)

module _ (P : History → Type 0) (m : Medium) (Q : History → Type 0) (n : Medium) where
  -- whatever the state is called
  abbrev pub CommitsFrom : (s z : State) (b c : Held) → Result ℕ StoreFault → Type 0
  CommitsFrom s z b c a = Acts P m Q n (λ t. Commits (snap m s b) (snap n z c) t a)

  pub refused_from : (s : State) (x : Transaction) (b : Held) (d : DeviceFault) → s ≡ InTransaction x → Acts P m Q n (λ t. Seals x.working m n t (Err d)) → CommitsFrom s Shut b b (Err (from_device d))
  refused_from s x b d e a = subst (λ v. CommitsFrom v Shut b b (Err (from_device d))) (sym e)
      (acts_weaker _ _ a (λ t _ i. ((d, refl, i), λ h. let o = cut_off m n x.working t d h.0.room i in record { answers = rw (o.0, o.1); becomes = rw o.1; sound = tt })))

  pub done_from : (s : State) (x : Transaction) (b c : Held) → s ≡ InTransaction x → c.committed ≡ b.working → Acts P m Q n (λ t. Seals x.working m n t (Ok tt)) → CommitsFrom s (Idle x.working) b c (Ok x.working.commit)
  done_from s x b c e f a = subst (λ v. CommitsFrom v (Idle x.working) b c (Ok x.working.commit)) (sym e)
      (acts_weaker _ _ a (λ t _ i. (
        i,
        λ h.
            let on : n.on ≡ true = i.4.0.is_on in
            let k = sealed m i.0 i.1 n x.committed x.working b.committed.marked b.working.marked h.0 h.1 h.2 i.2 i.3 i.4 in
            let p = pairs_keep m n x.working _ (same m i.0 i.1 n x.committed x.working b.committed.marked b.working.marked h.0 h.1 h.2 i.2 i.3 i.4) in
            record { answers = rw (on, h.2); becomes = rw (on, h.2, p); sound = subst (λ z. Committed n x.working z.marked) (sym f) k },
      )))
