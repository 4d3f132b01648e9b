-- The calls by which a version is made durable.
use Rattle.std.proofs.Common.{◌≡◌, [], ◌∷◌, ◌++◌, Ok, Err, Result, refl, inl, inr}
use Rattle.device.specs.Medium.{Medium}
use Rattle.device.specs.Calls.{Writes, Syncs}
use Rattle.device.specs.History.{History, Happens, step, did_write, did_sync}
use Rattle.device.specs.declared.fault.DeviceFault.{DeviceFault}
use Rattle.meta.specs.Layout.{meta_page}
use Rattle.meta.specs.declared.Meta.{Meta}
use Rattle.store.specs.Acting.{Acts}
use Rattle.store.specs.Sealing.{page_for, ComesToLast, Seals}
use Rattle.store.proofs.Acting.{acts_one, acts_more, acts_weaker}

module _ (P : History → Type 0) (m : Medium) (Q : History → Type 0) (n : Medium) (x : Meta) where
  pub seal_first : (f : DeviceFault) → Happens P m (did_sync (Err f)) Q n → Acts P m Q n (λ t. Seals x m n t (Err f))
  seal_first f h = acts_one _ (did_sync (Err f)) h (λ a. inl (a, refl))

  module _ (R : History → Type 0) (o : Medium) (first : Happens P m (did_sync (Ok tt)) Q n) where
    one : Acts P m Q n (λ t. Syncs m (Ok tt) n × (t ≡ step m (did_sync (Ok tt)) n ∷ []))
    one = acts_one _ (did_sync (Ok tt)) first (λ a. (a, refl))

    pub seal_write : (f : DeviceFault) → Happens Q n (did_write (page_for x) (meta_page x) (Err f)) R o → Acts P m R o (λ t. Seals x m o t (Err f))
    seal_write f h =
        acts_more _ _ _ one
        (acts_one (λ u. Writes n (page_for x) (meta_page x) (Err f) o × (u ≡ step n (did_write (page_for x) (meta_page x) (Err f)) o ∷ [])) (did_write (page_for x) (meta_page x) (Err f)) h (λ a. (a, refl)))
        (λ t u _ _ _ _ i j. inr (inl (n, i.0, j.0, (λ k. j.1 k ++ i.1 k))))

    module _ (S : History → Type 0) (q : Medium) (second : Happens Q n (did_write (page_for x) (meta_page x) (Ok tt)) R o) where
      pub seal_last : (r : Result Unit DeviceFault) → Happens R o (did_sync r) S q → Acts P m S q (λ t. ComesToLast r x m q t)
      seal_last r h =
          acts_more _ _ _
          (acts_more _ _ (λ t. Syncs m (Ok tt) n × Writes n (page_for x) (meta_page x) (Ok tt) o × (t ≡ step n (did_write (page_for x) (meta_page x) (Ok tt)) o ∷ step m (did_sync (Ok tt)) n ∷ [])) one
          (acts_one (λ u. Writes n (page_for x) (meta_page x) (Ok tt) o × (u ≡ step n (did_write (page_for x) (meta_page x) (Ok tt)) o ∷ [])) (did_write (page_for x) (meta_page x) (Ok tt)) second (λ a. (a, refl)))
          (λ t u _ _ _ _ i j. (i.0, j.0, (λ k. j.1 k ++ i.1 k))))
          (acts_one (λ u. Syncs o r q × (u ≡ step o (did_sync r) q ∷ [])) (did_sync r) h (λ a. (a, refl)))
          (λ t u _ _ _ _ i j. (n, o, i.0, i.1, j.0, (λ k. j.1 k ++ i.2 k)))

      pub seal_whole : (r : Result Unit DeviceFault) → Happens R o (did_sync r) S q → Acts P m S q (λ t. Seals x m q t r)
      seal_whole (Ok u) h = seal_last (Ok tt) h
      seal_whole (Err f) h = acts_weaker _ _ (seal_last (Err f) h) (λ t _ e. inr (inr e))
