-- Formatting, by what its calls answer.
use Rattle.std.proofs.Common.{◌≡◌, ℕ, ◌<◌, ◌≤◌, true, false, List, [], ◌∷◌, ◌++◌, None, Ok, Err, Result, sym, refl, ap, ◌∙◌, subst, inl, inr, arith}
use Rattle.std.proofs.lemmas.Bool.Decides.{nat_tests}
use Rattle.device.specs.Medium.{Medium, zeros}
use Rattle.device.specs.Calls.{Writes}
use Rattle.device.specs.History.{History, Happens, step, did_write}
use Rattle.device.specs.declared.fault.DeviceFault.{DeviceFault}
use Rattle.device.specs.declared.fault.DeviceFault.TheVariants.{Outside, Off}
use Rattle.page.specs.Kinds.{leaf_rules}
use Rattle.page.specs.Reading.{first_fault}
use Rattle.page.specs.Views.{pairs_in}
use Rattle.meta.specs.Layout.{meta_page}
use Rattle.walk.specs.Checking.{fits_pages}
use Rattle.store.specs.Acting.{Acts, events_of, GoesBy}
use Rattle.store.specs.Formatting.{first_meta, Fresh, plan, WritesOut, LaidOut, LaysOut}
use Rattle.store.specs.Sealing.{Seals}
use Rattle.store.proofs.Acting.{acts_one, acts_more, events_more}
use Rattle.store.proofs.Commits.{cut_off}

-- one write that was refused, on a device with room
refused : (m n : Medium) (p : ℕ) (b : List ℕ) (f : DeviceFault) → p < 16 → Writes m p b (Err f) n → fits_pages m.size ≡ true → (f ≡ Off) × (n.on ≡ false)
refused m n p b Outside l w r = let a = w.0 in let q : 16 ≤ m.size = grind (arith, nat_tests) in let z : ⊥ = omega arith in absurd z
refused m n p b Off l w r = (refl, w.1.is_off)

room_on : (m n : Medium) (p : ℕ) (b : List ℕ) → Writes m p b (Ok tt) n → fits_pages m.size ≡ true → fits_pages n.size ≡ true
room_on m n p b w r = ap fits_pages w.3.same_size ∙ r

module _ (leaf : List ℕ) (z : first_fault leaf_rules leaf ≡ None) (y : pairs_in leaf ≡ []) where
  -- the three pages, then the meta page
  laid : (m m₁ m₂ m₃ n : Medium) (size : ℕ) (t : History) → size ≡ m.size → Writes m 0 zeros (Ok tt) m₁ → Writes m₁ 1 zeros (Ok tt) m₂ → Writes m₂ 2 leaf (Ok tt) m₃ → Seals (first_meta size) m₃ n t (Ok tt)
      → fits_pages m.size ≡ true → Fresh n
  laid m m₁ m₂ m₃ n size t e a b c (s₁, s₂, f, w, l, _) r =
      let same : n.size ≡ m.size = l.2.same_size ∙ w.3.same_size ∙ f.2.same_size ∙ c.3.same_size ∙ b.3.same_size ∙ a.3.same_size in
      let two : n.bytes 2 ≡ leaf = l.2.same_bytes 2 ∙ w.3.same_bytes 2 (λ q. omega arith) ∙ f.2.same_bytes 2 ∙ c.2 in
      record {
        on = l.0.is_on;
        durable = l.1;
        room = ap fits_pages same ∙ r;
        first = l.2.same_bytes 0 ∙ w.2 ∙ ap (λ v. meta_page (first_meta v)) (e ∙ sym same);
        second = l.2.same_bytes 1 ∙ w.3.same_bytes 1 (λ q. omega arith) ∙ f.2.same_bytes 1 ∙ c.3.same_bytes 1 (λ q. omega arith) ∙ b.2;
        leaf = ap (first_fault leaf_rules) two ∙ z;
        empty = ap pairs_in two ∙ y;
      }

  -- what was written out, by the events
  as_planned : (size : ℕ) (t : History) (a : Result Unit DeviceFault) → GoesBy (plan size leaf) a (events_of t) → WritesOut size t a
  as_planned size t a g = (leaf, z, y, g)

  module _ (P : History → Type 0) (m : Medium) (Q : History → Type 0) (n : Medium) where
    pub first_refused : (f : DeviceFault) → Happens P m (did_write 0 zeros (Err f)) Q n → Acts P m Q n (λ t. LaysOut m n t (Err f))
    first_refused f h =
        acts_one _ (did_write 0 zeros (Err f)) h (λ w. (as_planned m.size (step m (did_write 0 zeros (Err f)) n ∷ []) (Err f) (inr (inr (inr (inr (inr (inl refl)))))), (λ r. refused m n 0 zeros f (omega arith) w r)))

    module _ (R : History → Type 0) (o : Medium) (one : Happens P m (did_write 0 zeros (Ok tt)) Q n) where
      step_one : Acts P m Q n (λ t. Writes m 0 zeros (Ok tt) n × (events_of t ≡ did_write 0 zeros (Ok tt) ∷ []))
      step_one = acts_one _ (did_write 0 zeros (Ok tt)) one (λ w. (w, refl))

      pub second_refused : (f : DeviceFault) → Happens Q n (did_write 1 zeros (Err f)) R o → Acts P m R o (λ t. LaysOut m o t (Err f))
      second_refused f h =
          acts_more _ (λ u. Writes n 1 zeros (Err f) o × (events_of u ≡ did_write 1 zeros (Err f) ∷ [])) _ step_one (acts_one _ (did_write 1 zeros (Err f)) h (λ w. (w, refl)))
          (λ t u _ _ _ _ i j. (
            as_planned m.size _ (Err f) (inr (inr (inr (inr (inl (events_more t u _ _ i.1 j.1)))))),
            (λ r. refused n o 1 zeros f (omega arith) j.0 (room_on m n 0 zeros i.0 r)),
          ))

      module _ (S : History → Type 0) (q : Medium) (two : Happens Q n (did_write 1 zeros (Ok tt)) R o) where
        step_two : Acts P m R o (λ t. Writes m 0 zeros (Ok tt) n × Writes n 1 zeros (Ok tt) o × (events_of t ≡ did_write 1 zeros (Ok tt) ∷ did_write 0 zeros (Ok tt) ∷ []))
        step_two =
            acts_more _ (λ u. Writes n 1 zeros (Ok tt) o × (events_of u ≡ did_write 1 zeros (Ok tt) ∷ [])) _ step_one (acts_one _ (did_write 1 zeros (Ok tt)) two (λ w. (w, refl)))
            (λ t u _ _ _ _ i j. (i.0, j.0, events_more t u _ _ i.1 j.1))

        pub third_refused : (f : DeviceFault) → Happens R o (did_write 2 leaf (Err f)) S q → Acts P m S q (λ t. LaysOut m q t (Err f))
        third_refused f h =
            acts_more _ (λ u. Writes o 2 leaf (Err f) q × (events_of u ≡ did_write 2 leaf (Err f) ∷ [])) _ step_two (acts_one _ (did_write 2 leaf (Err f)) h (λ w. (w, refl)))
            (λ t u _ _ _ _ i j. (
              as_planned m.size _ (Err f) (inr (inr (inr (inl (events_more t u _ _ i.2 j.1))))),
              (λ r. refused o q 2 leaf f (omega arith) j.0 (room_on n o 1 zeros i.1 (room_on m n 0 zeros i.0 r))),
            ))

        abbrev Written : History → Type 0
        Written t = Writes m 0 zeros (Ok tt) n × Writes n 1 zeros (Ok tt) o × Writes o 2 leaf (Ok tt) q
            × (events_of t ≡ did_write 2 leaf (Ok tt) ∷ did_write 1 zeros (Ok tt) ∷ did_write 0 zeros (Ok tt) ∷ [])

        step_three : Happens R o (did_write 2 leaf (Ok tt)) S q → Acts P m S q Written
        step_three three =
            acts_more _ (λ u. Writes o 2 leaf (Ok tt) q × (events_of u ≡ did_write 2 leaf (Ok tt) ∷ [])) _ step_two (acts_one _ (did_write 2 leaf (Ok tt)) three (λ w. (w, refl)))
            (λ t u _ _ _ _ i j. (i.0, i.1, j.0, events_more t u _ _ i.2 j.1))

        -- the seal's calls after them
        sealed_plan : (v : Medium) (t u : History) (a : Result Unit DeviceFault) → Written t → Seals (first_meta m.size) q v u a → GoesBy (plan m.size leaf) a (events_of (u ++ t))
        sealed_plan v t u (Ok w) i s = events_more t u _ _ i.3 (ap events_of s.5)
        sealed_plan v t u (Err f) i (inl s) = inr (inr (inl (events_more t u _ _ i.3 (ap events_of s.1))))
        sealed_plan v t u (Err f) i (inr (inl s)) = inr (inl (events_more t u _ _ i.3 (ap events_of s.3)))
        sealed_plan v t u (Err f) i (inr (inr s)) = inl (events_more t u _ _ i.3 (ap events_of s.5))

        sealed_laid : (v : Medium) (t u : History) (a : Result Unit DeviceFault) → Written t → Seals (first_meta m.size) q v u a → LaidOut m v a
        sealed_laid v t u (Ok w) i s = laid m n o q v m.size u refl i.0 i.1 i.2 s
        sealed_laid v t u (Err f) i s = λ r. cut_off q v (first_meta m.size) u f (room_on o q 2 leaf i.2 (room_on n o 1 zeros i.1 (room_on m n 0 zeros i.0 r))) s

        pub sealed_out : (T : History → Type 0) (v : Medium) (size : ℕ) (a : Result Unit DeviceFault) → size ≡ m.size → Happens R o (did_write 2 leaf (Ok tt)) S q
            → Acts S q T v (λ t. Seals (first_meta size) q v t a) → Acts P m T v (λ t. LaysOut m v t a)
        sealed_out T v size a e three l =
            acts_more _ _ _ (step_three three) (subst (λ (k : ℕ). Acts S q T v (λ t. Seals (first_meta k) q v t a)) e l)
            (λ t u _ _ _ _ i j. (as_planned m.size _ a (sealed_plan v t u a i j), sealed_laid v t u a i j))
