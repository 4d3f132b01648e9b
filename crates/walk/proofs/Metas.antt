-- Reading both meta pages.
use Rattle.std.proofs.Common.{◌≡◌, ℕ, ◌<◌, ◌≤◌, Bool, true, false, cond, ◌&&◌, ltb, List, [], ◌∷◌, ◌++◌, IfSome, Some, None, Ok, Err, Option, refl, ap, ◌∙◌, arith}
use Rattle.std.specs.Str.{bytes_eq}
use Rattle.std.proofs.lemmas.Bool.{and_parts}
use Rattle.std.proofs.lemmas.Bool.Decides.{nat_tests}
use Rattle.device.specs.Medium.{Medium}
use Rattle.device.specs.Calls.{Reads}
use Rattle.device.specs.History.{History, Happens, did_read}
use Rattle.device.specs.Looking.{Looks, pages_read}
use Rattle.device.specs.declared.fault.DeviceFault.{DeviceFault}
use Rattle.device.specs.declared.fault.DeviceFault.TheVariants.{Outside, Off}
use Rattle.device.proofs.Looking.{looks_one, looks_more}
use Rattle.meta.specs.Layout.{meta_page, meta_in}
use Rattle.meta.specs.Test.{is_good, passes, read_meta, newer}
use Rattle.meta.specs.declared.Meta.{Meta}
use Rattle.walk.specs.Checking.{Newest, Rooted}

-- a meta that passes its test has its root among the tree's pages
rooted : (at size : ℕ) (x : Meta) → is_good at size x ≡ true → Rooted size x
unfolding is_good
rooted at size x h = record { low = grind (arith, nat_tests); high = grind (arith, nat_tests); some = grind (arith, nat_tests) }

read_rooted : (at size : ℕ) (b : List ℕ) → IfSome (read_meta at size b) (Rooted size)
unfolding read_meta passes
read_rooted at size b = by (bytes_eq b (meta_page (meta_in b)) && is_good at size (meta_in b)) refl
  where
    by : (t : Bool) → (bytes_eq b (meta_page (meta_in b)) && is_good at size (meta_in b)) ≡ t → IfSome (cond t (Some (meta_in b)) None) (Rooted size)
    by true e = rooted at size (meta_in b) (and_parts _ _ e).1
    by false e = tt

newer_either : (P : Meta → Type 0) (a b : Option Meta) → IfSome a P → IfSome b P → IfSome (newer a b) P
newer_either P None b p q = q
newer_either P (Some x) None p q = p
newer_either P (Some x) (Some y) p q = by (ltb x.commit y.commit)
  where
    by : (t : Bool) → IfSome (cond t (Some y) (Some x)) P
    by true = q
    by false = p

pub newer_rooted : (size : ℕ) (o a b : Option Meta) (x y : List ℕ) → o ≡ newer a b → a ≡ read_meta 0 size x → b ≡ read_meta 1 size y → IfSome o (Rooted size)
newer_rooted size o a b x y e p q =
    rw (e, p, q) (newer_either (Rooted size) (read_meta 0 size x) (read_meta 1 size y) (read_rooted 0 size x) (read_rooted 1 size y))

-- a read that is refused, on a device with pages 0 and 1
refused : (m : Medium) (p : ℕ) (b : List ℕ) (f : DeviceFault) (n : Medium) → p < 2 → Reads m p b (Err f) n → 2 ≤ m.size → (n.on ≡ false) × (f ≡ Off)
refused m p b Outside n l r s = let k = r.0 in let bad : ⊥ = omega arith in absurd bad
refused m p b Off n l r s = (r.1.is_off, refl)

module _ (P : History → Type 0) (m : Medium) (Q : History → Type 0) (n : Medium) (size : ℕ) where
  pub first_refused : (b : List ℕ) (f : DeviceFault) → Happens P m (did_read 0 b (Err f)) Q n
      → Looks P m Q n (λ t. 2 ≤ m.size → Newest m size n.on t (Err f))
  first_refused b f h = looks_one _ 0 b (Err f) h.follows (λ _ _ r s. refused m 0 b f n (omega arith) r s)

  pub second_refused : (R : History → Type 0) (o : Medium) (b c : List ℕ) (f : DeviceFault) → Happens P m (did_read 0 b (Ok tt)) Q n → Happens Q n (did_read 1 c (Err f)) R o
      → Looks P m R o (λ t. 2 ≤ m.size → Newest m size o.on t (Err f))
  second_refused R o b c f h k =
      looks_more (λ _. Reads m 0 b (Ok tt) n) (λ _. Reads n 1 c (Err f) o) _
      (looks_one _ 0 b (Ok tt) h.follows (λ _ _ r. r)) (looks_one _ 1 c (Err f) k.follows (λ _ _ r. r))
      (λ _ _ _ _ _ _ r q s. refused n 1 c f o (omega arith) q (omega (arith, r.3.same_size)))

  pub both_read : (R : History → Type 0) (o : Medium) (b c : List ℕ) (x y z : Option Meta) → Happens P m (did_read 0 b (Ok tt)) Q n → Happens Q n (did_read 1 c (Ok tt)) R o
      → x ≡ read_meta 0 size b → y ≡ read_meta 1 size c → z ≡ newer x y
      → Looks P m R o (λ t. 2 ≤ m.size → Newest m size o.on t (Ok z))
  both_read R o b c x y z h k ex ey ez =
      looks_more (λ t. Reads m 0 b (Ok tt) n × (pages_read t ≡ 0 ∷ [])) (λ u. Reads n 1 c (Ok tt) o × ((t : History) → pages_read (u ++ t) ≡ 1 ∷ pages_read t)) _
      (looks_one _ 0 b (Ok tt) h.follows (λ _ _ r. (r, refl))) (looks_one _ 1 c (Ok tt) k.follows (λ _ _ r. (r, λ t. refl)))
      (λ t u _ _ _ _ i j s.
      let e0 : b ≡ m.bytes 0 = i.0.2 in
      let e1 : c ≡ m.bytes 1 = j.0.2 ∙ i.0.3.same_bytes 1 in (
        j.0.1.is_on,
        ez ∙ (λ l. newer ((ex ∙ ap (read_meta 0 size) e0) l) ((ey ∙ ap (read_meta 1 size) e1) l)),
        j.1 t ∙ ap (λ ps. 1 ∷ ps) i.1,
      ))
