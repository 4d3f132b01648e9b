-- How stretches of calls are put together.
use Rattle.std.proofs.Common.{◌≡◌, List, [], ◌∷◌, ◌++◌, sym, refl, ◌∙◌, subst, append_assoc}
use Rattle.std.specs.List.{AllByRecursion}
use Rattle.std.proofs.ByRecursion.{All-append, All-weaker}
use Rattle.std.proofs.lemmas.List.{map-append}
use Rattle.device.specs.Medium.{Medium}
use Rattle.device.specs.History.{Event, Step, step, History, Leads, Allowed, Happens}
use Rattle.device.specs.Looking.{IsRead, Looks}
use Rattle.device.proofs.Looking.{leads_more}
use Rattle.store.specs.Acting.{IsAllowed, Acts, events_of}

pub acts_none : {P : History → Type 0} {m : Medium} (F : History → Type 0) → ((h : History) → P h → F []) → Acts P m P m F
acts_none F f = record { follows = λ h p. ([], p, refl, tt, f h p) }

pub acts_one : {P : History → Type 0} {m : Medium} {Q : History → Type 0} {n : Medium} (F : History → Type 0) (e : Event)
    → Happens P m e Q n → (Allowed m e n → F (step m e n ∷ [])) → Acts P m Q n F
acts_one F e r f = record { follows = λ h p. let a = r.follows h p in (step _ e _ ∷ [], a.1, (refl, refl), (a.0, tt), f a.0) }

pub acts_more : {P : History → Type 0} {m : Medium} {Q : History → Type 0} {n : Medium} {R : History → Type 0} {o : Medium} (F G H : History → Type 0)
    → Acts P m Q n F → Acts Q n R o G
    → ((t u : History) → Leads m t n → AllByRecursion IsAllowed t → Leads n u o → AllByRecursion IsAllowed u → F t → G u → H (u ++ t))
    → Acts P m R o H
acts_more {P} {m} {Q} {n} {R} {o} F G H k l f = record {
  follows = λ h i.
      let a = k.follows h i in
      let t = a.0 in
      let b = l.follows (t ++ h) a.1 in
      let u = b.0 in (
        u ++ t,
        subst R (sym (append_assoc u t h)) b.1,
        leads_more m n o t u a.2 b.2,
        All-append IsAllowed u t b.3 a.3,
        f t u a.2 a.3 b.2 b.3 a.4 b.4,
      );
}

pub events_more : (t u : History) (es fs : List Event) → events_of t ≡ es → events_of u ≡ fs → events_of (u ++ t) ≡ fs ++ es
events_more t u es fs e f = map-append (λ (s : Step). s.event) u t ∙ (λ k. f k ++ e k)

pub acts_weaker : {P : History → Type 0} {m : Medium} {Q : History → Type 0} {n : Medium} (F G : History → Type 0)
    → Acts P m Q n F → ((t : History) → Leads m t n → F t → G t) → Acts P m Q n G
acts_weaker F G k f = record { follows = λ h i. let a = k.follows h i in (a.0, a.1, a.2, a.3, f a.0 a.2 a.4) }

-- reads are calls
read_allowed : (s : Step) → IsRead s → IsAllowed s
read_allowed s (p, b, a, e, r) = subst (λ v. Allowed s.before v s.after) (sym e) r

pub acts_looks : {P : History → Type 0} {m : Medium} {Q : History → Type 0} {n : Medium} (F G : History → Type 0)
    → Looks P m Q n F → ((t : History) → Leads m t n → AllByRecursion IsRead t → F t → G t) → Acts P m Q n G
acts_looks F G k f = record {
  follows = λ h i.
      let a = k.follows h i in
      (a.0, a.1, a.2, All-weaker IsRead IsAllowed read_allowed a.0 a.3, f a.0 a.2 a.3 a.4);
}
