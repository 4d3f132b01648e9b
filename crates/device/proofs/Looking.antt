-- What reads keep, and how stretches of them are put together.
use Rattle.std.proofs.Common.{◌≡◌, ℕ, List, [], ◌∷◌, ◌++◌, Ok, Err, Result, sym, refl, ap, ◌∙◌, subst, append_assoc}
use Rattle.std.specs.List.{AllByRecursion}
use Rattle.std.proofs.ByRecursion.{All-append}
use Rattle.device.specs.Medium.{Medium}
use Rattle.device.specs.Calls.{Keeps, Reads}
use Rattle.device.specs.History.{did_read, step, History, Leads}
use Rattle.device.specs.Looking.{IsRead, Looks, read_in, pages_read}
use Rattle.device.specs.declared.fault.DeviceFault.{DeviceFault}
use Rattle.device.specs.declared.fault.DeviceFault.TheVariants.{Outside, Off}

pub keeps_same : (m : Medium) → Keeps m m
keeps_same m = record { same_size = refl; same_bytes = λ p. refl; stays_durable = λ p e. e }

pub keeps_more : {m n o : Medium} → Keeps m n → Keeps n o → Keeps m o
keeps_more k l = record {
  same_size = l.same_size ∙ k.same_size;
  same_bytes = λ p. l.same_bytes p ∙ k.same_bytes p;
  stays_durable = λ p e. l.stays_durable p (k.stays_durable p e);
}

-- the bytes of all pages, as one function
pub same_pages : {m n : Medium} → Keeps m n → n.bytes ≡ m.bytes
same_pages k = λ i p. k.same_bytes p i

-- one read
pub read_keeps : (m : Medium) (p : ℕ) (b : List ℕ) (a : Result Unit DeviceFault) (n : Medium) → Reads m p b a n → Keeps m n
read_keeps m p b (Ok _) n r = r.3
read_keeps m p b (Err Outside) n r = subst (Keeps m) (sym r.2) (keeps_same m)
read_keeps m p b (Err Off) n r = r.3

-- reads that lead from m to n
pub reads_keep : (m : Medium) (t : History) (n : Medium) → Leads m t n → AllByRecursion IsRead t → Keeps m n
reads_keep m [] n l a = subst (Keeps m) (sym l) (keeps_same m)
reads_keep m (s ∷ t) n l a =
    let k = reads_keep m t s.before l.1 a.1 in
    subst (Keeps m) (sym l.0) (keeps_more k (read_keeps s.before a.0.0 a.0.1 a.0.2 s.after a.0.4))

pub leads_more : (m n o : Medium) (t u : History) → Leads m t n → Leads n u o → Leads m (u ++ t) o
leads_more m n o t [] l k = subst (Leads m t) (sym k) l
leads_more m n o t (s ∷ u) l k = (k.0, leads_more m n s.before t u l k.1)

pub pages_read_append : (u t : History) → pages_read (u ++ t) ≡ pages_read u ++ pages_read t
pages_read_append [] t = refl
pages_read_append (s ∷ u) t =
    ap (λ ps. read_in s.event ++ ps) (pages_read_append u t) ∙ sym (append_assoc (read_in s.event) (pages_read u) (pages_read t))

-- no call at all, one read, and one stretch after another
pub looks_none : {P : History → Type 0} {m : Medium} (F : History → Type 0) → ((h : History) → P h → F []) → Looks P m P m F
looks_none F f = record { follows = λ h p. ([], p, refl, tt, f h p) }

pub looks_one : {P : History → Type 0} {m : Medium} {Q : History → Type 0} {n : Medium} (F : History → Type 0) (p : ℕ) (b : List ℕ) (a : Result Unit DeviceFault)
    → ((h : History) → P h → Reads m p b a n × Q (step m (did_read p b a) n ∷ h))
    → ((h : History) → P h → Reads m p b a n → F (step m (did_read p b a) n ∷ []))
    → Looks P m Q n F
looks_one F p b a r f =
    record { follows = λ h i. let e = r h i in (step _ (did_read p b a) _ ∷ [], e.1, (refl, refl), ((p, b, a, refl, e.0), tt), f h i e.0) }

pub looks_more : {P : History → Type 0} {m : Medium} {Q : History → Type 0} {n : Medium} {R : History → Type 0} {o : Medium} (F G H : History → Type 0)
    → Looks P m Q n F → Looks Q n R o G
    → ((t u : History) → Leads m t n → AllByRecursion IsRead t → Leads n u o → AllByRecursion IsRead u → F t → G u → H (u ++ t))
    → Looks P m R o H
looks_more {P} {m} {Q} {n} {R} {o} F G H k l f = record {
  follows = λ h i.
      let a = k.follows h i in
      let t = a.0 in
      let b = l.follows (t ++ h) a.1 in
      let u = b.0 in (
        u ++ t,
        subst R (sym (append_assoc u t h)) b.1,
        leads_more m n o t u a.2 b.2,
        All-append IsRead u t b.3 a.3,
        f t u a.2 a.3 b.2 b.3 a.4 b.4,
      );
}
