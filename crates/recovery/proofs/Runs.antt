-- A run, call after call.
use Rattle.std.proofs.Common.{◌≡◌, List, [], ◌∷◌, ◌++◌, None, Option, Result, sym, refl, ap, ◌∙◌, subst, append_assoc, append-nil}
use Rattle.std.specs.List.{AllByRecursion}
use Rattle.device.specs.Medium.{Medium}
use Rattle.device.specs.History.{History, Leads}
use Rattle.faults.specs.declared.fault.StoreFault.{StoreFault}
use Rattle.store.specs.Acting.{IsAllowed, Acts}
use Rattle.store.specs.Client.{Does}
use Rattle.store.specs.Snapshots.{Snapshot, snap, IsSound}
use Rattle.store.specs.Versions.{Sound, Forgotten}
use Rattle.store.specs.declared.state.State.TheVariants.{Shut}
use Rattle.store.specs.declared.store.Store.{Store}
use Rattle.store.specs.declared.client.Answer.{Answer}
use Rattle.store.specs.declared.client.Call.{Call}
use Rattle.recovery.specs.Premise.{Premise}
use Rattle.recovery.specs.Promise.{Segment, Since, since, on_by, Claims, Passes, calls_of, New, Keeps}
use Rattle.recovery.specs.Record.{Record, recorded}
use Rattle.recovery.proofs.EachCall.{segment, Follows, follows_agrees, stays_sound, each_goes}

pub premise_before : (base : Medium) (t h : History) → Premise base (t ++ h) → Premise base h
premise_before base [] h p = p
premise_before base (s ∷ t) h p = premise_before base t h p.0

calls_more : (ss : List Segment) (s : Segment) → calls_of (ss ++ s ∷ []) ≡ s.calls ++ calls_of ss
calls_more [] s = sym (append-nil s.calls)
calls_more (r ∷ ss) s = ap (λ t. t ++ r.calls) (calls_more ss s) ∙ append_assoc s.calls (calls_of ss) r.calls

passes_more : (s₀ : Snapshot) (cs : List Call) (bs : List (Result Answer StoreFault)) (ss : List Segment) (s : Snapshot) (c : Call) (a : Result Answer StoreFault) (r : Segment)
    → Passes s₀ cs bs ss s → Does c s r.after a r.calls → Leads s.medium r.calls r.after.medium → AllByRecursion IsAllowed r.calls
    → Passes s₀ (cs ++ c ∷ []) (bs ++ a ∷ []) (ss ++ r ∷ []) r.after
passes_more s₀ [] [] [] s c a r p d l w =
    (subst (λ (v : Snapshot). Does c v r.after a r.calls) p d, subst (λ (v : Snapshot). Leads v.medium r.calls r.after.medium) p l, w, refl)
passes_more s₀ [] [] (g ∷ gs) s c a r p d l w = absurd p
passes_more s₀ [] (b ∷ bs) ss s c a r p d l w = absurd p
passes_more s₀ (e ∷ cs) [] ss s c a r p d l w = absurd p
passes_more s₀ (e ∷ cs) (b ∷ bs) [] s c a r p d l w = absurd p
passes_more s₀ (e ∷ cs) (b ∷ bs) (g ∷ gs) s c a r p d l w = (p.0, p.1, p.2, passes_more g.after cs bs gs s c a r p.3 d l w)

-- The device's calls are w and the record is k after these calls, with their answers: whatever is claimed of further calls from
-- there on is claimed of all of them, from the medium m on.
abbrev pub Reaches : Medium → List Call → List (Result Answer StoreFault) → List Segment → Since → Option Record → Type 0
Reaches m cs bs ss w k =
    (ds : List Call) (es : List (Result Answer StoreFault)) (ts : List Segment) → Claims Premise w k ds es ts
    → Claims Premise (since m []) None (cs ++ ds) (bs ++ es) (ss ++ ts)

claims_as : (w : Since) (k : Option Record) (cs cs' : List Call) (bs bs' : List (Result Answer StoreFault)) (ss ss' : List Segment) → cs ≡ cs' → bs ≡ bs' → ss ≡ ss'
    → Claims Premise w k cs bs ss → Claims Premise w k cs' bs' ss'
claims_as w k cs cs' bs bs' ss ss' e f g c =
    subst (λ (x : List Call). Claims Premise w k x bs' ss') e (subst (λ (y : List (Result Answer StoreFault)). Claims Premise w k cs y ss') f (subst (λ (z : List Segment). Claims Premise w k cs bs z) g c))

-- the store z, whose device has the histories Q, after these calls from the medium m on, where P were its histories
pub record Going (P : History → Type 0) (m : Medium) (Q : History → Type 0) (z : Snapshot) (cs : List Call) (bs : List (Result Answer StoreFault)) : Type 0 where
  pub runs : (h : History) → P h
      → (s : Snapshot) × (ss : List Segment) × (w : Since) × (k : Option Record)
      × Q (calls_of ss ++ h) × New m s × Passes s cs bs ss z × IsSound z
      × Reaches m cs bs ss w k × (Premise w.base w.calls → Follows w k z)

-- no call at all
going_none : {P : History → Type 0} (m : Medium) (s : Snapshot) → New m s → Going P m P s [] []
going_none m s n = record {
  runs = λ h p. (s, [], since m [], None, p, n, refl, subst (λ v. Sound s.medium v s.held) (sym n.shut) tt, (λ ds es ts c. c), (λ _. tt));
}

pub going_new : {D : Type 0} (past : D → History → Type 0) (medium : D → Medium) (d : D) (z : Store D) → z.device ≡ d → z.state ≡ Shut → Forgotten z.held
    → Going (past d) (medium d) (past z.device) (snap (medium z.device) z.state z.held) [] []
going_new {D} past medium d z same shut forgotten =
    subst (λ (e : D). Going (past e) (medium e) (past z.device) (snap (medium z.device) z.state z.held) [] []) same
    (going_none (medium z.device) (snap (medium z.device) z.state z.held) (record { medium = refl; shut = shut; forgotten = forgotten }))

module _ {P : History → Type 0} {m : Medium} {Q : History → Type 0} {R : History → Type 0} (s z : Snapshot) (cs : List Call) (bs : List (Result Answer StoreFault)) (c : Call) (a : Result Answer StoreFault) where
  -- one call more
  pub going_more : Going P m Q s cs bs → Acts Q s.medium R z.medium (λ t. Does c s z a t) → Going P m R z (cs ++ c ∷ []) (bs ++ a ∷ [])
  going_more g x = record {
    runs = λ h p.
        let i = g.runs h p in
        let s₀ = i.0 in
        let ss = i.1 in
        let w = i.2 in
        let k = i.3 in
        let y = x.follows (calls_of ss ++ h) i.4 in
        let u = y.0 in
        let r : Segment = segment u z in
        let goes = each_goes c s z a u y.2 y.4 i.7 w k (λ q. i.9 (premise_before w.base u w.calls q)) in (
          s₀,
          ss ++ r ∷ [],
          on_by c a r w,
          recorded k c a,
          subst R (ap (λ v. v ++ h) (sym (calls_more ss r))) (subst R (sym (append_assoc u (calls_of ss) h)) y.1),
          i.5,
          passes_more s₀ cs bs ss s c a r i.6 y.4 y.2 y.3,
          stays_sound c s z a u y.4 i.7,
          λ ds es ts q.
              claims_as (since m []) None _ _ _ _ _ _ (sym (append_assoc cs (c ∷ []) ds)) (sym (append_assoc bs (a ∷ []) es)) (sym (append_assoc ss (r ∷ []) ts))
              (i.8 (c ∷ ds) (a ∷ es) (r ∷ ts) (goes.1, (λ p. follows_agrees _ _ _ (goes.0 p)), q)),
          goes.0,
        );
  }

pub going_all : {P : History → Type 0} {m : Medium} {Q : History → Type 0} (z : Snapshot) (cs : List Call) (bs : List (Result Answer StoreFault)) → Going P m Q z cs bs → Keeps Premise P m Q z cs bs
going_all {P} {m} {Q} z cs bs g = λ h p.
    let i = g.runs h p in
    (i.0, i.1, i.4, i.5, i.6, claims_as (since m []) None _ _ _ _ _ _ (append-nil cs) (append-nil bs) (append-nil i.1) (i.8 [] [] [] tt))
