-- Each call of a client, from what the store promises of it.
use Rattle.std.proofs.Common.{◌≡◌, ℕ, List, Ok, Err, MatchResult, IsOkAnd, vec_items, Result, Option, Bool, Vec, sym, refl, ap, subst}
use Rattle.std.specs.List.{AllByRecursion}
use Rattle.std.specs.declared.alloc.Global.{Global}
use Rattle.cuts.specs.Nodes.{Pair}
use Rattle.device.specs.Medium.{Medium}
use Rattle.device.specs.History.{History, Happens, power_returned}
use Rattle.device.specs.Looking.{IsRead, Looks}
use Rattle.faults.specs.declared.fault.StoreFault.{StoreFault}
use Rattle.store.specs.Acting.{Acts, CallsIf}
use Rattle.store.specs.Calls.{ObeysIfSound}
use Rattle.store.specs.Client.{Does, ReadsMap, Steps, answered}
use Rattle.store.specs.Model.{Model, Stepped}
use Rattle.store.specs.Reading.{HandsIfSound}
use Rattle.store.specs.Snapshots.{Snapshot, snap}
use Rattle.store.specs.States.{can_read}
use Rattle.store.specs.Versions.{Forgotten}
use Rattle.store.specs.declared.client.Answer.{Answer}
use Rattle.store.specs.declared.client.Answer.TheVariants.{Cell, Done}
use Rattle.store.specs.declared.client.Call.{Call}
use Rattle.store.specs.declared.client.Call.TheVariants.{PowerReturn}
use Rattle.store.specs.declared.state.State.{State}
use Rattle.store.specs.declared.state.State.TheVariants.{Shut}
use Rattle.store.specs.declared.state.Held.{Held}
use Rattle.store.proofs.Acting.{acts_none, acts_one, acts_looks}

-- what `map` makes of a result
pub mapped : {A : Type 0} (f : A → Answer) (r : Result A StoreFault) (a : Result Answer StoreFault) → MatchResult r (λ x. IsOkAnd a (λ y. y ≡ f x)) (λ e. a ≡ Err e) → a ≡ answered f r
mapped f (Ok x) (Ok y) e = ap Ok e
mapped f (Ok x) (Err y) e = absurd e
mapped f (Err x) a e = e

-- a call that calls no device
pub steps_act : {D : Type 0} (past : D → History → Type 0) (medium : D → Medium) (d d' : D) (k l : Call) (model : Model → Stepped Unit) (s z : State) (b c : Held) (r : Result Unit StoreFault) (a : Result Answer StoreFault)
    → ((v w : Snapshot) (t : History) → Steps model v w a t → Does l v w a t) → k ≡ l → a ≡ answered (λ _. Done) r → d' ≡ d
    → ObeysIfSound (snap (medium d) s b) (snap (medium d') z c) model r
    → Acts (past d) (medium d) (past d') (medium d') (λ t. Does k (snap (medium d) s b) (snap (medium d') z c) a t)
steps_act {D} past medium d d' k l model s z b c r a is e q same step =
    subst (λ (k : Call). Acts (past d) (medium d) (past d') (medium d') (λ t. Does k (snap (medium d) s b) (snap (medium d') z c) a t)) (sym e)
    (subst (λ (v : D). ObeysIfSound (snap (medium d) s b) (snap (medium v) z c) model r → Acts (past d) (medium d) (past v) (medium v) (λ t. Does l (snap (medium d) s b) (snap (medium v) z c) a t)) (sym same)
    (λ m. acts_none _ (λ h p. is _ _ _ (r, q, refl, refl, m))) step)

module _ (P : History → Type 0) (m : Medium) (Q : History → Type 0) (n : Medium) (k : Call) (s z : State) (b c : Held) (a : Result Answer StoreFault) where
  abbrev pub ActsAs : Type 0
  ActsAs = Acts P m Q n (λ t. Does k (snap m s b) (snap n z c) a t)

  -- a read of the map
  pub read_acts : (l : Vec ℕ Global → Call) (fits : List ℕ → Bool) (want : List ℕ → List Pair → Option Pair)
      → ((v : Vec ℕ Global) (t : History) → ReadsMap (fits (vec_items v)) (want (vec_items v)) (snap m s b) (snap n z c) a t → Does (l v) (snap m s b) (snap n z c) a t)
      → (v : Vec ℕ Global) (key : List ℕ) (r : Result ℕ StoreFault) (buffer : List ℕ) → k ≡ l v → a ≡ answered Cell r → key ≡ vec_items v
      → Looks P m Q n (λ t. CallsIf (can_read s (fits key)) t (AllByRecursion IsRead t) × HandsIfSound (snap m s b) (snap n z c) (fits key) (want key) r buffer) → ActsAs
  read_acts l fits want is v key r buffer e q w looks =
      subst (λ (k : Call). Acts P m Q n (λ t. Does k (snap m s b) (snap n z c) a t)) (sym e)
      (acts_looks _ _ looks (λ t _ _ h. is v t (
        r,
        buffer,
        q,
        subst (λ y. CallsIf (can_read s (fits y)) t (AllByRecursion IsRead t)) w h.0,
        subst (λ y. HandsIfSound (snap m s b) (snap n z c) (fits y) (want y) r buffer) w h.1,
      )))

  pub return_acts : k ≡ PowerReturn → a ≡ Ok Done → z ≡ Shut → Forgotten c → Happens P m power_returned Q n → ActsAs
  return_acts e q w f h =
      subst (λ (k : Call). Acts P m Q n (λ t. Does k (snap m s b) (snap n z c) a t)) (sym e) (acts_one _ power_returned h (λ r. (q, w, f, r, refl)))
