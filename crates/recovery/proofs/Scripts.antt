-- A run over a script, as the answers are put in one after another.
use Rattle.std.proofs.Common.{◌≡◌, ℕ, suc, ◌+◌, ◌<◌, ◌≤◌, List, [], ◌∷◌, ◌++◌, length, map, take, set, get_or, Some, Result, sym, refl, ap, subst, add-one, length-append, arith}
use Rattle.std.proofs.lemmas.List.{take_all}
use Rattle.device.specs.Medium.{Medium}
use Rattle.device.specs.History.{History}
use Rattle.faults.specs.declared.fault.StoreFault.{StoreFault}
use Rattle.store.specs.Acting.{Acts}
use Rattle.store.specs.Client.{Does}
use Rattle.store.specs.Snapshots.{Snapshot, snap}
use Rattle.store.specs.declared.client.Answer.{Answer}
use Rattle.store.specs.declared.client.Call.{Call}
use Rattle.store.specs.declared.store.Store.{Store}
use Rattle.recovery.specs.Premise.{Premise}
use Rattle.recovery.specs.Runs.{with_answers, RunsTo}
use Rattle.recovery.specs.declared.running.Entry.{Entry}
use Rattle.recovery.proofs.Runs.{Going, going_more, going_all}

-- the calls of the first n entries
abbrev pub calls_of_first : ℕ → List Entry → List Call
calls_of_first n es = map (λ e. e.call) (take n es)

-- the entry e, answered
abbrev pub answered_by : Result Answer StoreFault → Entry → Entry
answered_by b e = record { call = e.call; answer = Some b }

-- the next answer goes beside the next call
pub with_more : (es : List Entry) (bs : List (Result Answer StoreFault)) (b : Result Answer StoreFault) (x : Entry) → length bs < length es
    → set (with_answers es bs) (length bs) (answered_by b (get_or (with_answers es bs) (length bs) x)) ≡ with_answers es (bs ++ b ∷ [])
with_more [] bs b x l = absurd (omega arith)
with_more (e ∷ es) [] b x l = refl
with_more (e ∷ es) (c ∷ bs) b x l = ap (λ v. answered_by c e ∷ v) (with_more es bs b x (omega arith))

pub first_more : (es : List Entry) (bs : List (Result Answer StoreFault)) (x : Entry) → length bs < length es
    → calls_of_first (suc (length bs)) es ≡ calls_of_first (length bs) es ++ (get_or (with_answers es bs) (length bs) x).call ∷ []
first_more [] bs x l = absurd (omega arith)
first_more (e ∷ es) [] x l = refl
first_more (e ∷ es) (c ∷ bs) x l = ap (λ v. e.call ∷ v) (first_more es bs x (omega arith))

-- The script after the calls of its first i entries: these have their answers, and the store has gone on by them.
pub record Answered (P : History → Type 0) (m : Medium) (Q : History → Type 0) (z : Snapshot) (script after : List Entry) (i : ℕ) : Type 0 where
  pub answers : List (Result Answer StoreFault)
  pub count : length answers ≡ i
  pub put : after ≡ with_answers script answers
  pub going : Going P m Q z (calls_of_first i script) answers

pub answered_none : {P : History → Type 0} {m : Medium} {Q : History → Type 0} (z : Snapshot) (script : List Entry) → Going P m Q z [] [] → Answered P m Q z script script 0
answered_none z script w = record { answers = []; count = refl; put = refl; going = w }

pub answered_more : {P : History → Type 0} {m : Medium} {Q : History → Type 0} {R : History → Type 0} (s z : Snapshot) (script after : List Entry) (i : ℕ) (x : Entry) (a : Result Answer StoreFault)
    → i < length script → Answered P m Q s script after i → Acts Q s.medium R z.medium (λ t. Does (get_or after i x).call s z a t)
    → Answered P m R z script (set after i (answered_by a (get_or after i x))) (i + 1)
answered_more {P} {m} {Q} {R} s z script after i x a l w acts =
    let bs = w.answers in
    let n = length bs in
    let same : i ≡ n = sym w.count in
    let below : n < length script = omega arith in
    let next : calls_of_first (i + 1) script ≡ calls_of_first i script ++ (get_or after i x).call ∷ [] = rw (add-one, w.put, same) (first_more script bs x below) in
    record {
      answers = bs ++ a ∷ [];
      count = simp length-append (omega arith);
      put = rw (w.put, same) (with_more script bs a x below);
      going = subst (λ cs. Going P m R z cs (bs ++ a ∷ [])) (sym next) (going_more s z _ bs (get_or after i x).call a w.going acts);
    }

-- the whole of a run
pub run_goes : {D : Type 0} (past : D → History → Type 0) (medium : D → Medium) (d : D) (z : Store D) (script after : List Entry) (i : ℕ) → length script ≤ i
    → Answered (past d) (medium d) (past z.device) (snap (medium z.device) z.state z.held) script after i → RunsTo past medium Premise (past d) d script after z
run_goes past medium d z script after i l w =
    let going = subst (λ es. Going (past d) (medium d) (past z.device) (snap (medium z.device) z.state z.held) (map (λ e. e.call) es) w.answers) (take_all i script l) w.going in
    (w.answers, w.put, going_all _ _ _ going)
