-- The client's record: what a client knows of its store, from its own calls and their answers alone. It knows nothing before
-- a format is accepted.
use Rattle.std.specs.Prelude.{ℕ, ◌+◌, Bool, false, cond, List, [], Some, None, Ok, Err, Option, Result, ◌==◌}
use Rattle.std.specs.Option.{option_map}
use Rattle.cuts.specs.Nodes.{Pair}
use Rattle.faults.specs.Numbers.{number as fault_number}
use Rattle.faults.specs.declared.fault.StoreFault.{StoreFault}
use Rattle.store.specs.declared.client.Answer.{Answer}
use Rattle.store.specs.declared.client.Answer.TheVariants.{Number, Cell, Done}
use Rattle.store.specs.declared.client.Call.{Call}
use Rattle.store.specs.declared.client.Call.TheVariants.{Format, Open, Begin, Get, After, Abort, Commit, PowerReturn}

-- The number of the last commit that was acknowledged or found, with its map; in a transaction the working map; and after
-- a commit that power interrupted, the map that may or may not have been committed by it.
pub record Record : Type 0 where
  pub number : ℕ
  pub committed : List Pair
  pub working : Option (List Pair)
  pub in_doubt : Option (List Pair)

abbrev pub record_of : ℕ → List Pair → Option (List Pair) → Option (List Pair) → Record
record_of c m w d = record { number = c; committed = m; working = w; in_doubt = d }

-- the working map, or where there is none, another
abbrev pub working_or : Option (List Pair) → List Pair → List Pair
working_or None m = m
working_or (Some w) m = w

-- of a store that was just formatted
abbrev pub fresh : Record
fresh = record_of 0 [] None None

abbrev pub no_working : Record → Record
no_working k = record_of k.number k.committed None k.in_doubt

abbrev pub no_doubt : Record → Record
no_doubt k = record_of k.number k.committed k.working None

-- whether it answers that the device is off
abbrev pub answers_off : Result Answer StoreFault → Bool
answers_off (Ok a) = false
answers_off (Err f) = fault_number f == 10

-- such an answer leaves no working map
abbrev pub unless_off : Result Answer StoreFault → Record → Record
unless_off a k = cond (answers_off a) (no_working k) k

abbrev pub begun : Record → Result Answer StoreFault → Record
begun k (Ok Done) = record_of k.number k.committed (Some k.committed) k.in_doubt
begun k (Ok (Number c)) = k
begun k (Ok (Cell c)) = k
begun k (Err f) = unless_off (Err f) k

abbrev pub aborted : Record → Result Answer StoreFault → Record
aborted k (Ok Done) = no_working k
aborted k (Ok (Number c)) = k
aborted k (Ok (Cell c)) = k
aborted k (Err f) = unless_off (Err f) k

-- an accepted commit makes the working map the committed one; an interrupted one puts it in doubt
abbrev pub now_committed : Record → Option (List Pair) → Record
now_committed k (Some w) = record_of (k.number + 1) w None None
now_committed k None = no_doubt k

abbrev pub now_in_doubt : Record → Option (List Pair) → Record
now_in_doubt k (Some w) = record_of k.number k.committed None (Some w)
now_in_doubt k None = no_working k

abbrev pub committed_by : Record → Result Answer StoreFault → Record
committed_by k (Ok a) = now_committed k k.working
committed_by k (Err f) = cond (answers_off (Err f)) (now_in_doubt k k.working) (no_working k)

-- an accepted opening that answers the next number has found the map in doubt; after any, none is in doubt
abbrev pub now_found : Record → Option (List Pair) → Record
now_found k (Some d) = record_of (k.number + 1) d k.working None
now_found k None = no_doubt k

abbrev pub opened_by : Record → Result Answer StoreFault → Record
opened_by k (Ok (Number c)) = cond (c == k.number + 1) (now_found k k.in_doubt) (no_doubt k)
opened_by k (Ok (Cell c)) = no_doubt k
opened_by k (Ok Done) = no_doubt k
opened_by k (Err f) = unless_off (Err f) k

-- an accepted format begins the record anew; after one that power interrupted, nothing is known of what the device holds
abbrev pub formatted_by : Option Record → Result Answer StoreFault → Option Record
formatted_by k (Ok a) = Some fresh
formatted_by k (Err f) = cond (answers_off (Err f)) None k

-- the record after a call and its answer
abbrev pub recorded : Option Record → Call → Result Answer StoreFault → Option Record
recorded k Format a = formatted_by k a
recorded k Open a = option_map (λ r. opened_by r a) k
recorded k Begin a = option_map (λ r. begun r a) k
recorded k (Get key) a = option_map (unless_off a) k
recorded k (After key) a = option_map (unless_off a) k
recorded k Abort a = option_map (λ r. aborted r a) k
recorded k Commit a = option_map (λ r. committed_by r a) k
recorded k PowerReturn a = option_map no_working k
