use Rattle.std.proofs.Common.{false, Ok, Err, List, Option, sym, refl, subst, rules}
use Rattle.std.proofs.lemmas.Result.{err_from_is_err_and}
use Rattle.device.specs.Medium.{zeros}
use Rattle.device.specs.History.{did_read}
use Rattle.cache.specs.declared.copy.Copied.{Copied}
use Rattle.cache.specs.Held.{slot_at, copy_of, pages_in, Replaces}
use Rattle.cache.specs.Cached.{pages_of}
use Rattle.cache.proofs.Steps.{Passes}
use Rattle.cache.proofs.Fetched.{fetches_crowded, fetches_lost, fetches_done, placed_there}
use Rattle.cache.proofs.Places.{finding_new}
use Rattle.cache.proofs.cache.Cache.fetch.Goals as goal

pub returns-in_err-place-clause-fetches : goal.returns-in_err-place-clause-fetches
returns-in_err-place-clause-fetches g c =
    let q = err_from_is_err_and c.from_residual.result c.from_residual.ensures.1 in
    let h = c.in_err-place.ensures in
    rw (q.1, q.2) (fetches_crowded _ _ _ (finding_new _ _ c.requires.misses h))

pub returns-in_err-bytes-clause-fetches : goal.returns-in_err-bytes-clause-fetches
returns-in_err-bytes-clause-fetches g c =
    let q = err_from_is_err_and c.from_residual-in_err-bytes.result c.from_residual-in_err-bytes.ensures.1 in
    let h = c.in_ok-place.ensures in
    let p : Passes g.D.Reader c.room.new.self (did_read c.args.page zeros (Err c.in_err-bytes.field-0.0)) (Err c.in_err-bytes.field-0.0) c.ask.new.self = search rules in
    rw (q.1, q.2) (fetches_lost _ _ _ _ (finding_new _ _ c.requires.misses h) p)

pub put-requires : goal.put-requires
put-requires g c =
    let h = c.in_ok-place.ensures in
    let p : Passes g.D.Reader c.room.new.self (did_read c.args.page c.in_ok-bytes.bytes (Ok tt)) (Ok tt) c.ask.new.self = search rules in
    (placed_there c.args.page c.in_ok-place.place (finding_new _ _ c.requires.misses h) p).apart

pub returns : goal.returns
returns g c =
    let h = c.in_ok-place.ensures in
    let p : Passes g.D.Reader c.room.new.self (did_read c.args.page c.in_ok-bytes.bytes (Ok tt)) (Ok tt) c.ask.new.self = search rules in
    let i = c.in_ok-place.place in
    let ss = pages_of c.ask.new.self in
    let k : Copied = record { page = c.args.page; changed = false; bytes = c.in_ok-bytes.bytes } in
    let r : Replaces (slot_at ss i.number) k (copy_of ss) (copy_of (pages_in c.touch.new.self.all)) =
    subst (λ (ts : List (Option Copied)). Replaces (slot_at ss i.number) k (copy_of ss) (copy_of ts)) (sym c.touch.ensures) c.put.ensures.replaces in
    let f = fetches_done {t = c.touch.new.self} i k (finding_new c.args.page _ c.requires.misses h) p c.requires.misses refl r in
    record { meaning = f.0; fetches = f.1 }
