-- What is asked of a device beyond its rules.
use Rattle.std.specs.Prelude.{◌≡◌, ℕ, ◌<◌, true, ◌⊎◌, [], ◌∷◌, Some}
use Rattle.device.specs.Medium.{Medium}
use Rattle.device.specs.History.{Event, did_read, did_write, did_sync, power_returned, History, last_durable, last_written}
use Rattle.meta.specs.Test.{read_meta}
use Rattle.meta.specs.declared.Meta.{Meta}

-- A power return makes up no meta page: one that was volatile and passes its test holds the bytes that the page had when
-- it was last durable, or those of its last write, refused or not. The calls h led to it from the medium `base`.
abbrev pub MakesUpNone : (base : Medium) (h : History) → Medium → Event → Medium → Type 0
MakesUpNone base h m (did_read p b r) n = Unit {0}
MakesUpNone base h m (did_write p b r) n = Unit {0}
MakesUpNone base h m (did_sync r) n = Unit {0}
MakesUpNone base h m power_returned n =
    (p : ℕ) → p < 2 → m.volatile p ≡ true → (x : Meta) → read_meta p n.size (n.bytes p) ≡ Some x
    → (n.bytes p ≡ last_durable base h p) ⊎ (n.bytes p ≡ last_written base h p)

-- none of the calls does
abbrev pub Premise : (base : Medium) → History → Type 0
Premise base [] = Unit {0}
Premise base (s ∷ h) = Premise base h × MakesUpNone base h s.before s.event s.after
