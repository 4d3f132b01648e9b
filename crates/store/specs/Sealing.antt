-- How a version is made durable: what was written before it, then its meta page.
use Rattle.std.specs.Prelude.{◌≡◌, ℕ, ◌%◌, ◌⊎◌, [], ◌∷◌, Ok, Err, Result}
use Rattle.device.specs.Medium.{Medium}
use Rattle.device.specs.Calls.{Writes, Syncs}
use Rattle.device.specs.History.{History, step, did_write, did_sync}
use Rattle.device.specs.declared.fault.DeviceFault.{DeviceFault}
use Rattle.meta.specs.Layout.{meta_page}
use Rattle.meta.specs.declared.Meta.{Meta}

-- the page of a meta's number
abbrev pub page_for : Meta → ℕ
page_for x = x.commit % 2

-- the first sync was refused
abbrev pub StopsAtFirst : (f : DeviceFault) → Medium → Medium → History → Type 0
StopsAtFirst f m n t = Syncs m (Err f) n × (t ≡ step m (did_sync (Err f)) n ∷ [])

-- the write of the meta page was refused
abbrev pub StopsAtWrite : (f : DeviceFault) → Meta → Medium → Medium → History → Type 0
StopsAtWrite f x m n t = (m₁ : Medium)
    × Syncs m (Ok tt) m₁ × Writes m₁ (page_for x) (meta_page x) (Err f) n
    × (t ≡ step m₁ (did_write (page_for x) (meta_page x) (Err f)) n ∷ step m (did_sync (Ok tt)) m₁ ∷ [])

-- the calls up to the last sync, which answers r
abbrev pub ComesToLast : Result Unit DeviceFault → Meta → Medium → Medium → History → Type 0
ComesToLast r x m n t = (m₁ : Medium) × (m₂ : Medium)
    × Syncs m (Ok tt) m₁ × Writes m₁ (page_for x) (meta_page x) (Ok tt) m₂ × Syncs m₂ r n
    × (t ≡ step m₂ (did_sync r) n ∷ step m₁ (did_write (page_for x) (meta_page x) (Ok tt)) m₂ ∷ step m (did_sync (Ok tt)) m₁ ∷ [])

-- sync, the meta page, sync: the calls t that led from m to n, with their answer
abbrev pub Seals : Meta → Medium → Medium → History → Result Unit DeviceFault → Type 0
Seals x m n t (Ok u) = ComesToLast (Ok tt) x m n t
Seals x m n t (Err f) = StopsAtFirst f m n t ⊎ (StopsAtWrite f x m n t ⊎ ComesToLast (Err f) x m n t)
