-- What the contracts of a disk say of each copy of its pages: the bytes, the durable bytes, and the marks.
use Rattle.std.proofs.Common.{◌≡◌, ℕ, zero, suc, Bool, true, false, cond, List, [], ◌∷◌, length, map, set, replicate, is_ok, Result, refl, ap, ◌∙◌}
use Rattle.std.proofs.lemmas.List.{map-set}
use Rattle.device.specs.Medium.{zeros}
use Rattle.device.specs.declared.fault.DeviceFault.{DeviceFault}
use Rattle.disks.specs.declared.stored.Stored.{Ghosts}
use Rattle.disks.specs.declared.disk.Disk.{Disk}
use Rattle.disks.specs.Kept.{Kept, blank, written, settled, restored, page_at}
use Rattle.disks.specs.Disks.{pages_of, DiskReads, DiskWrites, DiskSyncs, DiskReturns}

unfoldable pub bytes_of : List Kept → List (List ℕ)
bytes_of = map (λ k. k.bytes)

unfoldable pub durable_of : List Kept → List (List ℕ)
durable_of = map (λ k. k.durable)

unfoldable pub changed_of : List Kept → List Bool
changed_of = map (λ k. k.volatile)

map_replicate : {A B : Type 0} (f : A → B) (n : ℕ) (x : A) → map f (replicate n x) ≡ replicate n (f x)
map_replicate f zero x = refl
map_replicate f (suc n) x = ap (λ l. f x ∷ l) (map_replicate f n x)

by_ok : {A B : Type 0} (f : List A → B) (o : Bool) (x y : List A) → f (cond o x y) ≡ cond o (f x) (f y)
by_ok f true x y = refl
by_ok f false x y = refl

bytes_written : (a : Bool) (b : List ℕ) (ks : List Kept) (p : ℕ) → bytes_of (set ks p (written a b (page_at ks p))) ≡ set (bytes_of ks) p b
unfolding bytes_of
bytes_written a b ks p = map-set (λ k. k.bytes) ks p (written a b (page_at ks p))

durable_written : (b : List ℕ) (ks : List Kept) (p : ℕ) → durable_of (set ks p (written false b (page_at ks p))) ≡ durable_of ks
unfolding durable_of
durable_written b [] p = refl
durable_written b (k ∷ ks) zero = refl
durable_written b (k ∷ ks) (suc p) = ap (λ l. k.durable ∷ l) (durable_written b ks p)

changed_written : (b : List ℕ) (ks : List Kept) (p : ℕ) → changed_of (set ks p (written false b (page_at ks p))) ≡ set (changed_of ks) p true
unfolding changed_of
changed_written b ks p = map-set (λ k. k.volatile) ks p (written false b (page_at ks p))

settled_bytes : (ks : List Kept) → (bytes_of (map settled ks) ≡ bytes_of ks) × (durable_of (map settled ks) ≡ bytes_of ks) × (changed_of (map settled ks) ≡ replicate (length ks) false)
unfolding bytes_of durable_of changed_of
settled_bytes [] = (refl, refl, refl)
settled_bytes (k ∷ ks) = let r = settled_bytes ks in (ap (λ l. k.bytes ∷ l) r.0, ap (λ l. k.bytes ∷ l) r.1, ap (λ l. false ∷ l) r.2)

restored_bytes : (ks : List Kept) → (bytes_of (map restored ks) ≡ durable_of ks) × (durable_of (map restored ks) ≡ durable_of ks) × (changed_of (map restored ks) ≡ replicate (length ks) false)
unfolding bytes_of durable_of changed_of
restored_bytes [] = (refl, refl, refl)
restored_bytes (k ∷ ks) = let r = restored_bytes ks in (ap (λ l. k.durable ∷ l) r.0, ap (λ l. k.durable ∷ l) r.1, ap (λ l. false ∷ l) r.2)

-- the pages of a new disk
pub made : (n : ℕ) → (bytes_of (replicate n blank) ≡ replicate n zeros) × (durable_of (replicate n blank) ≡ replicate n zeros) × (changed_of (replicate n blank) ≡ replicate n false)
unfolding bytes_of durable_of changed_of
made n = (map_replicate (λ k. k.bytes) n blank, map_replicate (λ k. k.durable) n blank, map_replicate (λ k. k.volatile) n blank)

module _ {S : Type 0} {g : Ghosts S} (d e : Disk S g) where
  -- A write replaces the bytes. Where it is not durable at once, it leaves the durable bytes, and marks the page.
  pub write_bytes : (p : ℕ) (b : List ℕ) (r : Result Unit DeviceFault) → DiskWrites d p b r e
      → bytes_of (pages_of e) ≡ cond (is_ok r) (set (bytes_of (pages_of d)) p b) (bytes_of (pages_of d))
  write_bytes p b r x =
      ap bytes_of x.replaces ∙ by_ok bytes_of (is_ok r) _ _ ∙ ap (λ l. cond (is_ok r) l (bytes_of (pages_of d))) (bytes_written g.at_once b (pages_of d) p)

  pub write_durable : g.at_once ≡ false → (p : ℕ) (b : List ℕ) (r : Result Unit DeviceFault) → DiskWrites d p b r e → durable_of (pages_of e) ≡ durable_of (pages_of d)
  write_durable n p b r x =
      ap durable_of (x.replaces ∙ ap (λ a. cond (is_ok r) (set (pages_of d) p (written a b (page_at (pages_of d) p))) (pages_of d)) n) ∙ either (is_ok r) where
        either : (o : Bool) → durable_of (cond o (set (pages_of d) p (written false b (page_at (pages_of d) p))) (pages_of d)) ≡ durable_of (pages_of d)
        either true = durable_written b (pages_of d) p
        either false = refl

  pub write_changed : g.at_once ≡ false → (p : ℕ) (b : List ℕ) (r : Result Unit DeviceFault) → DiskWrites d p b r e
      → changed_of (pages_of e) ≡ cond (is_ok r) (set (changed_of (pages_of d)) p true) (changed_of (pages_of d))
  write_changed n p b r x =
      ap changed_of (x.replaces ∙ ap (λ a. cond (is_ok r) (set (pages_of d) p (written a b (page_at (pages_of d) p))) (pages_of d)) n)
      ∙ by_ok changed_of (is_ok r) _ _ ∙ ap (λ l. cond (is_ok r) l (changed_of (pages_of d))) (changed_written b (pages_of d) p)

  -- a sync leaves the bytes, makes them the durable ones, and takes the marks away; one that is refused leaves all
  pub sync_copies : (r : Result Unit DeviceFault) → DiskSyncs d r e
      → (durable_of (pages_of e) ≡ cond (is_ok r) (bytes_of (pages_of d)) (durable_of (pages_of d)))
      × (changed_of (pages_of e) ≡ cond (is_ok r) (replicate (length (pages_of d)) false) (changed_of (pages_of d)))
  sync_copies r x = (
    ap durable_of x.settles ∙ by_ok durable_of (is_ok r) _ _ ∙ ap (λ l. cond (is_ok r) l (durable_of (pages_of d))) (settled_bytes (pages_of d)).1,
    ap changed_of x.settles ∙ by_ok changed_of (is_ok r) _ _ ∙ ap (λ l. cond (is_ok r) l (changed_of (pages_of d))) (settled_bytes (pages_of d)).2,
  )

  pub sync_bytes : (r : Result Unit DeviceFault) → DiskSyncs d r e → bytes_of (pages_of e) ≡ bytes_of (pages_of d)
  sync_bytes r x = ap bytes_of x.settles ∙ either (is_ok r) where
    either : (o : Bool) → bytes_of (cond o (map settled (pages_of d)) (pages_of d)) ≡ bytes_of (pages_of d)
    either true = (settled_bytes (pages_of d)).0
    either false = refl

  -- a power return makes the durable bytes the bytes, and takes the marks away
  pub return_copies : DiskReturns d e
      → (bytes_of (pages_of e) ≡ durable_of (pages_of d)) × (durable_of (pages_of e) ≡ durable_of (pages_of d)) × (changed_of (pages_of e) ≡ replicate (length (pages_of d)) false)
  return_copies x = let r = restored_bytes (pages_of d) in (ap bytes_of x.restores ∙ r.0, ap durable_of x.restores ∙ r.1, ap changed_of x.restores ∙ r.2)

  -- a read leaves them all
  pub read_pages : (p : ℕ) (b : List ℕ) (r : Result Unit DeviceFault) → DiskReads d p b r e → pages_of e ≡ pages_of d
  read_pages p b r x = ap (λ v. map g.kept v.items) x.admits.same_pages
