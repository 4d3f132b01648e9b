-- Each page of an image and of a simulated disk holds 512 bytes.
use Rattle.std.specs.Prelude.{◌≡◌, ℕ, ◌*◌, ◌/◌, ◌<◌, List, [], ◌∷◌, length, map, take, drop}
use Rattle.std.proofs.Common.{zero, suc, arith, length-take, length-drop}
use Rattle.disks.specs.Kept.{Kept, page_at}

pub part_length : (bytes : List ℕ) (p : ℕ) → p < length bytes / 512 → length (take 512 (drop (p * 512) bytes)) ≡ 512
part_length bytes p h = simp (length-take, length-drop) (omega arith)

pub page_length : {S : Type 0} (kept : S → Kept) → ((s : S) → length (kept s).bytes ≡ 512) → (xs : List S) (p : ℕ) → p < length (map kept xs) → length (page_at (map kept xs) p).bytes ≡ 512
page_length kept full [] p h = absurd (omega arith)
page_length kept full (x ∷ xs) zero h = full x
page_length kept full (x ∷ xs) (suc p) h = page_length kept full xs p (omega arith)
