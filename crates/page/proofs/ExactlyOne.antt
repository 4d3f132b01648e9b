-- Each list of cells has exactly one page that reading accepts.
use Rattle.std.proofs.Common.{◌≡◌, ℕ, zero, suc, ◌-◌, ◌*◌, ◌/◌, ◌%◌, ◌^◌, ◌<◌, true, not, List, [], ◌∷◌, ◌++◌, length, is_some, Some, None, Option, sym, refl, ap, ◌∙◌, arith}
use lib.Bits.{bit_xor, xor_lt}
use Rattle.std.specs.List.{AllByRecursion}
use Rattle.std.proofs.lemmas.Slice.Eq.{bytes_eq-Decides}
use Rattle.std.proofs.lemmas.Bool.{false≢true}
use Rattle.checksum.specs.Bytes.{le16, le32, zeros}
use Rattle.checksum.specs.Crc.{step, steps, crc_from, crc_of}
use Rattle.checksum.specs.Sealed.{is_sealed}
use Rattle.page.specs.Kinds.{Rules}
use Rattle.page.specs.Layout.{bodies, offsets, cost, header, laid_out, page_of}
use Rattle.page.specs.Laws.{Byte, PagesReadBack, NothingElseIsRead}
use Rattle.page.specs.Reading.{first_fault, sound}
use Rattle.page.proofs.Pages.{cells_are, leftmost_is}
use Rattle.page.proofs.Sealing.{checksum_laid, page_shows}
use Rattle.page.proofs.Sounds.{accepted, sound_none, page_sound}

-- the checksum is a word
step_small : (r : ℕ) → r < 2 ^ 32 → step r < 2 ^ 32
step_small r h = xor_lt 32 (r / 2) (r % 2 * 0xEDB88320) (omega arith) (omega arith)

steps_small : (n r : ℕ) → r < 2 ^ 32 → steps n r < 2 ^ 32
steps_small zero r h = h
steps_small (suc n) r h = steps_small n (step r) (step_small r h)

from_small : (r : ℕ) (bs : List ℕ) → r < 2 ^ 32 → AllByRecursion Byte bs → crc_from r bs < 2 ^ 32
unfolding crc_from
from_small r [] h a = h
from_small r (b ∷ bs) h a = from_small (steps 8 (bit_xor r b)) bs (steps_small 8 (bit_xor r b) (xor_lt 32 r b h (omega (arith, a.0)))) a.1

crc_small : (bs : List ℕ) → AllByRecursion Byte bs → crc_of bs < 2 ^ 32
unfolding crc_of
crc_small bs a = xor_lt 32 (crc_from 0xFFFFFFFF bs) 0xFFFFFFFF (from_small 0xFFFFFFFF bs (omega arith) a) (omega arith)

-- a page of bytes
all_append : (xs ys : List ℕ) → AllByRecursion Byte xs → AllByRecursion Byte ys → AllByRecursion Byte (xs ++ ys)
all_append [] ys a b = b
all_append (x ∷ xs) ys a b = (a.0, all_append xs ys a.1 b)

bytes16 : (x : ℕ) → AllByRecursion Byte (le16 x)
bytes16 x = (omega arith, (omega arith, tt))

bytes32 : (x : ℕ) → AllByRecursion Byte (le32 x)
bytes32 x = (omega arith, (omega arith, (omega arith, (omega arith, tt))))

offsets_bytes : (top : ℕ) (cells : List (List ℕ)) → AllByRecursion Byte (offsets top cells)
unfolding offsets
offsets_bytes top [] = tt
offsets_bytes top (c ∷ cs) = all_append (le16 (top - length c)) (offsets (top - length c) cs) (bytes16 (top - length c)) (offsets_bytes (top - length c) cs)

bodies_bytes : (cells : List (List ℕ)) → AllByRecursion (AllByRecursion Byte) cells → AllByRecursion Byte (bodies cells)
unfolding bodies
bodies_bytes [] a = tt
bodies_bytes (c ∷ cs) a = all_append (bodies cs) c (bodies_bytes cs a.1) a.0

zeros_bytes : (n : ℕ) → AllByRecursion Byte (zeros n)
zeros_bytes zero = tt
zeros_bytes (suc n) = (omega arith, zeros_bytes n)

header_bytes : (k l q n w : ℕ) → Byte k → AllByRecursion Byte (header k l q n w)
header_bytes k l q n w h =
    let children : AllByRecursion Byte (0 ∷ 0 ∷ (le32 l ++ le32 q)) = (omega arith, (omega arith, all_append (le32 l) (le32 q) (bytes32 l) (bytes32 q))) in
    (h, (omega arith, all_append (le16 n) (le16 w ++ 0 ∷ 0 ∷ (le32 l ++ le32 q)) (bytes16 n) (all_append (le16 w) (0 ∷ 0 ∷ (le32 l ++ le32 q)) (bytes16 w) children)))

laid_bytes : (k l q : ℕ) (cells : List (List ℕ)) → Byte k → AllByRecursion (AllByRecursion Byte) cells → AllByRecursion Byte (laid_out k l q cells)
unfolding laid_out
laid_bytes k l q cells h a =
    all_append (header k l q (length cells) (512 - length (bodies cells))) (offsets 512 cells ++ (zeros (496 - cost cells) ++ bodies cells)) (header_bytes k l q (length cells) (512 - length (bodies cells)) h)
    (all_append (offsets 512 cells) (zeros (496 - cost cells) ++ bodies cells) (offsets_bytes 512 cells)
    (all_append (zeros (496 - cost cells)) (bodies cells) (zeros_bytes (496 - cost cells)) (bodies_bytes cells a)))

none_if : {X : Type 0} (o : Option X) → not (is_some o) ≡ true → o ≡ None
none_if None h = refl
none_if (Some x) h = absurd (false≢true h)

no_fault : (k : Rules) (b : List ℕ) → sound k b ≡ true → first_fault k b ≡ None
unfolding sound
no_fault k b h = none_if (first_fault k b) h

pub pages_read_back_lem : PagesReadBack
pages_read_back_lem k l cells kind child bytes f =
    let s = page_shows k.kind l cells f.room child (crc_small _ (laid_bytes k.kind l 0 cells kind bytes)) in
    (no_fault k _ (page_sound k l _ cells _ refl s f.goods f.child f.rises), leftmost_is s, cells_are s)

module _ (k l : ℕ) (cells : List (List ℕ)) where
  sum_right : (q : ℕ) → is_sealed (laid_out k l q cells) ≡ true → le32 q ≡ le32 (crc_of (laid_out k l 0 cells))
  unfolding is_sealed laid_out
  sum_right q h = (bytes_eq-Decides _ _).0 h ∙ ap le32 (checksum_laid k l cells q)

  by_sum : (q c : ℕ) → le32 q ≡ le32 c → laid_out k l q cells ≡ laid_out k l c cells
  unfolding laid_out
  by_sum q c e =
      ap (λ s. (k ∷ 0 ∷ (le16 (length cells) ++ (le16 (512 - length (bodies cells)) ++ (0 ∷ 0 ∷ (le32 l ++ s))))) ++ (offsets 512 cells ++ (zeros (496 - cost cells) ++ bodies cells))) e

  sealed_is : (q : ℕ) (b : List ℕ) → b ≡ laid_out k l q cells → is_sealed b ≡ true → b ≡ page_of k l cells
  unfolding page_of
  sealed_is q b e h = e ∙ by_sum q _ (sum_right q (ap is_sealed (sym e) ∙ h))

pub nothing_else_is_read_lem : NothingElseIsRead
nothing_else_is_read_lem k b bytes e =
    let a = accepted k b bytes (sound_none k b e) in
    let s = a.good.laid in
    (sealed_is k.kind _ _ _ b s.is a.seals, record { goods = a.good.goods; rises = a.rises; room = s.room; child = a.good.left })
