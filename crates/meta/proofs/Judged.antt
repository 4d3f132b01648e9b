-- What reading gives, by the parts of the meta test.
use Rattle.std.proofs.Common.{◌≡◌, ℕ, Bool, Decides, ◌%◌, ◌^◌, ◌<◌, ◌≤◌, true, false, cond, List, length, get_or, Some, None, sym, refl, ap, ◌∙◌, ⊎_elim, arith}
use Rattle.std.specs.Bool.{then_some}
use Rattle.std.proofs.lemmas.Slice.Eq.{bytes_eq-Decides}
use Rattle.std.proofs.lemmas.Bool.{and_parts, and_from, cases_Bool, both_ways, eqb-true, leb-true, ltb-true, eq-eqb, le-leb, lt-ltb, le-ltb, false≢true}
use Rattle.checksum.specs.Crc.{crc_of}
use Rattle.checksum.specs.Sealed.{is_sealed}
use Rattle.checksum.specs.Bytes.{zeros, word32, word64}
use Rattle.meta.specs.Layout.{laid_out, meta_page, meta_in}
use Rattle.meta.specs.Test.{is_good, passes, read_meta, newer}
use Rattle.meta.specs.Laws.{Fits, PagesReadBack, NothingElseIsRead, ZerosAreNotRead, TheNewerCounts, SixAndSevenGivesSeven, SevenIsNotForPageZero}
use Rattle.meta.specs.Shape.{Shaped, Good}
use Rattle.meta.specs.declared.Meta.{Meta}
use Rattle.checksum.proofs.Words.{Bytes, word32_small, word64_small}
use Rattle.meta.proofs.Pages.{page_laid, page_sealed, page_shaped, page_length, page_says, is_page}

pub good_from : (at pages : ℕ) (m : Meta) → is_good at pages m ≡ true → Good at pages m
unfolding is_good
good_from at pages m h =
    let p = and_parts _ _ h in
    let q = and_parts _ _ p.1 in
    let r = and_parts _ _ q.1 in
    let s = and_parts _ _ r.1 in
    let t = and_parts _ _ s.1 in
    record {
      pages = eqb-true _ _ p.0;
      low = leb-true _ _ q.0;
      high = ltb-true _ _ r.0;
      some = leb-true _ _ s.0;
      few = leb-true _ _ t.0;
      parity = eqb-true _ _ t.1;
    }

pub good_is : (at pages : ℕ) (m : Meta) → Good at pages m → is_good at pages m ≡ true
unfolding is_good
good_is at pages m g =
    and_from _ _ (eq-eqb _ _ g.pages) (and_from _ _ (le-leb _ _ g.low) (and_from _ _ (lt-ltb _ _ g.high)
    (and_from _ _ (le-leb _ _ g.some) (and_from _ _ (le-leb _ _ g.few) (eq-eqb _ _ g.parity)))))

module _ (at pages : ℕ) (b : List ℕ) where
  pub read_some : b ≡ meta_page (meta_in b) → Good at pages (meta_in b) → read_meta at pages b ≡ Some (meta_in b)
  unfolding read_meta passes
  read_some e g = ap (λ t. cond t (Some (meta_in b)) None) (and_from _ _ ((bytes_eq-Decides _ _).1 e) (good_is at pages (meta_in b) g))

  read_none : passes at pages b ≡ false → read_meta at pages b ≡ None
  unfolding read_meta
  read_none e = ap (λ t. cond t (Some (meta_in b)) None) e

  pub passing_page : passes at pages b ≡ true → b ≡ meta_page (meta_in b)
  unfolding passes
  passing_page h = (bytes_eq-Decides _ _).0 (and_parts _ _ h).0

  pub passing_good : passes at pages b ≡ true → Good at pages (meta_in b)
  unfolding passes
  passing_good h = good_from at pages (meta_in b) (and_parts _ _ h).1

  fails : (passes at pages b ≡ true → ⊥) → passes at pages b ≡ false
  fails h = ⊎_elim (λ t. absurd (h t)) (λ f. f) (cases_Bool (passes at pages b))

  none_unless : (passes at pages b ≡ true → ⊥) → read_meta at pages b ≡ None
  none_unless h = read_none (fails h)

  pub none_shape : (Shaped b → ⊥) → read_meta at pages b ≡ None
  none_shape h = none_unless (λ t. h (rw (passing_page t) (page_shaped (meta_in b))))

  pub none_seal : is_sealed b ≡ false → read_meta at pages b ≡ None
  none_seal h = none_unless (λ t. both_ways (is_sealed b) h (ap is_sealed (passing_page t) ∙ page_sealed (meta_in b)))

  pub none_good : (Good at pages (meta_in b) → ⊥) → read_meta at pages b ≡ None
  none_good h = none_unless (λ t. h (passing_good t))

-- what the code reads: what the bytes say, where it finds them a sealed page of the right shape with good numbers
pub read_judged : (at pages : ℕ) (b : List ℕ) → Bytes b → length b ≡ 512 → (p : Bool)
    → Decides p (Shaped b × (is_sealed b ≡ true) × Good at pages (meta_in b)) → then_some p (meta_in b) ≡ read_meta at pages b
read_judged at pages b bytes len true d =
    let h = d.0 refl in
    sym (read_some at pages b (is_page b bytes len h.0 h.1) h.2)
read_judged at pages b bytes len false d =
    sym (none_unless at pages b (λ t.
    false≢true (d.1 (rw (passing_page at pages b t) (page_shaped (meta_in b)), ap is_sealed (passing_page at pages b t) ∙ page_sealed (meta_in b), passing_good at pages b t))))

-- what is read is good, and read from its page
module _ (at pages : ℕ) (b : List ℕ) (m : Meta) (e : read_meta at pages b ≡ Some m) where
  read_passes : passes at pages b ≡ true
  read_passes =
      ⊎_elim (λ t. t) (λ f. let n = read_none at pages b f in let z : ◌≡◌ {A = ℕ} 0 1 = cc in absurd (omega arith)) (cases_Bool (passes at pages b))

  pub read_says : meta_in b ≡ m
  read_says =
      let g = read_some at pages b (passing_page at pages b read_passes) (passing_good at pages b read_passes) in
      cc

  pub read_page : b ≡ meta_page m
  read_page = passing_page at pages b read_passes ∙ ap meta_page read_says

  pub read_good : Good at pages m
  read_good = rw (← read_says) (passing_good at pages b read_passes)

pub pages_read_back_lem : PagesReadBack
pages_read_back_lem m at pages f g =
    let e = page_says m f in
    let r = read_some at pages (meta_page m) (ap meta_page (sym e)) (rw e (good_from at pages m g)) in
    cc

in_fits : (b : List ℕ) → ((k : ℕ) → get_or b k 0 < 2 ^ 8) → Fits (meta_in b)
in_fits b h = record {
  pages = word32_small b 4 h;
  root = word32_small b 8 h;
  commit = word64_small b 16 h;
  pairs = word32_small b 24 h;
  levels = h 28;
}

pub nothing_else_is_read_lem : NothingElseIsRead
nothing_else_is_read_lem b at pages m h e =
    (read_page at pages b m e, ap length (read_page at pages b m e) ∙ page_length m, rw (← read_says at pages b m e) (in_fits b h), good_is at pages m (read_good at pages b m e))

newer_second : (x y : Meta) → x.commit < y.commit → newer (Some x) (Some y) ≡ Some y
newer_second x y h = ap (λ t. cond t (Some y) (Some x)) (lt-ltb _ _ h)

newer_first : (x y : Meta) → y.commit ≤ x.commit → newer (Some x) (Some y) ≡ Some x
newer_first x y h = ap (λ t. cond t (Some y) (Some x)) (le-ltb _ _ h)

pub the_newer_counts_lem : TheNewerCounts
the_newer_counts_lem a b pages x y ea eb =
    let p = (read_good 0 pages a x ea).parity in
    let q = (read_good 1 pages b y eb).parity in
    (λ e. omega arith, newer_second x y, λ h. newer_first x y (omega arith))

pub six_and_seven : SixAndSevenGivesSeven
six_and_seven a b pages x y ea eb six seven =
    let n = newer_second x y (omega arith) in
    cc

says_seven : (m : Meta) (q : ℕ) → m.commit ≡ 7 → (meta_in (laid_out q m)).commit ≡ 7
unfolding laid_out word32 word64
says_seven m q e = ap (λ n. word64 (laid_out q (record { pages = m.pages; root = m.root; commit = n; pairs = m.pairs; levels = m.levels })) 16) e

seven_fails : (m : Meta) (pages : ℕ) → m.commit ≡ 7 → passes 0 pages (meta_page m) ≡ true → ⊥
seven_fails m pages e h =
    let s : (meta_in (meta_page m)).commit ≡ 7 = ap (λ b. (meta_in b).commit) (page_laid m) ∙ says_seven m (crc_of (laid_out 0 m)) e in
    let z : ◌≡◌ {A = ℕ} 1 0 = ap (λ n. n % 2) (sym s) ∙ (passing_good 0 pages (meta_page m) h).parity in
    omega arith

pub seven_not_for_zero : SevenIsNotForPageZero
seven_not_for_zero m pages e =
    (fails 0 pages (meta_page m) (seven_fails m pages e), none_unless 0 pages (meta_page m) (seven_fails m pages e))

pub zeros_not_read : ZerosAreNotRead
zeros_not_read at pages = none_shape at pages (zeros 512) (λ s. let z : ◌≡◌ {A = ℕ} 0 3 = s.first in omega arith)
