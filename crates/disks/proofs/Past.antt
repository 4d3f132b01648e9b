-- What a call keeps of the past.
use Rattle.std.proofs.Common.{◌≡◌, ℕ, Bool, true, false, cond, List, [], ◌∷◌, refl, ap, ◌∙◌}
use Rattle.device.specs.Medium.{Medium}
use Rattle.device.specs.History.{Event, did_read, did_write, did_sync, power_returned, History, step, last_durable}
use Rattle.disks.specs.Kept.{Kept, Sound, page_at}
use Rattle.disks.specs.Accounts.{ShowsDurable, Accounts}
use Rattle.disks.specs.Disks.{medium_of}

-- a power return shows the durable pages
abbrev pub Restores : Event → List Kept → List Kept → Type 0
Restores (did_read p b r) ks ls = Unit {0}
Restores (did_write p b r) ks ls = Unit {0}
Restores (did_sync r) ks ls = Unit {0}
Restores power_returned ks ls = (p : ℕ) → (page_at ls p).bytes ≡ (page_at ks p).durable

-- the pages ks become ls, and one that is volatile was last durable when it was before
pub record Passes (at_once : Bool) (ks : List Kept) (e : Event) (ls : List Kept) : Type 0 where
  pub sound : (p : ℕ) → Sound at_once (page_at ks p)
  pub sound_after : (p : ℕ) → Sound at_once (page_at ls p)
  pub lasts : (p : ℕ) → (page_at ls p).volatile ≡ true → (page_at ls p).durable ≡ (page_at ks p).durable
  pub restores : Restores e ks ls

shows : (e : Event) (ks ls : List Kept) (base : Medium) (h : History) (on : Bool)
    → ((p : ℕ) → (page_at ks p).durable ≡ last_durable base h p) → Restores e ks ls → ShowsDurable base h e (medium_of ls on)
shows (did_read p b r) ks ls base h on d r' = tt
shows (did_write p b r) ks ls base h on d r' = tt
shows (did_sync r) ks ls base h on d r' = tt
shows power_returned ks ls base h on d r' = λ p. r' p ∙ d p

by_cond : {A : Type 0} (v : Bool) (x y d : A) → (v ≡ true → d ≡ x) → (v ≡ false → d ≡ y) → d ≡ cond v x y
by_cond true x y d s t = s refl
by_cond false x y d s t = t refl

pub accounts_after : (a : Bool) (ks ls : List Kept) (e : Event) (on off : Bool) (h : History) → Passes a ks e ls
    → Accounts a (λ p. (page_at ks p).durable) (medium_of ks on) h
    → Accounts a (λ p. (page_at ls p).durable) (medium_of ls off) (step (medium_of ks on) e (medium_of ls off) ∷ h)
accounts_after true ks ls e on off h g i = (i, λ p. (g.sound p).never refl)
accounts_after false ks ls e on off h g i = λ base d l.
    let r = i base d l.1 in (
      (r.0, shows e ks ls base h off r.1 g.restores),
      λ p. by_cond (page_at ls p).volatile _ _ _ (λ v. g.lasts p v ∙ r.1 p) (g.sound_after p).agrees,
    )

-- the empty history may be that of any pages: those that it led to are durable only where they are as they were
pub none : (a : Bool) (ks : List Kept) (on : Bool) → ((p : ℕ) → Sound a (page_at ks p)) → Accounts a (λ p. (page_at ks p).durable) (medium_of ks on) []
none true ks on sound = tt
none false ks on sound = λ base d l. (tt, λ p. (sound p).agrees (ap (λ m. m.volatile p) l ∙ d p) ∙ ap (λ m. m.bytes p) l)
