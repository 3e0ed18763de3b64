-- What is known of a step that fits; and code that may not change is what the image has behind it.
use Rattle.std.specs.Prelude.{◌≡◌, ℕ, Bool, true, false, ◌&&◌, List, [], ◌∷◌, is_some}
use Rattle.std.specs.List.{list_all}
use Rattle.std.proofs.Common.{◌∙◌, refl, sym, ap, subst, inl, inr, arith}
use Rattle.std.proofs.{lemmas.Bool.cases_Bool}
use Rattle.std.proofs.lemmas.List.Folds.{list_all-append}
use Rattle.elf_image.specs.Image.{ProgramImage, code_writable}
use Rattle.elf_image.proofs.Words.{word_now-same}
use Rattle.smt_model.specs.{Setup.Setup, Nexts.is_last, Words.op_of_word, Bytes.read}
use Rattle.smt_model.specs.Kinds.{kind_of, touches_memory}
use Rattle.smt_model.specs.Reservations.{word_of_address, holds_word}
use Rattle.smt_model.specs.Plain.{Plain, op_at_pc, computes, effect_at}
use Rattle.smt_laws.proofs.{FixedCode.steps_keep_code}
use Rattle.outcome_laws.specs.Paths.{stepped}
use Rattle.outcome_laws.specs.Tables.{Tables, IsTables, op_at, may_change, may_go, IsAsCoded, StartsAsCoded}
use Rattle.outcome_laws.specs.Tables.{HoldsAsCoded}
use Rattle.outcome_laws.specs.Local.{Use, the_output, reading, accesses, fetches, uses, goes_on_within, fits, is_local}
use Rattle.outcome_laws.specs.{Live.AreAlike, Search.IsLocalPath}
use Rattle.outcome_laws.proofs.Uses.{is_written, byte_stays, written_is_used, output_is_used}
use Rattle.outcome_laws.proofs.Words.{access_lies}
use Rattle.outcome_laws.proofs.Uses.{accessed_is_used, same_code}
use Rattle.outcome_laws.proofs.Facts.{first_of_both, second_of_both, is_false}

-- ---- What is known of a step that fits

pub record IsKnown (setup : Setup) (tables : Tables) (h : ℕ) (s : Plain) : Type 0 where
  pub writes : (word : ℕ) → is_written (effect_at setup s h).write word ≡ true
      → tables.ahead h (s.pcs h) word true ≡ true
  pub puts : is_some (effect_at setup s h).out ≡ true → tables.ahead h (s.pcs h) the_output true ≡ true
  pub touches : is_last (computes setup s h).next ≡ false → touches_memory (kind_of (op_at_pc setup s h)) ≡ true
      → tables.ahead h (s.pcs h) (word_of_address (computes setup s h).addr) false ≡ true
  pub fetch : may_change setup.image tables (s.pcs h) ≡ true
      → tables.ahead h (s.pcs h) (word_of_address (s.pcs h)) false ≡ true
  pub goes : goes_on_within setup.image tables (op_at_pc setup s h) (s.pcs h) (computes setup s h).next ≡ true

touched : (tables : Tables) (image : ProgramImage) → IsTables image tables → (h pc word : ℕ) (writes : Bool)
    → tables.ahead h pc word writes ≡ true → tables.ahead h pc word false ≡ true
touched tables image good h pc word true is = good.ahead.touches h pc word is
touched tables image good h pc word false is = is

pub known : (setup : Setup) (tables : Tables) → IsTables setup.image tables → (h : ℕ) (s : Plain)
    → fits setup tables h s ≡ true → IsKnown setup tables h s
known setup tables good h s is =
    let op = op_at_pc setup s h in
    let c = computes setup s h in
    let now = read op s.bytes c.addr in
    let held = holds_word (s.reserved h) c.addr in
    let p = λ (u : Use). tables.ahead h (s.pcs h) u.what u.writes in
    let goes = goes_on_within setup.image tables op (s.pcs h) c.next in
    let all : list_all p (uses setup tables h s) ≡ true = first_of_both (list_all p (uses setup tables h s)) goes is in
    let both : (list_all p (fetches setup.image tables (s.pcs h)) && list_all p (accesses op c)) ≡ true =
    sym (list_all-append p (fetches setup.image tables (s.pcs h)) (accesses op c)) ∙ all in
    let fetched = first_of_both (list_all p (fetches setup.image tables (s.pcs h))) (list_all p (accesses op c)) both in
    let accessed = second_of_both (list_all p (fetches setup.image tables (s.pcs h)))
    (list_all p (accesses op c)) both in
    record {
      writes = λ word written. written_is_used op c now held p word accessed written;
      puts = λ put. output_is_used op c now held p accessed put;
      touches = λ going touches.
          let use_of = accessed_is_used op c p going touches accessed in
          touched tables setup.image good h (s.pcs h) (word_of_address c.addr) use_of.0 use_of.1;
      fetch = λ changes.
          first_of_both (p (reading (word_of_address (s.pcs h)))) true (rw changes at fetched);
      goes = second_of_both (list_all p (uses setup tables h s)) goes is;
    }

-- A local step fits.
pub local_fits : (setup : Setup) (tables : Tables) (h : ℕ) (s : Plain) → is_local setup tables h s ≡ true
    → fits setup tables h s ≡ true
local_fits setup tables h s local = first_of_both (fits setup tables h s) _ local

-- ---- Bytes

pub spared_byte : (setup : Setup) (h : ℕ) (s : Plain) (a : ℕ)
    → is_written (effect_at setup s h).write (word_of_address a) ≡ false → (stepped setup h s).bytes a ≡ s.bytes a
spared_byte setup h s a spared =
    let op = op_at_pc setup s h in
    let c = computes setup s h in
    byte_stays op c (read op s.bytes c.addr) (holds_word (s.reserved h) c.addr) a (s.bytes a) (access_lies setup s h)
    spared

-- In a word that isn't written to each byte stays.
pub spared_word : (setup : Setup) (h : ℕ) (s : Plain) (word : ℕ) → is_written (effect_at setup s h).write word ≡ false
    → (a : ℕ) → word_of_address a ≡ word → (stepped setup h s).bytes a ≡ s.bytes a
spared_word setup h s word spared a is =
    spared_byte setup h s a (subst (λ w. is_written (effect_at setup s h).write w ≡ false) (sym is) spared)

-- ---- Code that doesn't change

pub op_as_coded : (setup : Setup) (tables : Tables) (s : Plain) → IsAsCoded setup tables s → (h : ℕ)
    → may_change setup.image tables (s.pcs h) ≡ false → op_at_pc setup s h ≡ op_at setup.image (s.pcs h)
op_as_coded setup tables s coded h stays = ap op_of_word (coded (s.pcs h) stays)

not_both : (a b : Bool) → (a && b) ≡ false → b ≡ true → a ≡ false
not_both true b none is = absurd (grind arith)
not_both false b none is = refl

never_both : (a b : Bool) → b ≡ false → (a && b) ≡ false
never_both true b none = none
never_both false b none = refl

-- A step that fits writes no word that isn't written.
pub coded_next : (setup : Setup) (tables : Tables) → IsTables setup.image tables → (h : ℕ) (s : Plain)
    → IsAsCoded setup tables s → fits setup tables h s ≡ true → IsAsCoded setup tables (stepped setup h s)
coded_next setup tables good h s coded fitting pc stays =
    elim (cases_Bool (code_writable setup.image)) [
      | inl writable ↦
          let unwritten : tables.rewritten pc ≡ false =
          not_both (tables.rewritten pc) (code_writable setup.image) stays writable in
          let spared : is_written (effect_at setup s h).write pc ≡ false =
          is_false (is_written (effect_at setup s h).write pc) (tables.rewritten pc)
          (λ written.
          good.rewritten h (s.pcs h) pc ((known setup tables good h s fitting).writes pc written)) unwritten in
          same_code setup.image (stepped setup h s).bytes s.bytes pc (spared_word setup h s pc spared) ∙ coded pc stays
      | inr fixed ↦
          steps_keep_code setup fixed s h
          (λ at. coded at (never_both (tables.rewritten at) (code_writable setup.image) fixed)) pc
    ]

pub coded_local : (setup : Setup) (tables : Tables) → IsTables setup.image tables → (order : List ℕ) (s t : Plain)
    → IsAsCoded setup tables s → IsLocalPath setup tables order s t
    → IsAsCoded setup tables t
coded_local setup tables good [] s t coded same = subst (IsAsCoded setup tables) same coded
coded_local setup tables good (h ∷ order) s t coded way =
    coded_local setup tables good order (stepped setup h s) t
    (coded_next setup tables good h s coded (local_fits setup tables h s way.1)) way.2

pub coded_alike : (setup : Setup) (watched : ℕ → Bool) (tables : Tables) (s t : Plain) → AreAlike watched tables s t
    → IsAsCoded setup tables s → IsAsCoded setup tables t
coded_alike setup watched tables s t alike coded pc stays =
    word_now-same setup.image t.bytes s.bytes (λ a. sym (alike.bytes a)) pc ∙ coded pc stays

pub starts_as_coded : StartsAsCoded
starts_as_coded setup tables pc stays = refl

pub holds_as_coded : HoldsAsCoded
holds_as_coded setup tables s same holds pc stays = holds (sym (same pc) ∙ stays) pc

-- ---- Where a step goes on, by the image

-- Where the code may change the targets say it, whatever stands there; else it is the image's.
pub goes_by_image : (setup : Setup) (tables : Tables) (h : ℕ) (s : Plain) (to : ℕ) → IsAsCoded setup tables s
    → may_go (may_change setup.image tables) tables.targets (op_at_pc setup s h) (s.pcs h) to ≡ true
    → may_go (may_change setup.image tables) tables.targets (op_at setup.image (s.pcs h)) (s.pcs h) to ≡ true
goes_by_image setup tables h s to coded goes =
    elim (cases_Bool (may_change setup.image tables (s.pcs h))) [
      | inl changes ↦ rw changes (rw changes at goes)
      | inr stays ↦
          subst (λ op. may_go (may_change setup.image tables) tables.targets op (s.pcs h) to ≡ true)
          (op_as_coded setup tables s coded h stays) goes
    ]
