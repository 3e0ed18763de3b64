-- A history squashes an instruction exactly where its fate says so.
use Rattle.std.specs.Prelude.{◌≡◌, ◌≢◌, ℕ, ◌<◌, ◌≤◌, Bool, true, false, ◌==◌, ◌&&◌, nat_lt}
use Rattle.std.specs.Prelude.{nat_le, if◌then◌else◌, List, []}
use Rattle.std.specs.Prelude.{◌∷◌, Option, Some, None, is_some}
use Rattle.std.proofs.Common.{refl, sym, ap, ◌∙◌, arith, inl, inr}
use Rattle.std.proofs.{lemmas.Bool.Decides.nat_tests, lemmas.Bool.cases_Bool, lemmas.Bool.cases_eq}
use Rattle.events.specs.{declared.event.Event.Event, declared.effect.Effect.Effect}
use Rattle.events.specs.declared.event.Event.TheVariants.{Fetch, Decode, Rename, Issue, Complete}
use Rattle.events.specs.declared.event.Event.TheVariants.{Drop, Retire, Refetch}
use Rattle.smt_model.specs.{Basics.or_else, Setup.Setup, Rules.is_legal, Rules.refused}
use Rattle.smt_model.specs.Fates.{Fate, Squashed, fate, fate_by, stage, is, squashes, same_hart, is_of, mispredicts}
use Rattle.smt_model.specs.Fates.{next_fate, squashes_at_retirement, retired_as, InDecode, InRename, Renamed, Issued}
use Rattle.smt_model.specs.Fates.{Completed}
use Rattle.smt_model.proofs.Fates.Moves.{complete_was, retire_was, refetch_was, stage-squashed, stage-retired_as}
use Rattle.smt_model.proofs.Fates.Numbers.{IsFetched, tested, same_hart-at, known}
use Rattle.smt_model.proofs.Fates.Sound.{sound, moved}
use Rattle.smt_laws.proofs.Fates.Order.{in_order}
use Rattle.chart_rows.specs.{declared.row.Row.Row, declared.row.Squash.Squash as AnySquash}
use Rattle.chart_rows.specs.Rows.{squash, AreRows, TellSquashes}

-- The fetch of an instruction with another one of its hart.
shared : (past : List Event) (q s : ℕ) → same_hart past q s ≡ true → IsFetched past q
unfolding same_hart
shared past q s same = tested past q (λ f. is_of past f.hart s) same

-- A younger one of an instruction that is issued or completed hasn't retired.
in_pipeline : (setup : Setup) (past : List Event) → is_legal setup past → (q s : ℕ) → q < s
    → same_hart past q s ≡ true → 4 ≤ stage (fate past q) → stage (fate past q) ≤ 5 → stage (fate past s) ≢ 8
    → (1 ≤ stage (fate past s)) × (stage (fate past s) ≤ 5)
in_pipeline setup past legal q s less same four five lives =
    let older = shared past q s same in
    let h = older.fetch.hart in
    let of_s : is_of past h s ≡ true = sym (same_hart-at past h q s older.of_hart) ∙ same in
    let order = in_order setup past legal h q s older.of_hart of_s less lives in
    (known setup past legal h s of_s, grind (arith, nat_tests, order))

-- The event says nothing of what it squashes, and where that wasn't squashed before it is in the pipeline.
record IsSquashing (past : List Event) (e : Event) (s : ℕ) : Type 0 where
  inside : stage (fate past s) ≢ 8 → (1 ≤ stage (fate past s)) × (stage (fate past s) ≤ 5)
  tells : fate_by e s ≡ None

cut_by : (m n h : Bool) → (m && (n && h)) ≡ true → (n ≡ true) × (h ≡ true)
cut_by true true true is = (refl, refl)
cut_by true true false is = absurd (grind arith)
cut_by true false h is = absurd (grind arith)
cut_by false n h is = absurd (grind arith)

-- A younger one than an instruction that is issued or completed, or a completed one itself.
from_itself : (setup : Setup) (past : List Event) → is_legal setup past → (q s : ℕ) → q ≤ s
    → same_hart past q s ≡ true → stage (fate past q) ≡ 5 → stage (fate past s) ≢ 8
    → (1 ≤ stage (fate past s)) × (stage (fate past s) ≤ 5)
from_itself setup past legal q s above same five lives =
    elim (cases_eq q s) [
      | inl here ↦ let at : stage (fate past s) ≡ 5 = rw here at five in (omega arith, omega arith)
      | inr other ↦
          in_pipeline setup past legal q s (omega (arith, above, other)) same (omega (arith, five)) (omega (arith, five))
          lives
    ]

squashing : (setup : Setup) (past : List Event) → is_legal setup past → (e : Event) → refused setup past e ≡ None
    → (s : ℕ) → squashes e past s ≡ true → IsSquashing past e s
squashing setup past legal (Fetch actor hart seq pc word predicted) ok s cut = absurd (grind arith)
squashing setup past legal (Decode actor seq) ok s cut = absurd (grind arith)
squashing setup past legal (Rename actor seq phys) ok s cut = absurd (grind arith)
squashing setup past legal (Issue actor seq) ok s cut = absurd (grind arith)
squashing setup past legal (Complete actor seq outcome) ok s cut =
    let was = complete_was setup past (sound setup past legal) actor seq outcome ok in
    let both = cut_by (mispredicts past seq outcome.next) (nat_lt seq s) (same_hart past seq s) cut in
    let less : seq < s = grind (arith, nat_tests, both.0) in
    let other : (seq == s) ≡ false = grind (arith, nat_tests) in
    record {
      inside = λ lives. in_pipeline setup past legal seq s less both.1 (omega arith) (omega arith) lives;
      tells = rw other refl;
    }
squashing setup past legal (Drop actor seq) ok s cut = absurd (grind arith)
squashing setup past legal (Retire actor seq effect) ok s cut =
    let was = retire_was setup past actor seq effect ok in
    let both = cut_by (squashes_at_retirement past seq effect) (nat_lt seq s) (same_hart past seq s) cut in
    let less : seq < s = grind (arith, nat_tests, both.0) in
    let other : (seq == s) ≡ false = grind (arith, nat_tests) in
    record {
      inside = λ lives. in_pipeline setup past legal seq s less both.1 (omega arith) (omega arith) lives;
      tells = rw other refl;
    }
squashing setup past legal (Refetch actor seq) ok s cut =
    let was = refetch_was setup past actor seq ok in
    let both = cut_by true (nat_le seq s) (same_hart past seq s) cut in
    let above : seq ≤ s = grind (arith, nat_tests, both.0) in
    record { inside = λ lives. from_itself setup past legal seq s above both.1 was lives; tells = refl }

-- What an event squashes is squashed behind it.
squashed_now : (setup : Setup) (past : List Event) → is_legal setup past → (e : Event)
    → refused setup past e ≡ None → (s : ℕ) → squashes e past s ≡ true → stage (fate (e ∷ past) s) ≡ 8
squashed_now setup past legal e ok s cut =
    let by = squashing setup past legal e ok s cut in
    elim (cases_eq (stage (fate past s)) 8) [
      | inl gone ↦ let move = moved setup past legal e ok s in grind (arith, nat_tests, move)
      | inr lives ↦
          let inside = by.inside lives in stage-squashed e past s by.tells cut inside.0 inside.1
    ]

-- What an event says of its own instruction is never that it is squashed.
one_fate : (here : Bool) (one new : Fate) → (if here then Some one else None) ≡ Some new → is one Squashed ≡ false
    → is new Squashed ≡ false
one_fate true one new told never = let same : one ≡ new = cc in ap (λ f. is f Squashed) (sym same) ∙ never
one_fate false one new told never = absurd (cc)

retired_never : (effect : Effect) → is (retired_as effect.next) Squashed ≡ false
retired_never effect =
    elim (stage-retired_as effect) [
      | inl retired ↦ grind (arith, nat_tests, retired)
      | inr halted ↦ grind (arith, nat_tests, halted)
    ]

own_fate : (e : Event) (s : ℕ) (new : Fate) → fate_by e s ≡ Some new → is new Squashed ≡ false
own_fate (Fetch actor hart seq pc word predicted) s new told = one_fate (seq == s) InDecode new told refl
own_fate (Decode actor seq) s new told = one_fate (seq == s) InRename new told refl
own_fate (Rename actor seq phys) s new told = one_fate (seq == s) Renamed new told refl
own_fate (Issue actor seq) s new told = one_fate (seq == s) Issued new told refl
own_fate (Complete actor seq outcome) s new told = one_fate (seq == s) Completed new told refl
own_fate (Drop actor seq) s new told = absurd (cc)
own_fate (Retire actor seq effect) s new told =
    one_fate (seq == s) (retired_as effect.next) new told (retired_never effect)
own_fate (Refetch actor seq) s new told = absurd (cc)

kept_fate : (told : Option Fate) (old : Fate) → ((new : Fate) → told ≡ Some new → is new Squashed ≡ false)
    → is (next_fate told false old) Squashed ≡ is old Squashed
kept_fate None old never = refl
kept_fate (Some new) old never =
    elim (cases_Bool (is old Squashed)) [
      | inl gone ↦ rw gone gone
      | inr lives ↦ rw lives (never new refl)
    ]

is_some_more : (o : Option AnySquash) (x : AnySquash) → is_some (or_else o (Some x)) ≡ true
is_some_more None x = refl
is_some_more (Some y) x = refl

is_some_kept : (o : Option AnySquash) → is_some (or_else o None) ≡ is_some o
is_some_kept None = refl
is_some_kept (Some y) = refl

pub squashed_is : (setup : Setup) (past : List Event) → is_legal setup past → (s : ℕ)
    → is (fate past s) Squashed ≡ is_some (squash past s)
squashed_is setup [] legal s = refl
squashed_is setup (e ∷ past) legal s =
    elim (cases_Bool (squashes e past s)) [
      | inl cut ↦
          let gone : is (fate (e ∷ past) s) Squashed ≡ true =
          let at = squashed_now setup past legal.1 e legal.0 s cut in grind (arith, nat_tests, at) in
          gone ∙ sym (rw cut (is_some_more (squash past s) _))
      | inr spared ↦
          rw spared (kept_fate (fate_by e s) (fate past s) (own_fate e s)
          ∙ (squashed_is setup past legal.1 s ∙ sym (is_some_kept (squash past s))))
    ]

pub tell_squashes : (setup : Setup) (past : List Event) (rows : List Row) → is_legal setup past → AreRows past rows
    → TellSquashes past rows
tell_squashes setup past rows legal are = record {
  squashed = λ s d inside. squashed_is setup past legal s ∙ ap is_some (are.each s d inside).squashed;
}
