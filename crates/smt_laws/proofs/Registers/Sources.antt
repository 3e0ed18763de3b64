-- Who wrote a source: it stays while its reader is in flight, and is committed or an older one in flight.
use Rattle.std.specs.Prelude.{◌≡◌, ◌≢◌, ℕ, suc, ◌<◌, ◌≤◌, Bool, true, false, ◌==◌, ◌&&◌, nat_lt, List, ◌∷◌, Option}
use Rattle.std.specs.Prelude.{Some, None}
use Rattle.std.proofs.Common.{◌∙◌, refl, ap, inl, inr, arith}
use Rattle.std.proofs.{lemmas.Bool.cases_lt, lemmas.Bool.false_from_ne_true, lemmas.Bool.Decides.nat_tests}
use Rattle.events.specs.declared.event.Event.{Event}
use Rattle.events.specs.declared.event.Event.TheVariants.{Fetch, Decode, Rename, Issue, Complete, Drop, Retire, Refetch}
use Rattle.smt_model.specs.{Basics.holds_of, Setup.Setup, Kinds.destination, Rules.refused, Rules.is_legal}
use Rattle.smt_model.specs.Fates.{Fetched, Retired, stage, fate, is, is_in_flight, stands, is_of, fetching}
use Rattle.smt_model.specs.Fates.{op_of_fetched}
use Rattle.smt_model.specs.Registers.{namings, writes, committer, source}
use Rattle.smt_model.proofs.Lists.{member, skips, first-narrow, first-none_narrow, first-passes}
use Rattle.smt_model.proofs.{Fates.Moves.rename_was, Fates.Numbers.known_below, Fates.Numbers.fetching-kept}
use Rattle.smt_laws.proofs.{Fates.Order.in_order, Registers.Namings.newest-same, Registers.Namings.named-renamed}
use Rattle.smt_laws.proofs.Registers.Standing.{stands-stay}

-- ---- Writers

-- Who writes a register of hart h is of hart h.
writes_of : (h r : ℕ) (o : Option Fetched)
    → holds_of (λ f. (f.hart == h) && (destination (op_of_fetched (Some f)) == r)) o ≡ true
    → holds_of (λ f. f.hart == h) o ≡ true
writes_of h r None writes_it = absurd (grind arith)
writes_of h r (Some f) writes_it = grind arith

pub writes-of : (past : List Event) (h r s : ℕ) → writes past h r s ≡ true → is_of past h s ≡ true
writes-of past h r s writes_it = writes_of h r (fetching past s) writes_it

pub writes-kept : (setup : Setup) (past : List Event) → is_legal setup past → (e : Event) → refused setup past e ≡ None
    → (h r s : ℕ)
    → 1 ≤ stage (fate past s) → writes (e ∷ past) h r s ≡ writes past h r s
writes-kept setup past legal e ok h r s is_known =
    ap (λ o. holds_of (λ f. (f.hart == h) && (destination (op_of_fetched (Some f)) == r)) o)
    (fetching-kept setup past legal e ok s (known_below setup past legal s is_known))

-- ---- The source stays

below_same : (b c d e : Bool) → (b ≡ true → c ≡ true → d ≡ e) → (b && (c && d)) ≡ (b && (c && e))
below_same true true d e same = same refl refl
below_same true false d e same = refl
below_same false c d e same = refl

-- The test of a source of one in flight: the same for all that were named.
test-stays : (setup : Setup) (past : List Event) → is_legal setup past → (e : Event) → refused setup past e ≡ None
    → (h r s b : ℕ)
    → b ≤ suc s → is_of past h s ≡ true → is_in_flight (fate past s) ≡ true → is_in_flight (fate (e ∷ past) s) ≡ true
    → (x : ℕ) → member x (namings past) ≡ true
    → (nat_lt x b && (writes (e ∷ past) h r x && stands (fate (e ∷ past) x)))
    ≡ (nat_lt x b && (writes past h r x && stands (fate past x)))
test-stays setup past legal e ok h r s b bound of_s was still x m =
    let late = named-renamed setup past legal x m in
    let same = writes-kept setup past legal e ok h r x (omega arith) in
    rw same
    (below_same (nat_lt x b) (writes past h r x) (stands (fate (e ∷ past) x)) (stands (fate past x)) (λ under mine.
    let upto : x ≤ s = grind (arith, nat_tests) in
    stands-stay setup past legal e ok h x s (writes-of past h r x mine) of_s upto was still late))

-- The rename of another doesn't name a source of one in flight.
not_renamed : (setup : Setup) (past : List Event) → is_legal setup past → (actor n : ℕ) (register : Option ℕ)
    → refused setup past (Rename actor n register) ≡ None → (h r s b : ℕ) → b ≤ suc s → is_of past h s ≡ true
    → is_in_flight (fate past s) ≡ true → (stood : Bool) → (nat_lt n b && (writes past h r n && stood)) ≡ false
not_renamed setup past legal actor n register ok h r s b bound of_s was stood =
    false_from_ne_true (nat_lt n b && (writes past h r n && stood)) (λ passes.
    let mine : writes past h r n ≡ true = grind arith in
    let of_n = writes-of past h r n mine in
    let at = rename_was setup past actor n register ok in
    let upto : n ≤ s = grind (arith, nat_tests) in
    let other : n ≢ s = λ same. absurd (grind (arith, nat_tests)) in
    let order = in_order setup past legal h n s of_n of_s (omega arith) (grind (arith, nat_tests)) in
    absurd (grind (arith, nat_tests)))

-- What stands for a register below a bound, while s is in flight and the bound isn't beyond it.
pub upto-stays : (setup : Setup) (past : List Event) → is_legal setup past → (e : Event) → refused setup past e ≡ None
    → (h r s b : ℕ)
    → b ≤ suc s → is_of past h s ≡ true → is_in_flight (fate past s) ≡ true → is_in_flight (fate (e ∷ past) s) ≡ true
    → source (e ∷ past) h r b ≡ source past h r b
upto-stays setup past legal (Fetch actor hart n pc word predicted) ok h r s b bound of_s was still =
    let e = Fetch actor hart n pc word predicted in
    newest-same (λ x. nat_lt x b && (writes (e ∷ past) h r x && stands (fate (e ∷ past) x)))
    (λ x. nat_lt x b && (writes past h r x && stands (fate past x))) past
    (test-stays setup past legal e ok h r s b bound of_s was still)
upto-stays setup past legal (Decode actor n) ok h r s b bound of_s was still =
    let e = Decode actor n in
    newest-same (λ x. nat_lt x b && (writes (e ∷ past) h r x && stands (fate (e ∷ past) x)))
    (λ x. nat_lt x b && (writes past h r x && stands (fate past x))) past
    (test-stays setup past legal e ok h r s b bound of_s was still)
upto-stays setup past legal (Rename actor n None) ok h r s b bound of_s was still =
    let e = Rename actor n None in
    newest-same (λ x. nat_lt x b && (writes (e ∷ past) h r x && stands (fate (e ∷ past) x)))
    (λ x. nat_lt x b && (writes past h r x && stands (fate past x))) past
    (test-stays setup past legal e ok h r s b bound of_s was still)
upto-stays setup past legal (Rename actor n (Some p)) ok h r s b bound of_s was still =
    let e = Rename actor n (Some p) in
    skips (λ x. nat_lt x b && (writes (e ∷ past) h r x && stands (fate (e ∷ past) x))) n (namings past)
    (not_renamed setup past legal actor n (Some p) ok h r s b bound of_s was (stands (fate (e ∷ past) n)))
    ∙ newest-same (λ x. nat_lt x b && (writes (e ∷ past) h r x && stands (fate (e ∷ past) x)))
    (λ x. nat_lt x b && (writes past h r x && stands (fate past x))) past
    (test-stays setup past legal e ok h r s b bound of_s was still)
upto-stays setup past legal (Issue actor n) ok h r s b bound of_s was still =
    let e = Issue actor n in
    newest-same (λ x. nat_lt x b && (writes (e ∷ past) h r x && stands (fate (e ∷ past) x)))
    (λ x. nat_lt x b && (writes past h r x && stands (fate past x))) past
    (test-stays setup past legal e ok h r s b bound of_s was still)
upto-stays setup past legal (Complete actor n outcome) ok h r s b bound of_s was still =
    let e = Complete actor n outcome in
    newest-same (λ x. nat_lt x b && (writes (e ∷ past) h r x && stands (fate (e ∷ past) x)))
    (λ x. nat_lt x b && (writes past h r x && stands (fate past x))) past
    (test-stays setup past legal e ok h r s b bound of_s was still)
upto-stays setup past legal (Drop actor n) ok h r s b bound of_s was still = refl
upto-stays setup past legal (Retire actor n effect) ok h r s b bound of_s was still =
    let e = Retire actor n effect in
    newest-same (λ x. nat_lt x b && (writes (e ∷ past) h r x && stands (fate (e ∷ past) x)))
    (λ x. nat_lt x b && (writes past h r x && stands (fate past x))) past
    (test-stays setup past legal e ok h r s b bound of_s was still)
upto-stays setup past legal (Refetch actor n) ok h r s b bound of_s was still =
    let e = Refetch actor n in
    newest-same (λ x. nat_lt x b && (writes (e ∷ past) h r x && stands (fate (e ∷ past) x)))
    (λ x. nat_lt x b && (writes past h r x && stands (fate past x))) past
    (test-stays setup past legal e ok h r s b bound of_s was still)

-- The law: a source stays what it was while its reader is in flight.
pub source-stays : (setup : Setup) (past : List Event) → is_legal setup past → (e : Event) → refused setup past e ≡ None
    → (h r s : ℕ)
    → is_of past h s ≡ true → is_in_flight (fate past s) ≡ true → is_in_flight (fate (e ∷ past) s) ≡ true
    → source (e ∷ past) h r s ≡ source past h r s
source-stays setup past legal e ok h r s of_s was still =
    upto-stays setup past legal e ok h r s s (omega arith) of_s was still

-- ---- The source is committed or an older one in flight

-- No retired one is younger than one in flight.
pub retired_older : (setup : Setup) (past : List Event) → is_legal setup past → (h s y : ℕ) → is_of past h s ≡ true
    → is_in_flight (fate past s) ≡ true → is_of past h y ≡ true → is (fate past y) Retired ≡ true → y < s
retired_older setup past legal h s y of_s flies of_y retired =
    elim (cases_lt y s) [
      | inl under ↦ under
      | inr above ↦
          let other : s ≢ y = λ same. absurd (grind (arith, nat_tests)) in
          let order = in_order setup past legal h s y of_s of_y (omega arith) (grind (arith, nat_tests)) in
          absurd (grind (arith, nat_tests))
    ]

committed_passes : (setup : Setup) (past : List Event) → is_legal setup past → (h r s y : ℕ) → is_of past h s ≡ true
    → is_in_flight (fate past s) ≡ true → (writes past h r y && is (fate past y) Retired) ≡ true
    → (nat_lt y s && (writes past h r y && stands (fate past y))) ≡ true
committed_passes setup past legal h r s y of_s flies passes =
    let mine : writes past h r y ≡ true = grind arith in
    let retired : is (fate past y) Retired ≡ true = grind arith in
    let under = retired_older setup past legal h s y of_s flies (writes-of past h r y mine) retired in
    grind (arith, nat_tests)

-- A source that isn't in flight is the committed one.
pub source-committed : (setup : Setup) (past : List Event) → is_legal setup past → (h r s w : ℕ) → is_of past h s ≡ true
    → is_in_flight (fate past s) ≡ true → source past h r s ≡ Some w → is_in_flight (fate past w) ≡ false
    → committer past h r ≡ Some w
source-committed setup past legal h r s w of_s flies found landed =
    let test = λ (x : ℕ). nat_lt x s && (writes past h r x && stands (fate past x)) in
    let passes = first-passes test (namings past) w found in
    let at : (nat_lt w s && (writes past h r w && stands (fate past w))) ≡ true = passes.0 in
    first-narrow test (λ x. writes past h r x && is (fate past x) Retired) (namings past) w
    (λ y retired. committed_passes setup past legal h r s y of_s flies retired) found (grind (arith, nat_tests))

pub source-none : (setup : Setup) (past : List Event) → is_legal setup past → (h r s : ℕ) → is_of past h s ≡ true
    → is_in_flight (fate past s) ≡ true → source past h r s ≡ None → committer past h r ≡ None
source-none setup past legal h r s of_s flies none =
    first-none_narrow (λ x. nat_lt x s && (writes past h r x && stands (fate past x)))
    (λ x. writes past h r x && is (fate past x) Retired)
    (namings past) (λ y retired. committed_passes setup past legal h r s y of_s flies retired) none

-- What is found as a source: an older writer that stands.
pub record IsSource (past : List Event) (h r b w : ℕ) : Type 0 where
  pub older : w < b
  pub writes_it : writes past h r w ≡ true
  pub of_hart : is_of past h w ≡ true
  pub standing : stands (fate past w) ≡ true
  pub named : member w (namings past) ≡ true

pub source-is : (past : List Event) (h r b w : ℕ) → source past h r b ≡ Some w → IsSource past h r b w
source-is past h r b w found =
    let passes = first-passes (λ x. nat_lt x b && (writes past h r x && stands (fate past x))) (namings past) w found in
    let at : (nat_lt w b && (writes past h r w && stands (fate past w))) ≡ true = passes.0 in
    let mine : writes past h r w ≡ true = grind arith in
    record {
      older = grind (arith, nat_tests);
      writes_it = mine;
      of_hart = writes-of past h r w mine;
      standing = grind arith;
      named = passes.1;
    }

-- Instruction w has committed register r of hart h: it writes it, has retired, and is one that was named.
pub record IsCommitter (past : List Event) (h r w : ℕ) : Type 0 where
  pub writes_it : writes past h r w ≡ true
  pub of_hart : is_of past h w ≡ true
  pub retired : stage (fate past w) ≡ 6
  pub named : member w (namings past) ≡ true

pub committer-is : (past : List Event) (h r w : ℕ) → committer past h r ≡ Some w → IsCommitter past h r w
committer-is past h r w found =
    let passes = first-passes (λ x. writes past h r x && is (fate past x) Retired) (namings past) w found in
    let at : (writes past h r w && is (fate past w) Retired) ≡ true = passes.0 in
    let mine : writes past h r w ≡ true = grind arith in
    record {
      writes_it = mine;
      of_hart = writes-of past h r w mine;
      retired = grind (arith, nat_tests);
      named = passes.1;
    }
