-- The schedule of an order: what it comes to, and when there is none.
use Rattle.std.specs.Prelude.{◌≡◌, ℕ, ◌+◌, ◌*◌, ◌<◌, ◌≤◌, Bool, true, false, if◌then◌else◌, List, [], ◌∷◌, ◌++◌, Option}
use Rattle.std.specs.Prelude.{Some, None, length, map, reverse}
use Rattle.std.specs.List.{AllByRecursion}
use Rattle.std.proofs.Common.{refl, sym, ap, subst, ◌∙◌, arith}
use Rattle.std.proofs.{lemmas.Bool.Decides.nat_tests, lemmas.List.length-map, lemmas.List.length-reverse}
use Rattle.std.proofs.{lemmas.List.reverse-reverse}
use Rattle.elf_image.specs.Image.{code_writable}
use Rattle.numbers.specs.Sizes.{most_actors, most_harts}
use Rattle.rv_instr.specs.declared.op.UnitKind.{UnitKind}
use Rattle.rv_instr.specs.declared.op.UnitKind.TheVariants.{Alu, Mul, Mem}
use Rattle.events.specs.declared.effect.Record.{Record}
use Rattle.events.specs.declared.role.Role.{Role}
use Rattle.smt_model.specs.{Setup.Setup, Setup.is_accepted, Plain.Run, Plain.run}
use Rattle.smt_laws.specs.{Execution.IsExecution, Execution.RunsAreExecutions}
use Rattle.smt_laws.specs.Shown.{Predictor, CanShow, IsShown, AcceptedCoresCanShow}
use Rattle.smt_laws.specs.Scripts.{ScriptsShowRuns, TurnsShowRuns, unit_of_kind, HasReplied, script, turn_asks}
use Rattle.smt_laws.specs.Scripts.{is_stale}
use Rattle.smt_laws.specs.Scripts.{turns_of, turns_script, refetching}
use Rattle.smt_model.specs.declared.turn.Turn.{Turn}
use Rattle.sc_machine.specs.Steps.{are_harts}
use Rattle.scripts.specs.declared.actions.ScriptWord.{ScriptWord}
use Rattle.scripts.specs.Lines.{IsWord, LinesAreScripts, words_in}
use Rattle.schedules.specs.{declared.units.Units.Units, declared.refused.ScheduleRefused.ScheduleRefused}
use Rattle.schedules.specs.declared.refused.ScheduleRefused.TheVariants as refused
use Rattle.schedules.specs.Turns.{AreUnits, unit_words, fetch_words, turn_words, first_words, turn_lines}
use Rattle.schedules.specs.Turns.{schedule_lines, schedule_text}
use Rattle.schedules.specs.{declared.running.Ran.Ran, Ran.whole_turn, Ran.turns_for, Ran.HasTurns}
use Rattle.schedules.specs.Schedules.{events_each, room_for, IsShownInTurns, IsScheduleOf}
use Rattle.schedules.specs.Refusals.{HasUnits, LacksUnit, IsOfRun, IsTooLong, IsScheduleRefusedFor, IsRunRefusal}
use Rattle.schedules.proofs.{Asking.asks_are, ByUnits.by_units, Places.found_inside}
use Rattle.schedules.proofs.{Serving.units_needed, Serving.each_kind}
use Rattle.schedules.proofs.{Serving.unreversed}

-- ---- The words can be spelled

both : (xs ys : List ScriptWord) → AllByRecursion IsWord xs → AllByRecursion IsWord ys
    → AllByRecursion IsWord (xs ++ ys)
both [] ys all more = more
both (x ∷ xs) ys all more = (all.0, both xs ys all.1 more)

unit_is : (o : Option ℕ) → ((k : ℕ) → o ≡ Some k → k < most_actors) → AllByRecursion IsWord (unit_words o)
unit_is None small = tt
unit_is (Some k) small =
    (record { in_range = small k refl; once = omega arith; limit = omega arith }, tt)

first_is : (harts : ℕ) → 1 ≤ harts → harts ≤ most_harts → AllByRecursion IsWord (first_words harts)
first_is harts one few = (record { in_range = omega arith; once = one; limit = omega arith }, tt)

fetch_is : (fetches : Bool) → AllByRecursion IsWord (fetch_words fetches)
fetch_is true = (record { in_range = omega arith; once = omega arith; limit = omega arith }, tt)
fetch_is false = tt

turn_is : (units : Units) → ((k : ℕ) → units.alu ≡ Some k → k < most_actors)
    → ((k : ℕ) → units.mul ≡ Some k → k < most_actors) → ((k : ℕ) → units.mem ≡ Some k → k < most_actors) → (t : Turn) → t.hart < most_harts
    → AllByRecursion IsWord (turn_words units t)
turn_is units alu mul mem t small = (
  record { in_range = (omega arith, small); once = omega arith; limit = omega arith },
  (
    record { in_range = (omega arith, small); once = omega arith; limit = omega arith },
    both (unit_words units.alu) _ (unit_is units.alu alu)
        (both (unit_words units.mul) _ (unit_is units.mul mul)
        (both (unit_words units.mem) _ (unit_is units.mem mem) (
          record { in_range = (omega arith, small); once = omega arith; limit = omega arith },
          fetch_is t.fetches,
        ))),
  ),
)

abbrev IsSmallTurn : Turn → Type 0
IsSmallTurn t = t.hart < most_harts

turns_are : (units : Units) → ((t : Turn) → t.hart < most_harts → AllByRecursion IsWord (turn_words units t))
    → (turns : List Turn) → AllByRecursion IsSmallTurn turns
    → AllByRecursion (AllByRecursion IsWord) (turn_lines units turns)
turns_are units turn [] small = tt
turns_are units turn (t ∷ turns) small = (turn t small.0, turns_are units turn turns small.1)

-- The turns of an order are of its harts.
one_more : (stale : Bool) (h : ℕ) (turns : List Turn) → h < most_harts → AllByRecursion IsSmallTurn turns
    → AllByRecursion IsSmallTurn (refetching stale h turns)
one_more true h turns here small = (here, small)
one_more false h turns here small = small

small_turns : (setup : Setup) (order : List ℕ) → AllByRecursion (λ h. h < most_harts) order
    → AllByRecursion IsSmallTurn (turns_of setup order)
small_turns setup [] small = tt
small_turns setup (h ∷ order) small =
    (small.0, one_more (is_stale setup order h) h (turns_of setup order) small.0 (small_turns setup order small.1))

small_whole : (order : List ℕ) → AllByRecursion (λ h. h < most_harts) order
    → AllByRecursion IsSmallTurn (map whole_turn order)
small_whole [] small = tt
small_whole (h ∷ order) small = (small.0, small_whole order small.1)

small_for : (setup : Setup) (order : List ℕ) (writable : Bool) → code_writable setup.image ≡ writable
    → AllByRecursion (λ h. h < most_harts) order → AllByRecursion IsSmallTurn (turns_for setup order)
small_for setup order true is small = rw is (small_turns setup order small)
small_for setup order false is small = rw is (small_whole order small)

-- The harts of a run are there.
are_there : (setup : Setup) → setup.harts ≤ most_harts → (all : List Record) → IsExecution setup all
    → AllByRecursion (λ h. h < most_harts) (map (λ (r : Record). r.hart) all)
are_there setup few [] goes = tt
are_there setup few (r ∷ all) goes =
    let there = goes.0.there in
    (omega arith, are_there setup few all goes.1)

turns_small : (setup : Setup) (order : List ℕ) (turns : List Turn) (ran : Run) → setup.harts ≤ most_harts
    → RunsAreExecutions → run setup (reverse order) ≡ Some ran → turns ≡ reverse (turns_for setup (reverse order))
    → AllByRecursion IsSmallTurn turns
turns_small setup order turns ran few law runs is =
    let says = law setup (reverse order) ran runs in
    let newest = turns_for setup (reverse order) in
    let small : AllByRecursion (λ h. h < most_harts) (reverse order) =
    subst (AllByRecursion (λ h. h < most_harts)) says.1 (are_there setup few ran.records says.0) in
    unreversed IsSmallTurn turns
    (subst (AllByRecursion IsSmallTurn) (sym (ap reverse is ∙ reverse-reverse newest))
    (small_for setup (reverse order) (code_writable setup.image) refl small))

unit_small : (setup : Setup) → length setup.roles ≤ most_actors → (kind : UnitKind) (o : Option ℕ)
    → o ≡ unit_of_kind setup.roles kind → (k : ℕ) → o ≡ Some k → k < most_actors
unit_small setup few kind o is k found =
    let inside = found_inside kind setup.roles k (sym is ∙ found) in
    omega arith

-- ---- What an accepted setup has

pub record IsSmall (setup : Setup) : Type 0 where
  pub some_hart : 1 ≤ setup.harts
  pub few_harts : setup.harts ≤ most_harts
  pub few_actors : length setup.roles ≤ most_actors

small : (setup : Setup) (limit : ℕ) → is_accepted setup limit ≡ true → IsSmall setup
small setup limit accepted = record {
  some_hart = grind (arith, nat_tests);
  few_harts = grind (arith, nat_tests);
  few_actors = grind (arith, nat_tests);
}

-- ---- The run

pub as_many : (setup : Setup) (order : List ℕ) (left : Ran) → RunsAreExecutions → HasTurns setup order left
    → length left.records.items ≡ length order
as_many setup order left law has =
    let says = law setup (reverse order) has.ran has.runs in
    ap length has.records
    ∙ (length-reverse has.ran.records
    ∙ (sym (length-map has.ran.records (λ (r : Record). r.hart)) ∙ (ap length says.1 ∙ length-reverse order)))

of_run : (setup : Setup) (order : List ℕ) (left : Ran) (P : List Record → Type 0) → HasTurns setup order left
    → P left.records.items → IsOfRun setup order P
of_run setup order left P has holds =
    record { ran = has.ran; runs = has.runs; holds = subst P has.records holds }

-- ---- What its turns show

shown_by : (setup : Setup) (predict : Predictor) (harts : List ℕ) (ran : Run) (each : ℕ) (turns : List Turn)
    → events_each setup ≡ each → turns_for setup harts ≡ turns → (shown : IsShown setup predict each harts ran.records)
    → HasReplied setup predict (turns_script setup.harts setup.roles turns) shown.past
    → IsShownInTurns setup predict harts ran
shown_by setup predict harts ran each turns each_is turns_are shown replied = record {
  shown = record {
    past = shown.past;
    legal = shown.legal;
    decided = shown.decided;
    short = subst (λ n. length shown.past ≤ n * length harts + setup.harts) (sym each_is) shown.short;
    in_order = shown.in_order;
    retired = shown.retired;
  };
  replied = subst (λ ts. HasReplied setup predict (turns_script setup.harts setup.roles ts) shown.past) (sym turns_are)
      replied;
}

-- Turns of one each are the script of their order.
whole_script : (harts : ℕ) (roles : List Role) (order : List ℕ)
    → script harts roles order ≡ turns_script harts roles (map whole_turn order)
whole_script harts roles [] = refl
whole_script harts roles (h ∷ order) = ap (turn_asks roles h) (whole_script harts roles order)

shown_in_turns : (setup : Setup) (predict : Predictor) (harts : List ℕ) (ran : Run) (writable : Bool)
    → code_writable setup.image ≡ writable → HasUnits writable setup.roles (reverse ran.records)
    → run setup harts ≡ Some ran → CanShow setup ran.records → ScriptsShowRuns → TurnsShowRuns
    → IsShownInTurns setup predict harts ran
shown_in_turns setup predict harts ran true is units runs can scripts turns =
    let by = turns setup predict harts ran (each_kind setup units) runs can in
    shown_by setup predict harts ran 12 (turns_of setup harts) (rw is refl) (rw is refl) by.shown by.replied
shown_in_turns setup predict harts ran false is units runs can scripts turns =
    let by = scripts setup predict harts ran is runs can in
    shown_by setup predict harts ran 6 (map whole_turn harts) (rw is refl) (rw is refl) by.shown
    (subst (λ asks. HasReplied setup predict asks by.shown.past) (whole_script setup.harts setup.roles harts)
    by.replied)

-- ---- The schedule

-- Of the run the units are there.
pub are_units : (setup : Setup) (left : Ran) (writable : Bool) (roles : List Role) (all : List Record)
    → writable ≡ code_writable setup.image → roles ≡ setup.roles → all ≡ left.records.items
    → HasUnits writable roles all → HasUnits (code_writable setup.image) setup.roles left.records.items
are_units setup left writable roles all same_code same_roles same has =
    subst (HasUnits (code_writable setup.image) setup.roles) same
    (subst (λ rs. HasUnits (code_writable setup.image) rs all) same_roles
    (subst (λ w. HasUnits w roles all) same_code has))

-- The room, as the code counts it.
pub room_is : (setup : Setup) (writable : Bool) (harts steps : ℕ) → writable ≡ code_writable setup.image
    → harts ≡ setup.harts → (if writable then 12 else 6) * steps + harts ≡ room_for setup steps
room_is setup writable harts steps same_code same_harts =
    ap (λ w. (if w then 12 else 6) * steps + harts) same_code
    ∙ ap (λ n. events_each setup * steps + n) same_harts

pub scheduled : (setup : Setup) (limit : ℕ) (order : List ℕ) (units : Units) (left : Ran)
    → is_accepted setup limit ≡ true → HasTurns setup order left
    → HasUnits (code_writable setup.image) setup.roles left.records.items
    → room_for setup (length left.records.items) ≤ limit → AreUnits setup.roles units → RunsAreExecutions
    → AcceptedCoresCanShow → ScriptsShowRuns → TurnsShowRuns → LinesAreScripts
    → IsScheduleOf setup limit order (schedule_text setup.harts units left.turns.items)
scheduled setup limit order units left accepted has served room are executions can scripts turns lines =
    let sizes = small setup limit accepted in
    let all = left.turns.items in
    let writable = code_writable setup.image in
    let there = turns_small setup order all has.ran sizes.few_harts executions has.runs has.turns in
    let turn = turn_is units (unit_small setup sizes.few_actors Alu units.alu are.alu)
    (unit_small setup sizes.few_actors Mul units.mul are.mul)
    (unit_small setup sizes.few_actors Mem units.mem are.mem) in
    let has_units : HasUnits writable setup.roles (reverse has.ran.records) =
    subst (HasUnits writable setup.roles) has.records served in
    let needed = units_needed setup writable has.ran.records has_units in
    let shows = can setup limit accepted has.ran.records needed in
    record {
      accepted = accepted;
      room = subst (λ n. room_for setup n ≤ limit) (as_many setup order left executions has) room;
      words = words_in (schedule_lines setup.harts units all);
      is_script = lines (schedule_lines setup.harts units all)
          (first_is setup.harts sizes.some_hart sizes.few_harts, turns_are units turn all there);
      by_units = by_units setup.harts units all;
      asks = asks_are setup.harts setup.roles units are all (turns_for setup (reverse order)) has.turns;
      ran = has.ran;
      runs = has.runs;
      shown = λ predict.
          shown_in_turns setup predict (reverse order) has.ran writable refl has_units has.runs shows scripts turns;
    }

-- ---- No schedule

never_without_harts : (setup : Setup) (limit : ℕ) → is_accepted setup limit ≡ true → are_harts setup.harts ≡ false → ⊥
never_without_harts setup limit accepted none = absurd (grind (arith, nat_tests))

pub run_refusal : (setup : Setup) (limit : ℕ) (order : List ℕ) (why : ScheduleRefused)
    → is_accepted setup limit ≡ true → IsRunRefusal setup.image setup.harts order why
    → IsScheduleRefusedFor setup limit order why
run_refusal setup limit order refused.Config accepted is = absurd (never_without_harts setup limit accepted is)
run_refusal setup limit order refused.Memory accepted is = tt
run_refusal setup limit order (refused.Step index why) accepted is = (accepted, is)
run_refusal setup limit order (refused.Unit kind) accepted is = absurd is
run_refusal setup limit order (refused.Limit room) accepted is = absurd is

pub unit_refusal : (setup : Setup) (limit : ℕ) (order : List ℕ) (left : Ran) (writable : Bool) (roles : List Role)
    (all : List Record) (kind : UnitKind) → is_accepted setup limit ≡ true → HasTurns setup order left
    → writable ≡ code_writable setup.image → roles ≡ setup.roles
    → all ≡ left.records.items → LacksUnit writable roles all kind
    → IsScheduleRefusedFor setup limit order (refused.Unit kind)
unit_refusal setup limit order left writable roles all kind accepted has same_code same_roles same lacks = (
  accepted,
  of_run setup order left (λ xs. LacksUnit (code_writable setup.image) setup.roles xs kind) has
      (subst (λ xs. LacksUnit (code_writable setup.image) setup.roles xs kind) same
      (subst (λ rs. LacksUnit (code_writable setup.image) rs all kind) same_roles
      (subst (λ w. LacksUnit w roles all kind) same_code lacks))),
)

pub limit_refusal : (setup : Setup) (limit : ℕ) (order : List ℕ) (left : Ran) (room : ℕ)
    → is_accepted setup limit ≡ true → HasTurns setup order left
    → HasUnits (code_writable setup.image) setup.roles left.records.items
    → room ≡ room_for setup (length left.records.items) → limit < room → RunsAreExecutions
    → IsScheduleRefusedFor setup limit order (refused.Limit room)
limit_refusal setup limit order left room accepted has served is low executions = (
  accepted,
  of_run setup order left (IsTooLong setup limit order room) has
      (record {
        served = served;
        is_room = is ∙ ap (room_for setup) (as_many setup order left executions has);
        low = low;
      }),
)
