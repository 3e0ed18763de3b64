-- The steps of a turn, one after another; and why there is none.
use Rattle.std.proofs.Common.{◌≡◌, ℕ, ◌+◌, ◌<◌, Bool, true, false, List, [], Option, Some, None}
use Rattle.std.proofs.Common.{length, replicate, refl, ap, sym, subst, ◌∙◌, add-one, arith}
use Rattle.std.specs.Prelude.{not, ◌&&◌, if◌then◌else◌, nat_lt, nat_le, is_some, Result, Ok, Err, OnOk, is_err}
use Rattle.std.proofs.lemmas.Bool.Decides.{nat_tests}
use Rattle.std.specs.Io.KnownBytes.{Appends}
use Rattle.events.specs.declared.effect.Record.{Record}
use Rattle.smt_model.specs.{Setup.Setup, Plain.Plain, Plain.Run, Plain.advance, Plain.step, Plain.record_at}
use Rattle.smt_model.specs.{Plain.effect_at, Plain.is_going_status}
use Rattle.sc_machine.specs.{Machine.Machine, Machine.Agrees, Machine.InEachState, Steps.InEachRun, Steps.IsStep}
use Rattle.sc_machine.specs.{Steps.run_on, Refusals.refusal}
use Rattle.sc_machine.specs.declared.refused.Stopped.{Stopped}
use Rattle.sc_machine.specs.declared.refused.Stopped.TheVariants.{NotGoing, OutputFull, NoHart}
use Rattle.address_labels.specs.Labels.{Marks}
use Rattle.report_lines.specs.Lines.{record_line}
use Rattle.rounds.specs.Steps.{HasMade}
use Rattle.rounds.proofs.Printing.{printed_more}

-- ---- More room for the output

-- What holds of an answer that is no refusal.
pub held : {T E : Type 0} (answer : Result T E) (P : Type 0) → is_err answer ≡ false → OnOk answer P → P
held (Ok x) P none holds = holds
held (Err e) P none holds = absurd (cc)

pub agrees_with_room : (setup : Setup) (s : Plain) (m new : Machine) (room : ℕ) → new ≡ record m { room = room }
    → Agrees setup s m → Agrees setup s new
agrees_with_room setup s m new room same agrees =
    let there : Agrees setup s (record m { room = room }) = record {
      image = agrees.image;
      count = agrees.count;
      each = agrees.each;
      reserved = agrees.reserved;
      bytes = agrees.bytes;
      output = agrees.output;
    } in
    subst (λ x. Agrees setup s x) (sym same) there

-- More room changes no step.
pub roomier : (setup : Setup) (before : Run) (hart made room : ℕ) (wanted : Bool) (marks : Marks) (old now : Option (List ℕ))
    (m roomy new : Machine) → HasMade setup before hart made wanted marks old now m → roomy ≡ record m { room = room }
    → new ≡ roomy → HasMade setup before hart made wanted marks old now new
roomier setup before hart made room wanted marks old now m roomy new has same unchanged =
    record {
      after = has.after;
      runs = has.runs;
      agrees = agrees_with_room setup has.after.state m new room (unchanged ∙ same) has.agrees;
      count = has.count;
      printed = has.printed;
    }

-- ---- One more step

pub made_none : (setup : Setup) (before : Run) (hart : ℕ) (wanted : Bool) (marks : Marks) (now : Option (List ℕ)) (m : Machine)
    → Agrees setup before.state m → HasMade setup before hart 0 wanted marks now now m
made_none setup before hart wanted marks now m agrees = record {
  after = before;
  runs = refl;
  agrees = agrees;
  count = omega arith;
  printed = λ origin shown. shown;
}

pub made_more : (setup : Setup) (before : Run) (hart made room : ℕ) (wanted : Bool) (marks : Marks) (old mid new : Option (List ℕ))
    (said : Record) (m roomy after : Machine) → HasMade setup before hart made wanted marks old mid m
    → roomy ≡ record m { room = room } → InEachRun roomy (λ setup ran. IsStep setup roomy.room ran hart said after)
    → Appends mid new (if wanted then record_line marks said else [])
    → HasMade setup before hart (made + 1) wanted marks old new after
made_more setup before hart made room wanted marks old mid new said m roomy after has same steps line =
    let one = steps setup has.after (agrees_with_room setup has.after.state m roomy room same has.agrees) in
    let next = advance setup hart has.after in
    record {
      after = next;
      runs = ap (λ n. run_on setup (replicate n hart) before) (add-one made)
          ∙ (ap (step setup hart) has.runs ∙ one.made);
      agrees = one.agrees;
      count = omega (arith, has.count);
      printed = λ origin shown.
          printed_more wanted marks origin mid new has.after.records (record_at setup has.after.state hart)
          (has.printed origin shown)
          (subst (λ r. Appends mid new (if wanted then record_line marks r else [])) one.said_is line);
    }

-- ---- No more steps

-- The refusal of a hart by four tests: it is there, it goes, it puts a byte out, that has no room.
abbrev refused_by : Bool → Bool → Bool → Bool → Option Stopped
refused_by there goes out full =
    if not there then Some NoHart
    else (if not goes then Some NotGoing else (if out && full then Some OutputFull else None))

stands_by : (there goes out full : Bool) (why : Stopped) → there ≡ true → full ≡ false
    → refused_by there goes out full ≡ Some why → goes ≡ false
stands_by false goes out full why inside room is = absurd (cc)
stands_by true false out full why inside room is = refl
stands_by true true true true why inside room is = absurd (cc)
stands_by true true true false why inside room is = absurd (cc)
stands_by true true false full why inside room is = absurd (cc)

-- A hart that is there and makes no step, where there is room for a byte, doesn't go.
pub stands : (hart : ℕ) (why : Stopped) (roomy : Machine)
    → length roomy.output < roomy.room → InEachState roomy (λ setup s. refusal setup roomy.room s hart ≡ Some why)
    → InEachState roomy (λ setup s. hart < setup.harts → is_going_status (s.statuses hart) ≡ false)
stands hart why roomy free refused setup s agrees inside =
    let there : nat_lt hart setup.harts ≡ true = grind (arith, nat_tests) in
    let put : length roomy.output ≡ length s.output = ap length agrees.output in
    let left : nat_le roomy.room (length s.output) ≡ false = grind (arith, nat_tests) in
    stands_by (nat_lt hart setup.harts) (is_going_status (s.statuses hart)) (is_some (effect_at setup s hart).out)
    (nat_le roomy.room (length s.output)) why there left (refused setup s agrees)
