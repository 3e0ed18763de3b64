-- Turn after turn.
use Rattle.std.proofs.Common.{◌≡◌, ℕ, zero, suc, ◌+◌, ◌-◌, ◌<◌, ◌≤◌, min, Bool, true, false, List, [], ◌∷◌, ◌++◌, Option}
use Rattle.std.proofs.Common.{Some, None, length, reverse, replicate, refl, ap, sym, subst, ◌∙◌, inl, inr, arith}
use Rattle.std.specs.Prelude.{option_map}
use Rattle.std.proofs.lemmas.Bool.{cases_lt}
use Rattle.std.specs.Io.KnownBytes.{Appends}
use Rattle.smt_model.specs.{Setup.Setup, Plain.Run, Plain.start, Plain.step, Plain.run, Plain.is_going_status}
use Rattle.sc_machine.specs.{Machine.Machine, Machine.Agrees, Machine.InEachState, Steps.InEachRun, Steps.run_on}
use Rattle.address_labels.specs.Labels.{Marks}
use Rattle.report_lines.specs.Lines.{records_text}
use Rattle.rounds.specs.declared.rules.Rounds.{Rounds}
use Rattle.rounds.specs.{Turns.Turn, Turns.order_of, Turns.going, Turns.last_of, Turns.next_number, Turns.number_for}
use Rattle.rounds.specs.{Turns.chosen, Rounds.AreTurns, Steps.HasMade, Steps.HaveMade}
use Rattle.rounds.proofs.{Choosing.chosen_goes, Choosing.none_goes, Printing.appends_none}

-- There have been turns: so many steps are left, and this says whose turn comes.
pub record HaveHad (setup : Setup) (rounds : Rounds) (wanted : Bool) (marks : Marks) (old new : Option (List ℕ)) (left : ℕ)
    (number last : Option ℕ) (m : Machine) : Type 0 where
  pub turns : List Turn
  pub ran : Run
  pub each : AreTurns setup rounds turns
  pub runs : run setup (order_of turns) ≡ Some ran
  pub agrees : Agrees setup ran.state m
  pub number_is : number ≡ number_for rounds.seed turns
  pub last_is : last ≡ last_of turns
  pub count : left + length ran.records ≡ rounds.steps
  pub printed : Appends old new (records_text wanted marks (reverse ran.records))

nothing_printed : (wanted : Bool) (marks : Marks) (now : Option (List ℕ)) → Appends now now (records_text wanted marks (reverse []))
nothing_printed true marks now = appends_none now
nothing_printed false marks now = appends_none now

pub had_none : (setup : Setup) (rounds : Rounds) (wanted : Bool) (marks : Marks) (now : Option (List ℕ)) (number : Option ℕ)
    (m : Machine) → number ≡ option_map next_number rounds.seed → Agrees setup (start setup) m
    → HaveHad setup rounds wanted marks now now rounds.steps number None m
had_none setup rounds wanted marks now number m first agrees = record {
  turns = [];
  ran = record { records = []; state = start setup };
  each = tt;
  runs = refl;
  agrees = agrees;
  number_is = first;
  last_is = refl;
  count = omega arith;
  printed = nothing_printed wanted marks now;
}

-- ---- One more turn

run_split : (setup : Setup) (later earlier : List ℕ) (before : Run) → run setup earlier ≡ Some before
    → run setup (later ++ earlier) ≡ run_on setup later before
run_split setup [] earlier before ran = ran
run_split setup (h ∷ later) earlier before ran = ap (step setup h) (run_split setup later earlier before ran)

same_run : (a b : Run) → Some a ≡ Some b → a ≡ b
same_run a b same = cc

-- A hart that goes makes a step at least.
made_some : (setup : Setup) (before : Run) (hart made limit : ℕ) (wanted : Bool) (marks : Marks) (old new : Option (List ℕ)) (m : Machine)
    → HasMade setup before hart made wanted marks old new m
    → (made < limit → InEachState m (λ setup s. hart < setup.harts → is_going_status (s.statuses hart) ≡ false))
    → hart < setup.harts → is_going_status (before.state.statuses hart) ≡ true → 0 < limit → 0 < made
made_some setup before hart zero limit wanted marks old new m has stands inside goes some =
    let same : before ≡ has.after = same_run before has.after has.runs in
    let still : is_going_status (has.after.state.statuses hart) ≡ true =
    subst (λ (r : Run). is_going_status (r.state.statuses hart) ≡ true) same goes in
    let stopped = stands some setup has.after.state has.agrees inside in
    absurd (cc)
made_some setup before hart (suc k) limit wanted marks old new m has stands inside goes some = omega arith

pub had_some : (setup : Setup) (rounds : Rounds) (wanted : Bool) (marks : Marks) (old mid new : Option (List ℕ)) (left hart made limit : ℕ)
    (number last : Option ℕ) (m after : Machine) → HaveHad setup rounds wanted marks old mid left number last m
    → InEachState m (λ setup s. Some hart ≡ chosen number last (going setup s))
    → InEachRun m (λ setup before. HasMade setup before hart made wanted marks mid new after)
    → (made < limit → InEachState after (λ setup s. hart < setup.harts → is_going_status (s.statuses hart) ≡ false))
    → 0 < limit → 0 < made
had_some setup rounds wanted marks old mid new left hart made limit number last m after had next makes stands some =
    let goes = chosen_goes setup had.ran.state number last hart (sym (next setup had.ran.state had.agrees)) in
    made_some setup had.ran hart made limit wanted marks mid new after (makes setup had.ran had.agrees) stands goes.0 goes.1
    some

pub had_more : (setup : Setup) (rounds : Rounds) (wanted : Bool) (marks : Marks) (old mid new : Option (List ℕ)) (left hart made limit : ℕ)
    (number last following : Option ℕ) (m after : Machine) → HaveHad setup rounds wanted marks old mid left number last m
    → InEachState m (λ setup s. Some hart ≡ chosen number last (going setup s))
    → InEachRun m (λ setup before. HasMade setup before hart made wanted marks mid new after)
    → (made < limit → InEachState after (λ setup s. hart < setup.harts → is_going_status (s.statuses hart) ≡ false))
    → limit ≡ min left rounds.each → made ≤ limit → 0 < limit → following ≡ option_map next_number number
    → HaveHad setup rounds wanted marks old new (left - made) following (Some hart) after
had_more setup rounds wanted marks old mid new left hart made limit number last following m after had next makes stands is
    within some on =
    let has = makes setup had.ran had.agrees in
    let now = going setup had.ran.state in
    let turn : Turn = record { hart = hart; made = made } in
    let chosen_is = sym (next setup had.ran.state had.agrees) in
    let goes = chosen_goes setup had.ran.state number last hart chosen_is in
    let runs : run setup (order_of (turn ∷ had.turns)) ≡ Some has.after =
    run_split setup (replicate made hart) (order_of had.turns) had.ran had.runs ∙ has.runs in
    let count = had.count in
    let more = has.count in
    record {
      turns = turn ∷ had.turns;
      ran = has.after;
      each = (
        record {
          before = had.ran;
          stood = had.runs;
          next = ap (λ n. chosen n (last_of had.turns) now) (sym had.number_is)
              ∙ (ap (λ l. chosen number l now) (sym had.last_is) ∙ chosen_is);
          after = has.after;
          stands = runs;
          some = made_some setup had.ran hart made limit wanted marks mid new after has stands goes.0 goes.1 some;
          most = omega arith;
          whole = λ less. elim (cases_lt made limit) [
            | inl before ↦ inl (stands before setup has.after.state has.agrees goes.0)
            | inr end ↦ inr (omega arith)
          ];
        },
        had.each,
      );
      runs = runs;
      agrees = has.agrees;
      number_is = on ∙ ap (option_map next_number) had.number_is;
      last_is = refl;
      count = omega arith;
      printed = has.printed old had.printed;
    }

-- ---- No more turns

pub made_all : (setup : Setup) (rounds : Rounds) (wanted : Bool) (marks : Marks) (old new : Option (List ℕ)) (left : ℕ)
    (number last : Option ℕ) (m : Machine) → HaveHad setup rounds wanted marks old new left number last m
    → left ≡ 0 → HaveMade setup rounds wanted marks old new rounds.steps m
made_all setup rounds wanted marks old new left number last m had none =
    let count = had.count in
    record {
      turns = had.turns;
      ran = had.ran;
      are = record { each = had.each; runs = had.runs; within = omega arith; ended = inr (omega arith) };
      count = omega arith;
      agrees = had.agrees;
      printed = had.printed;
    }

pub made_until : (setup : Setup) (rounds : Rounds) (wanted : Bool) (marks : Marks) (old new : Option (List ℕ)) (left : ℕ)
    (number last : Option ℕ) (m : Machine) → HaveHad setup rounds wanted marks old new left number last m
    → InEachState m (λ setup s. None ≡ chosen number last (going setup s))
    → HaveMade setup rounds wanted marks old new (rounds.steps - left) m
made_until setup rounds wanted marks old new left number last m had none =
    let count = had.count in
    let now = going setup had.ran.state in
    let chosen_is : chosen (number_for rounds.seed had.turns) last now ≡ None =
    ap (λ n. chosen n last now) (sym had.number_is) ∙ sym (none setup had.ran.state had.agrees) in
    record {
      turns = had.turns;
      ran = had.ran;
      are = record {
        each = had.each;
        runs = had.runs;
        within = omega arith;
        ended = inl (none_goes rounds.seed had.turns last now chosen_is);
      };
      count = omega arith;
      agrees = had.agrees;
      printed = had.printed;
    }
