-- Each command's definitions are as `perform` needs them.
use Rattle.std.specs.Prelude.{◌≡◌, ◌⊎◌, ℕ, max, true, false, IsTrue, List, [], ◌∷◌, Option, Some, None, Ok, Err}
use Rattle.std.specs.Prelude.{length, map, reverse}
use Rattle.std.proofs.Common.{refl, sym, ap, subst, ◌∙◌, arith}
use Rattle.std.specs.Io.KnownBytes.{Keeps}
use Rattle.std.proofs.lemmas.Bool.{true≢false, cases_lt}
use Rattle.std.proofs.lemmas.Bool.Decides.{nat_tests}
use mathlib.Core.Logic.{inl, inr}
use Rattle.elf_image.specs.Image.{ProgramImage}
use Rattle.symbols.specs.Tables.{Table}
use Rattle.source_lines.specs.{Lines.Origin, declared.line.LineFault.LineFault}
use Rattle.address_labels.specs.Labels.{Marks, marks_where}
use Rattle.sc_machine.specs.Steps.{are_harts}
use Rattle.smt_model.specs.{Setup.is_accepted, Rules.is_legal}
use Rattle.sim_inputs.specs.{declared.settings.Settings.Settings}
use Rattle.sim_inputs.specs.declared.line.ProgramCommand.{ProgramCommand}
use Rattle.sim_inputs.specs.declared.line.ProgramCommand.TheVariants as commands
use Rattle.sim_inputs.specs.declared.line.StepCommand.{StepCommand}
use Rattle.sim_inputs.specs.declared.line.RunCommand.{RunCommand}
use Rattle.sim_inputs.specs.declared.line.CheckCommand.{CheckCommand}
use Rattle.sim_inputs.specs.declared.line.PlainCommand.{PlainCommand}
use Rattle.sim_inputs.specs.declared.line.ScheduleCommand.{ScheduleCommand}
use Rattle.sim_inputs.specs.declared.line.ScriptCommand.{ScriptCommand}
use Rattle.sim_inputs.specs.declared.line.ListCommand.{ListCommand}
use Rattle.sim_inputs.specs.declared.line.ChartCommand.{ChartCommand}
use Rattle.sim_inputs.specs.declared.line.OutcomesCommand.{OutcomesCommand}
use Rattle.report_lines.specs.{Lines.status_number, Statuses.says_harts}
use Rattle.watched_outcomes.specs.Endings.{Ending}
use Rattle.stress_runs.specs.{Ends.end_of, Ends.rows_of, Ends.tally_of, Ends.worst_of, Answers.sampled_answer}
use Rattle.core_commands.specs.{Stress.stress_status, Chart.OfDrawn, Chart.BetweenEnds, Chart.IsPrinted}
use Rattle.command_parts.specs.Refused.{AreAccepted, AreRefused}
use Rattle.commands.specs.{Commands.RunsComeTo, Commands.IsRunsRefusal, Written.ToWrite}
use Rattle.core_commands.specs.{Run.LackARole, Run.IsRunRefusal}
use Rattle.command_parts.specs.Inputs.{Read}
use Rattle.core_commands.specs.{Account.statuses_of}
use Rattle.plain_commands.specs.{Plain.standing}
use Rattle.plain_commands.specs.{Outcomes.status_found, Outcomes.answer_found, WrittenOrders.IsTextRefusal}
use Rattle.plain_commands.specs.Questions.{status_of_answer, status_of_extent}
use Rattle.outcome_queries.specs.declared.question.{Question.Question, Answer.Answer}
use Rattle.outcome_queries.specs.declared.question.Answer.TheVariants as answers
use Rattle.outcomes.specs.{Found.Found}
use Rattle.searches.specs.declared.extent.Extent.{Extent}
use Rattle.searches.specs.declared.extent.Extent.TheVariants as extents
use Rattle.watched_outcomes.specs.{declared.watch.Watch.Watch}
use Rattle.command_parts.specs.declared.refused.Refused.TheVariants.{Config, Harts, Image, Lines, Output}
use Rattle.plain_commands.specs.PlainRounds.{rounds_of, IsRoundsRefusal, RoundsComeTo}
use Rattle.plain_commands.proofs.OfRounds.{from_rounds, in_rounds}
use Rattle.commands.proofs.Sound.{IsSound, no_unread_image, no_unread_harts, no_unread_lines, no_unread_config, kept}
use Rattle.commands.proofs.Sound.{prints_kept, status_says, zero_says}

-- Sizes of a core aren't refused, nor are its harts too few or too many for the plain machine.
never_refused : (settings : Settings) → AreAccepted settings → AreRefused settings → ⊥
never_refused settings accepted refused =
    let empty : ProgramImage = record { ram = 0; entry = 0; segments = [] } in
    true≢false (sym (accepted empty) ∙ refused empty)

never_without_harts : (settings : Settings) → AreAccepted settings → are_harts settings.config.harts ≡ false → ⊥
never_without_harts settings accepted refused =
    let empty : ProgramImage = record { ram = 0; entry = 0; segments = [] } in
    let both = accepted empty in
    absurd (grind (arith, nat_tests, both, refused))

of_step : (step : StepCommand) (settings : Settings) (program : ProgramImage) (names : Table)
    (lines : Option (List Origin)) (second : Read)
    → IsSound (commands.Step step) settings program names lines second
of_step step settings program names lines (Ok script) = record {
  no_image = λ number is. is;
  no_harts = λ is. is;
  no_lines = λ number fault is. is;
  unfit = λ accepted is. never_refused settings accepted is;
  output = λ Traced old new status is. (is.accepted, is.is_asking);
  flushed = λ Traced old mid new status flushed is. record {
    accepted = is.accepted;
    is_asking = is.is_asking;
    core = is.core;
    setup = is.setup;
    limit = is.limit;
    shown = is.shown;
    traced = is.traced;
    printed = prints_kept old mid new _ is.printed flushed;
    harts = is.harts;
  };
  says = λ Traced old new status is. status_says status (statuses_of is.core) is.harts;
}
of_step step settings program names lines (Err why) = record {
  no_image = λ number is. no_unread_image number why is;
  no_harts = λ is. no_unread_harts why is;
  no_lines = λ number fault is. no_unread_lines number fault why is;
  unfit = λ accepted is. no_unread_config why is;
  output = λ Traced old new status is. absurd is;
  flushed = λ Traced old mid new status flushed is. absurd is;
  says = λ Traced old new status is. absurd is;
}

-- The worst of some exit statuses that say how harts stand says so too.
greater_of : (m n : ℕ) → (max m n ≡ m) ⊎ (max m n ≡ n)
greater_of m n = elim (cases_lt m n) [ inl less ↦ inr (omega arith) | inr more ↦ inl (omega arith) ]

worst_says : (ends : List Ending) → IsTrue (says_harts (worst_of ends))
worst_says [] = refl
worst_says (end ∷ past) = elim (greater_of (worst_of past) (status_number end.statuses)) [
  | inl before ↦ ap says_harts before ∙ worst_says past
  | inr now ↦ status_says (worst_of (end ∷ past)) end.statuses now
]

answer_says : (answer : Answer) → IsTrue (says_harts (status_of_answer answer))
answer_says answers.Yes = refl
answer_says answers.No = refl
answer_says answers.Unknown = refl

-- The exit status of many runs is that of the worst, or goes with what their ends answer.
stress_says : (watch : Watch) (question : Option Question) (ends : List Ending)
    → IsTrue (says_harts (stress_status watch question (tally_of ends)))
stress_says watch None ends = worst_says ends
stress_says watch (Some question) ends = answer_says (sampled_answer watch question (rows_of ends))

-- One run, or as many as are asked for.
module _ (run : RunCommand) (settings : Settings) (program : ProgramImage) (names : Table) (marks : Marks)
    (Traced : ToWrite → Type 0) (old : Option (List ℕ)) (status : ℕ) where
  run_accepted : (times : Option ℕ) (new : Option (List ℕ))
      → RunsComeTo times run settings program names marks Traced old new status
      → AreAccepted settings × (LackARole settings → ⊥)
  run_accepted None new is = (is.accepted, is.manned)
  run_accepted (Some times) new is = (is.accepted, is.manned)

  run_flushed : (times : Option ℕ) (mid new : Option (List ℕ)) → Keeps mid new
      → RunsComeTo times run settings program names marks Traced old mid status
      → RunsComeTo times run settings program names marks Traced old new status
  run_flushed None mid new flushed is = record {
    accepted = is.accepted;
    manned = is.manned;
    core = is.core;
    setup = is.setup;
    limit = is.limit;
    shown = is.shown;
    traced = is.traced;
    idle = is.idle;
    printed = prints_kept old mid new _ is.printed flushed;
    harts = is.harts;
  }
  run_flushed (Some times) mid new flushed is = record {
    accepted = is.accepted;
    manned = is.manned;
    question = is.question;
    all = is.all;
    watch = is.watch;
    asking = is.asking;
    watches = is.watches;
    there = is.there;
    cores = is.cores;
    many = is.many;
    are = is.are;
    made = is.made;
    kept = is.kept;
    printed = kept old mid new _ is.printed flushed;
    stands = is.stands;
  }

  run_says : (times : Option ℕ) (new : Option (List ℕ))
      → RunsComeTo times run settings program names marks Traced old new status → IsTrue (says_harts status)
  run_says None new is = status_says status (statuses_of is.core) is.harts
  run_says (Some times) new is =
      ap says_harts is.stands ∙ stress_says is.watch is.question (map (end_of is.watch) is.cores)

module _ (run : RunCommand) (settings : Settings) (program : ProgramImage) (names : Table) where
  run_no_image : (times : Option ℕ) (number : ℕ) → IsRunsRefusal times run settings program names (Image number) → ⊥
  run_no_image None number is = is
  run_no_image (Some times) number is = is

  run_no_harts : (times : Option ℕ) → IsRunsRefusal times run settings program names Harts → ⊥
  run_no_harts None is = is
  run_no_harts (Some times) is = is

  run_no_lines : (times : Option ℕ) (number : ℕ) (fault : LineFault)
      → IsRunsRefusal times run settings program names (Lines number fault) → ⊥
  run_no_lines None number fault is = is
  run_no_lines (Some times) number fault is = is

  run_config : (times : Option ℕ) → IsRunsRefusal times run settings program names Config → IsRunRefusal settings Config
  run_config None is = is
  run_config (Some times) is = is

  run_output : (times : Option ℕ) → AreAccepted settings × (LackARole settings → ⊥)
      → IsRunsRefusal times run settings program names Output
  run_output None is = is
  run_output (Some times) is = is

of_run : (run : RunCommand) (settings : Settings) (program : ProgramImage) (names : Table)
    (lines : Option (List Origin)) (second : Read)
    → IsSound (commands.Run run) settings program names lines second
of_run run settings program names lines second = record {
  no_image = λ number is. run_no_image run settings program names run.times number is;
  no_harts = λ is. run_no_harts run settings program names run.times is;
  no_lines = λ number fault is. run_no_lines run settings program names run.times number fault is;
  unfit = λ accepted is. elim (run_config run settings program names run.times is) [
    | inl refused ↦ absurd (never_refused settings accepted refused)
    | inr lacks ↦ lacks.1
  ];
  output = λ Traced old new status is. run_output run settings program names run.times
      (run_accepted run settings program names (marks_where run.names names lines) Traced old status run.times new is);
  flushed = λ Traced old mid new status flushed is.
      run_flushed run settings program names
      (marks_where run.names names lines) Traced old status run.times mid new flushed is;
  says = λ Traced old new status is. run_says run settings program names
      (marks_where run.names names lines) Traced old status run.times new is;
}

-- What is told of a trace is refused by the output alone.
image_is_told : (number : ℕ) → Image number ≡ Output → ⊥
image_is_told number same = cc

harts_is_told : Harts ≡ Output → ⊥
harts_is_told same = cc

lines_are_told : (number : ℕ) (fault : LineFault) → Lines number fault ≡ Output → ⊥
lines_are_told number fault same = cc

config_is_told : Config ≡ Output → ⊥
config_is_told same = cc

of_check : (check : CheckCommand) (settings : Settings) (program : ProgramImage) (names : Table)
    (lines : Option (List Origin)) (second : Read)
    → IsSound (commands.Check check) settings program names lines second
of_check check settings program names lines (Ok trace) = record {
  no_image = λ number is. elim is [
    | inl told ↦ absurd (image_is_told number told.1)
    | inr refused ↦ refused
  ];
  no_harts = λ is. elim is [
    | inl told ↦ absurd (harts_is_told told.1)
    | inr refused ↦ refused
  ];
  no_lines = λ number fault is. elim is [
    | inl told ↦ absurd (lines_are_told number fault told.1)
    | inr refused ↦ refused
  ];
  unfit = λ accepted is. elim is [
    | inl told ↦ absurd (config_is_told told.1)
    | inr refused ↦ refused
  ];
  output = λ Traced old new status is. inr (
    is.read,
    is.is_trace,
    (
      subst (λ setup. is_accepted setup (length is.read.events) ≡ true) is.setup
          (subst (λ limit. is_accepted is.core.setup limit ≡ true) is.limit is.accepted),
      subst (λ setup. is_legal setup (reverse is.read.events)) is.setup
          (subst (λ past. is_legal is.core.setup past) is.past is.shown.legal),
    ),
  );
  flushed = λ Traced old mid new status flushed is. record {
    read = is.read;
    is_trace = is.is_trace;
    core = is.core;
    setup = is.setup;
    limit = is.limit;
    past = is.past;
    accepted = is.accepted;
    shown = is.shown;
    printed = prints_kept old mid new _ is.printed flushed;
    harts = is.harts;
  };
  says = λ Traced old new status is. status_says status (statuses_of is.core) is.harts;
}
of_check check settings program names lines (Err why) = record {
  no_image = λ number is. no_unread_image number why is;
  no_harts = λ is. no_unread_harts why is;
  no_lines = λ number fault is. no_unread_lines number fault why is;
  unfit = λ accepted is. no_unread_config why is;
  output = λ Traced old new status is. absurd is;
  flushed = λ Traced old mid new status flushed is. absurd is;
  says = λ Traced old new status is. absurd is;
}

of_plain : (plain : PlainCommand) (settings : Settings) (program : ProgramImage) (names : Table)
    (lines : Option (List Origin)) (second : Read)
    → IsSound (commands.Plain plain) settings program names lines second
of_plain plain settings program names lines (Ok order) = record {
  no_image = λ number is. from_rounds (rounds_of plain) _ _ ⊥ (λ rounds of. of) (λ of. of) is;
  no_harts = λ is. from_rounds (rounds_of plain) _ _ ⊥ (λ rounds of. of) (λ of. of) is;
  no_lines = λ number fault is. from_rounds (rounds_of plain) _ _ ⊥ (λ rounds of. of) (λ of. of) is;
  unfit = λ accepted is.
      from_rounds (rounds_of plain) _ _ ⊥ (λ rounds of. never_without_harts settings accepted of)
      (λ of. never_without_harts settings accepted of.1) is;
  output = λ Traced old new status is.
      in_rounds (rounds_of plain) _ (λ rounds. IsRoundsRefusal settings Output) _ _ (λ rounds of. of.accepted)
      (λ of. (of.harts, of.is_order)) is;
  flushed = λ Traced old mid new status flushed is.
      in_rounds (rounds_of plain) _ (λ rounds. RoundsComeTo settings program rounds plain.records
      (marks_where plain.names names lines) old new status) _ _
      (λ rounds of. record {
        accepted = of.accepted;
        turns = of.turns;
        ran = of.ran;
        are = of.are;
        printed = kept old mid new _ of.printed flushed;
        stands = of.stands;
      })
      (λ of. record {
        harts = of.harts;
        is_order = of.is_order;
        ran = of.ran;
        runs = of.runs;
        printed = kept old mid new _ of.printed flushed;
        stands = of.stands;
        text = of.text;
        is_text = of.is_text;
        put = of.put;
      }) is;
  says = λ Traced old new status is.
      from_rounds (rounds_of plain) _ _ _
      (λ rounds of. status_says status (standing settings.config.harts of.ran) of.stands)
      (λ of. status_says status (standing settings.config.harts of.ran) of.stands) is;
}
of_plain plain settings program names lines (Err why) = record {
  no_image = λ number is.
      from_rounds (rounds_of plain) _ _ ⊥ (λ rounds of. of) (λ of. no_unread_image number why of) is;
  no_harts = λ is.
      from_rounds (rounds_of plain) _ _ ⊥ (λ rounds of. of) (λ of. no_unread_harts why of) is;
  no_lines = λ number fault is.
      from_rounds (rounds_of plain) _ _ ⊥ (λ rounds of. of) (λ of. no_unread_lines number fault why of) is;
  unfit = λ accepted is.
      from_rounds (rounds_of plain) _ _ ⊥ (λ rounds of. never_without_harts settings accepted of)
      (λ of. no_unread_config why of) is;
  output = λ Traced old new status is.
      in_rounds (rounds_of plain) _ (λ rounds. IsRoundsRefusal settings Output) _ _ (λ rounds of. of.accepted)
      (λ of. absurd of) is;
  flushed = λ Traced old mid new status flushed is.
      in_rounds (rounds_of plain) _ (λ rounds. RoundsComeTo settings program rounds plain.records
      (marks_where plain.names names lines) old new status) _ _
      (λ rounds of. record {
        accepted = of.accepted;
        turns = of.turns;
        ran = of.ran;
        are = of.are;
        printed = kept old mid new _ of.printed flushed;
        stands = of.stands;
      })
      (λ of. absurd of) is;
  says = λ Traced old new status is.
      from_rounds (rounds_of plain) _ _ _
      (λ rounds of. status_says status (standing settings.config.harts of.ran) of.stands)
      (λ of. absurd of) is;
}

of_schedule : (schedule : ScheduleCommand) (settings : Settings) (program : ProgramImage) (names : Table)
    (lines : Option (List Origin)) (second : Read)
    → IsSound (commands.Schedule schedule) settings program names lines second
of_schedule schedule settings program names lines (Ok order) = record {
  no_image = λ number is. is;
  no_harts = λ is. is;
  no_lines = λ number fault is. is;
  unfit = λ accepted is. never_refused settings accepted (λ image. is.2);
  output = λ Traced old new status is. (is.printed.0, is.printed.1);
  flushed = λ Traced old mid new status flushed is.
      record { printed = prints_kept old mid new _ is.printed flushed; zero = is.zero };
  says = λ Traced old new status is. zero_says status is.zero;
}
of_schedule schedule settings program names lines (Err why) = record {
  no_image = λ number is. no_unread_image number why is;
  no_harts = λ is. no_unread_harts why is;
  no_lines = λ number fault is. no_unread_lines number fault why is;
  unfit = λ accepted is. no_unread_config why is;
  output = λ Traced old new status is. absurd is;
  flushed = λ Traced old mid new status flushed is. absurd is;
  says = λ Traced old new status is. absurd is;
}

of_script : (script : ScriptCommand) (settings : Settings) (program : ProgramImage) (names : Table)
    (lines : Option (List Origin)) (second : Read)
    → IsSound (commands.Script script) settings program names lines second
of_script script settings program names lines (Ok trace) = record {
  no_image = λ number is. is;
  no_harts = λ is. is;
  no_lines = λ number fault is. is;
  unfit = λ accepted is. is;
  output = λ Traced old new status is. (is.printed.0, is.printed.1);
  flushed = λ Traced old mid new status flushed is.
      record { printed = prints_kept old mid new _ is.printed flushed; zero = is.zero };
  says = λ Traced old new status is. zero_says status is.zero;
}
of_script script settings program names lines (Err why) = record {
  no_image = λ number is. no_unread_image number why is;
  no_harts = λ is. no_unread_harts why is;
  no_lines = λ number fault is. no_unread_lines number fault why is;
  unfit = λ accepted is. no_unread_config why is;
  output = λ Traced old new status is. absurd is;
  flushed = λ Traced old mid new status flushed is. absurd is;
  says = λ Traced old new status is. absurd is;
}

of_list : (list : ListCommand) (settings : Settings) (program : ProgramImage) (names : Table)
    (lines : Option (List Origin)) (second : Read)
    → IsSound (commands.List list) settings program names lines second
of_list list settings program names lines second = record {
  no_image = λ number is. is;
  no_harts = λ is. is;
  no_lines = λ number fault is. is;
  unfit = λ accepted is. is;
  output = λ Traced old new status is. tt;
  flushed = λ Traced old mid new status flushed is.
      record { printed = kept old mid new _ is.printed flushed; zero = is.zero };
  says = λ Traced old new status is. zero_says status is.zero;
}

chart_kept : (chart : ChartCommand) (settings : Settings) (program : ProgramImage) (names : Table) (trace : List ℕ)
    (old mid new : Option (List ℕ)) → Keeps mid new
    → OfDrawn settings program trace chart names (λ setup drawn. BetweenEnds chart drawn (IsPrinted chart setup drawn old mid))
    → OfDrawn settings program trace chart names (λ setup drawn. BetweenEnds chart drawn (IsPrinted chart setup drawn old new))
chart_kept chart settings program names trace old mid new flushed
    (read, is_trace, (history, (drawn, is_drawn, (from, to, ends, (sheet, is_sheet, so))))) = (
      read,
      is_trace,
      (
        history,
        (
          drawn,
          is_drawn,
          (
            from,
            to,
            ends,
            (
              sheet,
              is_sheet,
              record {
                fits = so.fits;
                drawing = so.drawing;
                is_drawing = so.is_drawing;
                printed = kept old mid new _ so.printed flushed;
              },
            ),
          ),
        ),
      ),
    )

of_chart : (chart : ChartCommand) (settings : Settings) (program : ProgramImage) (names : Table)
    (lines : Option (List Origin)) (second : Read)
    → IsSound (commands.Chart chart) settings program names lines second
of_chart chart settings program names lines (Ok trace) = record {
  no_image = λ number is. is;
  no_harts = λ is. is;
  no_lines = λ number fault is. is;
  unfit = λ accepted is. is;
  output = λ Traced old new status is. (is.history.0, is.history.1, is.history.2.0);
  flushed = λ Traced old mid new status flushed is. record {
    history = is.history;
    drawn = chart_kept chart settings program names trace old mid new flushed is.drawn;
    zero = is.zero;
  };
  says = λ Traced old new status is. zero_says status is.zero;
}
of_chart chart settings program names lines (Err why) = record {
  no_image = λ number is. no_unread_image number why is;
  no_harts = λ is. no_unread_harts why is;
  no_lines = λ number fault is. no_unread_lines number fault why is;
  unfit = λ accepted is. no_unread_config why is;
  output = λ Traced old new status is. absurd is;
  flushed = λ Traced old mid new status flushed is. absurd is;
  says = λ Traced old new status is. absurd is;
}

-- The exit status of a search says how its harts stand, or how its question is answered.
extent_says : (extent : Extent) → IsTrue (says_harts (status_of_extent extent))
extent_says extents.Whole = refl
extent_says extents.Beyond = refl
extent_says extents.First = refl

found_says : (watch : Watch) (question : Option Question) (found : Found)
    → IsTrue (says_harts (status_found watch question found))
found_says watch None found = extent_says found.extent
found_says watch (Some question) found = answer_says (answer_found watch question found)

-- What was found is refused for no sizes of a core's, nor for the image, the harts of a line or its lines.
module _ (settings : Settings) (program : ProgramImage) (outcomes : OutcomesCommand) where
  never_of_image : (number : ℕ) → IsTextRefusal settings program outcomes (Image number) → ⊥
  never_of_image number is = elim is.1 [ inl script ↦ script.1 | inr machine ↦ machine ]

  never_of_harts : IsTextRefusal settings program outcomes Harts → ⊥
  never_of_harts is = elim is.1 [ inl script ↦ script.1 | inr machine ↦ machine ]

  never_of_lines : (number : ℕ) (fault : LineFault) → IsTextRefusal settings program outcomes (Lines number fault) → ⊥
  never_of_lines number fault is = elim is.1 [ inl script ↦ script.1 | inr machine ↦ machine ]

  never_of_config : AreAccepted settings → IsTextRefusal settings program outcomes Config → ⊥
  never_of_config accepted is = elim is.1 [
    | inl script ↦ true≢false (sym (accepted program) ∙ script.1)
    | inr machine ↦ never_without_harts settings accepted machine
  ]

of_outcomes : (outcomes : OutcomesCommand) (settings : Settings) (program : ProgramImage) (names : Table)
    (lines : Option (List Origin)) (second : Read)
    → IsSound (commands.Outcomes outcomes) settings program names lines second
of_outcomes outcomes settings program names lines second = record {
  no_image = λ number is. never_of_image settings program outcomes number is.holds;
  no_harts = λ is. never_of_harts settings program outcomes is.holds;
  no_lines = λ number fault is. never_of_lines settings program outcomes number fault is.holds;
  unfit = λ accepted is. elim is [
    | inl few ↦ never_without_harts settings accepted few
    | inr of ↦ never_of_config settings program outcomes accepted of.holds
  ];
  output = λ Traced old new status is. tt;
  flushed = λ Traced old mid new status flushed is. record {
    question = is.question;
    all = is.all;
    watch = is.watch;
    asking = is.asking;
    told = record {
      found = is.told.found;
      is_found = is.told.is_found;
      told = record {
        text = is.told.told.text;
        how = is.told.told.how;
        is_how = is.told.told.is_how;
        why = is.told.told.why;
        is_why = is.told.told.is_why;
        printed = kept old mid new _ is.told.told.printed flushed;
        status = is.told.told.status;
        is_text = is.told.told.is_text;
        put = is.told.told.put;
      };
    };
  };
  says = λ Traced old new status is.
      ap says_harts is.told.told.status ∙ found_says is.watch is.question is.told.found;
}

pub sound : (command : ProgramCommand) (settings : Settings) (program : ProgramImage) (names : Table)
    (lines : Option (List Origin)) (second : Read)
    → IsSound command settings program names lines second
sound (commands.Step step) settings program names lines second = of_step step settings program names lines second
sound (commands.Run run) settings program names lines second = of_run run settings program names lines second
sound (commands.Check check) settings program names lines second = of_check check settings program names lines second
sound (commands.Plain plain) settings program names lines second = of_plain plain settings program names lines second
sound (commands.Schedule schedule) settings program names lines second = of_schedule schedule settings program names
    lines second
sound (commands.Script script) settings program names lines second = of_script script settings program names lines
    second
sound (commands.List list) settings program names lines second = of_list list settings program names lines second
sound (commands.Outcomes outcomes) settings program names lines second = of_outcomes outcomes settings program names
    lines second
sound (commands.Chart chart) settings program names lines second = of_chart chart settings program names lines second
