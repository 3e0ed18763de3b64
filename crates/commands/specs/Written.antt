-- What a command puts into the sink of its files. (This project's own choice.)
use Rattle.std.specs.Prelude.{ℕ, Bool, List, Option}
use Rattle.core_state.specs.View.{CoreView}
use Rattle.event_text.specs.{Sinking.HasPut}
use Rattle.symbols.specs.Tables.{Table}
use Rattle.watched_outcomes.specs.declared.watch.Watch.{Watch}
use Rattle.stress_runs.specs.declared.keeping.Part.{Part}
use Rattle.plain_commands.specs.{Outcomes.HasPutText}
use Rattle.core_commands.specs.{Account.IsTraceWritten, Stress.AreEndsWritten}

-- The trace of a core, or the files of the ends of some runs of a program with these names, of which this is watched, the
-- newest first, each where it is wanted; or a text, whole; or a text where there is one.
pub data ToWrite : Type 0 where
  TraceOf : Bool → CoreView → ToWrite
  EndsOf : Bool → Table → Watch → List CoreView → ToWrite
  TextOf : List ℕ → ToWrite
  TextIf : Option (List ℕ) → ToWrite

-- A sink took all of it, and hasn't failed.
abbrev pub IsWritten : {S : Type 0} → (S → ℕ → Part → S → Type 0) → (S → Option (List ℕ)) → (S → Bool)
    → S → S → ToWrite → Type 0
IsWritten begins written has_failed old new (TraceOf wanted core) =
    IsTraceWritten written has_failed old new wanted core
IsWritten begins written has_failed old new (EndsOf wanted names watch cores) =
    AreEndsWritten begins written has_failed old new wanted names watch cores
IsWritten begins written has_failed old new (TextOf text) = HasPut written has_failed old new text
IsWritten begins written has_failed old new (TextIf text) = HasPutText written has_failed old new text
