-- What is written of the runs that show an end. (This project's own choice.) A sink says of its values
-- which bytes were put, where it knows them (`written`), whether it has failed (`has_failed`), and how
-- it stands once a file was begun (`begins`).
use Rattle.std.specs.Prelude.{◌≡◌, ℕ, ◌+◌, Bool, true, false, List, [], ◌∷◌, ◌++◌, Option}
use Rattle.std.specs.Prelude.{flat_map, length, map, reverse}
use Rattle.std.specs.Fmt.{decimal}
use Rattle.event_text.specs.{Sinking.HasPut}
use Rattle.reports.specs.{Traces.trace_of}
use Rattle.smt_model.specs.Account.{order}
use Rattle.core_state.specs.View.{CoreView}
use Rattle.watched_outcomes.specs.declared.watch.Watch.{Watch}
use Rattle.stress_runs.specs.declared.keeping.Part.{Part}
use Rattle.stress_runs.specs.declared.keeping.Part.TheVariants.{Trace, Order, Story}
use Rattle.stress_runs.specs.declared.tally.Row.{Row}
use Rattle.stress_runs.specs.Ends.{end_of, is_new, rows_of}

-- The text of an order of harts: a line for each.
abbrev pub order_line : ℕ → List ℕ
order_line hart = decimal hart ++ 10 ∷ []

abbrev pub order_text : List ℕ → List ℕ
order_text harts = flat_map order_line harts

-- The order in which the instructions of a core have retired: the hart of each, the oldest first. The
-- plain machine's run in this order is that of the core (`Shown`), and so it has its end.
abbrev pub order_of : CoreView → List ℕ
order_of core = reverse (order core.past)

-- The trace and the order of a core, and this story of it, were put into the three files of the end with this number.
pub record IsKept {S : Type 0} (begins : S → ℕ → Part → S → Type 0) (written : S → Option (List ℕ))
    (has_failed : S → Bool) (old new : S) (number : ℕ) (core : CoreView) (story : List ℕ) : Type 0 where
  pub for_trace : S
  pub begun_trace : begins old number Trace for_trace
  pub traced : S
  pub trace : HasPut written has_failed for_trace traced (trace_of core)
  pub for_order : S
  pub begun_order : begins traced number Order for_order
  pub after_order : S
  pub ordered : HasPut written has_failed for_order after_order (order_text (order_of core))
  pub for_story : S
  pub begun_story : begins after_order number Story for_story
  pub told : HasPut written has_failed for_story new story

-- So it is where that is so; else nothing was put.
abbrev pub IsKeptWhere : {S : Type 0} → (S → ℕ → Part → S → Type 0) → (S → Option (List ℕ)) → (S → Bool)
    → Bool → ℕ → CoreView → List ℕ → S → S → Type 0
IsKeptWhere begins written has_failed true number core story old new =
    IsKept begins written has_failed old new number core story
IsKeptWhere begins written has_failed false number core story old new = new ≡ old

-- Of a run behind others with these rows: where its end, with what is watched, is new, its trace, its order and its
-- story, which `tells` makes of a core, are in the files of this end, whose number is the next; else nothing was put.
abbrev pub IsNextKept : {S : Type 0} → (S → ℕ → Part → S → Type 0) → (S → Option (List ℕ)) → (S → Bool)
    → (CoreView → List ℕ) → Watch → List Row → CoreView → S → S → Type 0
IsNextKept begins written has_failed tells watch rows core old new =
    IsKeptWhere begins written has_failed (is_new (end_of watch core) rows) (length rows + 1) core (tells core) old new

-- So it is for each of some runs, the newest first.
abbrev pub AreKept : {S : Type 0} → (S → ℕ → Part → S → Type 0) → (S → Option (List ℕ)) → (S → Bool)
    → (CoreView → List ℕ) → Watch → List CoreView → S → S → Type 0
AreKept begins written has_failed tells watch [] old new = new ≡ old
AreKept {S} begins written has_failed tells watch (core ∷ past) old new = (before : S)
    × AreKept begins written has_failed tells watch past old before
    × IsNextKept begins written has_failed tells watch (rows_of (map (end_of watch) past)) core before new
