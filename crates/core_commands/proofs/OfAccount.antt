-- What is printed of a core, from what its report says of its account.
use Rattle.std.specs.Prelude.{◌≡◌, ℕ, Bool, false, List, [], ◌++◌, Option, Some, Result, Ok, Err, is_err, OnOk}
use Rattle.std.specs.Prelude.{length, take, true, if◌then◌else◌, is_some}
use Rattle.std.proofs.{Common.refl, Common.sym, Common.ap, Common.subst, Common.◌∙◌, lemmas.Bool.false≢true}
use Rattle.std.specs.Io.KnownBytes.{Appends}
use Rattle.core_state.specs.{View.CoreView, Setup.setup_of}
use Rattle.smt_model.specs.{declared.config.Config.Config, Setup.Setup}
use Rattle.smt_model.specs.{declared.config.Status.Status, Account.open_job_count, Memory.output}
use Rattle.smt_model.specs.{Account.records, Basics.how_many, Touched.looks}
use Rattle.events.specs.declared.effect.Record.{Record}
use Rattle.history_counts.specs.{declared.counts.Counts.Counts}
use Rattle.history_counts.proofs.Listing.{how_many-reverse}
use Rattle.address_labels.specs.Labels.{Marks}
use Rattle.report_lines.specs.Lines.{records_text, status_number}
use Rattle.reports.specs.Report.{is_load_record, looks_line}
use Rattle.text_fields.specs.Printing.{Prints}
use Rattle.text_fields.proofs.Appending.{appends_more}
use Rattle.core_commands.specs.Wanted.{Wants}
use Rattle.core_commands.specs.Account.{AreEndReasons, AreTables, IsReported, looks_of, statuses_of, retired_of}
use Rattle.core_commands.specs.Account.{body_text, body_of, story_of}
use Rattle.core_commands.specs.Account.{counts_in, idle_of}

-- What was printed into nothing is all that is there then.
pub printed_all : (P : List ℕ → Type 0) (old new : List ℕ) → old ≡ [] → Prints (Some old) (Some new) P → P new
printed_all P old new none printed = subst P (sym (printed.2 ∙ ap (λ t. t ++ printed.0) none)) printed.1

-- A call that gave no error has done what it does where it gives none.
pub on_ok_done : {A E : Type 0} (r : Result A E) (P : Type 0) → is_err r ≡ false → OnOk r P → P
on_ok_done (Ok x) P done holds = holds
on_ok_done (Err e) P done holds = absurd (false≢true (sym done))

-- The numbers of its actors, of those of each actor that there may be.
pub idle_is : (core : CoreView) (config : Config) (idle : List ℕ) (n : ℕ) → n ≡ length config.roles.items
    → core.setup ≡ setup_of core.setup.image config → take n idle ≡ idle_of core idle
idle_is core config idle n count is =
    ap (λ m. take m idle) (count ∙ sym (ap (λ (s : Setup). length s.roles) is))

-- The line of the looks is this core's.
pub looked_is : (wanted : Bool) (core : CoreView) (n : ℕ) (rs : List Record) → n ≡ looks core.past
    → rs ≡ retired_of core
    → (if wanted then looks_line n (how_many is_load_record rs) else []) ≡ looks_of wanted core
looked_is true core n rs is_looks is_records =
    ap (λ m. looks_line m (how_many is_load_record rs)) is_looks
    ∙ ap (looks_line (looks core.past))
    (ap (how_many is_load_record) is_records ∙ how_many-reverse is_load_record (records core.past))
looked_is false core n rs is_looks is_records = refl

-- An account that is this core's, and how its harts stand.
module _ (core : CoreView) (wanted : Wants) (marks : Marks) (rs : List Record) (events lent : ℕ)
    (statuses : List Status)
    (put : List ℕ) (counts : Option Counts) (idle : List ℕ) (is_records : rs ≡ retired_of core)
    (is_events : events ≡ length core.past)
    (is_lent : lent ≡ open_job_count core.setup core.past) (is_statuses : statuses ≡ statuses_of core)
    (is_put : put ≡ output core.past) (are_counts : counts ≡ counts_in wanted.counts core) where
  same_text : (ends : List ℕ)
      → records_text wanted.records marks rs ++ body_text wanted.json events rs lent statuses put counts idle ends
      ≡ records_text wanted.records marks (retired_of core) ++ body_of wanted.json wanted.counts core idle ends
  same_text ends = rw (is_records, is_events, is_lent, is_statuses, is_put, are_counts) refl

  -- Its tables were printed, and then its report.
  pub reported : (first_old old mid behind new : Option (List ℕ)) (tables bytes looked ends : List ℕ)
      (stand : List Status) (exit_status : ℕ) → Appends first_old old (story_of wanted.story marks core)
      → AreTables wanted.tables core tables
      → AreEndReasons (is_some wanted.ends) ends → bytes ≡ tables → Appends old mid bytes
      → looked ≡ looks_of wanted.looks core → Appends mid behind looked
      → Appends behind new
      (records_text wanted.records marks rs ++ body_text wanted.json events rs lent statuses put counts idle ends)
      → stand ≡ statuses → exit_status ≡ status_number stand
      → IsReported core idle wanted marks first_old new exit_status
  reported first_old old mid behind new tables bytes looked ends stand exit_status told are are_ends same first
      is_looked second next is_stand harts = record {
        printed = (
          story_of wanted.story marks core ++ (tables ++ (looked
              ++ (records_text wanted.records marks rs ++ body_text wanted.json events rs lent statuses put counts
              idle ends))),
          record {
            tables = tables;
            are_tables = are;
            ends = ends;
            are_ends = are_ends;
            whole = ap (λ t. story_of wanted.story marks core ++ (tables ++ (looked ++ t))) (same_text ends)
                ∙ ap (λ l. story_of wanted.story marks core ++ (tables ++ (l
                ++ (records_text wanted.records marks
                (retired_of core) ++ body_of wanted.json wanted.counts core idle ends))))
                is_looked;
          },
          appends_more first_old old new _ _ told
              (appends_more old mid new _ _ (subst (Appends old mid) same first)
              (appends_more mid behind new _ _ second next)),
        );
        harts = harts ∙ ap status_number (is_stand ∙ is_statuses);
      }
