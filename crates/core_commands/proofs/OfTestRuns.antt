-- The command `litmus --run`: its runs are counted by states that are listed, and the counts add up.
use Rattle.std.proofs.Common.{◌≡◌, ◌⊎◌, ℕ, zero, suc, ◌+◌, ◌<◌, ◌≤◌, ◌^◌, Bool, true, false, not, ◌&&◌, ◌||◌, refl, sym, ap, subst}
use Rattle.std.proofs.Common.{◌∙◌, arith, inl, inr, List, [], ◌∷◌, ◌++◌, length, map, Option, Some, None, Contains}
use Rattle.std.proofs.Common.{Result, Ok, Err, IfOk, OnOk, nat_lt}
use Rattle.std.specs.{Io.KnownBytes.Appends, List.AllByRecursion, List.list_any}
use Rattle.std.proofs.lemmas.Bool.{cases_Bool, false≢true}
use Rattle.std.proofs.lemmas.{Bool.Decides.nat_tests, List.length-map}
use Rattle.std.proofs.lemmas.List.Folds.{list_any-append, list_any-from_Any}
use Rattle.std.proofs.Math.Path.{fun_ext}
use Rattle.elf_image.specs.Image.{ProgramImage}
use Rattle.core_state.specs.{Setup.setup_of, View.CoreView}
use Rattle.smt_model.specs.{Setup.Setup, Basics.below, Memory.status, Plain.is_going_status}
use Rattle.smt_model.specs.declared.config.Status.{Status}
use Rattle.outcomes.specs.{Found.Found, Found.Told, Found.InEachSetup, Found.IsExactList, Found.CoversCores, Found.IsOnce}
use Rattle.outcomes.specs.{Found.AllAreOver, Found.EndsSo}
use Rattle.watched_outcomes.specs.{declared.watch.Watch.Watch, Endings.Ending}
use Rattle.stress_runs.specs.{Ends.TallyView, Ends.end_of, Ends.rows_of, Ends.same_end, Ends.tally_of}
use Rattle.stress_runs.proofs.Same.{end_decides}
use Rattle.litmus_tests.specs.{declared.test.LitmusTest.LitmusTest}
use Rattle.litmus_histograms.specs.{Kinds.is_over, Counting.in_rows, Counting.in_runs, Text.histogram_text, Sums.AddsUp}
use Rattle.litmus_histograms.proofs.{Rows.few_rows, Rows.rows_count, Adding.add_up}
use Rattle.sim_inputs.specs.{declared.settings.Settings.Settings, declared.line.LitmusCommand.LitmusCommand}
use Rattle.outcomes.specs.{Refusals.IsBeyond}
use Rattle.outcome_text.specs.Listing.{incomplete_text}
use Rattle.command_parts.specs.declared.refused.Refused.{Refused}
use Rattle.command_parts.specs.declared.refused.Refused.TheVariants as reasons
use Rattle.plain_commands.specs.{Litmus.IsSearched, Litmus.KeepsImage, Outcomes.IsWant}
use Rattle.core_commands.specs.{Making.IsOneRun, Stress.HasTallied, Stress.runs_of}
use Rattle.core_commands.specs.TestRuns.{HasCounted, IsRunsRefusal, PrintsHistogram, RunsComeTo, TestRunsComeTo}
use Rattle.core_commands.specs.TestRuns.{histogram_status}

-- ---- The rows of a tally, and its runs

pub as_runs : (ends : List Ending) → in_rows (rows_of ends) ≡ in_runs ends
as_runs ends = fun_ext (λ test. rows_count test ends)

-- There are few rows, as there are few runs.
pub few : (settings : Settings) (image : ProgramImage) (watch : Watch) (Made Kept : List CoreView → Type 0) (runs : ℕ)
    (tally : TallyView) → HasTallied settings image watch Made Kept runs tally → runs < 2 ^ 32
    → length tally.rows < 2 ^ 32
few settings image watch Made Kept runs tally is small =
    let ends = map (end_of watch) is.cores in
    let many : length ends ≡ runs = length-map is.cores (end_of watch) ∙ is.many in
    let rows : length tally.rows ≡ length (rows_of ends) = ap (λ (t : TallyView). length t.rows) is.tallied in
    let no_more = few_rows ends in omega (arith, many, rows, no_more, small)

-- The histogram of a tally is that of its runs.
module _ (test : LitmusTest) (settings : Settings) (image : ProgramImage) (watch : Watch)
    (Made Kept : List CoreView → Type 0) (listed : List Told) (runs : ℕ) (tally : TallyView) (old new : Option (List ℕ))
    (is : HasTallied settings image watch Made Kept runs tally) where
  counts : in_rows tally.rows ≡ in_runs (map (end_of watch) is.cores)
  counts = ap (λ (t : TallyView). in_rows t.rows) is.tallied ∙ as_runs (map (end_of watch) is.cores)

  pub counted : (answer : Result ℕ Refused)
      → OnOk answer (Appends old new (histogram_text test (in_rows tally.rows) listed))
      → IfOk answer (λ status. status ≡ histogram_status test (in_rows tally.rows))
      → IfOk answer (HasCounted test settings image watch listed runs Made old new)
  counted (Ok status) printed stands = record {
    accepted = is.accepted;
    manned = is.manned;
    cores = is.cores;
    many = is.many;
    are = is.are;
    made = is.made;
    printed = subst (λ (count : (Ending → Bool) → ℕ). Appends old new (histogram_text test count listed)) counts printed;
    stands = stands ∙ ap (histogram_status test) counts;
  }
  counted (Err why) printed stands = tt

-- ---- What is over

map_push : (f : ℕ → Status) (xs : List ℕ) (x : ℕ) → map f (xs ++ x ∷ []) ≡ map f xs ++ f x ∷ []
map_push f [] x = refl
map_push f (y ∷ xs) x = ap (λ (ys : List Status). f y ∷ ys) (map_push f xs x)

-- No hart goes in what is listed.
none_going : (statuses : ℕ → Status) (n : ℕ) → ((h : ℕ) → h < n → is_going_status (statuses h) ≡ false)
    → list_any is_going_status (map statuses (below n)) ≡ false
none_going statuses zero none = refl
none_going statuses (suc n) none =
    let before = none_going statuses n (λ h less. none h (omega (arith, less))) in
    let last = none n (omega arith) in
    ap (list_any is_going_status) (map_push statuses (below n) n)
    ∙ list_any-append is_going_status (map statuses (below n)) (statuses n ∷ [])
    ∙ rw (before, last) refl

going_at : (p q : Bool) → p ≡ true → (p && q) ≡ false → q ≡ false
going_at p q is none = rw is at none

pub listed_over : (setup : Setup) (watch : Watch) (found : Found) → IsExactList setup watch found → (told : Told)
    → Contains found.listed told → is_over told.ending ≡ true
listed_over setup watch found is told there =
    let ends = is.sound told there in
    let none = none_going ends.last.statuses setup.harts
    (λ h less. going_at (nat_lt h setup.harts) _ (grind (arith, nat_tests, less)) (ends.is_end h)) in
    ap is_over ends.is ∙ ap not none

-- Where no hart of a core goes, all are over.
each_over : (statuses : ℕ → Status) (n : ℕ) → list_any is_going_status (map statuses (below n)) ≡ false
    → (h : ℕ) → h < n → is_going_status (statuses h) ≡ false
each_over statuses zero none h less = absurd (omega (arith, less))
each_over statuses (suc n) none h less = elim (cases_Bool (is_going_status (statuses h))) [
  | inl going ↦
      let some = any_below statuses (suc n) h less going in absurd (false≢true (sym none ∙ some))
  | inr over ↦ over
]
  where
    or_right : (p q : Bool) → q ≡ true → (p || q) ≡ true
    or_right true q is = refl
    or_right false q is = is

    or_left : (p q : Bool) → p ≡ true → (p || q) ≡ true
    or_left p q is = rw is refl

    apart : (h n : ℕ) → h < suc n → (h ≡ n) ⊎ (h < n)
    apart zero zero less = inl refl
    apart zero (suc n) less = inr (omega arith)
    apart (suc h) zero less = absurd (omega (arith, less))
    apart (suc h) (suc n) less = elim (apart h n (omega (arith, less))) [
      | inl same ↦ inl (ap suc same)
      | inr below ↦ inr (omega (arith, below))
    ]

    any_below : (statuses : ℕ → Status) (n h : ℕ) → h < n → is_going_status (statuses h) ≡ true
        → list_any is_going_status (map statuses (below n)) ≡ true
    any_below statuses zero h less going = absurd (omega (arith, less))
    any_below statuses (suc n) h less going =
        let parts : list_any is_going_status (map statuses (below (suc n)))
        ≡ (list_any is_going_status (map statuses (below n)) || (is_going_status (statuses n) || false)) =
        ap (list_any is_going_status) (map_push statuses (below n) n)
        ∙ list_any-append is_going_status (map statuses (below n)) (statuses n ∷ []) in
        elim (apart h n less) [
          | inl last ↦
              let here : is_going_status (statuses n) ≡ true = rw last at going in
              parts ∙ or_right _ _ (or_left _ false here)
          | inr before ↦ parts ∙ or_left _ _ (any_below statuses n h before going)
        ]

not_true : (b : Bool) → not b ≡ true → b ≡ false
not_true true is = absurd (false≢true is)
not_true false is = refl

-- A core whose harts are all over has ended as listed.
module _ (test : LitmusTest) (settings : Settings) (image : ProgramImage) (watch : Watch) (found : Found)
    (harts : settings.config.harts ≡ length test.threads.items)
    (covers : InEachSetup image (length test.threads.items) (λ setup. CoversCores setup watch found)) where
  one_listed : (core : CoreView) → IsOneRun settings image core → is_over (end_of watch core) ≡ true
      → list_any (λ (told : Told). same_end (end_of watch core) told.ending) found.listed ≡ true
  one_listed core is over =
      let setup = core.setup in
      let of_image : setup.image ≡ image = ap (λ (s : Setup). s.image) is.setup in
      let of_harts : setup.harts ≡ length test.threads.items = ap (λ (s : Setup). s.harts) is.setup ∙ harts in
      let all : AllAreOver setup core.past =
      each_over (status core.past) setup.harts (not_true _ over) in
      let there = covers setup of_image of_harts core.past is.shown.legal all in
      list_any-from_Any (λ (told : Told). same_end (end_of watch core) told.ending) found.listed
      (there.1.0, there.0, there.1.1, there.1.2, (end_decides (end_of watch core) there.0.ending).1 (sym there.2))

  pub all_listed : (cores : List CoreView) → AllByRecursion (IsOneRun settings image) cores
      → AllByRecursion (λ e. is_over e ≡ true
      → list_any (λ (told : Told). same_end e told.ending) found.listed ≡ true) (map (end_of watch) cores)
  all_listed [] are = tt
  all_listed (core ∷ cores) are = (one_listed core are.0, all_listed cores are.1)

  -- What the command comes to where the states are all.
  pub histogram_told : (command : LitmusCommand) (times : ℕ) (Made : List CoreView → Type 0) (Put : List ℕ → Type 0)
      (old new : Option (List ℕ))
      → IsSearched test image watch → KeepsImage test command image Put
      → InEachSetup image (length test.threads.items) (λ setup. IsExactList setup watch found) → IsOnce found
      → (status : ℕ) → HasCounted test settings image watch found.listed (runs_of times) Made old new status
      → PrintsHistogram test settings command times Made Put old new status
  histogram_told command times Made Put old new searched is_kept all once status counted = record {
    image = image;
    watch = watch;
    searched = searched;
    kept = is_kept;
    found = found;
    all = all;
    covers = covers;
    once = once;
    counted = counted;
    adds_up = add_up test found.listed once
        (listed_over (setup_of image settings.config) watch found (all (setup_of image settings.config) refl harts))
        (map (end_of watch) counted.cores) (all_listed counted.cores counted.are);
  }

-- ---- What it comes to, and what is refused

module _ (test : LitmusTest) (settings : Settings) (command : LitmusCommand) (image : ProgramImage) (watch : Watch)
    (Made : List CoreView → Type 0) (Put : List ℕ → Type 0) (is_kept : KeepsImage test command image Put) where
  pub all_counted : (found : Found) (times : ℕ) → settings.config.harts ≡ length test.threads.items
      → IsSearched test image watch
      → InEachSetup image (length test.threads.items) (λ setup. IsExactList setup watch found)
      → InEachSetup image (length test.threads.items) (λ setup. CoversCores setup watch found) → IsOnce found
      → (old new : Option (List ℕ)) (answer : Result ℕ Refused)
      → IfOk answer (HasCounted test settings image watch found.listed (runs_of times) Made old new)
      → IfOk answer (RunsComeTo test settings command times Made Put old new)
  all_counted found times harts searched all covers once old new (Ok status) counted = inl
      (histogram_told test settings image watch found harts covers command times Made Put old new searched is_kept all
      once status counted)
  all_counted found times harts searched all covers once old new (Err why) counted = tt

  pub more_counted : (harts : ℕ) → harts ≡ length test.threads.items → IsSearched test image watch → (times : ℕ)
      (old new : Option (List ℕ)) → IsBeyond image harts command.states
      → Appends old new (incomplete_text command.states) → RunsComeTo test settings command times Made Put old new 3
  more_counted harts count searched times old new beyond printed = inr (record {
    image = image;
    watch = watch;
    searched = searched;
    kept = is_kept;
    beyond = subst (λ n. IsBeyond image n command.states) count beyond;
    printed = printed;
    three = refl;
  })

pub want_refused : (settings : Settings) (why : Refused) → IsWant why → IsRunsRefusal settings why
want_refused settings reasons.Memory is = tt
want_refused settings reasons.Output is = tt
want_refused settings _ is = absurd is

-- Whatever is said of how the cores were made.
pub runs_anyhow : (text : List ℕ) (settings : Settings) (command : LitmusCommand) (times : ℕ)
    (Made : List CoreView → Type 0) (Put : List ℕ → Type 0) (old new : Option (List ℕ)) (answer : Result ℕ Refused)
    → IfOk answer (TestRunsComeTo text settings command times Made Put old new)
    → IfOk answer (TestRunsComeTo text settings command times (λ cores. Unit {0}) Put old new)
runs_anyhow text settings command times Made Put old new (Err why) ended = tt
runs_anyhow text settings command times Made Put old new (Ok status) ended = record {
  test = ended.test;
  is_text = ended.is_text;
  well_formed = ended.well_formed;
  comes = elim ended.comes [
    | inl all ↦ inl (record {
      image = all.image;
      watch = all.watch;
      searched = all.searched;
      kept = all.kept;
      found = all.found;
      all = all.all;
      covers = all.covers;
      once = all.once;
      counted = record {
        accepted = all.counted.accepted;
        manned = all.counted.manned;
        cores = all.counted.cores;
        many = all.counted.many;
        are = all.counted.are;
        made = tt;
        printed = all.counted.printed;
        stands = all.counted.stands;
      };
      adds_up = all.adds_up;
    })
    | inr more ↦ inr more
  ];
}
