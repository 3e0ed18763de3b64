-- The core that was asked all lines, from what is known of the asks.
use Rattle.std.specs.Prelude.{◌≡◌, ℕ, ◌-◌, ◌≤◌, ◌==◌, min, if◌then◌else◌, List, [], ◌++◌, length, reverse, Some, None}
use Rattle.std.specs.Prelude.{Result, Ok, Err, IfOk}
use Rattle.elf_image.specs.Image.{ProgramImage}
use Rattle.std.proofs.Common.{sym, ap, subst, ◌∙◌, arith}
use Rattle.std.proofs.lemmas.Grind.{common_steps}
use Rattle.std.proofs.lemmas.List.{length-reverse, reverse-reverse}
use Rattle.numbers.specs.Sizes.{most_events}
use Rattle.events.specs.declared.event.Event.{Event}
use Rattle.smt_model.specs.{Setup.Setup, Rules.is_legal}
use Rattle.smt_model.specs.declared.config.Config.{Config}
use Rattle.core_state.specs.{Setup.setup_of, View.CoreView}
use Rattle.smt_core.specs.Shown.{Shown}
use Rattle.text_fields.specs.Printing.{Prints}
use Rattle.scripts.specs.{declared.actions.ScriptWord.ScriptWord, Lines.words_in}
use Rattle.scripts.specs.Session.{HaveCounted, AreGuessed, HasGuessed, unasked}
use Rattle.chart_rows.specs.{declared.row.Row.Row, Rows.AreHistory, Rows.AreRows}
use Rattle.chart_rows.specs.{Views.view_of}
use Rattle.charts.specs.{Text.chart_text}
use Rattle.prompts.specs.{Kept.Kept, Kept.IsAskedAll, Printed.IsChartOf, Printed.plain_drawing}

-- What was printed into a text of nothing is all of it.
pub printed_all : (old new : List ℕ) (P : List ℕ → Type 0) → old ≡ [] → Prints (Some old) (Some new) P → P new
printed_all old new P none printed = subst P (sym (printed.2 ∙ ap (λ l. l ++ printed.0) none)) printed.1

after_nothing : {A : Type 0} (xs : List A) → xs ++ [] ≡ xs
after_nothing xs = grind (arith, common_steps)

-- A core without a history is what the one that it becomes was before its first event.
unasked_is : (old new : CoreView) → old.past ≡ [] → new.setup ≡ old.setup → new.limit ≡ old.limit
    → old ≡ unasked new
unasked_is old new none setup limit =
    ap (λ p. record { setup = old.setup; limit = old.limit; past = p }) none
    ∙ (ap (λ s. record { setup = s; limit = old.limit; past = [] }) (sym setup)
    ∙ ap (λ l. record { setup = new.setup; limit = l; past = [] }) (sym limit))

pub asked_all : {P : Type 0} (predicts : P → ℕ → ℕ → ℕ → ℕ → P → Type 0) (before after : P) (setup : Setup) (limit : ℕ)
    (kept : Kept) (words : List ScriptWord) (old new : CoreView) (idle lines : List ℕ)
    → words ≡ words_in kept → old ≡ record { setup = setup; limit = limit; past = [] }
    → new.setup ≡ old.setup → new.limit ≡ old.limit → Shown new → HaveCounted words old new idle lines
    → HasGuessed predicts old.past new.past before after
    → IsAskedAll predicts before setup limit kept new idle lines
asked_all predicts before after setup limit kept words old new idle lines are made same_setup same_limit shown asked guessed =
    let none : old.past ≡ [] = ap (λ (c : CoreView). c.past) made in
    let past : new.past ≡ guessed.events =
    guessed.grown ∙ ap (λ l. guessed.events ++ l) none ∙ after_nothing guessed.events in
    record {
      has_setup = same_setup ∙ ap (λ (c : CoreView). c.setup) made;
      has_limit = same_limit ∙ ap (λ (c : CoreView). c.limit) made;
      shown = shown;
      asked = subst (λ w. HaveCounted w (unasked new) new idle lines) are
          (subst (λ c. HaveCounted words c new idle lines) (unasked_is old new none same_setup same_limit) asked);
      after = after;
      guessed = subst (λ l. AreGuessed predicts l before after) (sym past) guessed.guessed;
    }

-- The history of a core, as a list of events that begins with the oldest.
pub history_in : (core : CoreView) (items events : List Event) → reverse items ≡ core.past
    → is_legal core.setup core.past → events ≡ items → AreHistory events
history_in core items events past legal same =
    (core.setup, subst (is_legal core.setup) (sym (ap reverse same ∙ past)) legal)

-- What is drawn of all events ends with the last.
whole : (events : ℕ) → events ≤ most_events
    → view_of 0 4294967295 None events ≡ view_of 0 (events - 1) None events
whole events few =
    let last : min 4294967295 (events - 1) ≡ min (events - 1) (events - 1) = omega (arith, few) in
    ap (λ (n : ℕ). if events == 0 then record { from = 1; to = 0; hart = None }
    else record { from = 0; to = n; hart = None }) last

-- The chart of a core is drawn of that list.
pub chart_is : (core : CoreView) (items events : List Event) (rows : List Row) (text : List ℕ)
    → reverse items ≡ core.past → length items ≤ core.limit → core.limit ≤ most_events
    → events ≡ items → AreRows (reverse events) rows
    → text ≡ chart_text (plain_drawing core.setup.harts (view_of 0 4294967295 None (length events)) events rows)
    → IsChartOf core text
chart_is core items events rows text past within small same are drawn =
    let as_long : length items ≡ length core.past = sym (length-reverse items) ∙ ap length past in
    let few : length core.past ≤ most_events = omega (arith, within, small, as_long) in
    let all : view_of 0 4294967295 None (length events) ≡ view_of 0 (length core.past - 1) None (length core.past) =
    ap (λ (n : ℕ). view_of 0 4294967295 None n) (ap length same ∙ as_long) ∙ whole (length core.past) few in
    let turned : events ≡ reverse core.past = same ∙ (sym (reverse-reverse items) ∙ ap reverse past) in
    record {
      rows = rows;
      are_rows = subst (λ l. AreRows l rows) (ap reverse same ∙ past) are;
      drawn = drawn ∙ ap (λ v. chart_text (plain_drawing core.setup.harts v events rows)) all
          ∙ ap (λ l. chart_text (plain_drawing core.setup.harts (view_of 0 (length core.past - 1) None (length core.past))
          l rows)) turned;
    }

-- A copy of a configuration makes the same core.
pub same_setup : (image : ProgramImage) (a b : Config) → (a.harts ≡ b.harts) × (a.extra ≡ b.extra) × (a.queue ≡ b.queue)
    → a.roles.items ≡ b.roles.items → setup_of image a ≡ setup_of image b
same_setup image a b sizes roles =
    let harts = sizes.0 in
    let extra = sizes.1 in
    let queue = sizes.2 in
    cc

pub made_as : (core : CoreView) (setup other : Setup) (limit : ℕ)
    → core ≡ record { setup = setup; limit = limit; past = [] } → setup ≡ other
    → core ≡ record { setup = other; limit = limit; past = [] }
made_as core setup other limit made same = made ∙ ap (λ s. record { setup = s; limit = limit; past = [] }) same

-- The same of an answer.
module _ {P A E : Type 0} (predicts : P → ℕ → ℕ → ℕ → ℕ → P → Type 0) (core_of : A → CoreView) (idle_of text_of : A → List ℕ)
  where
    pub all_asked : (answer : Result A E) (before : P) (setup : Setup) (limit : ℕ) (kept : Kept)
        (words : List ScriptWord) (old : CoreView)
        → words ≡ words_in kept → old ≡ record { setup = setup; limit = limit; past = [] }
        → IfOk answer (λ a. (core_of a).setup ≡ old.setup) → IfOk answer (λ a. (core_of a).limit ≡ old.limit)
        → IfOk answer (λ a. Shown (core_of a)) → IfOk answer (λ a. HaveCounted words old (core_of a) (idle_of a) (text_of a))
        → IfOk answer (λ a. (after : P) × HasGuessed predicts old.past (core_of a).past before after)
        → IfOk answer (λ a. IsAskedAll predicts before setup limit kept (core_of a) (idle_of a) (text_of a))
    all_asked (Ok a) before setup limit kept words old are made has_setup has_limit shown asked guessed =
        asked_all predicts before guessed.0 setup limit kept words old (core_of a) (idle_of a) (text_of a) are made has_setup has_limit
        shown asked guessed.1
    all_asked (Err e) before setup limit kept words old are made has_setup has_limit shown asked guessed = tt
