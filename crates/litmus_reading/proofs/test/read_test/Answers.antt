use Rattle.std.proofs.Common.{ap, length, sym, true≢false, ◌≤◌, ◌∙◌, subst}
use Rattle.std.specs.Prelude.{All}
use Rattle.litmus_words.specs.Gaps.{StandFrom}
use Rattle.litmus_reading.specs.Names.{IsNewLocation, names_in}
use Rattle.litmus_reading.specs.Texts.{IsBraced}
use Rattle.litmus_tests.specs.Limits.{most_locations}
use Rattle.litmus_reading.specs.Memory.{word_total}
use Rattle.litmus_reading.proofs.Chains.{passed_on}
use Rattle.litmus_reading.proofs.SameTests.{well_formed_same}
use Rattle.litmus_reading.proofs.Together.{of_slices, words_at}
use Rattle.litmus_reading.proofs.Totals.{memory_long}
use Rattle.litmus_reading.proofs.test.read_test.Goals as goal

pub returns-clause-read : goal.returns-clause-read
returns-clause-read c =
    of_slices _ _ _ _ _ _ _ _ _ _ _ _ _ _ c.in_ok-check_length.ensures.short c.in_ok-head.ensures.head
    c.in_ok-test.ensures.name c.in_ok-words.ensures.stand c.as_slice.ensures.value c.as_slice-2.ensures.value
    c.as_slice-3.ensures.value c.as_slice-4.ensures.value c.as_slice-5.ensures.value c.in_ok-inside.ensures.braced
    c.in_ok-names.ensures.names c.in_ok-names.ensures.named c.in_ok-words-2.ensures.located c.in_ok-test.ensures.words

pub returns-in_err-head-clause-only : goal.returns-in_err-head-clause-only
returns-in_err-head-clause-only c = λ test it well.
    absurd (c.in_err-head.ensures.only test.name.items it.from it.head)

pub returns-in_err-words-clause-only : goal.returns-in_err-words-clause-only
returns-in_err-words-clause-only c = λ test it well.
    let head = c.in_ok-head.ensures.only test.name.items it.from it.head in
    passed_on c.from_residual-in_err-words.result c.in_err-words.field-0.0 _ _ c.from_residual-in_err-words.ensures.1
    (c.in_err-words.ensures.only it.words
    (subst (λ from. StandFrom c.args.text.now from it.words) (sym head.1) it.stand))

pub returns-in_err-inside-clause-only : goal.returns-in_err-inside-clause-only
returns-in_err-inside-clause-only c = λ test it well.
    let head = c.in_ok-head.ensures.only test.name.items it.from it.head in
    let words = c.in_ok-words.ensures.only it.words
    (subst (λ from. StandFrom c.args.text.now from it.words) (sym head.1) it.stand) in
    absurd (c.in_err-inside.ensures.only it.inside it.behind
    (subst (λ t. IsBraced t it.inside it.behind) (sym (c.as_slice.ensures.value ∙ words)) it.braced))

pub returns-in_err-names-clause-only : goal.returns-in_err-names-clause-only
returns-in_err-names-clause-only c = λ test it well.
    let head = c.in_ok-head.ensures.only test.name.items it.from it.head in
    let words = c.in_ok-words.ensures.only it.words
    (subst (λ from. StandFrom c.args.text.now from it.words) (sym head.1) it.stand) in
    let parts = c.in_ok-inside.ensures.only it.inside it.behind
    (subst (λ t. IsBraced t it.inside it.behind) (sym (c.as_slice.ensures.value ∙ words)) it.braced) in
    passed_on c.from_residual-in_err-names.result c.in_err-names.field-0.0 _ _ c.from_residual-in_err-names.ensures.1
    (c.in_err-names.ensures.only
    (subst (λ t. All (IsNewLocation c.args.text.now) (names_in c.args.text.now t)) (sym parts.0) it.named)
    (subst (λ t. word_total (names_in c.args.text.now t) ≤ most_locations) (sym parts.0)
    (subst (λ n. n ≤ most_locations) (ap length it.is.memory ∙ memory_long _ _) well.words)))

pub returns-in_err-test-clause-only : goal.returns-in_err-test-clause-only
returns-in_err-test-clause-only c = λ test it well.
    let head = c.in_ok-head.ensures.only test.name.items it.from it.head in
    let words = c.in_ok-words.ensures.only it.words
    (subst (λ from. StandFrom c.args.text.now from it.words) (sym head.1) it.stand) in
    let parts = c.in_ok-inside.ensures.only it.inside it.behind
    (subst (λ t. IsBraced t it.inside it.behind) (sym (c.as_slice.ensures.value ∙ words)) it.braced) in
    passed_on c.from_residual-in_err-test.result c.in_err-test.field-0.0 _ _ c.from_residual-in_err-test.ensures.1
    (c.in_err-test.ensures.only test (words_at _ _ _ _ _ _ _ _ _ _ _ test c.as_slice-2.ensures.value words parts.0
    c.in_ok-names.ensures.names c.as_slice-3.ensures.value c.as_slice-5.ensures.value c.in_ok-words-2.ensures.located
    c.as_slice-4.ensures.value it.is) well (sym head.0))

pub returns-clause-only : goal.returns-clause-only
returns-clause-only c = λ test it well.
    let head = c.in_ok-head.ensures.only test.name.items it.from it.head in
    let words = c.in_ok-words.ensures.only it.words
    (subst (λ from. StandFrom c.args.text.now from it.words) (sym head.1) it.stand) in
    let parts = c.in_ok-inside.ensures.only it.inside it.behind
    (subst (λ t. IsBraced t it.inside it.behind) (sym (c.as_slice.ensures.value ∙ words)) it.braced) in
    c.in_ok-test.ensures.only test (words_at _ _ _ _ _ _ _ _ _ _ _ test c.as_slice-2.ensures.value words parts.0
    c.in_ok-names.ensures.names c.as_slice-3.ensures.value c.as_slice-5.ensures.value c.in_ok-words-2.ensures.located
    c.as_slice-4.ensures.value it.is) well (sym head.0)

pub returns-then-not-makes_sense-clause-only : goal.returns-then-not-makes_sense-clause-only
returns-then-not-makes_sense-clause-only c = λ test it well.
    let head = c.in_ok-head.ensures.only test.name.items it.from it.head in
    let words = c.in_ok-words.ensures.only it.words
    (subst (λ from. StandFrom c.args.text.now from it.words) (sym head.1) it.stand) in
    let parts = c.in_ok-inside.ensures.only it.inside it.behind
    (subst (λ t. IsBraced t it.inside it.behind) (sym (c.as_slice.ensures.value ∙ words)) it.braced) in
    let same = c.in_ok-test.ensures.only test (words_at _ _ _ _ _ _ _ _ _ _ _ test c.as_slice-2.ensures.value words parts.0
    c.in_ok-names.ensures.names c.as_slice-3.ensures.value c.as_slice-5.ensures.value c.in_ok-words-2.ensures.located
    c.as_slice-4.ensures.value it.is) well (sym head.0) in
    absurd (true≢false (sym (c.makes_sense.ensures.only (well_formed_same test c.in_ok-test.test same well))
    ∙ c.if-not-makes_sense.true))
