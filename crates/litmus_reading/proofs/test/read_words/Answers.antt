use Rattle.std.proofs.Common.{ap, length, sym, ◌∙◌, subst}
use Rattle.litmus_reading.specs.Memory.{memory_of}
use Rattle.litmus_reading.specs.Starts.{AreOfHarts}
use Rattle.litmus_reading.specs.Texts.{AreLocations, AreThreads}
use Rattle.litmus_reading.proofs.Alike.{other_way}
use Rattle.litmus_reading.proofs.Chains.{passed_on}
use Rattle.litmus_reading.proofs.Placeless.{same_memory_of}
use Rattle.litmus_reading.proofs.Together.{of_words}
use Rattle.litmus_reading.proofs.WordsRead.{asks_at, few_looked, harts_at, heads_at, looked_as, places_at, question_at, start_at, table_at, threads_at}
use Rattle.litmus_reading.proofs.test.read_words.Goals as goal

pub returns-clause-words : goal.returns-clause-words
returns-clause-words c =
    of_words _ _ _ _ _ _ _ _ _ _ _ _ _ _ c.in_ok-inside.ensures.braced c.in_ok-entries.ensures.taken
    (subst (AreOfHarts c.in_ok-harts.harts) c.as_slice.ensures.value c.in_ok-check_harts.ensures.there)
    c.in_ok-harts.ensures.row c.in_ok-rows.ensures.table c.in_ok-question.ensures.spelled
    (subst (λ whole. AreLocations c.args.text.now whole c.args.names.now c.in_ok-locations.locations.items)
    c.as_slice-whole.ensures.value c.in_ok-locations.ensures.are)
    (c.len-count.ensures ∙ c.in_ok-locations.locations.ok.0) c.in_ok-observed.ensures.looked
    (c.in_ok-memory.ensures.words ∙ ap (λ entries. memory_of entries c.args.names.now) c.as_slice-2.ensures.value)
    c.in_ok-threads.ensures.count
    (subst (λ entries. AreThreads c.args.text.now c.in_ok-rows.rows.now entries 0 c.in_ok-threads.threads.items)
    c.as_slice-3.ensures.value c.in_ok-threads.ensures.are)

pub returns-in_err-inside-clause-only : goal.returns-in_err-inside-clause-only
returns-in_err-inside-clause-only c = λ test it well named.
    absurd (c.in_err-inside.ensures.only it.inside it.behind it.braced)

pub returns-in_err-entries-clause-only : goal.returns-in_err-entries-clause-only
returns-in_err-entries-clause-only c = λ test it well named.
    let parts = c.in_ok-inside.ensures.only it.inside it.behind it.braced in
    passed_on c.from_residual-in_err-entries.result c.in_err-entries.field-0.0 _ _
    c.from_residual-in_err-entries.ensures.1
    (c.in_err-entries.ensures.only it.entries (start_at _ _ _ test it _ parts.0))

pub returns-in_err-harts-clause-only : goal.returns-in_err-harts-clause-only
returns-in_err-harts-clause-only c = λ test it well named.
    let parts = c.in_ok-inside.ensures.only it.inside it.behind it.braced in
    absurd (c.in_err-harts.ensures.only (length test.threads.items) it.below (heads_at _ _ _ test it _ parts.1)
    well.harts.1)

pub returns-in_err-check_harts-clause-only : goal.returns-in_err-check_harts-clause-only
returns-in_err-check_harts-clause-only c = λ test it well named.
    let parts = c.in_ok-inside.ensures.only it.inside it.behind it.braced in
    let start = c.in_ok-entries.ensures.only it.entries (start_at _ _ _ test it _ parts.0) in
    let heads = c.in_ok-harts.ensures.only (length test.threads.items) it.below (heads_at _ _ _ test it _ parts.1)
    well.harts.1 in
    absurd (c.in_err-check_harts.ensures.only
    (harts_at _ _ _ test it _ _ _ heads.0 start c.as_slice.ensures.value))

pub returns-in_err-rows-clause-only : goal.returns-in_err-rows-clause-only
returns-in_err-rows-clause-only c = λ test it well named.
    let parts = c.in_ok-inside.ensures.only it.inside it.behind it.braced in
    let heads = c.in_ok-harts.ensures.only (length test.threads.items) it.below (heads_at _ _ _ test it _ parts.1)
    well.harts.1 in
    absurd (c.in_err-rows.ensures.only it.rows it.asked (table_at _ _ _ test it _ _ heads.0 heads.1)
    (asks_at _ _ _ test it))

pub returns-in_err-question-clause-only : goal.returns-in_err-question-clause-only
returns-in_err-question-clause-only c = λ test it well named.
    let parts = c.in_ok-inside.ensures.only it.inside it.behind it.braced in
    let heads = c.in_ok-harts.ensures.only (length test.threads.items) it.below (heads_at _ _ _ test it _ parts.1)
    well.harts.1 in
    let table = c.in_ok-rows.ensures.only it.rows it.asked (table_at _ _ _ test it _ _ heads.0 heads.1)
    (asks_at _ _ _ test it) in
    passed_on c.from_residual-in_err-question.result c.in_err-question.field-0.0 _ _
    c.from_residual-in_err-question.ensures.1
    (c.in_err-question.ensures.only test.quantifier test.condition test.filter it.listed it.whole
    (question_at _ _ _ test it _ _ heads.0 table.1))

pub returns-in_err-observed-clause-only : goal.returns-in_err-observed-clause-only
returns-in_err-observed-clause-only c = λ test it well named.
    let parts = c.in_ok-inside.ensures.only it.inside it.behind it.braced in
    let heads = c.in_ok-harts.ensures.only (length test.threads.items) it.below (heads_at _ _ _ test it _ parts.1)
    well.harts.1 in
    let table = c.in_ok-rows.ensures.only it.rows it.asked (table_at _ _ _ test it _ _ heads.0 heads.1)
    (asks_at _ _ _ test it) in
    let asked = c.in_ok-question.ensures.only test.quantifier test.condition test.filter it.listed it.whole
    (question_at _ _ _ test it _ _ heads.0 table.1) in
    let places = places_at _ _ _ test it _ _ _ c.as_slice-whole.ensures.value asked.4 c.in_ok-locations.ensures.are in
    passed_on c.from_residual-in_err-observed.result c.in_err-observed.field-0.0 _ _
    c.from_residual-in_err-observed.ensures.1 (c.in_err-observed.ensures.only
    (few_looked _ _ _ test it _ _ _ _ _ _ asked.1 asked.2 asked.3 heads.0
    (c.len-count.ensures ∙ c.in_ok-locations.locations.ok.0) places well))

pub returns-in_err-threads-clause-only : goal.returns-in_err-threads-clause-only
returns-in_err-threads-clause-only c = λ test it well named.
    let parts = c.in_ok-inside.ensures.only it.inside it.behind it.braced in
    let start = c.in_ok-entries.ensures.only it.entries (start_at _ _ _ test it _ parts.0) in
    let heads = c.in_ok-harts.ensures.only (length test.threads.items) it.below (heads_at _ _ _ test it _ parts.1)
    well.harts.1 in
    let table = c.in_ok-rows.ensures.only it.rows it.asked (table_at _ _ _ test it _ _ heads.0 heads.1)
    (asks_at _ _ _ test it) in
    passed_on c.from_residual-in_err-threads.result c.in_err-threads.field-0.0 _ _
    c.from_residual-in_err-threads.ensures.1 (c.in_err-threads.ensures.only test.threads.items
    (threads_at _ _ _ test it _ _ _ table.0 start c.as_slice-3.ensures.value) (sym heads.0)
    (λ k d inside. (well.threads k d inside).short))

pub returns-clause-only : goal.returns-clause-only
returns-clause-only c = λ test it well named.
    let parts = c.in_ok-inside.ensures.only it.inside it.behind it.braced in
    let start = c.in_ok-entries.ensures.only it.entries (start_at _ _ _ test it _ parts.0) in
    let heads = c.in_ok-harts.ensures.only (length test.threads.items) it.below (heads_at _ _ _ test it _ parts.1)
    well.harts.1 in
    let table = c.in_ok-rows.ensures.only it.rows it.asked (table_at _ _ _ test it _ _ heads.0 heads.1)
    (asks_at _ _ _ test it) in
    let asked = c.in_ok-question.ensures.only test.quantifier test.condition test.filter it.listed it.whole
    (question_at _ _ _ test it _ _ heads.0 table.1) in
    let places = places_at _ _ _ test it _ _ _ c.as_slice-whole.ensures.value asked.4 c.in_ok-locations.ensures.are in
    record {
      name = named ∙ sym c.in_ok-name.ensures.items;
      words = it.memory ∙ sym (same_memory_of c.in_ok-entries.entries.items it.entries start c.args.names.now)
          ∙ sym (c.in_ok-memory.ensures.words
          ∙ ap (λ entries. memory_of entries c.args.names.now) c.as_slice-2.ensures.value);
      locations = places;
      threads = c.in_ok-threads.ensures.only test.threads.items
          (threads_at _ _ _ test it _ _ _ table.0 start c.as_slice-3.ensures.value) (sym heads.0)
          (λ k d inside. (well.threads k d inside).short);
      quantifier = sym asked.0;
      condition = other_way c.in_ok-question.question.condition test.condition asked.1;
      filter = other_way c.in_ok-question.question.filter test.filter asked.2;
      observed = sym (c.in_ok-observed.ensures.looked ∙ looked_as _ _ _ test it _ _ _ _ _ _ asked.1 asked.2 asked.3
          heads.0 (c.len-count.ensures ∙ c.in_ok-locations.locations.ok.0) places);
    }
