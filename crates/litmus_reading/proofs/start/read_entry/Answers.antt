use Rattle.std.proofs.Common.{◌∙◌, ap, map, sym}
use Rattle.litmus_reading.specs.Starts.{unplaced}
use Rattle.litmus_reading.proofs.Chains.{passed_on}
use Rattle.litmus_reading.proofs.Entries.{given_entry}
use Rattle.litmus_reading.proofs.EntryRead.{entry_given, hart_first, place_first, some_entry}
use Rattle.litmus_reading.proofs.start.read_entry.Goals as goal

pub returns-in_ok-rest-in-Number-clause-taken : goal.returns-in_ok-rest-in-Number-clause-taken
returns-in_ok-rest-in-Number-clause-taken c =
    given_entry _ _ _ _ _ _ c.read_given.ensures.taken c.in_ok-rest-in-Number.ensures.taken

pub returns-in_ok-rest-in_default-clause-taken : goal.returns-in_ok-rest-in_default-clause-taken
returns-in_ok-rest-in_default-clause-taken c =
    given_entry _ _ _ _ _ _ c.read_given.ensures.taken c.in_ok-rest-in_default.ensures.taken

pub returns-in_err-word-clause-only : goal.returns-in_err-word-clause-only
returns-in_err-word-clause-only c = λ after rest taken ended.
    absurd (some_entry _ _ _ _ _ c.in_err-word.ensures.refused
    (entry_given c.args.words.now c.args.entries.now.items after rest _ _ c.read_given.ensures.only taken))

pub returns-in_err-rest-in-Number-clause-only : goal.returns-in_err-rest-in-Number-clause-only
returns-in_err-rest-in-Number-clause-only c = λ after rest taken ended.
    let it = hart_first _ _ _ _ _ _ _ _ c.in_ok-word.ensures.first c.in-Number.is
    (entry_given c.args.words.now c.args.entries.now.items after rest _ _ c.read_given.ensures.only taken) in
    passed_on c.from_residual-in_err-rest-in-Number.result c.in_err-rest-in-Number.field-0.0 _ _
    c.from_residual-in_err-rest-in-Number.ensures.1
    (c.in_err-rest-in-Number.ensures.only it.start rest it.register it.once ended)

pub returns-in_ok-rest-in-Number-clause-only : goal.returns-in_ok-rest-in-Number-clause-only
returns-in_ok-rest-in-Number-clause-only c = λ after rest taken ended.
    let it = hart_first _ _ _ _ _ _ _ _ c.in_ok-word.ensures.first c.in-Number.is
    (entry_given c.args.words.now c.args.entries.now.items after rest _ _ c.read_given.ensures.only taken) in
    let read = c.in_ok-rest-in-Number.ensures.only it.start rest it.register it.once ended in
    (read.0, read.1 ∙ ap (map unplaced) (sym it.added))

pub returns-in_err-rest-in_default-clause-only : goal.returns-in_err-rest-in_default-clause-only
returns-in_err-rest-in_default-clause-only c = λ after rest taken ended.
    let it = place_first _ _ _ _ _ _ _ c.in_ok-word.ensures.first c.in_default.not-Number
    (entry_given c.args.words.now c.args.entries.now.items after rest _ _ c.read_given.ensures.only taken) in
    passed_on c.from_residual-in_err-rest-in_default.result c.in_err-rest-in_default.field-0.0 _ _
    c.from_residual-in_err-rest-in_default.ensures.1
    (c.in_err-rest-in_default.ensures.only it.declared it.between rest after it.name it.contents it.once ended)

pub returns-in_ok-rest-in_default-clause-only : goal.returns-in_ok-rest-in_default-clause-only
returns-in_ok-rest-in_default-clause-only c = λ after rest taken ended.
    let it = place_first _ _ _ _ _ _ _ c.in_ok-word.ensures.first c.in_default.not-Number
    (entry_given c.args.words.now c.args.entries.now.items after rest _ _ c.read_given.ensures.only taken) in
    let read = c.in_ok-rest-in_default.ensures.only it.declared it.between rest after it.name it.contents it.once ended in
    (read.0, ap (map unplaced) read.1)
