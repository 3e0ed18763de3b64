-- What was found is all of it, or there is more than was to be looked at: nothing is asked for, so that the search
-- doesn't end with a first outcome.
use Rattle.event_text.specs.Sinking.{HasPut}
use Rattle.std.proofs.Common.{refl, sym, ◌∙◌, inl}
use Rattle.std.proofs.lemmas.Result.{IfErr-weaker}
use Rattle.plain_commands.proofs.OfLitmus.{all_told, more_told, beyond_of, not_both, of_harts, state_told, unwritten}
use Rattle.plain_commands.proofs.OfLitmus.{image_kept, want_refused, written_refused}
use Rattle.plain_commands.proofs.litmus.perform_test.Goals as goal

pub returns-in-Err-clause-refused : goal.returns-in-Err-clause-refused
returns-in-Err-clause-refused g c =
    want_refused c.args.test.now c.args.settings.now c.args.command.now c.in-Err.refused c.in-Err.ensures.refused

pub returns-in-Whole-clause-refused : goal.returns-in-Whole-clause-refused
returns-in-Whole-clause-refused g c =
    let watched = c.watch_of-watch.ensures in
    let found = c.in-Ok-find_shown.ensures in
    let whole = sym c.extent.ensures ∙ c.in-Whole.is in
    IfErr-weaker c.write_and_print.result _ _
    (written_refused c.args.test.now c.args.settings.now c.args.command.now c.in-Ok.image c.watch_of-watch.result
    (record { is_image = c.in-Ok.ensures; registers = watched.registers; words = watched.words })
    c.in-Ok-find_shown.outcomes (of_harts _ _ _ _ c.harts_of.ensures (found.found.all whole)) found.once)
    c.write_and_print.ensures.refused

pub returns-in-Whole-clause-ended : goal.returns-in-Whole-clause-ended
returns-in-Whole-clause-ended g c =
    let watched = c.watch_of-watch.ensures in
    let found = c.in-Ok-find_shown.ensures in
    let whole = sym c.extent.ensures ∙ c.in-Whole.is in
    all_told c.args.test.now c.args.settings.now c.args.command.now c.in-Ok.image c.watch_of-watch.result
    c.harts_of.result c.harts_of.ensures
    (record { is_image = c.in-Ok.ensures; registers = watched.registers; words = watched.words })
    (HasPut g.S.Sink.written g.S.Sink.has_failed c.args.file.now c.write_and_print.new.file)
    (image_kept g.S.Sink.written g.S.Sink.has_failed c.args.file.now c.put_image.new.file c.write_and_print.new.file
    c.args.test.now c.args.command.now c.in-Ok.image c.in-Ok-put_image.ensures.kept c.write_and_print.ensures.unwanted)
    (g.W.Write.contents c.args.out.now) (g.W.Write.contents c.write_and_print.new.out) c.in-Ok-find_shown.outcomes
    (found.found.all whole) (found.found.cores whole) found.once c.write_and_print.result
    c.write_and_print.ensures.printed
    (state_told g.S.Sink.written g.S.Sink.has_failed c.args.file.now c.put_image.new.file c.write_and_print.new.file
    c.args.settings.now c.in-Ok.image c.args.test.now c.args.command.now c.in-Ok-find_shown.outcomes.listed
    c.in-Ok-put_image.ensures.unwanted c.write_and_print.result c.write_and_print.ensures.written)
    c.write_and_print.ensures.zero

pub returns-in-Whole-clause-unwanted : goal.returns-in-Whole-clause-unwanted
returns-in-Whole-clause-unwanted g c none =
    let files = unwritten c.args.command.now none in
    c.write_and_print.ensures.unwanted files.1 files.2 ∙ c.in-Ok-put_image.ensures.unwanted files.0

pub returns-in-Ok-write_incomplete : goal.returns-in-Ok-write_incomplete
returns-in-Ok-write_incomplete g c =
    let watched = c.watch_of-watch.ensures in
    let found = c.in-Ok-find_shown.ensures in
    let put = c.in-Ok-put_image.ensures in
    let beyond = beyond_of c.in-Ok-find_shown.outcomes c.extent.result c.extent.ensures
    (λ first. (found.asked first).2) c.in-Beyond.is in
    record {
      refused = tt;
      unprinted = tt;
      ended = more_told c.args.test.now c.args.settings.now c.args.command.now c.in-Ok.image c.watch_of-watch.result
          c.harts_of.result c.harts_of.ensures
          (record { is_image = c.in-Ok.ensures; registers = watched.registers; words = watched.words })
          (HasPut g.S.Sink.written g.S.Sink.has_failed c.args.file.now c.put_image.new.file)
          (λ wanted undrawn unordered. put.kept wanted)
          (g.W.Write.contents c.args.out.now) (g.W.Write.contents c.write_incomplete.new.out)
          (found.found.beyond beyond) c.in-Ok-write_incomplete.ensures;
      unwanted = λ none. put.unwanted (unwritten c.args.command.now none).0;
      unbroken = put.unbroken;
      finished = put.finished;
      unreported = λ failed. not_both _ _ put.unbroken failed;
    }

pub returns-in-Ok-find_shown : goal.returns-in-Ok-find_shown
returns-in-Ok-find_shown g c =
    let put = c.in-Ok-put_image.ensures in
    record {
      refused = inl tt;
      unprinted = inl refl;
      ended = tt;
      unwanted = λ none. put.unwanted (unwritten c.args.command.now none).0;
      unbroken = tt;
      finished = tt;
      unreported = λ failed. not_both _ _ put.unbroken failed;
    }
