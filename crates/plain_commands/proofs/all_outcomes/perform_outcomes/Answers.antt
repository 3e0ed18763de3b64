use Rattle.std.proofs.Common.{rules, ap, sym, ◌∙◌}
use Rattle.std.proofs.lemmas.Result.{IfOk-weaker, IfErr-weaker}
use Rattle.symbols.specs.Tables.{table_of}
use Rattle.plain_commands.proofs.OfOutcomes.{any_refused, asks_so, comes_to, condition_refused, watch_of_lent}
use Rattle.plain_commands.proofs.all_outcomes.perform_outcomes.Goals as goal

pub returns-in-Err-clause-refused : goal.returns-in-Err-clause-refused
returns-in-Err-clause-refused g c =
    condition_refused c.args.settings.now c.args.image.now (table_of c.args.names.now) c.args.command.now
    c.in-Err.refused c.in-Err.ensures.refused

pub returns-clause-refused : goal.returns-clause-refused
returns-clause-refused g c =
    let is_of = watch_of_lent c.watch_of-watch.result _ _ c.as_slice.ensures.value c.watch_of-watch.ensures.registers
    c.watch_of-watch.ensures.words in
    let asking = asks_so c.args.settings.now (table_of c.args.names.now) c.args.command.now c.in-Ok.question
    c.in-Ok-watched_for.list.items c.watch_of-watch.result c.terms_asked-terms.result.items
    c.terms_asked-terms.ensures c.in-Ok.ensures.read c.in-Ok-watched_for.ensures.asked is_of
    c.in-Ok-see_harts.ensures.there in
    IfErr-weaker c.search.result _ _
    (any_refused c.args.settings.now c.args.image.now (table_of c.args.names.now) c.args.command.now c.in-Ok.question
    c.in-Ok-watched_for.list.items c.watch_of-watch.result asking) c.search.ensures.refused

pub returns-clause-ended : goal.returns-clause-ended
returns-clause-ended g c =
    let is_of = watch_of_lent c.watch_of-watch.result _ _ c.as_slice.ensures.value c.watch_of-watch.ensures.registers
    c.watch_of-watch.ensures.words in
    let asking = asks_so c.args.settings.now (table_of c.args.names.now) c.args.command.now c.in-Ok.question
    c.in-Ok-watched_for.list.items c.watch_of-watch.result c.terms_asked-terms.result.items
    c.terms_asked-terms.ensures c.in-Ok.ensures.read c.in-Ok-watched_for.ensures.asked is_of
    c.in-Ok-see_harts.ensures.there in
    IfOk-weaker c.search.result _ _
    (comes_to c.args.settings.now c.args.image.now (table_of c.args.names.now) _ c.args.command.now c.in-Ok.question
    c.in-Ok-watched_for.list.items c.watch_of-watch.result asking _ _ _ _ c.form_of-form.ensures.plan)
    c.search.ensures.told
