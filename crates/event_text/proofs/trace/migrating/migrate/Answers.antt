use Rattle.std.proofs.lemmas.Result.{err_from_is_err_and, IfOk-weaker, MatchResult-from_both}
use Rattle.event_text.proofs.Migrating.{memory_alone, migrated, migrated_back}
use Rattle.event_text.proofs.trace.migrating.migrate.Goals as goal

pub returns-then-is_newest-clause-back : goal.returns-then-is_newest-clause-back
returns-then-is_newest-clause-back c = λ head events is_head within is older.
    absurd (older (c.is_newest.ensures.0 c.if-is_newest.true))

pub returns-in_err-told-clause-back : goal.returns-in_err-told-clause-back
returns-in_err-told-clause-back c = λ head events is_head within is older.
    let p = err_from_is_err_and c.from_residual.result c.from_residual.ensures.1 in
    rw (p.1, p.2)
    (memory_alone c.args.text.now head events _ is_head within is older c.in_err-told.ensures.refused)

pub returns-clause-migrated : goal.returns-clause-migrated
returns-clause-migrated c =
    IfOk-weaker c.join.result _ _
    (λ new made. migrated c.args.text.now c.split_field.result.1.now new.items c.in_ok-told.told c.args.header.now
    c.in_ok-told.ensures.checked c.split_field.ensures.others (rw c.newest_head.ensures at made))
    c.join.ensures.made

pub returns-clause-back : goal.returns-clause-back
returns-clause-back c = λ head events is_head within is older.
    MatchResult-from_both c.join.result _ _ (IfOk-weaker c.join.result _ _
    (λ new made. migrated_back c.args.text.now c.split_field.result.1.now new.items c.in_ok-told.told
    c.args.header.now head events c.in_ok-told.ensures.checked is_head within is c.split_field.ensures.others
    (rw c.newest_head.ensures at made)) c.join.ensures.made) c.join.ensures.memory
