use Rattle.std.proofs.Common.{◌≡◌, ◌≤◌, ◌+◌, ◌*◌, true, length, refl, ap, ◌∙◌, subst, arith}
use Rattle.std.specs.Prelude.{if◌then◌else◌}
use Rattle.core_state.specs.Setup.{setup_of, accepts}
use Rattle.schedules.specs.{Schedules.room_for, Turns.AreUnits}
use Rattle.schedules.proofs.Scheduling.{are_units, room_is, scheduled, unit_refusal, limit_refusal}
use Rattle.schedules.proofs.making.make_schedule.Goals as goal

pub returns-in-Some-clause-refused : goal.returns-in-Some-clause-refused
returns-in-Some-clause-refused c =
    let setup = setup_of c.args.image.now c.args.config.now in
    let accepted : accepts c.args.config.now c.args.limit ≡ true = cc in
    unit_refusal setup c.args.limit c.args.order.now c.in-Ok.ran _ _ _ c.in-Some.kind accepted
    (c.in-Ok.ensures.ran setup refl refl) c.code_writable-writable.ensures c.as_slice-roles.ensures.value
    c.as_slice.ensures.value c.in-Some.ensures.missing

pub returns-then-room-from-clause-refused : goal.returns-then-room-from-clause-refused
returns-then-room-from-clause-refused c =
    let setup = setup_of c.args.image.now c.args.config.now in
    let accepted : accepts c.args.config.now c.args.limit ≡ true = cc in
    let left = c.in-Ok.ran in
    let flag = c.code_writable-writable.result in
    limit_refusal setup c.args.limit c.args.order.now left c.room_for-room.result accepted
    (c.in-Ok.ensures.ran setup refl refl)
    (are_units setup left _ _ _ c.code_writable-writable.ensures c.as_slice-roles.ensures.value c.as_slice.ensures.value
    c.in_default.ensures.served)
    (c.room_for-room.ensures
    ∙ (ap (λ xs. (if flag then 12 else 6) * length xs + c.args.config.now.harts) c.as_slice-2.ensures.value
    ∙ room_is setup flag c.args.config.now.harts (length left.records.items) c.code_writable-writable.ensures refl))
    (omega arith) c.retires_an_execution.ensures.runs

pub returns-clause-scheduled : goal.returns-clause-scheduled
returns-clause-scheduled c =
    let setup = setup_of c.args.image.now c.args.config.now in
    let accepted : accepts c.args.config.now c.args.limit ≡ true = cc in
    let left = c.in-Ok.ran in
    let flag = c.code_writable-writable.result in
    let room : c.room_for-room.result ≤ c.args.limit = omega arith in
    scheduled setup c.args.limit c.args.order.now c.of.result left accepted (c.in-Ok.ensures.ran setup refl refl)
    (are_units setup left _ _ _ c.code_writable-writable.ensures c.as_slice-roles.ensures.value c.as_slice.ensures.value
    c.in_default.ensures.served)
    (subst (λ n. n ≤ c.args.limit)
    (c.room_for-room.ensures
    ∙ (ap (λ xs. (if flag then 12 else 6) * length xs + c.args.config.now.harts) c.as_slice-2.ensures.value
    ∙ room_is setup flag c.args.config.now.harts (length left.records.items) c.code_writable-writable.ensures refl))
    room)
    (subst (λ rs. AreUnits rs c.of.result) c.as_slice-roles.ensures.value c.of.ensures)
    c.retires_an_execution.ensures.runs c.shows_every_run.ensures.accepted c.scripts_show_runs.ensures.scripts
    c.turns_show_runs.ensures.turns c.lines_are_scripts.ensures.lines
