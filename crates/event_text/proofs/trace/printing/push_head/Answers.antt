use Rattle.std.specs.{Fmt.decimal, Prelude.codes}
use Rattle.event_text.proofs.HeadLines.{head_spelled}
use Rattle.event_text.proofs.RoleFields.{spaced}
use Rattle.event_text.proofs.trace.printing.push_head.Goals as goal

pub returns : goal.returns
returns g c =
    let sizes = c.args.header.now in
    let harts = rw c.harts.ensures.value at c.push_small_number_field.ensures.spelled in
    let extra = rw (c.from.ensures, c.extra.ensures.value) at c.push_number_field.ensures.spelled in
    let queue = rw c.queue.ensures.value at c.push_small_number_field-2.ensures.spelled in
    let roles = rw c.roles.ensures.value at c.push_roles.ensures.spelled in
    head_spelled c.args.text.now.bytes c.push_str.new.self.bytes c.push_small_number_field.new.line.bytes
    c.push_number_field.new.line.bytes c.push_small_number_field-2.new.line.bytes c.push_roles.new.text.bytes
    c.push_ascii.new.text.bytes (codes "smt-trace 3\nconfig") (decimal sizes.harts) (decimal sizes.extra)
    (decimal sizes.queue) (spaced sizes.roles) c.push_str.ensures.bytes harts extra queue roles
    c.push_ascii.ensures.spelled
