use Rattle.std.proofs.Common.{◌≡◌, ◌==◌, ◌-◌, ◌^◌, false, length, Ok, ◌∙◌, ap}
use Rattle.text_fields.specs.{Reading.decimal_field, Reading.hex_field, Splitting.field, Splitting.rest}
use Rattle.source_lines.specs.Faults.{file_in, number_in}
use Rattle.source_lines.proofs.Cutting.{some_there, spelled_back}
use Rattle.source_lines.proofs.line.read_line.Goals as goal

pub returns-in-Ok-read_decimal-clause-read : goal.returns-in-Ok-read_decimal-clause-read
returns-in-Ok-read_decimal-clause-read c =
    let same : c.split_last.result.0.now ≡ file_in (rest 32 c.args.text.now) =
    c.split_last.ensures.before ∙ ap file_in c.split_field.ensures.others in
    let end : c.split_last.result.1.now ≡ number_in (rest 32 c.args.text.now) =
    c.split_last.ensures.behind ∙ ap number_in c.split_field.ensures.others in
    let first : hex_field 8 (field 32 c.args.text.now) ≡ Ok c.in-Ok.address = cc (c.in-Ok.ensures.field) in
    let last : decimal_field (2 ^ 32 - 1) (number_in (rest 32 c.args.text.now)) ≡ Ok c.in-Ok-read_decimal.number =
    cc (c.in-Ok-read_decimal.ensures.field) in
    let is : (length c.split_last.result.0.now == 0) ≡ false = cc in
    spelled_back c.args.text.now c.split_last.result.0.now c.in-Ok.address c.in-Ok-read_decimal.number first same
    (some_there c.split_last.result.0.now is) last
