use Rattle.std.proofs.Common.{◌≡◌, ◌==◌, not, true, false, sym, ap, ◌∙◌, arith}
use Rattle.std.proofs.lemmas.Bool.Decides.{nat_tests}
use Rattle.std.specs.Option.{is_some}
use Rattle.text_fields.specs.Splitting.{field_count}
use Rattle.source_lines.specs.Faults.{is_behind}
use Rattle.source_lines.specs.Lines.{line_text, origin_of}
use Rattle.source_lines.proofs.Cutting.{cut_line, file_lacks}
use Rattle.source_lines.proofs.Faulty.{by_place, in_code, is_outside, word_there}
use Rattle.source_lines.proofs.reading.next_line.Goals as goal

pub returns-then-is_none-clause-refused : goal.returns-then-is_none-clause-refused
returns-then-is_none-clause-refused c =
    let line = c.in_ok-line.line in
    let more : (field_count 10 c.args.text.now == 1) ≡ false = grind (arith, nat_tests) in
    let none = word_there c.args.image.now line.address false (ap is_some (sym c.code_word.ensures) ∙ c.is_none.ensures
    ∙ ap not c.if-is_none.true) in
    by_place c.args.image.now c.args.last c.args.text.now _ line.address more c.split_field.ensures.first
    c.in_ok-line.ensures.fits c.in_ok-line.ensures.address ∙ is_outside c.args.image.now c.args.last line.address none

pub returns-clause-cut : goal.returns-clause-cut
returns-clause-cut c =
    let more : (field_count 10 c.args.text.now == 1) ≡ false = grind (arith, nat_tests) in
    cut_line c.args.text.now (line_text (origin_of c.in_ok-line.line)) more
    (c.in_ok-line.ensures.read ∙ c.split_field.ensures.first)

pub returns-clause-one : goal.returns-clause-one
returns-clause-one c =
    let line = c.in_ok-line.line in
    record {
      word = word_there c.args.image.now line.address true (ap is_some (sym c.code_word.ensures) ∙ c.is_none.ensures
          ∙ ap not c.if-is_none.false);
      named = c.in_ok-line.ensures.named;
      whole = file_lacks (origin_of line) c.args.text.now (c.in_ok-line.ensures.read ∙ c.split_field.ensures.first);
      from_one = c.in_ok-line.ensures.from_one;
    }

pub returns-clause-fits : goal.returns-clause-fits
returns-clause-fits c =
    let line = c.in_ok-line.line in
    let more : (field_count 10 c.args.text.now == 1) ≡ false = grind (arith, nat_tests) in
    let there = word_there c.args.image.now line.address true (ap is_some (sym c.code_word.ensures) ∙ c.is_none.ensures
    ∙ ap not c.if-is_none.false) in
    let behind : is_behind c.args.last line.address ≡ true = grind (arith, nat_tests) in
    by_place c.args.image.now c.args.last c.args.text.now _ line.address more c.split_field.ensures.first
    c.in_ok-line.ensures.fits c.in_ok-line.ensures.address
    ∙ in_code c.args.image.now c.args.last line.address true there behind

pub returns-then-not-is_behind-clause-refused : goal.returns-then-not-is_behind-clause-refused
returns-then-not-is_behind-clause-refused c =
    let line = c.in_ok-line.line in
    let more : (field_count 10 c.args.text.now == 1) ≡ false = grind (arith, nat_tests) in
    let there = word_there c.args.image.now line.address true (ap is_some (sym c.code_word.ensures) ∙ c.is_none.ensures
    ∙ ap not c.if-is_none.false) in
    let behind : is_behind c.args.last line.address ≡ false = grind (arith, nat_tests) in
    by_place c.args.image.now c.args.last c.args.text.now _ line.address more c.split_field.ensures.first
    c.in_ok-line.ensures.fits c.in_ok-line.ensures.address
    ∙ in_code c.args.image.now c.args.last line.address false there behind
