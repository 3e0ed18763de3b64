-- Behind lines and a command that are refused, and before and behind the flush.
use Rattle.std.specs.Prelude.{◌≡◌, ℕ, List, Option, is_some}
use Rattle.std.specs.Borrow.{Bor}
use Rattle.std.proofs.Common.{ap, sym, ◌∙◌}
use Rattle.std.proofs.lemmas.Bool.{true≢false}
use Rattle.symbols.specs.Tables.{table_of}
use Rattle.command_parts.specs.Inputs.{as_read}
use Rattle.commands.specs.{Perform.HasTwoCores, Commands.origins_in, Commands.reads_lines, Written.IsWritten}
use Rattle.commands.proofs.OfLine.{command_refusal, lines_refusal, output_refusal, comes_to}
use Rattle.commands.proofs.performing.read_and_perform.Goals as goal
use Rattle.commands.proofs.performing.read_and_perform.Goals.{else-reads_trace-via-then-reads_trace+else-are_two_cores}
use Rattle.commands.proofs.performing.read_and_perform.Goals.{else-reads_trace-via-else-reads_trace}

pub returns-in-Err-clause-refused : goal.returns-in-Err-clause-refused
returns-in-Err-clause-refused g c =
    let wants : c.is_some-wants_lines.result ≡ reads_lines c.args.command.now =
    c.is_some-wants_lines.ensures ∙ ap (λ (o : Option (Bor (List ℕ))). is_some o) c.lines.ensures in
    rw (c.in_ok-config.was, c.in_ok-file.was)
    (lines_refusal c.args.harts.now c.args.command.now _ _ _ _ (as_read c.args.inputs.now.second)
    (as_read c.args.inputs.now.lines) c.in_ok-own.ensures.settings c.in_ok-image.ensures.passed
    c.in_ok-image.ensures.image c.in-Err.refused (rw wants at c.in-Err.ensures.refused))

pub returns-in-Err-perform_command-clause-refused : goal.returns-in-Err-perform_command-clause-refused
returns-in-Err-perform_command-clause-refused g c =
    let own = c.in_ok-own.ensures.settings in
    let with = c.settings_with-settings.ensures in
    let wants : c.is_some-wants_lines.result ≡ reads_lines c.args.command.now =
    c.is_some-wants_lines.ensures ∙ ap (λ (o : Option (Bor (List ℕ))). is_some o) c.lines.ensures in
    rw (c.in_ok-config.was, c.in_ok-file.was)
    (command_refusal c.args.harts.now c.args.command.now _ _ _ _ (table_of c.in_ok-names.names)
    (as_read c.args.inputs.now.second)
    (as_read c.args.inputs.now.lines) (origins_in c.in-Ok.lines) own (rw with.value at with.in_range own.sets.in_range)
    c.in_ok-image.ensures.passed c.in_ok-image.ensures.image (rw c.wants_names.ensures at c.in_ok-names.ensures.names)
    (rw wants at c.in-Ok.ensures.lines) c.in-Err-perform_command.refused
    (rw with.value at c.in-Err-perform_command.ensures.refused))

pub returns-clause-refused : goal.returns-clause-refused
returns-clause-refused g c =
    let own = c.in_ok-own.ensures.settings in
    let with = c.settings_with-settings.ensures in
    let wants : c.is_some-wants_lines.result ≡ reads_lines c.args.command.now =
    c.is_some-wants_lines.ensures ∙ ap (λ (o : Option (Bor (List ℕ))). is_some o) c.lines.ensures in
    rw (c.in_ok-config.was, c.in_ok-file.was)
    (output_refusal c.args.harts.now c.args.command.now _ _ _ _ (table_of c.in_ok-names.names)
    (as_read c.args.inputs.now.second)
    (as_read c.args.inputs.now.lines) (origins_in c.in-Ok.lines) own (rw with.value at with.in_range own.sets.in_range)
    c.in_ok-image.ensures.passed c.in_ok-image.ensures.image (rw c.wants_names.ensures at c.in_ok-names.ensures.names)
    (rw wants at c.in-Ok.ensures.lines)
    (IsWritten g.S.EndFiles.begins g.S.Sink.written g.S.Sink.has_failed c.args.context.now.files
    c.perform_command.new.context.files)
    (g.W.Write.contents c.args.context.now.out) (g.W.Write.contents c.perform_command.new.context.out) _
    (rw with.value at c.in-Ok-perform_command.ensures.ended))

pub returns-in-Ok-flush-clause-ended : goal.returns-in-Ok-flush-clause-ended
returns-in-Ok-flush-clause-ended g c =
    let own = c.in_ok-own.ensures.settings in
    let with = c.settings_with-settings.ensures in
    let wants : c.is_some-wants_lines.result ≡ reads_lines c.args.command.now =
    c.is_some-wants_lines.ensures ∙ ap (λ (o : Option (Bor (List ℕ))). is_some o) c.lines.ensures in
    let one : HasTwoCores c.args.harts.now c.args.command.now (as_read c.args.inputs.now.second) → ⊥ =
    elim c.else-reads_trace.branch [
      | else-reads_trace-via-then-reads_trace+else-are_two_cores w ↦
          λ two. true≢false (sym (w.are_two_cores.ensures.1 two.1) ∙ w.if-are_two_cores.false)
      | else-reads_trace-via-else-reads_trace w ↦
          λ two. true≢false (sym two.0 ∙ sym c.reads_trace.ensures ∙ w.if-reads_trace.false)
    ] in
    rw (c.in_ok-config.was, c.in_ok-file.was)
    (comes_to c.args.harts.now c.args.command.now _ _ _ _ (table_of c.in_ok-names.names)
    (as_read c.args.inputs.now.second)
    (as_read c.args.inputs.now.lines) (origins_in c.in-Ok.lines) own (rw with.value at with.in_range own.sets.in_range)
    c.in_ok-image.ensures.passed c.in_ok-image.ensures.image (rw c.wants_names.ensures at c.in_ok-names.ensures.names)
    (rw wants at c.in-Ok.ensures.lines)
    (IsWritten g.S.EndFiles.begins g.S.Sink.written g.S.Sink.has_failed c.args.context.now.files
    c.perform_command.new.context.files)
    (g.W.Write.contents c.args.context.now.out) (g.W.Write.contents c.perform_command.new.context.out) _
    (rw with.value at c.in-Ok-perform_command.ensures.ended) (g.W.Write.contents c.flush.new.self)
    c.flush.ensures.bytes one)
