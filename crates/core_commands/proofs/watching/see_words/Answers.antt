use Rattle.std.proofs.Common.{subst, IfErr}
use Rattle.elf_image.specs.Image.{ProgramImage}
use Rattle.core_commands.specs.Watching.{IsAbsent}
use Rattle.core_commands.proofs.watching.see_words.Goals as goal

pub returns-in-Ok-clause-refused : goal.returns-in-Ok-clause-refused
returns-in-Ok-clause-refused c = λ harts.
    subst (λ (image : ProgramImage). IfErr c.see_in.result (IsAbsent image harts c.args.watch.now)) c.in-Ok.ensures.same
    (c.see_in.ensures.refused harts)
