use Rattle.std.proofs.Common.{◌≡◌, false, take}
use Rattle.std.specs.List.{list_any}
use Rattle.outcomes.specs.Found.{Told}
use Rattle.plain_commands.specs.Questions.{settles}
use Rattle.plain_commands.proofs.settling.settling.Given as goal

-- none settles it so far
abbrev pub invariant-loop-index : goal.invariant-loop-index
invariant-loop-index l =
    list_any (λ (told : Told). settles l.watch l.question told.ending) (take l.index l.outcomes.listed) ≡ false
