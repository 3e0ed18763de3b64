use Rattle.std.proofs.Common.{List, [], ◌∷◌, ◌++◌, refl, sym, ap, subst, ◌∙◌, Vec, Global}
use Rattle.litmus_runs.specs.declared.runs.Run.{Run}
use Rattle.program_ways.specs.Keeping.{AreListed}
use Rattle.program_ways.proofs.Listing.{one_run, one_run_more}
use Rattle.program_ways.proofs.following.Ways.list.Goals as goal

pub returns : goal.returns
returns c =
    let asked = c.args.asked.now in
    let p = asked.program.now in
    let shared = asked.shared.now in
    let run : Run = record { accesses = c.args.hart.accesses; registers = c.last_registers-registers.result } in
    subst (λ (xs : List Run). AreListed p shared asked.index xs)
    (sym (c.in_ok-push.ensures.items ∙ ap (λ (v : Vec Run Global). v.items ++ run ∷ []) c.count.ensures.runs))
    (one_run_more p shared asked.index c.args.self.now.runs.items run c.requires.runs
    (one_run p shared asked.index c.args.hart c.args.end run c.requires.program c.requires.way c.requires.end refl
    c.last_registers-registers.ensures))
