use Rattle.std.proofs.Common.{◌≡◌, ◌&&◌, ◌||◌, not, Bool, Decides, sym, ap, subst, ◌∙◌}
use Rattle.std.specs.Option.{is_none}
use Rattle.smt_model.specs.Kinds.{kind_of}
use Rattle.smt_model.specs.Nexts.{is_last}
use Rattle.changed_memory.specs.Keeping.{KeepsShared, reserves}
use Rattle.changed_memory.proofs.Kept.{keeps_decided}
use Rattle.changed_memory.proofs.keeping.keeps_shared.Goals as goal

pub returns-then-is_quiet : goal.returns-then-is_quiet
returns-then-is_quiet c =
    let op = c.args.op in
    let x = c.args.effect in
    let stays : Bool = is_last x.next || not (reserves (kind_of op)) in
    let test : c.keeps_reservations.result ≡ ((is_none x.write && is_none x.out) && stays) =
    c.keeps_reservations.ensures ∙ ap (λ kind. is_last x.next || not (reserves kind)) c.kind.ensures
    ∙ ap (λ quiet. quiet && stays) c.if-is_quiet.ensures in
    subst (λ b. Decides b (KeepsShared op x)) (sym test) (keeps_decided op x)
