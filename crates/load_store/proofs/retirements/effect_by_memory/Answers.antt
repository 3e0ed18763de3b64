use Rattle.std.proofs.Common.{◌≡◌, ℕ, ◌∙◌, ap, None, unwrap_or, rules}
use Rattle.events.specs.declared.effect.Effect.{Effect}
use Rattle.smt_model.specs.{Bytes.read, Effects.effect_of, Faults.fault, Faults.checked, Reservations.holds_word}
use Rattle.shared_memory.specs.Contents.{byte_of, reserved_of}
use Rattle.load_store.proofs.Retiring.{access_of, keeps, does_there, no_fault}
use Rattle.load_store.proofs.retirements.effect_by_memory.Goals as goal

pub returns-in_default : goal.returns-in_default
returns-in_default c = λ d look is.
    let o = c.args.outcome in
    ap (λ (x : Effect). record x { value = o.value; out = o.out }) c.last_effect-only.ensures
    ∙ keeps c.args.op (checked c.args.memory.now.image c.args.op d) look o _ _ is (search rules)

pub returns-then-is_some : goal.returns-then-is_some
returns-then-is_some c = λ d look is.
    let none : fault c.args.memory.now.image c.args.op c.in-Some.addr ≡ None =
    no_fault c.args.memory.now.image c.args.op d look c.args.outcome c.in-Some.addr is c.in-Some.is in
    absurd (search (rules, none))

pub returns : goal.returns
returns c = λ d look is.
    let m = c.args.memory.now in
    let op = c.args.op in
    let o = c.args.outcome in
    let addr = c.in-Some.addr in
    let now = read op (byte_of m) in
    let held = λ (a : ℕ). holds_word (reserved_of m c.args.hart) a in
    c.effect_of.ensures (now addr) c.read-now.ensures
    ∙ ap (λ d. effect_of op d (now addr) c.holds_word.result)
    (c.access_at-access.ensures ∙ ap (access_of o.next addr) c.unwrap_or.ensures)
    ∙ ap (effect_of op (access_of o.next addr (unwrap_or o.datum 0)) (now addr)) c.holds_word.ensures
    ∙ does_there m.image op d look o addr is c.in-Some.is now held
