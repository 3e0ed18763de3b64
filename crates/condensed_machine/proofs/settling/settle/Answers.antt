use Rattle.std.proofs.Common.{◌≡◌, ℕ, Bool, false, replicate, sym, ap, subst, ◌∙◌, arith}
use Rattle.elf_image.specs.Image.{code_writable}
use Rattle.outcome_laws.proofs.Holding.{has_local}
use Rattle.condensed_machine.specs.Settling.{LeadsLocally, SettlesAs, StepsLocally}
use Rattle.condensed_machine.proofs.Following.{stays_put, still_free, goes_further}
use Rattle.condensed_machine.proofs.Instructions.{stands_written}
use Rattle.condensed_machine.proofs.settling.settle.Goals as goal

pub loop-steps-init : goal.loop-steps-init
loop-steps-init c = λ setup tables h s has image inside holds is is_free. stays_put setup tables h s c.args.hart.now is

pub loop-steps-preserved : goal.loop-steps-preserved
loop-steps-preserved c = λ setup tables h s has image inside holds is is_free.
    let now = c.args.start.now.image in
    let targets = c.args.targets.now in
    let y = c.loop-steps.hart in
    let z = c.step_locally.new.hart in
    let free = c.args.is_free in
    let step : LeadsLocally now targets free y 1 z =
    subst (λ (made : Bool). StepsLocally now targets free y made z) c.if-not-step_locally.false
    c.step_locally.ensures in
    let first = c.loop-steps.invariant setup tables h s has image inside holds is is_free in
    goes_further setup tables h c.loop-steps.steps s y z first
    (step setup tables h first.there has image inside
    (has_local setup tables (replicate c.loop-steps.steps h) s first.there holds first.local) first.agrees
    (still_free setup tables free h c.loop-steps.steps s y first is_free))

pub returns : goal.returns
returns c =
    let all : c.loop-steps.steps ≡ 1000 = omega arith in
    record {
      leads =
          subst (λ (steps : ℕ). LeadsLocally c.args.start.now.image c.args.targets.now c.args.is_free c.args.hart.now
          steps c.loop-steps.hart) all
          c.loop-steps.invariant;
      few = omega arith;
      settled = λ fewer. absurd (omega arith);
    }

pub returns-then-not-step_locally : goal.returns-then-not-step_locally
returns-then-not-step_locally c =
    let image = c.args.start.now.image in
    let targets = c.args.targets.now in
    let y = c.loop-steps.hart in
    let z = c.step_locally.new.hart in
    let free = c.args.is_free in
    let stands : StepsLocally image targets free y false z =
    subst (λ (made : Bool). StepsLocally image targets free y made z) c.if-not-step_locally.true
    c.step_locally.ensures in
    subst (SettlesAs image targets free c.args.hart.now c.loop-steps.steps) (sym stands.1)
    (record { leads = c.loop-steps.invariant; few = omega arith; settled = λ fewer. stands.0 })

pub returns-then-writable : goal.returns-then-writable
returns-then-writable c = record {
  leads = λ setup tables h s has image inside holds is is_free. stays_put setup tables h s c.args.hart.now is;
  few = omega arith;
  settled = λ fewer setup tables h s has image holds is.
      stands_written setup tables c.args.is_free s h
      (ap code_writable image ∙ (sym c.requires.writable ∙ c.if-writable.true));
}
