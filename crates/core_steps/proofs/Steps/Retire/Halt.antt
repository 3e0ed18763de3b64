-- Which of the three a retirement is.
use Rattle.std.specs.Prelude.{◌≡◌, ℕ, ◌<◌, true, false, length, slice_index_or}
use Rattle.std.proofs.Common.{sym, ap, subst}
use Rattle.events.specs.declared.effect.Effect.{Effect}
use Rattle.events.specs.declared.effect.Next.TheVariants as next
use Rattle.retire_squash.specs.declared.active.Active.{Active}
use Rattle.smt_model.specs.{declared.config.Status.TheVariants.Ended}
use Rattle.smt_model.specs.{declared.config.Status.TheVariants.Stopped, Nexts.is_last}
use Rattle.smt_model.specs.{Picture.Picture, Plain.status_after, Steps.IsRetire}
use Rattle.core_parts.specs.{Agree.HartAgrees, Agree.PartsAgree, declared.hart.HartState.HartState}
use Rattle.core_parts.specs.declared.parts.Parts.{Parts}
use Rattle.core_steps.specs.Retirement.{Commits, Replays, Ends, Retires, is_replay}

-- The hart is fetched on from where it was, which its state has.
pub fetched_on : (p q : Picture) (parts : Parts) (h : ℕ) (x : Active) (effect : Effect) (pc : ℕ) (a : HartState)
    → h < length parts.harts.items → a ≡ slice_index_or parts.harts.items h a → PartsAgree p parts
    → effect.next ≡ next.Pc pc → is_replay x effect ≡ false → Retires p q h x effect
    → Commits p q h x effect a.fetch_pc
fetched_on p q parts h x effect pc a inside is agrees at same retires =
    let here : HartAgrees p h a = subst (HartAgrees p h) (sym is) (agrees.harts h a inside) in
    record {
      is_oldest = retires.is_oldest;
      goes_on = ap is_last at;
      step = subst (IsRetire p q h x.seq effect) (sym here.fetch_pc) (retires.goes_on (ap is_last at) same);
    }

pub replays_on : (p q : Picture) (h : ℕ) (x : Active) (effect : Effect) (pc : ℕ) → effect.next ≡ next.Pc pc
    → is_replay x effect ≡ true → Retires p q h x effect → Replays p q h x effect pc
replays_on p q h x effect pc at other retires = record {
  is_oldest = retires.is_oldest;
  goes_on = ap is_last at;
  step = retires.replays pc at other;
}

pub ends_ended : (p q : Picture) (h : ℕ) (x : Active) (effect : Effect) (status : ℕ) → effect.next ≡ next.Ended status
    → Retires p q h x effect
    → Ends p q h x (Ended status)
ends_ended p q h x effect status at retires = record {
  is_oldest = retires.is_oldest;
  effect = effect;
  stands = sym (ap (λ n. status_after n (p.status h)) at);
  step = retires.ends (ap is_last at);
}

pub ends_stopped : (p q : Picture) (h : ℕ) (x : Active) (effect : Effect) (cause : ℕ) → effect.next ≡ next.Stopped cause
    → Retires p q h x effect
    → Ends p q h x (Stopped cause)
ends_stopped p q h x effect cause at retires = record {
  is_oldest = retires.is_oldest;
  effect = effect;
  stands = sym (ap (λ n. status_after n (p.status h)) at);
  step = retires.ends (ap is_last at);
}
