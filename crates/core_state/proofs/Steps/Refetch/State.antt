-- A core's refetch: it may come next, what its parts' step starts from, and that the state is a core's again after it.
use Rattle.std.specs.Prelude.{◌≡◌, ℕ, Bool, true, false, List, [], ◌∷◌, ◌++◌, None}
use Rattle.std.proofs.Common.{◌∙◌, sym, subst}
use Rattle.events.specs.{History.EventList, declared.effect.Outcome.Outcome}
use Rattle.events.specs.declared.event.Event.TheVariants.{Refetch}
use Rattle.retire_squash.specs.declared.active.Active.{Active}
use Rattle.smt_model.specs.{Jobs.is_actor, Picture.Picture, Picture.picture, Rules.is_fresh, Rules.refused}
use Rattle.core_parts.specs.{Agree.IsActive, Agree.PartsAgree, Agree.KeepsSizes, Agree.From}
use Rattle.core_parts.specs.{declared.parts.Parts.Parts}
use Rattle.core_steps.specs.Retirement.{CanRetire, Refetches}
use Rattle.core_state.specs.{State.IsCore, State.past_of, State.setup_in, State.view_of, View.CoreView}
use Rattle.core_state.specs.{declared.state.State.TheInside.Inside}
use Rattle.core_state.proofs.Steps.{Invariant.core_grown, Invariant.quiet_refetch, NoAnswer.core_sizes}
use Rattle.core_state.proofs.Steps.Retire.{Look.fetched_of, State.active_inside, State.now_of}
use Rattle.core_state.proofs.Steps.Retire.Wanted.{IsWanted, wanted, refetch_wants}
use Rattle.core_state.proofs.Steps.Refetch.Rules.{refetches_now, refetches_by}

-- What the code has found may be fetched again.
pub refetch_in : (i : Inside) (v : CoreView) (actor h : ℕ) (x : Active) (o : Outcome) (has : Bool) → view_of i ≡ v
    → IsCore i → has ≡ is_actor v.setup actor → has ≡ true
    → ((p : Picture) → PartsAgree p i.parts → CanRetire p h x o)
    → is_fresh v.setup v.past (fetched_of h x) ≡ false → refused v.setup v.past (Refetch actor x.seq) ≡ None
refetch_in i v actor h x o has at core tells there can stale =
    subst (λ w. refused w.setup w.past (Refetch actor x.seq) ≡ None) at
    (refetches_now (setup_in i) (past_of i) actor h
    (subst (λ w. is_actor w.setup actor ≡ true) (sym at) (sym tells ∙ there)) x o (can (now_of i) core.agrees)
    (subst (λ w. is_fresh w.setup w.past (fetched_of h x) ≡ false) (sym at) stale))

-- ---- One that may come next

module _ (i : Inside) (core : IsCore i) (v : CoreView) (at : view_of i ≡ v) (actor h : ℕ) (x : Active)
    (ok : refused v.setup v.past (Refetch actor x.seq) ≡ None) (active : IsActive (picture v.setup v.past) h x) where
  allowed : refused (setup_in i) (past_of i) (Refetch actor x.seq) ≡ None
  allowed = subst (λ u. refused u.setup u.past (Refetch actor x.seq) ≡ None) (sym at) ok

  active_now : IsActive (now_of i) h x
  active_now = subst (λ u. IsActive (picture u.setup u.past) h x) (sym at) active

  oldest_now : IsWanted (setup_in i) (past_of i) h x
  oldest_now =
      wanted (setup_in i) (past_of i) actor h x active_now
      (refetch_wants (setup_in i) (past_of i) actor x.seq allowed)

  step : Refetches (now_of i) (picture (setup_in i) (Refetch actor x.seq ∷ past_of i)) h x
  step =
      refetches_by (setup_in i) (past_of i) core.legal (core_sizes i core).registers actor h x oldest_now.outcome
      oldest_now.can allowed

  pub refetch_from : From i.parts h (λ p q. Refetches p q h x)
  refetch_from = record {
    before = now_of i;
    after = picture (setup_in i) (Refetch actor x.seq ∷ past_of i);
    inside = active_inside i core h x active_now;
    agrees = core.agrees;
    step = step;
  }

  pub core_refetched : (parts : Parts) (history : EventList)
      → ((p q : Picture) → PartsAgree p i.parts → Refetches p q h x → PartsAgree q parts) → KeepsSizes i.parts parts
      → history ≡ record i.history { items = i.history.items ++ Refetch actor x.seq ∷ [] }
      → IsCore (record i { parts = parts; history = history })
  core_refetched parts history steps sizes longer =
      core_grown i parts history (Refetch actor x.seq) core (record {
        allowed = allowed;
        agrees = steps (now_of i) (picture (setup_in i) (Refetch actor x.seq ∷ past_of i)) core.agrees step;
        sizes = sizes;
      }) (quiet_refetch actor x.seq) longer
