-- An actor that has no job completes nothing.
use Rattle.std.specs.Prelude.{◌≡◌, ℕ, true, List, Option, Some, None, is_some}
use Rattle.std.proofs.Common.{refl, inl, inr, arith}
use Rattle.events.specs.declared.event.Event.{Event}
use Rattle.events.specs.declared.event.Event.TheVariants.{Complete, Drop}
use Rattle.smt_model.specs.{Setup.Setup, Jobs.job, Rules.refused, Asks.AskComplete, Asks.answers}
use Rattle.smt_model.proofs.Fates.Moves.{complete_lent, drop_lent}
use Rattle.smt_laws.specs.{Shown.Predictor, Scripts.IsReply}
use Rattle.smt_laws.proofs.Showing.{Answering.is_complete, Replies.refused_one}
use Rattle.schedules.specs.Asks.{CompletesNothing}

no_job : (o : Option ℕ) (seq : ℕ) → o ≡ None → o ≡ Some seq → ⊥
no_job o seq none some = absurd (cc)

never_both : (o : Option ℕ) → o ≡ None → is_some o ≡ true → ⊥
never_both o none some = absurd (grind arith)

none_completes : (setup : Setup) (actor : ℕ) (past : List Event) → job past actor ≡ None → (e : Event)
    → answers (AskComplete actor) past e ≡ true → is_some (refused setup past e) ≡ true
none_completes setup actor past idle e suits =
    is_complete past actor e suits (λ z. is_some (refused setup past z) ≡ true)
    (λ seq outcome. refused_one (refused setup past (Complete actor seq outcome))
    (λ ok. no_job (job past actor) seq idle (complete_lent setup past actor seq outcome ok)))
    (λ seq. refused_one (refused setup past (Drop actor seq))
    (λ ok. no_job (job past actor) seq idle (drop_lent setup past actor seq ok)))

stays : (setup : Setup) (predict : Predictor) (actor : ℕ) (past now : List Event) → job past actor ≡ None
    → IsReply setup predict (AskComplete actor) past now → now ≡ past
stays setup predict actor past now idle (inl grows) =
    absurd (never_both (refused setup past grows.event) grows.allowed
    (none_completes setup actor past idle grows.event grows.suits))
stays setup predict actor past now idle (inr same) = same.same

pub completes_nothing : CompletesNothing
completes_nothing setup predict actor past idle = (
  inr (record { none = none_completes setup actor past idle; same = refl }),
  λ now replied. stays setup predict actor past now idle replied,
)
