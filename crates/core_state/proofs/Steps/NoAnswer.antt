-- That no event answers an ask, from what an allowed one would say; and how large a core is.
use Rattle.std.specs.Prelude.{◌≡◌, ℕ, ◌≤◌, true, List, length, Option, Some, None, is_some}
use Rattle.std.proofs.{Common.refl, Common.arith, lemmas.Bool.Decides.nat_tests}
use Rattle.numbers.specs.Sizes.{most_actors, most_registers}
use Rattle.events.specs.declared.event.Event.{Event}
use Rattle.smt_model.specs.{Asks.Ask, Asks.answers, Rules.refused, Setup.Setup, Setup.registers_of}
use Rattle.core_state.specs.{Answers.AllowsNone, State.IsCore, State.setup_in, declared.state.State.TheInside.Inside}

some_from : (o : Option ℕ) → (o ≡ None → ⊥) → is_some o ≡ true
some_from None wrong = absurd (wrong refl)
some_from (Some n) wrong = refl

pub allows_none : (setup : Setup) (ask : Ask) (past : List Event)
    → ((e : Event) → answers ask past e ≡ true → refused setup past e ≡ None → ⊥)
    → AllowsNone setup ask past
allows_none setup ask past wrong = λ e asked. some_from (refused setup past e) (wrong e asked)

-- What the sizes of a core allow.
pub record HasSizes (i : Inside) : Type 0 where
  pub registers : registers_of (setup_in i) ≤ most_registers
  pub actors : length i.config.roles.items ≤ most_actors

pub core_sizes : (i : Inside) → IsCore i → HasSizes i
core_sizes i core =
    let sizes = core.sizes in
    record { registers = grind (arith, nat_tests); actors = grind (arith, nat_tests) }
