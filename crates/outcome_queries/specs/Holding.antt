-- When a condition holds of an outcome.
use Rattle.std.specs.Prelude.{ℕ, ◌==◌, Bool, ◌&&◌, ◌||◌, not, true, false, List, Option, Some, None, position, slice_get}
use Rattle.std.specs.List.{list_all}
use Rattle.smt_model.specs.{declared.config.Status.Status, declared.config.Status.TheVariants.Ended}
use Rattle.smt_model.specs.{declared.config.Status.TheVariants.Stopped}
use Rattle.watched_outcomes.specs.{Endings.Ending, declared.watch.Watch.Watch}
use Rattle.outcome_queries.specs.declared.condition.Joint.TheVariants.{And, Or}
use Rattle.outcome_queries.specs.declared.condition.Condition.{Condition, Holds, Not', Grouped', Joined'}
use Rattle.outcome_queries.specs.declared.term.{Term.Term, Harts.Harts}
use Rattle.outcome_queries.specs.declared.term.Harts.TheVariants.{One, Each}
use Rattle.outcome_queries.specs.declared.term.Term.TheVariants as terms
use Rattle.outcome_queries.specs.declared.relation.Relation.{Relation}
use Rattle.outcome_queries.specs.declared.watched.Watched.{Watched}
use Rattle.outcome_queries.specs.declared.watched.Watched.TheVariants as watched
use Rattle.watched_outcomes.specs.{declared.watch.WatchedBytes.WatchedBytes, Watching.bytes_of}
use Rattle.outcome_queries.specs.{Relations.compares, Relations.is_told, Printed.is_printed}

-- The number that a hart has ended with, and the cause that it has stopped with.
abbrev pub number_of : Option Status → Option ℕ
number_of (Some (Ended number)) = Some number
number_of status = None

abbrev pub cause_of : Option Status → Option ℕ
cause_of (Some (Stopped cause)) = Some cause
cause_of status = None

-- There is a cause, and the one that is said where one is.
abbrev pub is_cause : Option ℕ → Option ℕ → Bool
is_cause said None = false
is_cause None (Some found) = true
is_cause (Some said) (Some found) = found == said

-- A hart stands so; and the one that is named does, or each.
abbrev pub hart_ended : Relation → ℕ → Option Status → Bool
hart_ended relation number status = compares relation (number_of status) number

abbrev pub hart_stopped : Relation → Option ℕ → Option Status → Bool
hart_stopped relation cause status = is_told relation (is_cause cause (cause_of status))

abbrev pub harts_ended : List Status → Harts → Relation → ℕ → Bool
harts_ended statuses (One hart) relation number = hart_ended relation number (slice_get statuses hart)
harts_ended statuses Each relation number = list_all (λ status. hart_ended relation number (Some status)) statuses

abbrev pub harts_stopped : List Status → Harts → Relation → Option ℕ → Bool
harts_stopped statuses (One hart) relation cause = hart_stopped relation cause (slice_get statuses hart)
harts_stopped statuses Each relation cause = list_all (λ status. hart_stopped relation cause (Some status)) statuses

-- The number that an ending has for what is watched: at the place at which the watch has it.
abbrev pub at_place : List ℕ → Option ℕ → Option ℕ
at_place numbers None = None
at_place numbers (Some place) = slice_get numbers place

abbrev pub register_in : Watch → Ending → ℕ → ℕ → Option ℕ
register_in watch ending hart register = at_place ending.registers
    (position (λ w. w.hart == hart && w.register == register) watch.registers.items)

abbrev pub is_same_bytes : WatchedBytes → WatchedBytes → Bool
is_same_bytes bytes other = (other.address == bytes.address) && (bytes_of other.width == bytes_of bytes.width)

abbrev pub word_in : Watch → Ending → WatchedBytes → Option ℕ
word_in watch ending bytes = at_place ending.words (position (is_same_bytes bytes) watch.words.items)

abbrev pub watched_in : Watch → Ending → Watched → Option ℕ
watched_in watch ending (watched.Register hart register) = register_in watch ending hart register
watched_in watch ending (watched.Bytes bytes) = word_in watch ending bytes

abbrev pub term_holds : Watch → Ending → Term → Bool
term_holds watch ending (terms.Ended harts relation number) = harts_ended ending.statuses harts relation number
term_holds watch ending (terms.Stopped harts relation cause) = harts_stopped ending.statuses harts relation cause
term_holds watch ending (terms.Holds asked relation value) =
    compares relation (watched_in watch ending asked.watched) value
term_holds watch ending (terms.Put digits relation) = is_told relation (is_printed ending.output digits.now)

abbrev pub condition_holds : Watch → Ending → Condition → Bool
condition_holds watch ending (Holds term) = term_holds watch ending term
condition_holds watch ending (Not' p inner) = not (condition_holds watch ending inner)
condition_holds watch ending (Grouped' p inner) = condition_holds watch ending inner
condition_holds watch ending (Joined' And p first q others) =
    condition_holds watch ending first && condition_holds watch ending others
condition_holds watch ending (Joined' Or p first q others) =
    condition_holds watch ending first || condition_holds watch ending others
