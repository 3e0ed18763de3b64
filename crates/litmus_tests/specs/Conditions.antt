-- What a condition says of a final state, and a test of all of them. [Alglave, Maranget and Tautschnig 2014,
-- "Herding Cats": the quantified conditions of litmus tests]
use Rattle.std.specs.Prelude.{ℕ, ◌+◌, ◌*◌, ◌%◌, ◌^◌, ◌==◌, nat_lt, Bool, true, not}
use Rattle.std.specs.Prelude.{if◌then◌else◌, ◌&&◌, ◌||◌, List, length, count_by}
use Rattle.elf_image.specs.Image.{ram_start}
use Rattle.watched_outcomes.specs.declared.watch.Width.{Width}
use Rattle.watched_outcomes.specs.declared.watch.Width.TheVariants.{Byte, Half, Word}
use Rattle.litmus_tests.specs.declared.value.Value.{Value}
use Rattle.litmus_tests.specs.declared.value.Value.TheVariants.{Number, Address}
use Rattle.litmus_tests.specs.declared.condition.{Observed.Observed, Quantifier.Quantifier, Term.Term}
use Rattle.litmus_tests.specs.declared.condition.Quantifier.TheVariants.{Exists, NotExists, ForAll}
use Rattle.litmus_tests.specs.declared.condition.Condition.{Condition, Always, Holds, Not', Both', Either', Implies', Equivalent'}

-- The locations stand in words, one behind the other from the start of RAM. [this project's own choice]
abbrev pub address_of : ℕ → ℕ
address_of index = ram_start + 4 * index

-- The number that a value is: itself, or the address of a byte of the locations.
abbrev pub number_of : Value → ℕ
number_of (Number number) = number
number_of (Address byte) = ram_start + byte

-- As many of its lower bits as a number of this width has.
abbrev pub narrowed : Width → ℕ → ℕ
narrowed Byte number = number % 2 ^ 8
narrowed Half number = number % 2 ^ 16
narrowed Word number = number

-- A final state, by the number that each thing has that is looked at.
abbrev pub FinalState : Type 0
FinalState = Observed → ℕ

-- What the condition says of it. A number is compared as that many bits.
abbrev pub holds : FinalState → Condition → Bool
holds state Always = true
holds state (Holds term) = state term.observed == narrowed term.width (number_of term.value)
holds state (Not' p condition) = not (holds state condition)
holds state (Both' p first q second) = holds state first && holds state second
holds state (Either' p first q second) = holds state first || holds state second
holds state (Implies' p first q second) = not (holds state first) || holds state second
holds state (Equivalent' p first q second) =
    if holds state first then holds state second else not (holds state second)

-- How many of these states it holds of.
abbrev pub holding : List FinalState → Condition → ℕ
holding states condition = count_by (λ state. holds state condition) states

-- Whether these states, where they are all, are as the test asks: of one at least, of none, of each.
abbrev pub is_as_asked : Quantifier → Condition → List FinalState → Bool
is_as_asked Exists condition states = nat_lt 0 (holding states condition)
is_as_asked NotExists condition states = holding states condition == 0
is_as_asked ForAll condition states = holding states condition == length states
