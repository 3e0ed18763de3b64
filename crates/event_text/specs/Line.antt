-- How events and records are spelled, each on one line without its newline. The fields stand apart
-- by one space; `-` is no value. (This project's own choice.)

use Rattle.std.specs.Prelude.{ℕ, ◌*◌, min, List, ◌∷◌, ◌++◌, Option, codes}
use Rattle.std.specs.Fmt.{decimal}
use Rattle.text_fields.specs.Spelling.{hex, optional}
use Rattle.events.specs.{declared.effect.Effect.Effect, declared.effect.Next.Next}
use Rattle.events.specs.{declared.effect.Next.TheVariants.Pc}
use Rattle.events.specs.{declared.effect.Next.TheVariants.Ended}
use Rattle.events.specs.{declared.effect.Next.TheVariants.Stopped, declared.effect.Outcome.Outcome}
use Rattle.events.specs.{declared.effect.Record.Record, declared.effect.Written.Written}
use Rattle.events.specs.{declared.event.Event.Event}
use Rattle.events.specs.declared.event.Event.TheVariants.{Fetch, Decode, Rename, Issue, Complete}
use Rattle.events.specs.declared.event.Event.TheVariants.{Drop, Retire, Refetch}

-- a field, after the space that parts it from what stands before
abbrev pub after_space : List ℕ → List ℕ
after_space field = 32 ∷ field

-- `p` and a pc, `e` and a status, or `s` and a cause
abbrev pub next_text : Next → List ℕ
next_text (Pc pc) = codes "p" ++ hex 8 pc
next_text (Ended status) = codes "e" ++ hex 8 status
next_text (Stopped cause) = codes "s" ++ decimal cause

-- the address of a write
abbrev pub address_text : Option Written → List ℕ
address_text write = optional (λ w. hex 8 w.addr) write

-- the number that a write puts, two digits for each of its bytes, of which there are at most four
abbrev pub datum_text : Option Written → List ℕ
datum_text write = optional (λ w. hex (2 * min w.n 4) w.datum) write

-- value next addr data out
abbrev pub outcome_text : Outcome → List ℕ
outcome_text outcome =
    after_space (optional (hex 8) outcome.value) ++ after_space (next_text outcome.next)
    ++ after_space (optional (hex 8) outcome.addr) ++ after_space (optional (hex 8) outcome.datum)
    ++ after_space (optional (hex 2) outcome.out)

-- value next waddr wdata out
abbrev pub effect_text : Effect → List ℕ
effect_text effect =
    after_space (optional (hex 8) effect.value) ++ after_space (next_text effect.next)
    ++ after_space (address_text effect.write) ++ after_space (datum_text effect.write)
    ++ after_space (optional (hex 2) effect.out)

-- the letter of an event that moves one instruction on, its actor and the instruction's number
abbrev pub step_text : List ℕ → ℕ → ℕ → List ℕ
step_text letter actor seq = letter ++ after_space (decimal actor) ++ after_space (decimal seq)

-- a letter and the fields of its kind
abbrev pub line_of : Event → List ℕ
line_of (Fetch actor hart seq pc word predicted) =
    codes "F" ++ after_space (decimal actor) ++ after_space (decimal hart)
    ++ after_space (decimal seq) ++ after_space (hex 8 pc) ++ after_space (optional (hex 8) word)
    ++ after_space (hex 8 predicted)
line_of (Decode actor seq) = step_text (codes "D") actor seq
line_of (Rename actor seq phys) =
    step_text (codes "R") actor seq ++ after_space (optional decimal phys)
line_of (Issue actor seq) = step_text (codes "I") actor seq
line_of (Complete actor seq outcome) = step_text (codes "C") actor seq ++ outcome_text outcome
line_of (Drop actor seq) = step_text (codes "X") actor seq
line_of (Retire actor seq effect) = step_text (codes "T") actor seq ++ effect_text effect
line_of (Refetch actor seq) = step_text (codes "G") actor seq

-- hart pc word value next waddr wdata out
abbrev pub record_text_of : Record → List ℕ
record_text_of r =
    decimal r.hart ++ after_space (hex 8 r.pc) ++ after_space (optional (hex 8) r.word)
    ++ effect_text r.effect
