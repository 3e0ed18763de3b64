-- What a hart shows again and again while all harts go on in turns. (This project's own choice.)
use Rattle.std.specs.Prelude.{ℕ, zero, suc, ◌==◌, Bool, not, ◌&&◌, nat_lt, if◌then◌else◌, List, [], ◌∷◌, ◌++◌, length}
use Rattle.std.specs.Prelude.{Option, Some, None, option_map}
use Rattle.std.specs.List.{list_any}
use Rattle.smt_model.specs.{Setup.Setup, Plain.Plain}
use Rattle.stories.specs.{Deeds.deed_of, declared.deed.Deed.Deed}
use Rattle.stuck_harts.specs.{Turns.goes, Turns.turns, Turns.up_to, declared.spins.Spin.Spin}

-- The turns before it is looked, those in which it is, and how many places are told.
abbrev pub turns_before : ℕ
turns_before = 1000

abbrev pub turns_watched : ℕ
turns_watched = 1000

abbrev pub most_spins : ℕ
most_spins = 4

-- What hart h shows in its next step, where it goes.
abbrev pub shown_by : Setup → ℕ → Plain → Option Spin
shown_by setup h s = if goes setup s h
    then option_map (λ (d : Deed). record { pc = s.pcs h; deed = d }) (deed_of setup s h)
    else None

-- In a turn it makes that behind the harts below it.
abbrev pub shown_in : Setup → ℕ → Plain → Option Spin
shown_in setup h s = shown_by setup h (up_to setup h s)

-- What is shown at a pc is kept the first time, of four pcs.
abbrev pub is_at : ℕ → Spin → Bool
is_at pc spin = spin.pc == pc

abbrev pub is_new : List Spin → Spin → Bool
is_new past spin = nat_lt (length past) most_spins && not (list_any (is_at spin.pc) past)

abbrev pub kept : List Spin → Option Spin → List Spin
kept past None = past
kept past (Some spin) = if is_new past spin then past ++ spin ∷ [] else past

-- What hart h shows in so many turns from a state on.
unfoldable pub spins_in : Setup → ℕ → ℕ → Plain → List Spin
spins_in setup h zero s = []
spins_in setup h (suc n) s = kept (spins_in setup h n s) (shown_in setup h (turns setup n s))

-- And behind those in which nobody looks. Where all stand then.
abbrev pub spins : Setup → ℕ → Plain → List Spin
spins setup h s = spins_in setup h turns_watched (turns setup turns_before s)

abbrev pub settled : Setup → Plain → Plain
settled setup s = turns setup turns_watched (turns setup turns_before s)
