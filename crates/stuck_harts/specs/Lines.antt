-- The line of a hart that goes on for ever. (This project's own choice.)
use Rattle.std.specs.Prelude.{ℕ, ◌==◌, if◌then◌else◌, List, [], ◌∷◌, ◌++◌, codes, Option, None}
use Rattle.std.specs.{Fmt.decimal}
use Rattle.text_fields.specs.Each.{each_from}
use Rattle.smt_model.specs.{Setup.Setup, Plain.Plain}
use Rattle.symbols.specs.Tables.{Table}
use Rattle.story_text.specs.Deeds.{deed_text}
use Rattle.stuck_harts.specs.{Turns.goes, Spins.spins, Spins.settled}
use Rattle.stuck_harts.specs.declared.spins.Spin.{Spin}

abbrev pub lead_of : ℕ → List ℕ
lead_of index = if index == 0 then codes ": " else codes ", "

abbrev pub spin_text : Table → ℕ → Spin → List ℕ
spin_text names index spin = lead_of index ++ deed_text names None spin.deed

abbrev pub spins_text : Table → List Spin → List ℕ
spins_text names shown = each_from (spin_text names) 0 shown

abbrev pub spin_line : Table → ℕ → List Spin → List ℕ
spin_line names h shown = codes "h" ++ (decimal h ++ (codes " spins" ++ (spins_text names shown ++ 10 ∷ [])))

-- A hart that still goes behind all turns has its line.
abbrev pub waiting_text : Table → Setup → ℕ → Plain → List ℕ
waiting_text names setup h s = if goes setup (settled setup s) h
    then spin_line names h (spins setup h s)
    else []
