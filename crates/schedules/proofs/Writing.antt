-- The turns are written one after another.
use Rattle.std.specs.Prelude.{◌≡◌, ℕ, ◌+◌, ◌<◌, List, [], ◌∷◌, ◌++◌, Option, flat_map, get_or, length, take}
use Rattle.std.specs.Io.KnownBytes.{Appends}
use Rattle.std.proofs.Common.{sym, ap, subst, ◌∙◌, append-nil}
use Rattle.std.proofs.{lemmas.List.map_more, lemmas.List.Concat.flat_map-append}
use Rattle.scripts.specs.Lines.{line_text}
use Rattle.text_fields.proofs.Appending.{appends_more}
use Rattle.smt_model.specs.declared.turn.Turn.{Turn}
use Rattle.schedules.specs.{declared.units.Units.Units, Turns.turn_words, Turns.turn_lines}

pub turns_step : (old mid new : Option (List ℕ)) (units : Units) (turns : List Turn) (i : ℕ) (d : Turn)
    → i < length turns
    → Appends old mid (flat_map line_text (turn_lines units (take i turns)))
    → Appends mid new (line_text (turn_words units (get_or turns i d)))
    → Appends old new (flat_map line_text (turn_lines units (take (i + 1) turns)))
turns_step old mid new units turns i d inside first next =
    let line = turn_words units (get_or turns i d) in
    let more : flat_map line_text (turn_lines units (take (i + 1) turns))
    ≡ flat_map line_text (turn_lines units (take i turns)) ++ line_text line =
    ap (flat_map line_text) (map_more (turn_words units) turns i d inside)
    ∙ (flat_map-append line_text (turn_lines units (take i turns)) (line ∷ [])
    ∙ ap (λ t. flat_map line_text (turn_lines units (take i turns)) ++ t) (append-nil (line_text line))) in
    subst (λ t. Appends old new t) (sym more) (appends_more old mid new _ _ first next)
