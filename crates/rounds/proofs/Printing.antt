-- What is printed of the records, one after another.
use Rattle.std.proofs.Common.{◌≡◌, ℕ, Bool, true, false, List, [], ◌∷◌, ◌++◌, flat_map, reverse, Some, None}
use Rattle.std.proofs.Common.{sym, ap, subst, ◌∙◌, arith, refl}
use Rattle.std.specs.Prelude.{if◌then◌else◌}
use Rattle.std.specs.{Io.KnownBytes.Appends, declared.option.Option.Option}
use Rattle.std.proofs.{lemmas.Grind.common_steps, lemmas.List.flat_map_more, lemmas.List.reverse-append}
use Rattle.events.specs.declared.effect.Record.{Record}
use Rattle.address_labels.specs.Labels.{Marks}
use Rattle.report_lines.specs.Lines.{record_line, records_text}
use Rattle.text_fields.proofs.Appending.{appends_more}

after_nothing : (xs : List ℕ) → xs ++ [] ≡ xs
after_nothing xs = grind (arith, common_steps)

pub appends_none : (now : Option (List ℕ)) → Appends now now []
appends_none None = tt
appends_none (Some xs) = sym (after_nothing xs)

pub appends_unwanted : (wanted : Bool) (now : Option (List ℕ)) (line : List ℕ) → wanted ≡ false
    → Appends now now (if wanted then line else [])
appends_unwanted true now line unwanted = absurd (cc)
appends_unwanted false now line unwanted = appends_none now

line_more : (wanted : Bool) (marks : Marks) (records : List Record) (r : Record)
    → records_text wanted marks (reverse (r ∷ records))
    ≡ records_text wanted marks (reverse records) ++ (if wanted then record_line marks r else [])
line_more true marks records r =
    ap (flat_map (record_line marks)) (reverse-append (r ∷ []) records) ∙ sym (flat_map_more (record_line marks) [] (reverse records) r)
line_more false marks records r = refl

pub printed_more : (wanted : Bool) (marks : Marks) (origin mid new : Option (List ℕ)) (records : List Record) (r : Record)
    → Appends origin mid (records_text wanted marks (reverse records))
    → Appends mid new (if wanted then record_line marks r else [])
    → Appends origin new (records_text wanted marks (reverse (r ∷ records)))
printed_more wanted marks origin mid new records r first next =
    subst (λ t. Appends origin new t) (sym (line_more wanted marks records r)) (appends_more origin mid new _ _ first next)
