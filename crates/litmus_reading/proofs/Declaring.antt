-- Entries that declare a name, one more at each turn.
use Rattle.std.proofs.Common.{◌≡◌, ◌<◌, List, [], ◌∷◌, Option, Some, None, ℕ, length, refl, sym, ap, ◌∙◌, arith}
use Rattle.std.specs.Prelude.{unwrap_or}
use Rattle.litmus_words.specs.declared.word.Word.{Word}
use Rattle.litmus_words.specs.declared.word.Mark.TheVariants as mark
use Rattle.litmus_words.specs.Cuts.{IsCut, LacksMark}
use Rattle.litmus_reading.specs.declared.declarations.Declaration.{Declaration}
use Rattle.litmus_reading.specs.Declarations.{declaration_of, declared_by, first_declared, plain}
use Rattle.litmus_reading.proofs.Cells.{entry_cut}

declared_told : (text : List ℕ) (rest entry behind : List Word) (name : Word) → 0 < length rest
    → IsCut rest mark.Semicolon entry behind → LacksMark mark.Semicolon entry
    → declaration_of text rest name ≡ unwrap_or (declared_by text entry name) (declaration_of text behind name)
declared_told text rest entry behind name some cut lacks =
    ap (λ (t : List (List Word)). first_declared text t name) (entry_cut rest entry behind some cut lacks)

pub declares : (text : List ℕ) (rest entry behind : List Word) (name : Word) (found : Declaration) → 0 < length rest
    → IsCut rest mark.Semicolon entry behind → LacksMark mark.Semicolon entry
    → Some found ≡ declared_by text entry name → declaration_of text rest name ≡ found
declares text rest entry behind name found some cut lacks is =
    declared_told text rest entry behind name some cut lacks
    ∙ ap (λ (o : Option Declaration). unwrap_or o (declaration_of text behind name)) (sym is)

pub declares_none : (text : List ℕ) (rest entry behind : List Word) (name : Word) → 0 < length rest
    → IsCut rest mark.Semicolon entry behind → LacksMark mark.Semicolon entry
    → None ≡ declared_by text entry name → declaration_of text rest name ≡ declaration_of text behind name
declares_none text rest entry behind name some cut lacks is =
    declared_told text rest entry behind name some cut lacks
    ∙ ap (λ (o : Option Declaration). unwrap_or o (declaration_of text behind name)) (sym is)

pub declares_nothing : (text : List ℕ) (rest : List Word) (name : Word) → length rest ≡ 0
    → declaration_of text rest name ≡ plain
declares_nothing text [] name none = refl
declares_nothing text (word ∷ rest) name none = absurd (omega (arith, none))
