-- What a line comes to, from what its command or its words come to.
use Rattle.std.specs.Prelude.{◌≡◌, ℕ, ◌-◌, Bool, List, [], ◌∷◌, ◌++◌, length, take, Vec}
use Rattle.std.specs.Prelude.{None, Result, Ok, Err, IfOk, OnOk}
use Rattle.std.proofs.Common.{refl, sym, ap, subst, ◌∙◌, arith}
use Rattle.std.proofs.lemmas.Grind.{common_steps}
use Rattle.std.proofs.lemmas.Result.{IfOk-weaker}
use Rattle.scripts.specs.{declared.actions.ScriptWord.ScriptWord, Script.IsScript}
use Rattle.reports.specs.Tables.{AreTablesOf}
use Rattle.prompts.specs.declared.command.Command.{Command}
use Rattle.prompts.specs.declared.command.Command.TheVariants as command
use Rattle.prompts.specs.declared.session.Session.{Session as AnySession}
use Rattle.prompts.specs.{Typed.IsRead, Kept.kept_in, Kept.Standing, Session.standing_of}
use Rattle.prompts.specs.Printed.{IsChartOf, AreLinesOfAsks, help_text}
use Rattle.prompts.specs.Answers.{Follows, AsksWords, IsAnswered}
use Rattle.prompts.proofs.Lines.{kept_before, kept_count}

-- ---- Commands

module _ {A E : Type 0} (answer : Result (Vec ℕ A) E) (said : Command) where
  followed : (done : Command) (old now : Standing) → said ≡ done
      → IfOk answer (λ text. Follows done old now text.items) → IfOk answer (λ text. Follows said old now text.items)
  followed done old now is follows =
      subst (λ (one : Command). IfOk answer (λ text. Follows one old now text.items)) (sym is) follows

  pub shows : (old : Standing) → said ≡ command.Show → IfOk answer (λ text. AreTablesOf old.core text.items)
      → IfOk answer (λ text. Follows said old old text.items)
  shows old is tables = followed command.Show old old is (IfOk-weaker answer _ _ (λ text are. (refl, are)) tables)

  pub charts : (old : Standing) → said ≡ command.Chart → IfOk answer (λ text. IsChartOf old.core text.items)
      → IfOk answer (λ text. Follows said old old text.items)
  charts old is chart = followed command.Chart old old is (IfOk-weaker answer _ _ (λ text drawn. (refl, drawn)) chart)

  pub helps : (old : Standing) → said ≡ command.Help → IfOk answer (λ text. text.items ≡ help_text)
      → IfOk answer (λ text. Follows said old old text.items)
  helps old is help = followed command.Help old old is (IfOk-weaker answer _ _ (λ text all. (refl, all)) help)

module _ {B : Type 0} where
  cons_some : (line : Vec ScriptWord B) (others : List (Vec ScriptWord B)) → kept_in (line ∷ others) ≡ [] → ⊥
  cons_some line others none = grind (arith, common_steps)

  no_lines : (lines : List (Vec ScriptWord B)) → kept_in lines ≡ [] → lines ≡ []
  no_lines [] none = refl
  no_lines (line ∷ others) none = absurd (cons_some line others none)

module _ {A B E : Type 0} where
  pub explains : (answer : Result (Vec ℕ A) E) (said : Command) (old : Standing) (lines : List (Vec ScriptWord B))
      → said ≡ command.Why → old.kept ≡ kept_in lines → (lines ≡ [] → IfOk answer (λ text. text.items ≡ []))
      → IfOk answer (λ text. Follows said old old text.items)
  explains (Ok text) said old lines is same silent =
      subst (λ (one : Command). Follows one old old text.items) (sym is)
      (refl, λ none. silent (no_lines lines (sym same ∙ none)))
  explains (Err why) said old lines is same silent = tt

module _ {A E : Type 0} where
  pub undoes : (answer : Result (Vec ℕ A) E) (said : Command) (old now : AnySession) → said ≡ command.Undo
      → OnOk answer (now.lines.items ≡ take (length old.lines.items - 1) old.lines.items)
      → IfOk answer (λ text. text.items ≡ [])
      → IfOk answer (λ text. Follows said (standing_of old) (standing_of now) text.items)
  undoes (Ok text) said old now is done silent =
      let lines = old.lines.items in
      let kept : kept_in now.lines.items ≡ take (length (kept_in lines) - 1) (kept_in lines) =
      ap kept_in done ∙ kept_before (length lines - 1) lines
      ∙ ap (λ (n : ℕ). take (n - 1) (kept_in lines)) (sym (kept_count lines)) in
      subst (λ (one : Command). Follows one (standing_of old) (standing_of now) text.items) (sym is) (kept, silent)
  undoes (Err why) said old now is done silent = tt

pub quits : (said : Command) (old : Standing) (text : List ℕ) → said ≡ command.Quit → text ≡ [] → Follows said old old text
quits said old text is none = subst (λ (one : Command). Follows one old old text) (sym is) (refl, none)

-- ---- Words

pub asks_none : (explains : Bool) (words : List ScriptWord) (old : Standing) → words ≡ []
    → AsksWords explains words old old []
asks_none explains words old none =
    subst (λ (w : List ScriptWord). AsksWords explains w old old []) (sym none) (refl, refl)

pub asks_some : (explains : Bool) (words : List ScriptWord) (old now : Standing) (text : List ℕ) → (words ≡ [] → ⊥)
    → now.kept ≡ old.kept ++ words ∷ [] → AreLinesOfAsks explains old.lines now.lines text
    → AsksWords explains words old now text
asks_some explains [] old now text some kept lines = absurd (some refl)
asks_some explains (word ∷ others) old now text some kept lines = (kept, lines)

pub line_asks : (explains : Bool) (line : List ℕ) (words : List ScriptWord) (old now : Standing) (text : List ℕ)
    → IsRead line None → IsScript line words → AsksWords explains words old now text
    → IsAnswered explains line None old now text
line_asks explains line words old now text read is asks = (None, read, (words, is, asks))

pub same_standing : (old now : AnySession) → now.lines.items ≡ old.lines.items → now.asked ≡ old.asked
    → standing_of now ≡ standing_of old
same_standing old now lines asked = cc
