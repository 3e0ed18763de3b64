use Rattle.std.proofs.Common.{◌==◌, List, ap, sym, ◌∙◌, length, true≢false}
use Rattle.litmus_words.specs.declared.word.Word.{Word}
use Rattle.litmus_reading.proofs.QuestionRead.{asked_some}
use Rattle.litmus_reading.proofs.question.read_asked.Goals as goal
use Rattle.litmus_reading.proofs.question.read_asked.Goals.{then-has_list+else-is_empty, else-has_list}

pub returns-clause-only : goal.returns-clause-only
returns-clause-only c = λ quantifier condition it.
    c.in_ok-quantifier.ensures.only quantifier condition (asked_some _ _ _ quantifier condition (λ yes none.
    elim c.if-has_list.branch [
      | then-has_list+else-is_empty w ↦
          true≢false (sym (ap (λ (t : List Word). length t == 0) none) ∙ sym w.is_empty.ensures ∙ w.if-is_empty.false)
      | else-has_list w ↦ true≢false (sym yes ∙ w.if-has_list.false)
    ]) it)
