-- One more command, and what it is answered.
use Rattle.std.proofs.Common.{◌≡◌, ℕ, ◌+◌, ◌<◌, List, [], ◌∷◌, ◌++◌, drop, get_or, length, ◌≤◌, refl, sym, ap, subst, ◌∙◌}
use Rattle.std.proofs.lemmas.List.{append_assoc, drop_more, drop_all, append-nil}
use Rattle.issue_queue.specs.declared.commands.QueueCommand.{QueueCommand}
use Rattle.issue_queue.specs.declared.commands.QueueAnswer.{QueueAnswer}
use Rattle.issue_queue.specs.{Queue.Queue, Commands.answer, Commands.after, Commands.answers, Commands.after_all}

-- so many commands have been given to a queue, and answered
pub record IsGivenSoFar (first now : Queue) (commands : List QueueCommand) (given : List QueueAnswer) (i : ℕ) : Type 0 where
  pub answered : answers first commands ≡ given ++ answers now (drop i commands)
  pub left : after_all first commands ≡ after_all now (drop i commands)

pub given_more : (first now : Queue) (commands : List QueueCommand) (given : List QueueAnswer) (i : ℕ) (d : QueueCommand)
    → i < length commands → IsGivenSoFar first now commands given i
    → IsGivenSoFar first (after now (get_or commands i d)) commands (given ++ answer now (get_or commands i d) ∷ []) (i + 1)
given_more first now commands given i d inside is =
    let c = get_or commands i d in
    let next = drop_more commands i d inside in
    record {
      answered = is.answered ∙ ap (λ cs. given ++ answers now cs) next
          ∙ sym (append_assoc given (answer now c ∷ []) (answers (after now c) (drop (i + 1) commands)));
      left = is.left ∙ ap (after_all now) next;
    }

pub given_step : (first now next : Queue) (commands : List QueueCommand) (given items : List QueueAnswer)
    (answer_given : QueueAnswer) (i : ℕ) (d : QueueCommand) → i < length commands → IsGivenSoFar first now commands given i
    → items ≡ given ++ answer_given ∷ [] → answer_given ≡ answer now (get_or commands i d) → next ≡ after now (get_or commands i d)
    → IsGivenSoFar first next commands items (i + 1)
given_step first now next commands given items answer_given i d inside is items_are given_is next_is =
    let c = get_or commands i d in
    subst (λ q. IsGivenSoFar first q commands items (i + 1)) (sym next_is)
    (subst (λ xs. IsGivenSoFar first (after now c) commands xs (i + 1))
    (sym (items_are ∙ ap (λ a. given ++ a ∷ []) given_is)) (given_more first now commands given i d inside is))

pub all_answered : (first now : Queue) (commands : List QueueCommand) (given : List QueueAnswer) (i : ℕ)
    → length commands ≤ i → IsGivenSoFar first now commands given i → given ≡ answers first commands
all_answered first now commands given i all is =
    sym (is.answered ∙ ap (λ cs. given ++ answers now cs) (drop_all i commands all) ∙ append-nil given)

pub all_left : (first now : Queue) (commands : List QueueCommand) (given : List QueueAnswer) (i : ℕ)
    → length commands ≤ i → IsGivenSoFar first now commands given i → now ≡ after_all first commands
all_left first now commands given i all is = sym (is.left ∙ ap (after_all now) (drop_all i commands all))

pub none_given : (first : Queue) (commands : List QueueCommand) → IsGivenSoFar first first commands [] 0
none_given first commands = record { answered = refl; left = refl }
