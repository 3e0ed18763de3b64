-- A condition that one connective joins from the left, as it is read: its first part, and one more at each turn.
use Rattle.std.proofs.Common.{◌≡◌, ℕ, ◌≤◌, List, [], ◌∷◌, Result, Err, IsErrAnd}
use Rattle.litmus_tests.specs.declared.condition.Condition.{Condition}
use Rattle.litmus_words.specs.Answered.{GivesOrMemory}
use Rattle.litmus_words.specs.declared.refused.Stop.{Stop}
use Rattle.litmus_words.specs.declared.word.Word.{Word}
use Rattle.litmus_words.specs.declared.word.Token.TheVariants.{Mark as mark_token}
use Rattle.litmus_words.specs.Tokens.{Takes}
use Rattle.litmus_reading.specs.Grammar.{AreThere, CanBeRead, ConditionTaken, IsAtLevel, IsReadAs, Means, Syntax, nesting_of}
use Rattle.litmus_reading.proofs.Chained.{Connective, FirstOf, IsConnective, LeftOf, all_read, first_can, first_left, less_left, next_of}
use Rattle.litmus_reading.proofs.Chains.{passed_on}

-- what is read at a level, whatever it is
abbrev pub Reads : ℕ → ℕ → ℕ → ℕ → List Word → Condition → List Word → ℕ → Type 0
Reads harts level room count words found behind now = (syntax : Syntax) → (condition : Condition) → (rest : List Word)
    → CanBeRead harts level room count words syntax condition rest
    → IsReadAs count syntax condition rest found behind now

abbrev pub Firsts : (it : Connective) → IsConnective it → Type 0
Firsts it is = (harts room : ℕ) → (syntax : Syntax) → (whole : Condition) → IsAtLevel it.level syntax
    → Means syntax whole → nesting_of syntax ≤ room → AreThere harts whole → FirstOf it is harts room syntax whole

module _ (it : Connective) (is : IsConnective it) where
  -- what has been read so far, and what is left of each condition that can be read
  pub record SoFar (harts room count : ℕ) (words : List Word) (found : Condition) (rest : List Word) (now : ℕ)
      : Type 0 where
    pub taken : ConditionTaken harts it.level room count words found rest now
    pub left : (syntax : Syntax) → (whole : Condition) → (end : List Word)
        → CanBeRead harts it.level room count words syntax whole end
        → LeftOf it is harts room count syntax whole end found rest now

  pub begun_left : (firsts : Firsts it is) (harts room count : ℕ) (words : List Word) (found : Condition)
      (behind : List Word) (now : ℕ) → ConditionTaken harts it.level room count words found behind now
      → Reads harts it.low room count words found behind now → SoFar harts room count words found behind now
  begun_left firsts harts room count words found behind now taken reads = record {
    taken = taken;
    left = λ syntax whole end can.
        let first = firsts harts room syntax whole can.stands can.means can.shallow can.there in
        let one = first_can it is harts room count syntax whole words end can first in
        first_left it is harts room count syntax whole words end behind found now can first one.0 one.2
        (reads first.part first.condition one.0 one.1);
  }

  pub more_left : (harts room count : ℕ) (words : List Word) (found : Condition) (rest : List Word) (now : ℕ)
      (behind : List Word) (right : Condition) (after : List Word) (later : ℕ) (whole : Condition)
      → SoFar harts room count words found rest now → Takes rest (mark_token it.sign ∷ []) behind
      → Reads harts it.low room now behind right after later → it.Joins found right whole
      → ConditionTaken harts it.level room count words whole after later → SoFar harts room count words whole after later
  more_left harts room count words found rest now behind right after later whole so sign reads joins taken = record {
    taken = taken;
    left = λ syntax all end can.
        let next = next_of it is harts room count syntax all end rest behind found now sign can.over can.few
        (so.left syntax all end can) in
        less_left it is harts room count syntax all end behind after found right whole now later next
        (reads next.next next.second next.after next.can) joins;
  }

  pub none_left : (harts room count : ℕ) (words : List Word) (found : Condition) (rest : List Word) (now : ℕ)
      → SoFar harts room count words found rest now
      → ((behind : List Word) → Takes rest (mark_token it.sign ∷ []) behind → ⊥)
      → Reads harts it.level room count words found rest now
  none_left harts room count words found rest now so off = λ syntax whole end can.
      all_read it is harts room count syntax whole end rest found now off (so.left syntax whole end can)

  -- where the first part is refused, or a later one, nothing is there that can be read
  pub first_stops : {A B : Type 0} (firsts : Firsts it is) (harts room count : ℕ) (words : List Word) (stop : Stop)
      (result : Result B Stop) (Q : Syntax → Condition → List Word → A → Type 0)
      → ((syntax : Syntax) → (condition : Condition) → (rest : List Word)
      → CanBeRead harts it.low room count words syntax condition rest → GivesOrMemory (Err stop) (Q syntax condition rest))
      → IsErrAnd result (λ found. found ≡ stop) → (syntax : Syntax) (whole : Condition) (end : List Word)
      (P : B → Type 0) → CanBeRead harts it.level room count words syntax whole end → GivesOrMemory result P
  first_stops {A} {B} firsts harts room count words stop result Q fails is_stop syntax whole end P can =
      let first = firsts harts room syntax whole can.stands can.means can.shallow can.there in
      let one = first_can it is harts room count syntax whole words end can first in
      passed_on result stop P (Q first.part first.condition one.0) is_stop
      (fails first.part first.condition one.0 one.1)

  pub next_stops : {A B : Type 0} (harts room count : ℕ) (words : List Word) (found : Condition) (rest : List Word)
      (now : ℕ) (behind : List Word) (stop : Stop) (result : Result B Stop)
      (Q : Syntax → Condition → List Word → A → Type 0) → SoFar harts room count words found rest now
      → Takes rest (mark_token it.sign ∷ []) behind
      → ((syntax : Syntax) → (condition : Condition) → (last : List Word)
      → CanBeRead harts it.low room now behind syntax condition last → GivesOrMemory (Err stop) (Q syntax condition last))
      → IsErrAnd result (λ found. found ≡ stop) → (syntax : Syntax) (whole : Condition) (end : List Word)
      (P : B → Type 0) → CanBeRead harts it.level room count words syntax whole end → GivesOrMemory result P
  next_stops {A} {B} harts room count words found rest now behind stop result Q so sign fails is_stop syntax whole end P
      can =
      let next = next_of it is harts room count syntax whole end rest behind found now sign can.over can.few
      (so.left syntax whole end can) in
      passed_on result stop P (Q next.next next.second next.after) is_stop
      (fails next.next next.second next.after next.can)
