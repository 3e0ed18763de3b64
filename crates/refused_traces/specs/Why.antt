-- What is told of a trace that is refused. (This project's own choice.)
use Rattle.std.specs.Prelude.{◌≡◌, ℕ, List, ◌++◌, [], ◌∷◌, Option, None, IfSome, IfNone, codes}
use Rattle.std.specs.Fmt.{decimal}
use Rattle.events.specs.{declared.event.Event.Event}
use Rattle.event_text.specs.{Line.line_of}
use Rattle.smt_model.specs.{Rules.is_allowed}
use Rattle.core_state.specs.View.{CoreView}
use Rattle.refused_traces.specs.declared.explaining.Place.{Place}

-- The line of an event, and up to the words of the rule that it breaks.
abbrev pub event_head : Place → Event → List ℕ
event_head place e =
    codes "event "
    ++ (decimal place.index
    ++ (codes ", line "
    ++ (decimal place.line
    ++ (codes ": " ++ (line_of e ++ (codes "\nrule " ++ (decimal place.rule ++ codes ": ")))))))

-- The last line: the event that would be accepted, or that there is none of its kind.
abbrev pub wanted_line : Event → List ℕ
wanted_line e = codes "wanted: " ++ (line_of e ++ 10 ∷ [])

abbrev pub IsNoneWanted : List ℕ → Type 0
IsNoneWanted last = (why : List ℕ) × (last ≡ codes "wanted: none" ++ why)

-- What is told of an event that a core refuses in its place: the event and its rule; some lines; and what is wanted,
-- which the core's rules allow there.
pub record IsWhy (core : CoreView) (e : Event) (place : Place) (text : List ℕ) : Type 0 where
  pub facts : List ℕ
  pub wanted : Option Event
  pub last : List ℕ
  pub whole : text ≡ event_head place e ++ (facts ++ last)
  pub told : IfSome wanted (λ w. last ≡ wanted_line w)
  pub allowed : IfSome wanted (is_allowed core.setup core.past)
  pub none : IfNone wanted (IsNoneWanted last)

-- What is told of a line that can't be read: the line, and its rule.
abbrev pub line_head : ℕ → List ℕ
line_head line = codes "line " ++ (decimal line ++ codes ": ")

abbrev pub rule_head : ℕ → List ℕ
rule_head rule = codes "\nrule " ++ (decimal rule ++ codes ": ")

pub record IsLineWhy (line rule : ℕ) (text : List ℕ) : Type 0 where
  pub shown : List ℕ
  pub may : List ℕ
  pub whole : text ≡ line_head line ++ (shown ++ (rule_head rule ++ may))
