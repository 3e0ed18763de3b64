-- The eight kinds of event and the letters of their lines. (This project's own choice.)

use Rattle.std.specs.Prelude.{ℕ, ◌==◌, if◌then◌else◌, Option, None, Some}
use Rattle.events.specs.{declared.event.Event.Event, declared.kind.EventKind.EventKind}
use Rattle.events.specs.declared.event.Event.TheVariants as event
use Rattle.events.specs.declared.kind.EventKind.TheVariants.{Fetch, Decode, Rename, Issue, Complete}
use Rattle.events.specs.declared.kind.EventKind.TheVariants.{Drop, Retire, Refetch}

-- `F`, `D`, `R`, `I`, `C`, `X`, `T` or `G`
abbrev pub letter_of : EventKind → ℕ
letter_of Fetch = 70
letter_of Decode = 68
letter_of Rename = 82
letter_of Issue = 73
letter_of Complete = 67
letter_of Drop = 88
letter_of Retire = 84
letter_of Refetch = 71

-- how many fields stand after the letter
abbrev pub fields_after : EventKind → ℕ
fields_after Fetch = 6
fields_after Decode = 2
fields_after Rename = 3
fields_after Issue = 2
fields_after Complete = 7
fields_after Drop = 2
fields_after Retire = 7
fields_after Refetch = 2

-- the kind whose lines begin with a letter
abbrev pub kind_of_letter : ℕ → Option EventKind
kind_of_letter letter =
    if letter == 70 then Some Fetch
    else (if letter == 68 then Some Decode else (if letter == 82 then Some Rename
    else (if letter == 73 then Some Issue
    else (if letter == 67 then Some Complete else (if letter == 88 then Some Drop
    else (if letter == 84 then Some Retire
    else (if letter == 71 then Some Refetch else None)))))))

-- the kind of an event
abbrev pub event_kind : Event → EventKind
event_kind (event.Fetch actor hart seq pc word predicted) = Fetch
event_kind (event.Decode actor seq) = Decode
event_kind (event.Rename actor seq phys) = Rename
event_kind (event.Issue actor seq) = Issue
event_kind (event.Complete actor seq outcome) = Complete
event_kind (event.Drop actor seq) = Drop
event_kind (event.Retire actor seq effect) = Retire
event_kind (event.Refetch actor seq) = Refetch
