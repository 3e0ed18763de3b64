-- What is watched for a list and a condition.
use Rattle.std.specs.Prelude.{◌≡◌, ◌⊎◌, Bool, true, false, List, [], ◌∷◌, ◌++◌, ◌<◌, length, Contains, flat_map, filter}
use Rattle.std.specs.Prelude.{not}
use Rattle.watched_outcomes.specs.declared.watch.{WatchedRegister.WatchedRegister, WatchedBytes.WatchedBytes}
use Rattle.outcome_queries.specs.{declared.term.Term.Term, declared.watched.Watched.Watched}
use Rattle.outcome_queries.specs.{declared.watched.Asked.Asked}
use Rattle.outcome_queries.specs.declared.term.Term.TheVariants as terms
use Rattle.outcome_queries.specs.declared.watched.Watched.TheVariants as watched

-- The registers of a list, in its order; and its bytes of memory.
abbrev pub is_register_of : Watched → Bool
is_register_of (watched.Register hart register) = true
is_register_of (watched.Bytes bytes) = false

abbrev pub is_register : Asked → Bool
is_register asked = is_register_of asked.watched

abbrev pub registers_asked : List Asked → List Asked
registers_asked list = filter is_register list

abbrev pub memory_asked : List Asked → List Asked
memory_asked list = filter (λ asked. not (is_register asked)) list

abbrev pub register_with : Watched → List WatchedRegister
register_with (watched.Register hart register) = record { hart = hart; register = register } ∷ []
register_with (watched.Bytes bytes) = []

abbrev pub registers_in : List Asked → List WatchedRegister
registers_in list = flat_map (λ (asked : Asked). register_with asked.watched) list

abbrev pub bytes_with : Watched → List WatchedBytes
bytes_with (watched.Register hart register) = []
bytes_with (watched.Bytes bytes) = bytes ∷ []

abbrev pub words_in : List Asked → List WatchedBytes
words_in list = flat_map (λ (asked : Asked). bytes_with asked.watched) list

-- What a term asks for, if anything; and all that a condition asks for, in its order.
abbrev pub asked_of : Term → List Asked
asked_of (terms.Holds asked relation value) = asked ∷ []
asked_of term = []

abbrev pub asked_in : List Term → List Asked
asked_in terms = flat_map asked_of terms

-- Something of a list asks for it, however that is spelled.
abbrev pub IsWatchedIn : List Asked → Watched → Type 0
IsWatchedIn list watched = (asked : Asked) × Contains list asked × (asked.watched ≡ watched)

-- Each of these is put behind a list, in their order, but what is watched in it by then: so nothing is watched twice.
abbrev pub IsOnceBehind : List Asked → List Asked → List Asked → Type 0
IsOnceBehind before [] all = before ≡ all
IsOnceBehind before (one ∷ others) all =
    (IsWatchedIn before one.watched × IsOnceBehind before others all)
    ⊎ ((IsWatchedIn before one.watched → ⊥) × IsOnceBehind (before ++ one ∷ []) others all)

-- There is no room for all of these behind a list: that would be more than can be watched.
abbrev pub LacksRoom : List Asked → List Asked → Type 0
LacksRoom before others = (all : List Asked) → IsOnceBehind before others all → 64 < length all

-- A list with others behind it.
abbrev pub Extends : List Asked → List Asked → Type 0
Extends old new = (others : List Asked) × (new ≡ old ++ others)

-- What a term asks for is watched in the list.
abbrev pub IsWatchedFor : List Asked → Term → Type 0
IsWatchedFor list (terms.Holds asked relation value) = IsWatchedIn list asked.watched
IsWatchedFor list term = Unit {0}
