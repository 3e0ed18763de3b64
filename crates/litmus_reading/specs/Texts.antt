-- A whole test: the start in braces, the row of harts, the rows below it, and the question.
use Rattle.std.specs.Prelude.{◌≡◌, ◌⊎◌, ℕ, zero, suc, ◌+◌, ◌*◌, ◌/◌, ◌%◌, false, if◌then◌else◌, ◌==◌, List, [], ◌∷◌, ◌++◌, ◌≤◌, length, map, take, All}
use Rattle.std.specs.Prelude.{Option, Some, None, option_and_then, slice_get}
use Rattle.std.specs.List.{list_any}
use Rattle.litmus_tests.specs.declared.test.LitmusTest.{LitmusTest}
use Rattle.litmus_tests.specs.WellFormed.{IsWellFormed}
use Rattle.litmus_tests.specs.declared.location.{Location.Location, Element.Element}
use Rattle.litmus_tests.specs.declared.test.Thread.{Thread}
use Rattle.litmus_tests.specs.declared.condition.Observed.{Observed}
use Rattle.litmus_words.specs.declared.word.{Word.Word, Declared.Declared}
use Rattle.litmus_words.specs.declared.word.Token.{Token}
use Rattle.litmus_words.specs.declared.word.Token.TheVariants.{Hart, Mark}
use Rattle.litmus_words.specs.declared.word.Mark.TheVariants as mark
use Rattle.litmus_words.specs.Bytes.{bytes_in}
use Rattle.litmus_words.specs.Gaps.{StandFrom}
use Rattle.litmus_words.specs.Parts.{element_size}
use Rattle.litmus_words.specs.Tokens.{tokens}
use Rattle.litmus_reading.specs.declared.locations.Named.{Named}
use Rattle.litmus_reading.specs.declared.start.Entry.{Entry}
use Rattle.litmus_reading.specs.Declarations.{begins}
use Rattle.litmus_reading.specs.Heads.{IsHeadOf}
use Rattle.litmus_reading.specs.Looked.{looked_at}
use Rattle.litmus_reading.specs.Memory.{memory_of}
use Rattle.litmus_reading.specs.Names.{elements_of, located_word, names_in, IsNewLocation}
use Rattle.litmus_reading.specs.Questions.{SpellsQuestion}
use Rattle.litmus_reading.specs.Rows.{ended_by, is_asking, is_bar, is_semicolon, parted_by}
use Rattle.litmus_reading.specs.Starts.{starts_of, AreEntries, AreOfHarts}
use Rattle.litmus_reading.specs.Threads.{SpellsThread}

-- How many braces are open behind a token, before which so many are: none where one closes that was never opened.
abbrev pub one_less : ℕ → Option ℕ
one_less zero = None
one_less (suc less) = Some less

abbrev pub open_behind : Token → ℕ → Option ℕ
open_behind (Mark mark.LeftBrace) depth = Some (depth + 1)
open_behind (Mark mark.RightBrace) depth = one_less depth
open_behind token depth = Some depth

-- The same behind words.
abbrev pub open_after : ℕ → List Word → Option ℕ
open_after depth [] = Some depth
open_after depth (word ∷ words) = option_and_then (λ now. open_after now words) (open_behind word.token depth)

-- What stands in the braces, and behind them: those that open in it close in it.
pub record IsBraced (words inside behind : List Word) : Type 0 where
  pub first : Word
  pub last : Word
  pub spelled : words ≡ first ∷ inside ++ last ∷ behind
  pub opens : first.token ≡ Mark mark.LeftBrace
  pub closes : last.token ≡ Mark mark.RightBrace
  pub alone : open_after 0 inside ≡ Some 0

-- The brace at this place closes what was open before the words.
pub record IsClosedAt (words : List Word) (place : ℕ) : Type 0 where
  pub last : Word
  pub there : slice_get words place ≡ Some last
  pub closes : last.token ≡ Mark mark.RightBrace
  pub alone : open_after 0 (take place words) ≡ Some 0

-- The row of so many harts, `P0 | P1`: at each even place the hart of half that number, and bars between.
abbrev pub IsHead : ℕ → Token → Type 0
IsHead place token = (place % 2 ≡ 0 → token ≡ Hart (place / 2)) × (place % 2 ≡ 1 → token ≡ Mark mark.Bar)

abbrev pub AreHeads : ℕ → List Word → Type 0
AreHeads place [] = Unit {0}
AreHeads place (word ∷ words) = IsHead place word.token × AreHeads (place + 1) words

-- With a `;` behind it.
pub record IsHeadRow (words : List Word) (harts : ℕ) (behind : List Word) : Type 0 where
  pub row : List Word
  pub last : Word
  pub spelled : words ≡ row ++ last ∷ behind
  pub closes : last.token ≡ Mark mark.Semicolon
  pub heads : AreHeads 0 row
  pub count : length row + 1 ≡ 2 * harts

-- Of an array the element, and whether the array is listed as a whole.
abbrev pub element_of : List ℕ → Declared → ℕ → Option Element
element_of whole declared index = if declared.is_array
    then Some (record {
      index = index;
      count = elements_of declared;
      is_whole = list_any (λ first. first == declared.first) whole;
    }) else None

-- A location, or the element of an array with this index: its name is the bytes of the word.
pub record IsElementOf (text whole : List ℕ) (name : Named) (index : ℕ) (location : Location) : Type 0 where
  pub named : location.name.items ≡ bytes_in text name.word
  pub element : location.element ≡ element_of whole name.declared index
  pub byte : location.byte ≡ name.declared.byte + index * element_size name.declared
  pub begin : location.begin ≡ name.declared.byte
  pub number_type : location.number_type ≡ name.declared.number_type

-- The elements of an array, or a location alone, from this index on.
abbrev pub AreElementsFrom : List ℕ → List ℕ → Named → ℕ → List Location → Type 0
AreElementsFrom text whole name index [] = Unit {0}
AreElementsFrom text whole name index (location ∷ locations) =
    IsElementOf text whole name index location × AreElementsFrom text whole name (index + 1) locations

pub record LocationsAdded (text whole : List ℕ) (name : Named) (before after : List Location) : Type 0 where
  pub elements : List Location
  pub count : length elements ≡ elements_of name.declared
  pub are : AreElementsFrom text whole name 0 elements
  pub added : after ≡ before ++ elements

-- All locations: those of each name, one behind the other.
abbrev pub AreLocations : List ℕ → List ℕ → List Named → List Location → Type 0
AreLocations text whole [] locations = locations ≡ []
AreLocations text whole (name ∷ names) locations = (elements others : List Location)
    × (locations ≡ elements ++ others) × (length elements ≡ elements_of name.declared)
    × AreElementsFrom text whole name 0 elements × AreLocations text whole names others

-- What the harts do, from this one on.
abbrev pub AreThreads : List ℕ → List Word → List Entry → ℕ → List Thread → Type 0
AreThreads text rows entries hart [] = Unit {0}
AreThreads text rows entries hart (thread ∷ threads) = (thread.starts.items ≡ starts_of entries hart)
    × SpellsThread text rows hart thread.steps.items × AreThreads text rows entries (hart + 1) threads

-- Rows with a cell for each of so many harts stand before what is asked.
abbrev pub HasCells : ℕ → List Word → Type 0
HasCells harts row = length (parted_by is_bar row) ≡ harts

-- None of them begins as what is asked does.
abbrev pub IsQuiet : List Word → Type 0
IsQuiet row = begins is_asking row ≡ false

-- A `;` stands behind the last.
pub record EndsInSemicolon (rows : List Word) : Type 0 where
  pub front : List Word
  pub last : Word
  pub spelled : rows ≡ front ++ last ∷ []
  pub closes : last.token ≡ Mark mark.Semicolon

abbrev pub AreClosed : List Word → Type 0
AreClosed rows = (rows ≡ []) ⊎ EndsInSemicolon rows

pub record IsTable (harts : ℕ) (words rows asked : List Word) : Type 0 where
  pub spelled : words ≡ rows ++ asked
  pub closed : AreClosed rows
  pub cells : All (HasCells harts) (ended_by is_semicolon rows)
  pub quiet : All IsQuiet (ended_by is_semicolon rows)

-- The words are those of the test, in which the names of locations are known.
pub record IsOfWords (text : List ℕ) (names : List Named) (words : List Word) (test : LitmusTest) : Type 0 where
  pub inside : List Word
  pub behind : List Word
  pub below : List Word
  pub rows : List Word
  pub asked : List Word
  pub entries : List Entry
  pub listed : List Observed
  pub whole : List ℕ
  pub braced : IsBraced words inside behind
  pub start : AreEntries [] entries (tokens inside)
  pub harts : AreOfHarts (length test.threads.items) entries
  pub heads : IsHeadRow behind (length test.threads.items) below
  pub parted : IsTable (length test.threads.items) below rows asked
  pub memory : test.words.items ≡ memory_of entries names
  pub locations : AreLocations text whole names test.locations.items
  pub threads : AreThreads text rows entries 0 test.threads.items
  pub question : SpellsQuestion (length test.threads.items) asked test.quantifier test.condition test.filter listed whole
  pub observed : test.observed.items ≡ looked_at test.condition test.filter listed (length test.threads.items)
      (length test.locations.items)

-- The text is that of the test: its name stands before the braces, from where these words stand, and nothing else, and
-- they are those of the test.
pub record IsTextOf (text : List ℕ) (test : LitmusTest) : Type 0 where
  pub from : ℕ
  pub words : List Word
  pub inside : List Word
  pub behind : List Word
  pub short : length text ≤ 65536
  pub head : IsHeadOf text test.name.items from
  pub stand : StandFrom text from words
  pub braced : IsBraced words inside behind
  pub named : All (IsNewLocation text) (names_in text inside)
  pub is : IsOfWords text (names_in text inside) (map (located_word text (names_in text inside)) words) test

-- No test is spelled by the text.
abbrev pub IsNoTest : List ℕ → Type 0
IsNoTest text = (test : LitmusTest) → IsTextOf text test → IsWellFormed test → ⊥
