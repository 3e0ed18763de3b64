-- Where a chart begins and ends, where its options name functions. (This project's own choice.)
use Rattle.std.specs.Prelude.{◌≡◌, ◌⊎◌, ℕ, ◌<◌, Bool, true, false, ◌&&◌, List, ◌∷◌, ◌++◌, length, find, slice_get}
use Rattle.std.specs.Prelude.{Option, Some, None, option_map}
use Rattle.std.specs.Option.{option_map_or}
use Rattle.events.specs.{Event.seq_of, declared.event.Event.Event}
use Rattle.text_fields.specs.Splitting.{Lacks}
use Rattle.chart_rows.specs.{declared.row.Row.Row, Views.draws_hart}
use Rattle.symbols.specs.{declared.symbol.Symbol.Symbol, declared.meanings.Name.Name, declared.meanings.Meaning.Meaning}
use Rattle.symbols.specs.declared.meanings.Meaning.TheVariants.{One, Several, Nothing}
use Rattle.symbols.specs.{Naming.covers, Meanings.IsMeaning, Tables.Table, Tables.table_of}
use Rattle.sim_inputs.specs.{declared.line.ChartCommand.ChartCommand, declared.line.ChartEnd.ChartEnd}
use Rattle.sim_inputs.specs.declared.line.ChartEnd.TheVariants as ends
use Rattle.command_parts.specs.{declared.refused.Refused.Refused, declared.refused.ChartOption.ChartOption}
use Rattle.command_parts.specs.declared.refused.ChartOption.TheVariants.{From, To}
use Rattle.command_parts.specs.declared.refused.Refused.TheVariants as refused
use Rattle.core_commands.specs.declared.chart_ends.Drawn.{Drawn}

-- ---- What a word stands for

-- The name is what stands behind the last colon of a word, of the file before that.
pub record IsInFile (word : List ℕ) (name : Name) : Type 0 where
  pub file : List ℕ
  pub named : option_map (λ file. file.now) name.file ≡ Some file
  pub whole : word ≡ file ++ 58 ∷ name.name.now
  pub last : Lacks 58 name.name.now

-- All of the word, as a name; or where that is none, a name in a file.
pub record IsWhole (word : List ℕ) (name : Name) : Type 0 where
  pub file : name.file ≡ None
  pub is : name.name.now ≡ word

abbrev pub IsMeaningOf : Table → List ℕ → Meaning → Type 0
IsMeaningOf table word meaning = (whole : Name) × IsWhole word whole
    × (IsMeaning table whole meaning ⊎ (IsMeaning table whole Nothing
    × ((name : Name) × IsInFile word name × IsMeaning table name meaning)))

abbrev pub IsNamed : Table → List ℕ → Symbol → Type 0
IsNamed table word symbol = IsMeaningOf table word (One symbol)

-- When it is refused, of which option it is.
abbrev pub IsNoSymbol : Table → List ℕ → ChartOption → Refused → Type 0
IsNoSymbol table word option (refused.NamesNothing one) = (one ≡ option) × IsMeaningOf table word Nothing
IsNoSymbol table word option (refused.NamesSeveral one) = (one ≡ option) × IsMeaningOf table word Several
IsNoSymbol table word option _ = ⊥

-- ---- What is drawn of it

-- The instruction of a row is of a hart that is drawn, and in what the symbol names.
abbrev pub is_drawn_in : Option ℕ → Symbol → Row → Bool
is_drawn_in hart symbol row = draws_hart hart row.hart && covers row.pc symbol

-- The place of the first fetch of one.
abbrev pub first_fetch : Option ℕ → Symbol → List Row → Option ℕ
first_fetch hart symbol rows = option_map (λ row. row.fetched) (find (is_drawn_in hart symbol) rows)

-- The event at a place is of one.
abbrev pub is_event_of : Option ℕ → Symbol → List Row → Event → Bool
is_event_of hart symbol rows event = option_map_or (is_drawn_in hart symbol) (slice_get rows (seq_of event)) false

abbrev pub is_event_in : Option ℕ → Symbol → List Row → List Event → ℕ → Bool
is_event_in hart symbol rows events place =
    option_map_or (is_event_of hart symbol rows) (slice_get events place) false

-- The place is that of the last event of one.
pub record IsLastEvent (hart : Option ℕ) (symbol : Symbol) (rows : List Row) (events : List Event)
    (place : ℕ) : Type 0 where
  pub is : is_event_in hart symbol rows events place ≡ true
  pub last : (later : ℕ) → place < later → is_event_in hart symbol rows events later ≡ false

-- ---- The two ends

-- A chart begins at the event that is named by its number, or with the first fetch in what is named.
pub record IsFirstIn (word : List ℕ) (drawn : Drawn) (place : ℕ) : Type 0 where
  pub symbol : Symbol
  pub named : IsNamed (table_of drawn.names.now) word symbol
  pub first : first_fetch drawn.hart symbol drawn.rows.now ≡ Some place

abbrev pub IsFirst : ChartEnd → Drawn → ℕ → Type 0
IsFirst (ends.Event number) drawn place = place ≡ number
IsFirst (ends.Function name) drawn place = IsFirstIn name.now drawn place

-- It ends at the event that is named by its number, or with the last event in what is named.
pub record IsLastIn (word : List ℕ) (drawn : Drawn) (place : ℕ) : Type 0 where
  pub symbol : Symbol
  pub named : IsNamed (table_of drawn.names.now) word symbol
  pub last : IsLastEvent drawn.hart symbol drawn.rows.now drawn.events.now place

abbrev pub IsLast : ChartEnd → Drawn → ℕ → Type 0
IsLast (ends.Event number) drawn place = place ≡ number
IsLast (ends.Function name) drawn place = IsLastIn name.now drawn place

-- Both, of which the last isn't before the first.
pub record AreEnds (chart : ChartCommand) (drawn : Drawn) (from to : ℕ) : Type 0 where
  pub first : IsFirst chart.from drawn from
  pub last : IsLast chart.to drawn to
  pub rises : (to < from) → ⊥

-- ---- When they are refused

-- Nothing is drawn of what a symbol names: no fetch at which a chart may begin, no event at which it may end.
abbrev pub HasNone : ChartOption → Symbol → Drawn → Type 0
HasNone From symbol drawn = first_fetch drawn.hart symbol drawn.rows.now ≡ None
HasNone To symbol drawn =
    (place : ℕ) → is_event_in drawn.hart symbol drawn.rows.now drawn.events.now place ≡ false

pub record IsNeverFetched (option : ChartOption) (word : List ℕ) (drawn : Drawn) : Type 0 where
  pub symbol : Symbol
  pub named : IsNamed (table_of drawn.names.now) word symbol
  pub none : HasNone option symbol drawn

-- The end names something, and this holds of its word.
abbrev pub OfName : ChartEnd → (List ℕ → Type 0) → Type 0
OfName (ends.Event number) P = ⊥
OfName (ends.Function name) P = P name.now

-- When one of the ends is refused, which an option gives.
abbrev pub IsEndFault : ChartOption → ChartEnd → Drawn → Refused → Type 0
IsEndFault option end drawn (refused.NamesNothing one) =
    (one ≡ option) × OfName end (λ word. IsMeaningOf (table_of drawn.names.now) word Nothing)
IsEndFault option end drawn (refused.NamesSeveral one) =
    (one ≡ option) × OfName end (λ word. IsMeaningOf (table_of drawn.names.now) word Several)
IsEndFault option end drawn (refused.NeverFetched one) =
    (one ≡ option) × OfName end (λ word. IsNeverFetched option word drawn)
IsEndFault option end drawn _ = ⊥

-- And both: the first is looked at first, then the last, and then whether they are turned round.
abbrev pub IsEndRefusal : ChartCommand → Drawn → Refused → Type 0
IsEndRefusal chart drawn (refused.Turned from to) =
    IsFirst chart.from drawn from × IsLast chart.to drawn to × (to < from)
IsEndRefusal chart drawn reason = IsEndFault From chart.from drawn reason
    ⊎ (((place : ℕ) × IsFirst chart.from drawn place) × IsEndFault To chart.to drawn reason)
