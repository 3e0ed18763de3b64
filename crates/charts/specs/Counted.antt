-- Under the rows of a band of a chart, what is counted at its columns. (This project's own choice; docs/FORMATS.md, "The
-- chart".)
use Rattle.std.specs.Prelude.{ℕ, zero, suc, ◌+◌, ◌-◌, ◌==◌, max, nat_lt, if◌then◌else◌, List, [], ◌∷◌, ◌++◌}
use Rattle.std.specs.Prelude.{codes, length, replicate, slice_get, slice_index_or, Option, None, Some}
use Rattle.std.specs.{Fmt.decimal, List.range_with_len}
use Rattle.text_fields.specs.Spelling.{hex}
use Rattle.events.specs.declared.event.Event.{Event}
use Rattle.events.specs.declared.event.Event.TheVariants.{Fetch}
use Rattle.chart_rows.specs.Views.{draws_hart}
use Rattle.chart_columns.specs.Tables.{head, last}
use Rattle.chart_counters.specs.declared.counters.Counters.{Counters}
use Rattle.charts.specs.declared.text.counted.Counter.{Counter}
use Rattle.charts.specs.declared.text.counted.Counter.TheVariants.{Icount, Chosen, Alu, Mul, Mem, InFlight, Free}
use Rattle.charts.specs.Drawings.{Drawing}

abbrev pub name_of : Counter → List ℕ
name_of (Icount hart) = codes "ICOUNT " ++ decimal hart
name_of Chosen = codes "chosen"
name_of Alu = codes "queue alu"
name_of Mul = codes "queue mul"
name_of Mem = codes "queue mem"
name_of (InFlight hart) = codes "in flight " ++ decimal hart
name_of Free = codes "free"

abbrev pub count_of : Counter → Counters → ℕ
count_of (Icount hart) counters = slice_index_or counters.icount hart 0
count_of Chosen counters = 0
count_of Alu counters = counters.queue.alu
count_of Mul counters = counters.queue.mul
count_of Mem counters = counters.queue.mem
count_of (InFlight hart) counters = slice_index_or counters.in_flight hart 0
count_of Free counters = counters.free

-- The places from one to another.
abbrev pub places_between : ℕ → ℕ → List ℕ
places_between from to = range_with_len from (suc to - from)

-- The hart that was fetched last in a column, as a hexadecimal digit, where one was.
abbrev pub chosen_text : List ℕ → Option Event → List ℕ
chosen_text before (Some (Fetch actor hart seq pc word predicted)) = hex 1 hart
chosen_text before _ = before

abbrev pub chosen_over : List Event → List ℕ → List ℕ → List ℕ
chosen_over events before [] = before
chosen_over events before (place ∷ others) = chosen_over events (chosen_text before (slice_get events place)) others

-- What is counted behind the event at a place, where it is known.
abbrev pub counters_at : Drawing → ℕ → Option Counters
counters_at drawing place =
    let first = head drawing.columns drawing.view.from in
    if nat_lt place first then None else slice_get drawing.counters (place - first)

abbrev pub number_text : Counter → Option Counters → List ℕ
number_text counter None = []
number_text counter (Some counters) = decimal (count_of counter counters)

-- The number of a counter in a column: that behind its last event.
abbrev pub column_text : Drawing → Counter → ℕ → List ℕ
column_text drawing Chosen column = chosen_over drawing.events []
    (places_between (head drawing.columns column) (last drawing.columns column))
column_text drawing counter column = number_text counter (counters_at drawing (last drawing.columns column))

unfoldable pub number_in : Drawing → Counter → ℕ → List ℕ
number_in drawing counter column = column_text drawing counter column

-- In as many lines as the longest of them has digits, one at least.
abbrev pub height_over : Drawing → Counter → ℕ → List ℕ → ℕ
height_over drawing counter tall [] = tall
height_over drawing counter tall (column ∷ others) =
    height_over drawing counter (max tall (length (number_in drawing counter column))) others

-- Of each number the digit that so many digits are left from, its own with them, behind as many blanks as are due; a
-- number that hasn't so many leaves a blank more.
abbrev pub digit_text : ℕ → ℕ → List ℕ → List ℕ
digit_text left blanks number = if nat_lt (length number) left then []
    else replicate blanks 32 ++ (slice_index_or number (length number - left) 0 ∷ [])

abbrev pub blanks_behind : ℕ → ℕ → List ℕ → ℕ
blanks_behind left blanks number = if nat_lt (length number) left then blanks + 1 else 0

abbrev pub digits_over : Drawing → Counter → ℕ → ℕ → List ℕ → List ℕ
digits_over drawing counter left blanks [] = []
digits_over drawing counter left blanks (column ∷ others) =
    digit_text left blanks (number_in drawing counter column)
    ++ digits_over drawing counter left (blanks_behind left blanks (number_in drawing counter column)) others

-- A line of a counter, with as many digits left; its name stands in the last of them, in so many places.
abbrev pub name_in : Counter → ℕ → List ℕ
name_in counter left = if left == 1 then name_of counter else []

unfoldable pub counter_line : Drawing → Counter → ℕ → List ℕ → ℕ → List ℕ
counter_line drawing counter places columns left = name_in counter left
    ++ (digits_over drawing counter left (places - length (name_in counter left)) columns ++ 10 ∷ [])

abbrev pub lines_from : Drawing → Counter → ℕ → List ℕ → ℕ → List ℕ
lines_from drawing counter places columns zero = []
lines_from drawing counter places columns (suc left) =
    counter_line drawing counter places columns (suc left) ++ lines_from drawing counter places columns left

unfoldable pub counter_text : Drawing → ℕ → List ℕ → Counter → List ℕ
counter_text drawing places columns counter =
    lines_from drawing counter places columns (height_over drawing counter 1 columns)

-- ICOUNT of each hart that is drawn, from this one on, and what is in flight of each.
abbrev pub icount_text : Drawing → ℕ → List ℕ → ℕ → List ℕ
icount_text drawing places columns hart = if draws_hart drawing.view.hart hart
    then counter_text drawing places columns (Icount hart) else []

abbrev pub in_flight_text : Drawing → ℕ → List ℕ → ℕ → List ℕ
in_flight_text drawing places columns hart = if draws_hart drawing.view.hart hart
    then counter_text drawing places columns (InFlight hart) else []

abbrev pub icounts_over : Drawing → ℕ → List ℕ → List ℕ → List ℕ
icounts_over drawing places columns [] = []
icounts_over drawing places columns (hart ∷ others) =
    icount_text drawing places columns hart ++ icounts_over drawing places columns others

abbrev pub in_flight_over : Drawing → ℕ → List ℕ → List ℕ → List ℕ
in_flight_over drawing places columns [] = []
in_flight_over drawing places columns (hart ∷ others) =
    in_flight_text drawing places columns hart ++ in_flight_over drawing places columns others

-- All that is counted, where it is wanted.
abbrev pub all_counted : Drawing → ℕ → List ℕ → List ℕ
all_counted drawing places columns = icounts_over drawing places columns (range_with_len 0 drawing.harts)
    ++ (counter_text drawing places columns Chosen ++ (counter_text drawing places columns Alu
    ++ (counter_text drawing places columns Mul ++ (counter_text drawing places columns Mem
    ++ (in_flight_over drawing places columns (range_with_len 0 drawing.harts)
    ++ counter_text drawing places columns Free)))))

abbrev pub counted_where : Drawing → ℕ → List ℕ → List Counters → List ℕ
counted_where drawing places columns [] = []
counted_where drawing places columns (one ∷ others) = all_counted drawing places columns

unfoldable pub counted_text : Drawing → ℕ → List ℕ → List ℕ
counted_text drawing places columns = counted_where drawing places columns drawing.counters
