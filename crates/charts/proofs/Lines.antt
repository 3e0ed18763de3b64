-- What the loops over a chart's rows and columns write.
use Rattle.std.specs.Prelude.{filter, find, if◌then◌else◌, ◌&&◌}
use Rattle.events.specs.declared.event.Event.{Event}
use Rattle.std.specs.List.{range_with_len}
use Rattle.std.specs.Io.KnownBytes.{Appends}
use Rattle.std.proofs.Common.{◌≡◌, ℕ, zero, suc, ◌+◌, ◌-◌, ◌*◌, ◌/◌, ◌<◌, ◌≤◌, ◌^◌, min, Bool, true, false, not, nat_lt}
use Rattle.std.proofs.Common.{List, [], ◌∷◌, ◌++◌, length, take, drop, get_or, map, replicate, Option, Some, None}
use Rattle.std.proofs.Common.{refl, sym, ap, subst, ◌∙◌, append_assoc, append-nil, arith, inl, inr}
use Rattle.std.proofs.lemmas.Bool.{cases_Bool, cases_lt}
use Rattle.std.proofs.lemmas.Bool.Decides.{nat_tests}
use Rattle.std.proofs.lemmas.Grind.{common_steps}
use Rattle.std.proofs.lemmas.List.{take_more, get_or-take, get_or_default, get_or-drop, length-drop, length-take}
use Rattle.std.proofs.lemmas.List.Elements.{filter-append}
use Rattle.std.proofs.Math.Nat.{div-mul-le_self}
use Rattle.std.proofs.Math.Seq.{drop-cons}
use Rattle.std.proofs.Common.{mul-le-mul_right}
use Rattle.text_fields.specs.Each.{each_from}
use Rattle.text_fields.proofs.Appending.{appends_more, each_step}
use Rattle.address_labels.specs.Labels.{Marks}
use Rattle.chart_rows.specs.{declared.row.Row.Row, declared.view.View.View, declared.band.Band.Band}
use Rattle.chart_columns.specs.Tables.{head}
use Rattle.charts.specs.declared.label.Widths.{Widths}
use Rattle.charts.specs.Drawings.{Drawing}
use Rattle.chart_registers.specs.declared.registers.Registers.{Registers}
use Rattle.charts.specs.Found.{wider_found, width_over}
use Rattle.charts.specs.Whys.{is_crossed, is_shown_crossed, why_text, whys_over}
use Rattle.chart_rows.specs.Views.{shows, is_before, last_place, draws_hart}
use Rattle.chart_rows.specs.Order.{AreByFetch, AreOver, AreOverBefore}
use Rattle.chart_rows.specs.Cells.{letter_at}
use Rattle.charts.specs.Text.{widened, widened_over, row_text, places, ruler_from}
use Rattle.chart_rows.specs.Bands.{band_of, bands_of, within}
use Rattle.charts.specs.Text.{number_over, free_behind, band_text, bands_text, gap_before, chart_by, chart_text}
use Rattle.charts.specs.Text.{columns_in, line_text, widths_of}

appends_none : (old : Option (List ℕ)) → Appends old old []
appends_none None = tt
appends_none (Some xs) = sym (append-nil xs)

-- ---- What is left to write

-- So much is written of a whole text that this is left.
pub record IsLeft (old new : Option (List ℕ)) (left whole : List ℕ) : Type 0 where
  pub text : List ℕ
  pub written : Appends old new text
  pub is : text ++ left ≡ whole

pub all_left : (old : Option (List ℕ)) (whole : List ℕ) → IsLeft old old whole whole
all_left old whole = record { text = []; written = appends_none old; is = refl }

pub one_less : (old mid new : Option (List ℕ)) (one left both whole : List ℕ) → both ≡ one ++ left
    → IsLeft old mid both whole → Appends mid new one → IsLeft old new left whole
one_less old mid new one left both whole same before next = record {
  text = before.text ++ one;
  written = appends_more old mid new before.text one before.written next;
  is = append_assoc before.text one left ∙ ap (λ t. before.text ++ t) (sym same) ∙ before.is;
}

pub none_left : (old new : Option (List ℕ)) (left whole : List ℕ) → left ≡ [] → IsLeft old new left whole
    → Appends old new whole
none_left old new left whole none so =
    subst (λ t. Appends old new t) (sym (append-nil so.text) ∙ ap (λ t. so.text ++ t) (sym none) ∙ so.is) so.written

pub next_place : (place last : ℕ) → place ≤ last → places place last ≡ place ∷ places (place + 1) last
next_place place last below =
    let some : suc last - place ≡ suc (last - place) = omega arith in
    let fewer : last - place ≡ suc last - (place + 1) = omega arith in
    ap (range_with_len place) some ∙ ap (λ n. place ∷ range_with_len (place + 1) n) fewer

pub no_place : (place last : ℕ) → last < place → places place last ≡ []
no_place place last above = let none : suc last - place ≡ 0 = omega arith in ap (range_with_len place) none

pub next_letter : (row : Row) (place last : ℕ) → place ≤ last
    → map (letter_at row) (places place last) ≡ (letter_at row place ∷ []) ++ map (letter_at row) (places (place + 1) last)
next_letter row place last below = ap (map (letter_at row)) (next_place place last below)

pub no_letter : (row : Row) (place last : ℕ) → last < place → map (letter_at row) (places place last) ≡ []
no_letter row place last above = ap (map (letter_at row)) (no_place place last above)

pub next_number : (heads : List ℕ) (free column last : ℕ) → column ≤ last
    → ruler_from heads free (places column last) ≡ number_over free column (head heads column)
    ++ ruler_from heads (free_behind free column (head heads column)) (places (column + 1) last)
next_number heads free column last below = ap (ruler_from heads free) (next_place column last below)

pub no_number : (heads : List ℕ) (free column last : ℕ) → last < column
    → ruler_from heads free (places column last) ≡ []
no_number heads free column last above = ap (ruler_from heads free) (no_place column last above)

-- ---- Widths

over_both : (marks : Marks) (rows more : List Row) (widths : Widths)
    → widened_over marks widths (rows ++ more) ≡ widened_over marks (widened_over marks widths rows) more
over_both marks [] more widths = refl
over_both marks (row ∷ rows) more widths = over_both marks rows more (widened marks row widths)

-- One more row, drawn or not.
module _ (view : View) (marks : Marks) (least : Widths) (rows : List Row) (i : ℕ) (d : Row)
    (inside : i < length rows) where
  more_shown : filter (shows view) (take (i + 1) rows)
      ≡ filter (shows view) (take i rows) ++ filter (shows view) (get_or rows i d ∷ [])
  more_shown = ap (filter (shows view)) (take_more rows i d inside)
      ∙ filter-append (shows view) (take i rows) (get_or rows i d ∷ [])

  pub wider : (widths : Widths) → shows view (get_or rows i d) ≡ true
      → widths ≡ widened_over marks least (filter (shows view) (take i rows))
      → widened marks (get_or rows i d) widths ≡ widened_over marks least (filter (shows view) (take (i + 1) rows))
  wider widths drawn before =
      let one : filter (shows view) (get_or rows i d ∷ []) ≡ get_or rows i d ∷ [] = rw drawn refl in
      ap (widened marks (get_or rows i d)) before
      ∙ sym (over_both marks (filter (shows view) (take i rows)) (get_or rows i d ∷ []) least)
      ∙ ap (λ shown. widened_over marks least (filter (shows view) (take i rows) ++ shown)) (sym one)
      ∙ ap (widened_over marks least) (sym more_shown)

  pub as_wide : (widths : Widths) → shows view (get_or rows i d) ≡ false
      → widths ≡ widened_over marks least (filter (shows view) (take i rows))
      → widths ≡ widened_over marks least (filter (shows view) (take (i + 1) rows))
  as_wide widths undrawn before =
      let none : filter (shows view) (get_or rows i d ∷ []) ≡ [] = rw undrawn refl in
      before
      ∙ ap (widened_over marks least) (sym (append-nil (filter (shows view) (take i rows))))
      ∙ ap (λ shown. widened_over marks least (filter (shows view) (take i rows) ++ shown)) (sym none)
      ∙ ap (widened_over marks least) (sym more_shown)

-- ---- Bands

-- ---- Rows that nothing stands of

pub over_from : (rows : List Row) (first next place : ℕ) → AreOver rows first place
    → AreOverBefore rows first next place → AreOver rows next place
over_from rows first next place before more k d least below =
    elim (cases_lt k first) [
      | inl old ↦ before k d least old
      | inr new ↦ more k d new below
    ]

later_over : (last : Option ℕ) (place later : ℕ) → place ≤ later → is_before last place ≡ true
    → is_before last later ≡ true
later_over None place later rises is = is
later_over (Some at) place later rises is = grind (arith, nat_tests, rises, is)

pub over_later : (rows : List Row) (next place later : ℕ) → place ≤ later → AreOver rows next place
    → AreOver rows next later
over_later rows next place later rises over k d least below =
    later_over (last_place (get_or rows k d)) place later rises (over k d least below)

-- ---- The texts of rows

seam : {A : Type 0} (text : ℕ → A → List ℕ) (place n : ℕ) (xs : List A)
    → each_from text place xs ≡ each_from text place (take n xs) ++ each_from text (place + n) (drop n xs)
seam text place zero xs = let same : place ≡ place + 0 = omega arith in ap (λ p. each_from text p xs) same
seam text place (suc n) [] = refl
seam text place (suc n) (x ∷ xs) =
    let same : place + 1 + n ≡ place + suc n = omega arith in
    ap (λ t. text place x ++ t) (seam text (place + 1) n xs)
    ∙ ap (λ p. text place x ++ (each_from text (place + 1) (take n xs) ++ each_from text p (drop n xs))) same
    ∙ sym (append_assoc (text place x) (each_from text (place + 1) (take n xs)) (each_from text (place + suc n)
    (drop n xs)))

none_from : {A : Type 0} (text : ℕ → A → List ℕ) (place : ℕ) (xs : List A)
    → ((k : ℕ) (d : A) → k < length xs → text (place + k) (get_or xs k d) ≡ []) → each_from text place xs ≡ []
none_from text place [] none = refl
none_from text place (x ∷ xs) none =
    let here : place + 0 ≡ place = omega arith in
    let first : text place x ≡ [] = subst (λ p. text p x ≡ []) here (none 0 x (omega arith)) in
    let others : each_from text (place + 1) xs ≡ [] = none_from text (place + 1) xs (λ k d below.
    let same : place + suc k ≡ place + 1 + k = omega arith in
    subst (λ p. text p (get_or xs k d) ≡ []) same (none (suc k) d (omega (arith, below)))) in
    ap (λ t. t ++ each_from text (place + 1) xs) first ∙ others

-- Before a row nothing is written, and behind a row nothing.
pub none_before : {A : Type 0} (text : ℕ → A → List ℕ) (n : ℕ) (xs : List A)
    → ((k : ℕ) (d : A) → k < n → k < length xs → text k (get_or xs k d) ≡ []) → each_from text 0 (take n xs) ≡ []
none_before text n xs none = none_from text 0 (take n xs) (λ k d below.
    let short : k < length xs = omega (arith, length-take n xs, below) in
    let before : k < n = omega (arith, length-take n xs, below) in
    let same : 0 + k ≡ k = omega arith in
    ap (λ p. text p (get_or (take n xs) k d)) same ∙ ap (text k) (get_or-take n xs k d before) ∙ none k d before short)

pub none_behind : {A : Type 0} (text : ℕ → A → List ℕ) (n : ℕ) (xs : List A)
    → ((k : ℕ) (d : A) → n ≤ k → k < length xs → text k (get_or xs k d) ≡ [])
    → each_from text 0 (take n xs) ≡ each_from text 0 xs
none_behind text n xs none =
    let behind : each_from text (0 + n) (drop n xs) ≡ [] = none_from text (0 + n) (drop n xs) (λ k d below.
    let inside : n + k < length xs = omega (arith, length-drop n xs, below) in
    let same : 0 + n + k ≡ n + k = omega arith in
    ap (λ p. text p (get_or (drop n xs) k d)) same ∙ ap (text (n + k)) (get_or-drop n xs k d)
    ∙ none (n + k) d (omega arith) inside) in
    sym (append-nil (each_from text 0 (take n xs))) ∙ ap (λ t. each_from text 0 (take n xs) ++ t) (sym behind)
    ∙ sym (seam text 0 n xs)

-- One that isn't shown in a band has no text.
unshown : (widths : Widths) (drawing : Drawing) (band : Band) (k : ℕ) (row : Row)
    → shows (within drawing.view band) row ≡ false → row_text widths drawing band k row ≡ []
unshown widths drawing band k row is = rw is refl

over_unshown : (view : View) (band : Band) (row : Row) → is_before (last_place row) band.from ≡ true
    → shows (within view band) row ≡ false
over_unshown view band row is = grind (arith, nat_tests, common_steps, is)

late_unshown : (view : View) (band : Band) (row : Row) → band.to < row.fetched → shows (within view band) row ≡ false
late_unshown view band row is = grind (arith, nat_tests, common_steps, is)

module _ (widths : Widths) (drawing : Drawing) (band : Band) (old : Option (List ℕ)) where
  pub none_so_far : (first : ℕ) → AreOver drawing.rows first band.from
      → Appends old old (each_from (row_text widths drawing band) 0 (take first drawing.rows))
  none_so_far first over =
      let none : each_from (row_text widths drawing band) 0 (take first drawing.rows) ≡ [] =
      none_before (row_text widths drawing band) first drawing.rows (λ k d before below.
      unshown widths drawing band k (get_or drawing.rows k d)
      (over_unshown drawing.view band (get_or drawing.rows k d) (over k d (omega arith) before))) in
      subst (λ t. Appends old old t) (sym none) (appends_none old)

  pub none_later : (i : ℕ) (e : Row) (new : Option (List ℕ)) → AreByFetch drawing.rows → i < length drawing.rows
      → band.to < (get_or drawing.rows i e).fetched
      → Appends old new (each_from (row_text widths drawing band) 0 (take i drawing.rows))
      → Appends old new (each_from (row_text widths drawing band) 0 drawing.rows)
  none_later i e new by inside late written =
      let none : each_from (row_text widths drawing band) 0 (take i drawing.rows)
      ≡ each_from (row_text widths drawing band) 0 drawing.rows =
      none_behind (row_text widths drawing band) i drawing.rows (λ k d least below.
      unshown widths drawing band k (get_or drawing.rows k d) (late_unshown drawing.view band (get_or drawing.rows k d)
      (omega (
        arith,
        subst (λ (row : Row). band.to < row.fetched) (get_or_default drawing.rows i e d inside) late,
        by i k d least below,
      )))) in
      subst (λ t. Appends old new t) none written

-- A row's line is written where something of it is shown in the band.
pub next_row : (widths : Widths) (drawing : Drawing) (band : Band) (shown : View)
    (old mid new : Option (List ℕ)) (i : ℕ) (d : Row) → i < length drawing.rows → shown ≡ within drawing.view band
    → Appends old mid (each_from (row_text widths drawing band) 0 (take i drawing.rows))
    → Appends mid new (if shows shown (get_or drawing.rows i d)
    then line_text widths drawing.marks drawing.registers band i (get_or drawing.rows i d) else [])
    → Appends old new (each_from (row_text widths drawing band) 0 (take (i + 1) drawing.rows))
next_row widths drawing band shown old mid new i d inside same before written =
    each_step (row_text widths drawing band) old mid new drawing.rows i d inside before
    (subst (λ (v : View). Appends mid new (if shows v (get_or drawing.rows i d)
    then line_text widths drawing.marks drawing.registers band i (get_or drawing.rows i d) else [])) same written)

-- ---- The bands

one_more_band : (widths : Widths) (drawing : Drawing) (columns number : ℕ)
    (old gap mid new : Option (List ℕ)) → Appends old gap (bands_text widths drawing columns number)
    → Appends gap mid (gap_before number)
    → Appends mid new (band_text widths drawing (band_of drawing.view columns number))
    → Appends old new (bands_text widths drawing columns (number + 1))
one_more_band widths drawing columns number old gap mid new before apart next =
    let more : number + 1 ≡ suc number = omega arith in
    subst (λ n. Appends old new (bands_text widths drawing columns n)) (sym more)
    (appends_more old gap new _ _ before (appends_more gap mid new _ _ apart next))

module _ (widths : Widths) (drawing : Drawing) (columns : ℕ) (old : Option (List ℕ)) where
  pub no_band : (gap : Option (List ℕ)) → gap ≡ old → Appends old gap (bands_text widths drawing columns 0)
  no_band gap same = subst (λ (g : Option (List ℕ)). Appends old g []) (sym same) (appends_none old)

  pub next_band : (number bands first next : ℕ) (band : Band) (gap mid new : Option (List ℕ)) → number < bands
      → 1 < columns → (1 < columns → bands ≡ bands_of drawing.view columns)
      → (number < bands_of drawing.view columns → band ≡ band_of drawing.view columns number)
      → AreOver drawing.rows first (drawing.view.from + number * columns)
      → AreOverBefore drawing.rows first next band.from
      → (AreByFetch drawing.rows → Appends old gap (bands_text widths drawing columns number))
      → Appends gap mid (gap_before number)
      → (AreByFetch drawing.rows → AreOver drawing.rows next band.from
      → Appends mid new (band_text widths drawing band))
      → (AreByFetch drawing.rows → Appends old new (bands_text widths drawing columns (number + 1)))
      × AreOver drawing.rows next (drawing.view.from + (number + 1) * columns)
  next_band number bands first next band gap mid new below wide many is before more written apart told =
      let rows = drawing.rows in
      let view = drawing.view in
      let same : band ≡ band_of view columns number =
      is (subst (λ (n : ℕ). number < n) (many wide) below) in
      let begins : band.from ≡ view.from + number * columns = ap (λ (b : Band). b.from) same in
      let over : AreOver rows next band.from = over_from rows first next band.from
      (subst (λ (n : ℕ). AreOver rows first n) (sym begins) before) more in
      let later : view.from + number * columns ≤ view.from + (number + 1) * columns = grind arith in (
        λ by. one_more_band widths drawing columns number old gap mid new (written by) apart
            (subst (λ (b : Band). Appends mid new (band_text widths drawing b)) same (told by over)),
        over_later rows next (view.from + number * columns) (view.from + (number + 1) * columns) later
            (subst (λ (n : ℕ). AreOver rows next n) begins over),
      )

pub chart_done : (drawing : Drawing) (widths : Widths) (columns number : ℕ) (old new : Option (List ℕ))
    → widths ≡ widths_of drawing.view drawing.marks drawing.registers drawing.rows
    → columns ≡ columns_in drawing.width widths → number ≡ bands_of drawing.view columns
    → Appends old new (bands_text widths drawing columns number) → Appends old new (chart_text drawing)
chart_done drawing widths columns number old new wide beside all written =
    subst (λ (w : Widths). Appends old new (chart_by (columns_in drawing.width w) w drawing)) wide
    (subst (λ (n : ℕ). Appends old new (chart_by n widths drawing)) beside
    (subst (λ (n : ℕ). Appends old new (bands_text widths drawing columns n)) all written))

-- ---- Why rows are squashed

pub next_why : (rows : List Row) (events : List Event) (shown : View) (columns : List ℕ) (place last : ℕ)
    → place ≤ last → whys_over rows events shown columns (places place last)
    ≡ why_text rows events shown columns place ++ whys_over rows events shown columns (places (place + 1) last)
next_why rows events shown columns place last below =
    ap (whys_over rows events shown columns) (next_place place last below)

pub no_why : (rows : List Row) (events : List Event) (shown : View) (columns : List ℕ) (place last : ℕ)
    → last < place → whys_over rows events shown columns (places place last) ≡ []
no_why rows events shown columns place last above =
    ap (whys_over rows events shown columns) (no_place place last above)

-- The first that is crossed: none before some row that isn't shown.
unfound : {A : Type 0} (p : A → Bool) (xs : List A) → ((k : ℕ) (d : A) → k < length xs → p (get_or xs k d) ≡ false)
    → find p xs ≡ None
unfound p [] none = refl
unfound p (x ∷ xs) none =
    ap (λ b. if b then Some x else find p xs) (none 0 x (omega arith))
    ∙ unfound p xs (λ k d below. none (suc k) d (omega (arith, below)))

-- Where none of the first i passes: if the next one does, it is found, and if none of the others does, none is.
pub found_at : {A : Type 0} (p : A → Bool) (xs : List A) (i : ℕ) (d : A) → i < length xs
    → ((k : ℕ) (e : A) → k < i → p (get_or xs k e) ≡ false) → p (get_or xs i d) ≡ true
    → find p xs ≡ Some (get_or xs i d)
found_at p [] i d below none is = absurd (omega (arith, below))
found_at p (x ∷ xs) zero d below none is = ap (λ b. if b then Some x else find p xs) is
found_at p (x ∷ xs) (suc i) d below none is =
    ap (λ b. if b then Some x else find p xs) (none 0 x (omega arith))
    ∙ found_at p xs i d (omega (arith, below)) (λ k e before. none (suc k) e (omega (arith, before))) is

and_false : (b : Bool) → (b && false) ≡ false
and_false true = refl
and_false false = refl

uncrossed : (shown : View) (column by : ℕ) (row : Row) → shows shown row ≡ false
    → is_shown_crossed shown column by row ≡ false
uncrossed shown column by row is =
    ap (λ b. is_crossed column by row && b) is ∙ and_false (is_crossed column by row)

ended_unshown : (shown : View) (row : Row) → is_before (last_place row) shown.from ≡ true → shows shown row ≡ false
ended_unshown shown row is = grind (arith, nat_tests, common_steps, is)

unbegun_unshown : (shown : View) (row : Row) → shown.to < row.fetched → shows shown row ≡ false
unbegun_unshown shown row is = grind (arith, nat_tests, common_steps, is)

module _ (rows : List Row) (shown : View) (column by : ℕ) where
  pub none_crossed_before : (first : ℕ) → AreOver rows first shown.from → (k : ℕ) (d : Row) → k < first
      → is_shown_crossed shown column by (get_or rows k d) ≡ false
  none_crossed_before first over k d before =
      uncrossed shown column by (get_or rows k d)
      (ended_unshown shown (get_or rows k d) (over k d (omega arith) before))

  pub none_crossed : (i : ℕ) (e : Row) → AreByFetch rows → i < length rows → shown.to < (get_or rows i e).fetched
      → ((k : ℕ) (d : Row) → k < i → is_shown_crossed shown column by (get_or rows k d) ≡ false)
      → find (is_shown_crossed shown column by) rows ≡ None
  none_crossed i e by_fetch inside late none = unfound (is_shown_crossed shown column by) rows (λ k d below.
      elim (cases_lt k i) [
        | inl before ↦ none k d before
        | inr later ↦
            let rises = by_fetch i k d later below in
            let begins = subst (λ (row : Row). shown.to < row.fetched) (get_or_default rows i e d inside) late in
            uncrossed shown column by (get_or rows k d)
            (unbegun_unshown shown (get_or rows k d) (omega (arith, rises, begins)))
      ])

  pub none_at_all : (i : ℕ) → length rows ≤ i
      → ((k : ℕ) (d : Row) → k < i → is_shown_crossed shown column by (get_or rows k d) ≡ false)
      → find (is_shown_crossed shown column by) rows ≡ None
  none_at_all i end none = unfound (is_shown_crossed shown column by) rows (λ k d below.
      none k d (omega (arith, end, below)))

pub still_none : {A : Type 0} (p : A → Bool) (xs : List A) (i : ℕ) (d : A) → i < length xs
    → p (get_or xs i d) ≡ false → ((k : ℕ) (e : A) → k < i → p (get_or xs k e) ≡ false)
    → (k : ℕ) (e : A) → k < i + 1 → p (get_or xs k e) ≡ false
still_none p xs i d inside next none k e below = elim (cases_lt k i) [
  | inl before ↦ none k e before
  | inr newest ↦
      let same : k ≡ i = omega (arith, below, newest) in
      ap (λ n. p (get_or xs n e)) same ∙ ap p (get_or_default xs i e d inside) ∙ next
]

-- ---- Registers

drop_more : (xs : List Row) (i : ℕ) (d : Row) → i < length xs → drop i xs ≡ get_or xs i d ∷ drop (i + 1) xs
drop_more xs i d inside =
    let more : suc i ≡ i + 1 = omega arith in
    drop-cons xs i d inside ∙ ap (λ n. get_or xs i d ∷ drop n xs) more

drop_all : (i : ℕ) (xs : List Row) → length xs ≤ i → drop i xs ≡ []
drop_all zero [] end = refl
drop_all (suc i) [] end = refl
drop_all zero (x ∷ xs) end = absurd (omega (arith, end))
drop_all (suc i) (x ∷ xs) end = drop_all i xs (omega (arith, end))

pub next_found : (view : View) (registers : List (Option Registers)) (rows : List Row) (i width : ℕ) (d : Row)
    → i < length rows → width_over view registers i width (drop i rows)
    ≡ width_over view registers (i + 1) (wider_found view registers i (get_or rows i d) width) (drop (i + 1) rows)
next_found view registers rows i width d inside =
    ap (width_over view registers i width) (drop_more rows i d inside)

pub no_found : (view : View) (registers : List (Option Registers)) (rows : List Row) (i width : ℕ)
    → length rows ≤ i → width_over view registers i width (drop i rows) ≡ width
no_found view registers rows i width end =
    ap (width_over view registers i width) (drop_all i rows end)
