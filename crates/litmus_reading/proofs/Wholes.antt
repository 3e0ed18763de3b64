-- Parts of a whole test, a brace, a hart, a location and a thread more at each turn.
use Rattle.std.proofs.Common.{◌≡◌, ℕ, zero, suc, ◌+◌, ◌-◌, ◌*◌, ◌<◌, ◌≤◌, false, List, [], ◌∷◌, ◌++◌, length, drop, get_or, take}
use Rattle.std.proofs.Common.{Option, Some, None, true≢false, take-append-drop}
use Rattle.std.specs.Prelude.{slice_get, option_and_then, unwrap_or, is_none}
use Rattle.std.specs.Prelude.{All}
use Rattle.std.proofs.lemmas.List.{length-drop, take_all, take_more}
use Rattle.std.proofs.lemmas.List.Elements.{All-append, All-cons, All-nil}
use Rattle.std.proofs.lemmas.Option.{slice_get_within, slice_get-get_or, get_or_from_slice_get}
use Rattle.std.proofs.Common.{refl, sym, ap, ◌∙◌, subst, inl, inr, arith, append_assoc, append-nil, drop_of_length-le, length-append}
use Rattle.litmus_tests.specs.declared.location.Location.{Location}
use Rattle.litmus_tests.specs.declared.test.Thread.{Thread}
use Rattle.litmus_words.specs.declared.word.Word.{Word}
use Rattle.litmus_words.specs.declared.word.Token.{Token}
use Rattle.litmus_words.specs.declared.word.Token.TheVariants.{Mark}
use Rattle.litmus_words.specs.declared.word.Mark.TheVariants as mark
use Rattle.litmus_words.specs.Cuts.{IsCut, LacksMark}
use Rattle.litmus_reading.specs.declared.locations.Named.{Named}
use Rattle.litmus_reading.specs.declared.start.Entry.{Entry}
use Rattle.litmus_reading.specs.Names.{elements_of}
use Rattle.litmus_reading.specs.Declarations.{begins}
use Rattle.litmus_reading.specs.Rows.{ended_by, is_asking, is_semicolon}
use Rattle.litmus_reading.specs.Starts.{starts_of}
use Rattle.litmus_reading.specs.Texts.{AreClosed, AreElementsFrom, AreHeads, AreLocations, AreThreads, IsBraced, IsClosedAt, IsElementOf, IsHead, IsHeadRow, IsQuiet, IsTable, HasCells, LocationsAdded, one_less, open_after, open_behind}
use Rattle.litmus_reading.specs.Threads.{SpellsThread}
use Rattle.litmus_reading.proofs.Cells.{row_ended}
use Rattle.litmus_reading.proofs.Naming.{drop_here, pushed}

-- a list at one of its elements
pub parts_at : {A : Type 0} (xs : List A) (i : ℕ) (x : A) → slice_get xs i ≡ Some x → xs ≡ take i xs ++ x ∷ drop (i + 1) xs
parts_at {A} xs i x there =
    sym (take-append-drop i xs)
    ∙ ap (λ (t : List A). take i xs ++ t) (drop_here xs i x (slice_get_within xs i x there)
    ∙ ap (λ (y : A). y ∷ drop (i + 1) xs) (get_or_from_slice_get xs i x x there))

pub braced : (words rest : List Word) (place : ℕ) (first : Word) → words ≡ first ∷ rest
    → first.token ≡ Mark mark.LeftBrace → IsClosedAt rest place
    → IsBraced words (take place rest) (drop (place + 1) rest)
braced words rest place first is opens closed = record {
  first = first;
  last = closed.last;
  spelled = is ∙ ap (λ (t : List Word). first ∷ t) (parts_at rest place closed.last closed.there);
  opens = opens;
  closes = closed.closes;
  alone = closed.alone;
}

pub braced_at : (words rest : List Word) (place : ℕ) (first : Word) → words ≡ first ∷ rest
    → first.token ≡ Mark mark.LeftBrace → IsClosedAt rest place
    → IsBraced words (take place rest) (take (length rest - (place + 1)) (drop (place + 1) rest))
braced_at words rest place first is opens closed =
    let long = length-drop (place + 1) rest in
    subst (IsBraced words (take place rest))
    (sym (take_all (length rest - (place + 1)) (drop (place + 1) rest) (omega (arith, long))))
    (braced words rest place first is opens closed)

on_the_same : (o : Option ℕ) → option_and_then (λ (n : ℕ). Some n) o ≡ o
on_the_same None = refl
on_the_same (Some n) = refl

open_on : (words : List Word) (word : Word) (now : ℕ)
    → ((first : ℕ) → open_after first words ≡ Some now
    → open_after first (words ++ word ∷ []) ≡ open_behind word.token now)
    → (o : Option ℕ) → option_and_then (λ (n : ℕ). open_after n words) o ≡ Some now
    → option_and_then (λ (n : ℕ). open_after n (words ++ word ∷ [])) o ≡ open_behind word.token now
open_on words word now on None e = absurd (true≢false (ap (λ (o : Option ℕ). is_none o) e))
open_on words word now on (Some n) e = on n e

open_more : (words : List Word) (word : Word) (first now : ℕ) → open_after first words ≡ Some now
    → open_after first (words ++ word ∷ []) ≡ open_behind word.token now
open_more [] word first now is =
    on_the_same (open_behind word.token first)
    ∙ ap (open_behind word.token) (ap (λ (o : Option ℕ). unwrap_or o first) is)
open_more (w ∷ words) word first now is =
    open_on words word now (λ n e. open_more words word n now e) (open_behind w.token first) is

pub open_at : (words : List Word) (place depth : ℕ) (next : ℕ) (d : Word) → place < length words
    → open_after 0 (take place words) ≡ Some depth → Some next ≡ open_behind (get_or words place d).token depth
    → open_after 0 (take (place + 1) words) ≡ Some next
open_at words place depth next d inside is there =
    ap (open_after 0) (take_more words place d inside)
    ∙ open_more (take place words) (get_or words place d) 0 depth is ∙ sym there

less_none : (depth : ℕ) → None ≡ one_less depth → depth ≡ 0
less_none zero e = refl
less_none (suc depth) e = absurd (true≢false (ap (λ (o : Option ℕ). is_none o) e))

closes_none : (token : Token) (depth : ℕ) → None ≡ open_behind token depth
    → (token ≡ Mark mark.RightBrace) × (depth ≡ 0)
closes_none (Mark mark.LeftBrace) depth e = absurd (true≢false (ap (λ (o : Option ℕ). is_none o) e))
closes_none (Mark mark.RightBrace) depth e = (refl, less_none depth e)
closes_none token depth e = absurd (true≢false (ap (λ (o : Option ℕ). is_none o) e))

pub closed_at : (words : List Word) (place depth : ℕ) (d : Word) → place < length words
    → None ≡ open_behind (get_or words place d).token depth → open_after 0 (take place words) ≡ Some depth
    → IsClosedAt words place
closed_at words place depth d inside closes so_far =
    let none = closes_none (get_or words place d).token depth closes in
    record {
      last = get_or words place d;
      there = slice_get-get_or words place d inside;
      closes = none.0;
      alone = so_far ∙ ap (λ (n : ℕ). Some n) none.1;
    }

pub heads_more : (row : List Word) (i : ℕ) (d : Word) (all : List Word) → i < length row
    → (AreHeads i (drop i row) → AreHeads 0 all) → IsHead i (get_or row i d).token
    → AreHeads (i + 1) (drop (i + 1) row) → AreHeads 0 all
heads_more row i d all inside so_far here rest =
    so_far (subst (AreHeads i) (sym (drop_here row i d inside)) (here, rest))

pub heads_all : (row : List Word) (i : ℕ) → length row ≤ i → (AreHeads i (drop i row) → AreHeads 0 row)
    → AreHeads 0 row
heads_all row i past so_far = so_far (subst (AreHeads i) (sym (drop_of_length-le row past)) tt)

pub head_row : (words row behind : List Word) (harts : ℕ) → IsCut words mark.Semicolon row behind
    → (length row ≡ length words → ⊥) → AreHeads 0 row → length row + 1 ≡ 2 * harts → IsHeadRow words harts behind
head_row words row behind harts (inl whole) short heads count = absurd (short (ap length (sym whole.0)))
head_row words row behind harts (inr cut) short heads count = record {
  row = row;
  last = cut.0;
  spelled = cut.1;
  closes = cut.2;
  heads = heads;
  count = count;
}

-- rows, one more at each turn
pub record RowsBefore (harts : ℕ) (words rest : List Word) : Type 0 where
  pub rows : List Word
  pub spelled : words ≡ rows ++ rest
  pub ended : (others : List Word)
      → ended_by is_semicolon (rows ++ others) ≡ ended_by is_semicolon rows ++ ended_by is_semicolon others
  pub cells : All (HasCells harts) (ended_by is_semicolon rows)
  pub quiet : All IsQuiet (ended_by is_semicolon rows)
  pub closed : AreClosed rows

pub no_row : (harts : ℕ) (words : List Word) → RowsBefore harts words words
no_row harts words = record {
  rows = [];
  spelled = refl;
  ended = λ others. refl;
  cells = All-nil (HasCells harts);
  quiet = All-nil IsQuiet;
  closed = inl refl;
}

quiet_row : (row rest : List Word) → begins is_asking (row ++ rest) ≡ false → IsQuiet row
quiet_row [] rest quiet = refl
quiet_row (word ∷ row) rest quiet = quiet

row_behind : (harts : ℕ) (words rest row behind : List Word) (stop : Word) → RowsBefore harts words rest
    → rest ≡ row ++ stop ∷ behind → stop.token ≡ Mark mark.Semicolon → LacksMark mark.Semicolon row
    → HasCells harts row → IsQuiet row → RowsBefore harts words behind
row_behind harts words rest row behind stop so_far is closes lacks cells quiet =
    let one : ended_by is_semicolon (so_far.rows ++ (row ++ stop ∷ []))
    ≡ ended_by is_semicolon so_far.rows ++ row ∷ [] =
    so_far.ended (row ++ stop ∷ [])
    ∙ ap (λ (t : List (List Word)). ended_by is_semicolon so_far.rows ++ t) (row_ended row stop [] lacks closes) in
    record {
      rows = so_far.rows ++ (row ++ stop ∷ []);
      spelled = so_far.spelled
          ∙ ap (λ (t : List Word). so_far.rows ++ t) (is ∙ sym (append_assoc row (stop ∷ []) behind))
          ∙ sym (append_assoc so_far.rows (row ++ stop ∷ []) behind);
      ended = λ others.
          ap (ended_by is_semicolon) (append_assoc so_far.rows (row ++ stop ∷ []) others
          ∙ ap (λ (t : List Word). so_far.rows ++ t) (append_assoc row (stop ∷ []) others))
          ∙ so_far.ended (row ++ stop ∷ others)
          ∙ ap (λ (t : List (List Word)). ended_by is_semicolon so_far.rows ++ t)
          (row_ended row stop others lacks closes)
          ∙ sym (append_assoc (ended_by is_semicolon so_far.rows) (row ∷ []) (ended_by is_semicolon others))
          ∙ ap (λ (t : List (List Word)). t ++ ended_by is_semicolon others) (sym one);
      cells = subst (All (HasCells harts)) (sym one)
          (All-append (HasCells harts) (ended_by is_semicolon so_far.rows) (row ∷ []) so_far.cells
          (All-cons (HasCells harts) row [] cells (All-nil (HasCells harts))));
      quiet = subst (All IsQuiet) (sym one)
          (All-append IsQuiet (ended_by is_semicolon so_far.rows) (row ∷ []) so_far.quiet
          (All-cons IsQuiet row [] quiet (All-nil IsQuiet)));
      closed = inr (record {
        front = so_far.rows ++ row;
        last = stop;
        spelled = sym (append_assoc so_far.rows row (stop ∷ []));
        closes = closes;
      });
    }

pub rows_more : (harts : ℕ) (words rest row behind : List Word) → RowsBefore harts words rest
    → IsCut rest mark.Semicolon row behind → LacksMark mark.Semicolon row → (length row ≡ length rest → ⊥)
    → HasCells harts row → begins is_asking rest ≡ false → RowsBefore harts words behind
rows_more harts words rest row behind so_far (inl whole) lacks short cells quiet = absurd (short (ap length (sym whole.0)))
rows_more harts words rest row behind so_far (inr cut) lacks short cells quiet =
    row_behind harts words rest row behind cut.0 so_far cut.1 cut.2 lacks cells
    (quiet_row row (cut.0 ∷ behind) (sym (ap (begins is_asking) cut.1) ∙ quiet))

take_front : {A : Type 0} (front rest : List A) → take (length front) (front ++ rest) ≡ front
take_front {A} [] [] = refl
take_front {A} [] (x ∷ rest) = refl
take_front {A} (x ∷ front) rest = ap (λ (t : List A). x ∷ t) (take_front front rest)

pub table : (harts : ℕ) (words rest : List Word) (count : ℕ) → RowsBefore harts words rest
    → count ≡ length words - length rest → IsTable harts words (take count words) rest
table harts words rest count so_far many =
    let long : length words ≡ length so_far.rows + length rest =
    ap length so_far.spelled ∙ length-append so_far.rows rest in
    let same : length so_far.rows ≡ count = omega (arith, long, many) in
    let front : so_far.rows ≡ take count words = sym (take_front so_far.rows rest)
    ∙ ap (λ (n : ℕ). take n (so_far.rows ++ rest)) same ∙ ap (take count) (sym so_far.spelled) in
    record {
      spelled = so_far.spelled ∙ ap (λ (t : List Word). t ++ rest) front;
      closed = subst AreClosed front so_far.closed;
      cells = subst (λ (t : List Word). All (HasCells harts) (ended_by is_semicolon t)) front so_far.cells;
      quiet = subst (λ (t : List Word). All IsQuiet (ended_by is_semicolon t)) front so_far.quiet;
    }

-- the elements of a name
pub record ElementsSoFar (text whole : List ℕ) (name : Named) (count : ℕ) (before now : List Location) : Type 0 where
  pub elements : List Location
  pub many : length elements ≡ count
  pub added : now ≡ before ++ elements
  pub are : (more : List Location) → AreElementsFrom text whole name count more
      → AreElementsFrom text whole name 0 (elements ++ more)

pub no_element : (text whole : List ℕ) (name : Named) (before : List Location)
    → ElementsSoFar text whole name 0 before before
no_element text whole name before = record {
  elements = [];
  many = refl;
  added = sym (append-nil before);
  are = λ more is. is;
}

pub element_more : (text whole : List ℕ) (name : Named) (count : ℕ) (before now after : List Location)
    (location : Location) → ElementsSoFar text whole name count before now
    → IsElementOf text whole name count location → after ≡ now ++ location ∷ []
    → ElementsSoFar text whole name (count + 1) before after
element_more text whole name count before now after location so_far is added = record {
  elements = so_far.elements ++ location ∷ [];
  many = length-append so_far.elements (location ∷ []) ∙ ap (λ (n : ℕ). n + 1) so_far.many;
  added = added ∙ ap (λ (t : List Location). t ++ location ∷ []) so_far.added
      ∙ append_assoc before so_far.elements (location ∷ []);
  are = λ more are. subst (AreElementsFrom text whole name 0)
      (sym (append_assoc so_far.elements (location ∷ []) more)) (so_far.are (location ∷ more) (is, are));
}

pub all_elements : (text whole : List ℕ) (name : Named) (count most : ℕ) (before now : List Location)
    → ElementsSoFar text whole name count before now → most ≡ elements_of name.declared → count ≤ most → most ≤ count
    → LocationsAdded text whole name before now
all_elements text whole name count most before now so_far all inside past = record {
  elements = so_far.elements;
  count = so_far.many ∙ (let same : count ≡ most = omega (arith, inside, past) in same) ∙ all;
  are = subst (AreElementsFrom text whole name 0) (append-nil so_far.elements) (so_far.are [] tt);
  added = so_far.added;
}

-- one name more
pub location_more : (text whole : List ℕ) (names : List Named) (i : ℕ) (d : Named) (before after : List Location)
    → i < length names
    → ((more : List Location) → AreLocations text whole (drop i names) more
    → AreLocations text whole names (before ++ more))
    → LocationsAdded text whole (get_or names i d) before after
    → (more : List Location) → AreLocations text whole (drop (i + 1) names) more
    → AreLocations text whole names (after ++ more)
location_more text whole names i d before after inside so_far new more are =
    subst (AreLocations text whole names)
    (sym (append_assoc before new.elements more) ∙ ap (λ (t : List Location). t ++ more) (sym new.added))
    (so_far (new.elements ++ more)
    (subst (λ (t : List Named). AreLocations text whole t (new.elements ++ more)) (sym (drop_here names i d inside))
    (new.elements, more, refl, new.count, new.are, are)))

pub locations_all : (text whole : List ℕ) (names : List Named) (i : ℕ) (before : List Location) → length names ≤ i
    → ((more : List Location) → AreLocations text whole (drop i names) more
    → AreLocations text whole names (before ++ more))
    → AreLocations text whole names before
locations_all text whole names i before past so_far =
    subst (AreLocations text whole names) (append-nil before)
    (so_far [] (subst (λ (t : List Named). AreLocations text whole t []) (sym (drop_of_length-le names past)) refl))

pub thread_more : (text : List ℕ) (rows : List Word) (entries : List Entry) (hart : ℕ) (before after : List Thread)
    (thread : Thread)
    → ((more : List Thread) → AreThreads text rows entries hart more → AreThreads text rows entries 0 (before ++ more))
    → thread.starts.items ≡ starts_of entries hart → SpellsThread text rows hart thread.steps.items
    → after ≡ before ++ thread ∷ []
    → (more : List Thread) → AreThreads text rows entries (hart + 1) more
    → AreThreads text rows entries 0 (after ++ more)
thread_more text rows entries hart before after thread so_far starts steps is more are =
    subst (AreThreads text rows entries 0) (pushed before after more thread is)
    (so_far (thread ∷ more) (starts, steps, are))

pub threads_all : (text : List ℕ) (rows : List Word) (entries : List Entry) (hart : ℕ) (before : List Thread)
    → ((more : List Thread) → AreThreads text rows entries hart more → AreThreads text rows entries 0 (before ++ more))
    → AreThreads text rows entries 0 before
threads_all text rows entries hart before so_far =
    subst (AreThreads text rows entries 0) (append-nil before) (so_far [] tt)
