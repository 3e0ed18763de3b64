-- Rows, cut off one behind the other: there is one way to cut them.
use Rattle.std.proofs.Common.{◌≡◌, ◌≢◌, ℕ, zero, suc, ◌+◌, ◌-◌, ◌/◌, ◌%◌, ◌<◌, ◌≤◌, Bool, true, false, List, [], ◌∷◌, ◌++◌, length, take, get_or}
use Rattle.std.proofs.Common.{refl, sym, ap, ◌∙◌, subst, inl, inr, arith, true≢false, append_assoc, length-append}
use Rattle.std.specs.Prelude.{◌⊎◌, All}
use Rattle.std.proofs.lemmas.List.Elements.{All-cons, All-head, All-nil, All-tail}
use Rattle.numbers.specs.Sizes.{most_harts}
use Rattle.litmus_words.specs.declared.word.Word.{Word}
use Rattle.litmus_words.specs.declared.word.Token.{Token}
use Rattle.litmus_words.specs.declared.word.Token.TheVariants.{Hart, Mark as mark_token}
use Rattle.litmus_words.specs.declared.word.Mark.{Mark}
use Rattle.litmus_words.specs.declared.word.Mark.TheVariants as mark
use Rattle.litmus_words.specs.Cuts.{IsCut, LacksMark}
use Rattle.litmus_reading.specs.Declarations.{begins}
use Rattle.litmus_reading.specs.Rows.{ended_by, is_asking, is_semicolon}
use Rattle.litmus_reading.specs.Texts.{AreClosed, AreHeads, EndsInSemicolon, HasCells, IsHead, IsHeadRow, IsQuiet, IsTable}
use Rattle.litmus_reading.proofs.Cells.{row_ended}

-- at one mark words are cut in one way
first_lacks : (m : Mark) (word : Word) (words : List Word) → LacksMark m (word ∷ words)
    → word.token ≢ mark_token m
first_lacks m word words lacks = All-head (λ (one : Word). one.token ≢ mark_token m) word words lacks

others_lack : (m : Mark) (word : Word) (words : List Word) → LacksMark m (word ∷ words) → LacksMark m words
others_lack m word words lacks = All-tail (λ (one : Word). one.token ≢ mark_token m) word words lacks

lack_more : (m : Mark) (word : Word) (words : List Word) → word.token ≢ mark_token m → LacksMark m words
    → LacksMark m (word ∷ words)
lack_more m word words none lacks = All-cons (λ (one : Word). one.token ≢ mark_token m) word words none lacks

last_there : (m : Mark) (row rest : List Word) (last : Word) → last.token ≡ mark_token m
    → LacksMark m (row ++ last ∷ rest) → ⊥
last_there m [] rest last is lacks = first_lacks m last rest lacks is
last_there m (word ∷ row) rest last is lacks =
    last_there m row rest last is (others_lack m word (row ++ last ∷ rest) lacks)

two_cuts : (m : Mark) (before row behind rest : List Word) (stop last : Word)
    → before ++ stop ∷ behind ≡ row ++ last ∷ rest → LacksMark m before → LacksMark m row
    → stop.token ≡ mark_token m → last.token ≡ mark_token m → (before ≡ row) × (behind ≡ rest)
two_cuts m [] [] behind rest stop last same none lacks is so = (refl, cc)
two_cuts m [] (word ∷ row) behind rest stop last same none lacks is so =
    let first : stop ≡ word = cc in
    absurd (first_lacks m word row lacks (ap (λ (w : Word). w.token) (sym first) ∙ is))
two_cuts m (word ∷ before) [] behind rest stop last same none lacks is so =
    let first : word ≡ last = cc in
    absurd (first_lacks m word before none (ap (λ (w : Word). w.token) first ∙ so))
two_cuts m (word ∷ before) (next ∷ row) behind rest stop last same none lacks is so =
    let first : word ≡ next = cc in
    let others = two_cuts m before row behind rest stop last (cc) (others_lack m word before none)
    (others_lack m next row lacks) is so in
    ((λ k. first k ∷ others.0 k), others.1)

pub cut_same : (m : Mark) (words before behind row rest : List Word) (last : Word) → IsCut words m before behind
    → LacksMark m before → words ≡ row ++ last ∷ rest → last.token ≡ mark_token m → LacksMark m row
    → (before ≡ row) × (behind ≡ rest)
cut_same m words before behind row rest last (inl whole) none is so lacks =
    absurd (last_there m row rest last so (subst (LacksMark m) (sym whole.0 ∙ is) none))
cut_same m words before behind row rest last (inr cut) none is so lacks =
    two_cuts m before row behind rest cut.0 last (sym cut.1 ∙ is) none lacks cut.2 so

-- the row of harts
next_left : (place : ℕ) → (place % 2 ≡ 0) ⊎ (place % 2 ≡ 1) → (suc place % 2 ≡ 0) ⊎ (suc place % 2 ≡ 1)
next_left place (inl even) = inr (omega (arith, even))
next_left place (inr odd) = inl (omega (arith, odd))

two_left : (place : ℕ) → (place % 2 ≡ 0) ⊎ (place % 2 ≡ 1)
two_left zero = inl (omega arith)
two_left (suc place) = next_left place (two_left place)

no_hart : (number : ℕ) → Hart number ≡ mark_token mark.Semicolon → ⊥
no_hart number e = cc

no_bar : mark_token mark.Bar ≡ mark_token mark.Semicolon → ⊥
no_bar e = cc

head_lacks : (place : ℕ) (token : Token) → IsHead place token → (place % 2 ≡ 0) ⊎ (place % 2 ≡ 1)
    → token ≢ mark_token mark.Semicolon
head_lacks place token is (inl even) = λ semicolon. no_hart (place / 2) (sym (is.0 even) ∙ semicolon)
head_lacks place token is (inr odd) = λ semicolon. no_bar (sym (is.1 odd) ∙ semicolon)

heads_lack : (place : ℕ) (row : List Word) → AreHeads place row → LacksMark mark.Semicolon row
heads_lack place [] are = All-nil (λ (one : Word). one.token ≢ mark_token mark.Semicolon)
heads_lack place (word ∷ row) are =
    lack_more mark.Semicolon word row (head_lacks place word.token are.0 (two_left place))
    (heads_lack (place + 1) row are.1)

pub heads_cut : (words before behind rest : List Word) (harts : ℕ) → IsCut words mark.Semicolon before behind
    → LacksMark mark.Semicolon before → (it : IsHeadRow words harts rest) → (before ≡ it.row) × (behind ≡ rest)
heads_cut words before behind rest harts cut none it =
    cut_same mark.Semicolon words before behind it.row rest it.last cut none it.spelled it.closes
    (heads_lack 0 it.row it.heads)

pub no_whole : (words before rest : List Word) (harts : ℕ) → (it : IsHeadRow words harts rest)
    → before ≡ it.row → length before ≡ length words → ⊥
no_whole words before rest harts it same long =
    let whole = ap length it.spelled ∙ length-append it.row (it.last ∷ rest) in
    let row = ap length same in omega (arith, whole, row, long)

pub heads_at : (row : List Word) (from i : ℕ) (d : Word) → i < length row → AreHeads from row
    → IsHead (from + i) (get_or row i d).token
heads_at [] from i d inside are = absurd (omega (arith, inside))
heads_at (word ∷ row) from zero d inside are =
    let here : from + 0 ≡ from = omega arith in subst (λ (n : ℕ). IsHead n word.token) (sym here) are.0
heads_at (word ∷ row) from (suc i) d inside are =
    let there : from + suc i ≡ (from + 1) + i = omega arith in
    subst (λ (n : ℕ). IsHead n (get_or row i d).token) (sym there)
    (heads_at row (from + 1) i d (omega (arith, inside)) are.1)

pub heads_at_place : (words before behind : List Word) (harts i : ℕ) (d : Word) (it : IsHeadRow words harts behind)
    → before ≡ it.row → i < length before → IsHead i (get_or before i d).token
heads_at_place words before behind harts i d it same inside =
    let none : 0 + i ≡ i = omega arith in
    subst (λ (n : ℕ). IsHead n (get_or before i d).token) none
    (heads_at before 0 i d inside (subst (AreHeads 0) (sym same) it.heads))

pub few_heads : (words before behind : List Word) (harts : ℕ) (it : IsHeadRow words harts behind)
    → before ≡ it.row → harts ≤ most_harts → 32 < length before → ⊥
few_heads words before behind harts it same few inside =
    let long = ap length same in let count = it.count in omega (arith, inside, long, count, few)

-- the rows below it: those that are left
pub record RowsLeft (harts : ℕ) (rows rest asked : List Word) : Type 0 where
  pub before : List Word
  pub left : List Word
  pub parted : rows ≡ before ++ left
  pub is : rest ≡ left ++ asked
  pub closed : AreClosed left
  pub cells : All (HasCells harts) (ended_by is_semicolon left)
  pub quiet : All IsQuiet (ended_by is_semicolon left)

pub record FirstRow (left : List Word) : Type 0 where
  pub row : List Word
  pub stop : Word
  pub others : List Word
  pub is : left ≡ row ++ stop ∷ others
  pub closes : stop.token ≡ mark_token mark.Semicolon
  pub lacks : LacksMark mark.Semicolon row
  pub closed : AreClosed others

ends_behind : (word : Word) (words front : List Word) (last : Word) → word ∷ words ≡ front ++ last ∷ []
    → last.token ≡ mark_token mark.Semicolon → AreClosed words
ends_behind word words [] last is so = inl cc
ends_behind word words (first ∷ front) last is so =
    inr (record { front = front; last = last; spelled = cc; closes = so })

semicolon_is : (token : Token) → is_semicolon token ≡ true → token ≡ mark_token mark.Semicolon
semicolon_is (mark_token mark.Semicolon) e = refl
semicolon_is token e = absurd (true≢false (sym e))

or_by : (b : Bool) (token : Token) → is_semicolon token ≡ b
    → (token ≡ mark_token mark.Semicolon) ⊎ (token ≢ mark_token mark.Semicolon)
or_by true token is = inl (semicolon_is token is)
or_by false token is = inr (λ e. true≢false (sym (ap is_semicolon e) ∙ is))

still_ends : (word : Word) (words front : List Word) (last : Word) → word ∷ words ≡ front ++ last ∷ []
    → last.token ≡ mark_token mark.Semicolon → word.token ≢ mark_token mark.Semicolon → EndsInSemicolon words
still_ends word words [] last is so other =
    let same : word ≡ last = cc in absurd (other (ap (λ (w : Word). w.token) same ∙ so))
still_ends word words (first ∷ front) last is so other =
    record { front = front; last = last; spelled = cc; closes = so }

token_or : (token : Token) → (token ≡ mark_token mark.Semicolon) ⊎ (token ≢ mark_token mark.Semicolon)
token_or token = or_by (is_semicolon token) token refl

semicolon_or : (word : Word)
    → (word.token ≡ mark_token mark.Semicolon) ⊎ (word.token ≢ mark_token mark.Semicolon)
semicolon_or word = token_or word.token

first_row_by : (word : Word) (words : List Word) → EndsInSemicolon (word ∷ words)
    → (word.token ≡ mark_token mark.Semicolon) ⊎ (word.token ≢ mark_token mark.Semicolon)
    → (EndsInSemicolon words → FirstRow words) → FirstRow (word ∷ words)
first_row_by word words ends (inl semicolon) further = record {
  row = [];
  stop = word;
  others = words;
  is = refl;
  closes = semicolon;
  lacks = All-nil (λ (one : Word). one.token ≢ mark_token mark.Semicolon);
  closed = ends_behind word words ends.front ends.last ends.spelled ends.closes;
}
first_row_by word words ends (inr other) further =
    let rest = further (still_ends word words ends.front ends.last ends.spelled ends.closes other) in
    record {
      row = word ∷ rest.row;
      stop = rest.stop;
      others = rest.others;
      is = ap (λ (t : List Word). word ∷ t) rest.is;
      closes = rest.closes;
      lacks = lack_more mark.Semicolon word rest.row other rest.lacks;
      closed = rest.closed;
    }

no_front : (word last : Word) (words front : List Word) → [] ≡ front ++ last ∷ [] → ⊥
no_front word last words [] is = cc
no_front word last words (first ∷ front) is = cc

pub first_row : (left : List Word) → EndsInSemicolon left → FirstRow left
first_row [] ends = absurd (no_front ends.last ends.last [] ends.front ends.spelled)
first_row (word ∷ words) ends = first_row_by word words ends (semicolon_or word) (first_row words)

-- what asks begins no row
asks_not : (row : List Word) (stop : Word) (others : List Word) → stop.token ≡ mark_token mark.Semicolon
    → begins is_asking row ≡ false → begins is_asking (row ++ stop ∷ others) ≡ false
asks_not [] stop others closes quiet = ap is_asking closes
asks_not (word ∷ row) stop others closes quiet = quiet

rows_told : (left : List Word) (first : FirstRow left)
    → ended_by is_semicolon left ≡ first.row ∷ ended_by is_semicolon first.others
rows_told left first =
    ap (ended_by is_semicolon) first.is ∙ row_ended first.row first.stop first.others first.lacks first.closes

pub none_left : (harts : ℕ) (rows rest asked : List Word) (it : RowsLeft harts rows rest asked)
    → begins is_asking rest ≡ true → AreClosed it.left → it.left ≡ []
none_left harts rows rest asked it asks (inl none) = none
none_left harts rows rest asked it asks (inr ends) =
    let first = first_row it.left ends in
    let quiet = All-head IsQuiet first.row
    (ended_by is_semicolon first.others)
    (subst (All IsQuiet) (rows_told it.left first) it.quiet) in
    absurd (true≢false (sym asks ∙ ap (begins is_asking) (it.is ∙ ap (λ (t : List Word). t ++ asked) first.is
    ∙ append_assoc first.row (first.stop ∷ first.others) asked)
    ∙ asks_not first.row first.stop (first.others ++ asked) first.closes quiet))

pub some_left : (harts : ℕ) (rows rest asked : List Word) (it : RowsLeft harts rows rest asked)
    → begins is_asking rest ≡ false → begins is_asking asked ≡ true → AreClosed it.left → FirstRow it.left
some_left harts rows rest asked it quiet asks (inl none) =
    absurd (true≢false (sym asks ∙ sym (ap (begins is_asking) (it.is ∙ ap (λ (t : List Word). t ++ asked) none))
    ∙ quiet))
some_left harts rows rest asked it quiet asks (inr ends) = first_row it.left ends

-- the next row is the one that is cut off
pub next_cut : (harts : ℕ) (rows rest asked before behind : List Word) (it : RowsLeft harts rows rest asked)
    (first : FirstRow it.left) → IsCut rest mark.Semicolon before behind → LacksMark mark.Semicolon before
    → (before ≡ first.row) × (behind ≡ first.others ++ asked)
next_cut harts rows rest asked before behind it first cut none =
    cut_same mark.Semicolon rest before behind first.row (first.others ++ asked) first.stop cut none
    (it.is ∙ ap (λ (t : List Word). t ++ asked) first.is ∙ append_assoc first.row (first.stop ∷ first.others) asked)
    first.closes first.lacks

pub cells_of_first : (harts : ℕ) (rows rest asked : List Word) (it : RowsLeft harts rows rest asked)
    (first : FirstRow it.left) → HasCells harts first.row
cells_of_first harts rows rest asked it first =
    All-head (HasCells harts) first.row (ended_by is_semicolon first.others)
    (subst (All (HasCells harts)) (rows_told it.left first) it.cells)

pub less_left : (harts : ℕ) (rows rest asked behind : List Word) (it : RowsLeft harts rows rest asked)
    (first : FirstRow it.left) → behind ≡ first.others ++ asked → RowsLeft harts rows behind asked
less_left harts rows rest asked behind it first is = record {
  before = it.before ++ (first.row ++ first.stop ∷ []);
  left = first.others;
  parted = it.parted ∙ ap (λ (t : List Word). it.before ++ t)
      (first.is ∙ sym (append_assoc first.row (first.stop ∷ []) first.others))
      ∙ sym (append_assoc it.before (first.row ++ first.stop ∷ []) first.others);
  is = is;
  closed = first.closed;
  cells = All-tail (HasCells harts) first.row (ended_by is_semicolon first.others)
      (subst (All (HasCells harts)) (rows_told it.left first) it.cells);
  quiet = All-tail IsQuiet first.row
      (ended_by is_semicolon first.others)
      (subst (All IsQuiet) (rows_told it.left first) it.quiet);
}

pub all_left : (harts : ℕ) (words rows asked : List Word) → IsTable harts words rows asked
    → RowsLeft harts rows words asked
all_left harts words rows asked table = record {
  before = [];
  left = rows;
  parted = refl;
  is = table.spelled;
  closed = table.closed;
  cells = table.cells;
  quiet = table.quiet;
}

pub not_whole : (harts : ℕ) (rows rest asked before : List Word) (it : RowsLeft harts rows rest asked)
    (first : FirstRow it.left) → before ≡ first.row → length before ≡ length rest → ⊥
not_whole harts rows rest asked before it first same long =
    let all = ap length (it.is ∙ ap (λ (t : List Word). t ++ asked) first.is
    ∙ append_assoc first.row (first.stop ∷ first.others) asked)
    ∙ length-append first.row (first.stop ∷ first.others ++ asked) in
    let row = ap length same in omega (arith, all, row, long)

take_front : {A : Type 0} (front rest : List A) → take (length front) (front ++ rest) ≡ front
take_front {A} [] [] = refl
take_front {A} [] (x ∷ rest) = refl
take_front {A} (x ∷ front) rest = ap (λ (t : List A). x ∷ t) (take_front front rest)

pub rows_same : (harts : ℕ) (words rows rest asked : List Word) → words ≡ rows ++ asked → rest ≡ asked
    → take (length words - length rest) words ≡ rows
rows_same harts words rows rest asked is same =
    let long = ap length is ∙ length-append rows asked in
    let behind = ap length same in
    let many : length words - length rest ≡ length rows = omega (arith, long, behind) in
    (λ k. take (many k) (is k)) ∙ take_front rows asked
