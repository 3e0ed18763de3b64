-- The rows of a history with one more event, from the rows before it.
use Rattle.std.specs.Prelude.{◌≡◌, ℕ, ◌+◌, ◌<◌, ◌≤◌, true, false, ◌==◌, List, [], ◌∷◌, ◌++◌, length, Option}
use Rattle.std.specs.Prelude.{reverse, take, drop, None}
use Rattle.std.proofs.Common.{get_or, refl, sym, ap, subst, ◌∙◌, arith, inl, inr}
use Rattle.std.proofs.{lemmas.Bool.Decides.nat_tests, lemmas.Bool.cases_lt, lemmas.List.reverse-append}
use Rattle.std.proofs.{lemmas.List.take_more, lemmas.List.take-append-drop, lemmas.List.length_push}
use Rattle.std.proofs.lemmas.List.{get_or_append_left, get_or_push, length-reverse, length-take-le}
use Rattle.events.specs.{Event.seq_of, declared.event.Event.Event}
use Rattle.events.specs.declared.event.Event.TheVariants.{Fetch, Decode, Rename, Issue, Complete}
use Rattle.events.specs.declared.event.Event.TheVariants.{Drop, Retire, Refetch}
use Rattle.events.specs.declared.kind.EventKind.TheVariants as kinds
use Rattle.smt_model.specs.{Setup.Setup, Rules.is_legal, Fates.fetches}
use Rattle.smt_model.proofs.Fates.Moves.{fetch_number}
use Rattle.chart_rows.specs.{declared.row.Row.Row, declared.row.Squash.Squash}
use Rattle.chart_rows.specs.Rows.{IsRow, AreRows, AreHistory, value_of}
use Rattle.chart_rows.specs.Moves.{HaveMoved}
use Rattle.chart_rows.proofs.Keeping.{or_none, other_row}
use Rattle.chart_rows.proofs.Moving.{FetchesNone, any_row}
use Rattle.chart_rows.proofs.Fresh.{under, fresh}

-- ---- The first events of a list

behind : (setup : Setup) (newer past : List Event) → is_legal setup (newer ++ past) → is_legal setup past
behind setup [] past legal = legal
behind setup (e ∷ newer) past legal = behind setup newer past legal.1

pub next : (events : List Event) (i : ℕ) (d : Event) → i < length events
    → reverse (take (i + 1) events) ≡ get_or events i d ∷ reverse (take i events)
next events i d inside =
    ap reverse (take_more events i d inside) ∙ reverse-append (take i events) (get_or events i d ∷ [])

pub legal_so_far : (setup : Setup) (events : List Event) (i : ℕ) → is_legal setup (reverse events)
    → is_legal setup (reverse (take i events))
legal_so_far setup events i legal =
    let turned : reverse events ≡ reverse (drop i events) ++ reverse (take i events) =
    ap reverse (sym (take-append-drop i events)) ∙ reverse-append (take i events) (drop i events) in
    behind setup (reverse (drop i events)) (reverse (take i events)) (subst (is_legal setup) turned legal)

-- ---- One more event

same_count : (e : Event) (past : List Event) → FetchesNone e → fetches (e ∷ past) ≡ fetches past
same_count (Fetch actor hart seq pc word predicted) past none = absurd none
same_count (Decode actor seq) past none = refl
same_count (Rename actor seq phys) past none = refl
same_count (Issue actor seq) past none = refl
same_count (Complete actor seq outcome) past none = refl
same_count (Drop actor seq) past none = refl
same_count (Retire actor seq effect) past none = refl
same_count (Refetch actor seq) past none = refl

pub known_row : (setup : Setup) (e : Event) (past : List Event) (rows : List Row) → is_legal setup (e ∷ past)
    → FetchesNone e → AreRows past rows → seq_of e < length rows
known_row setup e past rows legal none are =
    let less = under setup past legal.1 e legal.0 none in let count = are.count in omega arith

pub moved_rows : (setup : Setup) (e : Event) (past : List Event) (rows new : List Row) → is_legal setup (e ∷ past)
    → FetchesNone e → AreRows past rows → HaveMoved e (length past) rows new → AreRows (e ∷ past) new
moved_rows setup e past rows new legal none are move =
    let less = known_row setup e past rows legal none are in
    record {
      count = move.count ∙ (are.count ∙ sym (same_count e past none));
      each = λ s d inside.
          let before : s < length rows = let count = move.count in omega arith in
          subst (IsRow (e ∷ past) s) (sym (move.each s d before))
          (any_row e past s (get_or rows (seq_of e) d) (get_or rows s d) none (are.each (seq_of e) d less)
          (are.each s d before));
    }

-- The row of an instruction that was just fetched.
abbrev pub first_row : ℕ → ℕ → Option ℕ → ℕ → ℕ → Row
first_row hart pc word predicted place = record {
  hart = hart;
  pc = pc;
  word = word;
  predicted = predicted;
  fetched = place;
  decoded = None;
  renamed = None;
  issued = None;
  completed = None;
  dropped = None;
  retired = None;
  refetched = None;
  squashed = None;
  value = None;
  replayed = false;
}

itself : (n : ℕ) → (n == n) ≡ true
itself n = grind (arith, nat_tests)

new_row : (setup : Setup) (past : List Event) (actor hart seq pc : ℕ) (word : Option ℕ) (predicted : ℕ)
    → is_legal setup (Fetch actor hart seq pc word predicted ∷ past)
    → IsRow (Fetch actor hart seq pc word predicted ∷ past) seq (first_row hart pc word predicted (length past))
new_row setup past actor hart seq pc word predicted legal =
    let given = fetch_number setup past actor hart seq pc word predicted legal.0 in
    let above : fetches past ≤ seq = omega arith in
    let none = fresh setup past legal.1 seq above in
    record {
      instruction = rw (itself seq) refl;
      fetched = rw (itself seq) refl;
      decoded = none.places kinds.Decode;
      renamed = none.places kinds.Rename;
      issued = none.places kinds.Issue;
      completed = none.places kinds.Complete;
      dropped = none.places kinds.Drop;
      retired = none.places kinds.Retire;
      refetched = none.places kinds.Refetch;
      squashed = or_none _ ∙ none.squashed;
      value = ap value_of none.completion;
      replayed = none.replayed;
    }

old_row : (past : List Event) (actor hart seq pc : ℕ) (word : Option ℕ) (predicted s : ℕ) (row : Row)
    → (seq == s) ≡ false → IsRow past s row → IsRow (Fetch actor hart seq pc word predicted ∷ past) s row
old_row past actor hart seq pc word predicted s row other was =
    subst (IsRow (Fetch actor hart seq pc word predicted ∷ past) s)
    (ap (λ (o : Option Squash). record row { squashed = o }) (or_none row.squashed))
    (other_row (Fetch actor hart seq pc word predicted) past s row other was)

pub fetched_rows : (setup : Setup) (past : List Event) (actor hart seq pc : ℕ) (word : Option ℕ) (predicted : ℕ)
    (rows : List Row) → is_legal setup (Fetch actor hart seq pc word predicted ∷ past) → AreRows past rows
    → AreRows (Fetch actor hart seq pc word predicted ∷ past)
    (rows ++ first_row hart pc word predicted (length past) ∷ [])
fetched_rows setup past actor hart seq pc word predicted rows legal are =
    let given = fetch_number setup past actor hart seq pc word predicted legal.0 in
    let count = are.count in
    let one = length_push rows (first_row hart pc word predicted (length past)) in
    record {
      count = omega arith;
      each = λ s d inside.
          elim (cases_lt s (length rows)) [
            | inl before ↦
                let other : (seq == s) ≡ false = grind (arith, nat_tests) in
                subst (IsRow (Fetch actor hart seq pc word predicted ∷ past) s)
                (sym (get_or_append_left rows (first_row hart pc word predicted (length past) ∷ []) d s before))
                (old_row past actor hart seq pc word predicted s (get_or rows s d) other (are.each s d before))
            | inr last ↦
                let here : length rows ≡ s = omega arith in
                let same : seq ≡ s = omega arith in
                subst (IsRow (Fetch actor hart seq pc word predicted ∷ past) s)
                (sym (get_or_push rows (first_row hart pc word predicted (length past)) d s here))
                (subst (λ n. IsRow (Fetch actor hart seq pc word predicted ∷ past) n
                (first_row hart pc word predicted (length past))) same
                (new_row setup past actor hart seq pc word predicted legal))
          ];
    }

-- ---- The event at a place of a history

pub fetches_none : (e : Event)
    → ((actor hart seq pc : ℕ) (word : Option ℕ) (predicted : ℕ) → e ≡ Fetch actor hart seq pc word predicted → ⊥)
    → FetchesNone e
fetches_none (Fetch actor hart seq pc word predicted) not = not actor hart seq pc word predicted refl
fetches_none (Decode actor seq) not = tt
fetches_none (Rename actor seq phys) not = tt
fetches_none (Issue actor seq) not = tt
fetches_none (Complete actor seq outcome) not = tt
fetches_none (Drop actor seq) not = tt
fetches_none (Retire actor seq effect) not = tt
fetches_none (Refetch actor seq) not = tt

legal_next : (setup : Setup) (events : List Event) (i : ℕ) (d : Event) → i < length events
    → is_legal setup (reverse events) → is_legal setup (get_or events i d ∷ reverse (take i events))
legal_next setup events i d inside legal =
    subst (is_legal setup) (next events i d inside) (legal_so_far setup events (i + 1) legal)

so_many : (events : List Event) (i : ℕ) → i < length events → length (reverse (take i events)) ≡ i
so_many events i inside = length-reverse (take i events) ∙ length-take-le i events (omega arith)

pub known_at : (events : List Event) (i : ℕ) (d : Event) (rows : List Row) → AreHistory events → i < length events
    → FetchesNone (get_or events i d) → AreRows (reverse (take i events)) rows
    → seq_of (get_or events i d) < length rows
known_at events i d rows history inside none are =
    known_row history.0 (get_or events i d) (reverse (take i events)) rows
    (legal_next history.0 events i d inside history.1) none are

pub moved_at : (events : List Event) (i : ℕ) (d : Event) (rows new : List Row) → AreHistory events → i < length events
    → FetchesNone (get_or events i d) → AreRows (reverse (take i events)) rows
    → HaveMoved (get_or events i d) i rows new → AreRows (reverse (take (i + 1) events)) new
moved_at events i d rows new history inside none are move =
    let past = reverse (take i events) in
    let e = get_or events i d in
    subst (λ xs. AreRows xs new) (sym (next events i d inside))
    (moved_rows history.0 e past rows new (legal_next history.0 events i d inside history.1) none are
    (subst (λ n. HaveMoved e n rows new) (sym (so_many events i inside)) move))

pub fetched_at : (events : List Event) (i : ℕ) (d : Event) (rows new : List Row) (row : Row)
    (actor hart seq pc : ℕ) (word : Option ℕ) (predicted : ℕ) → AreHistory events → i < length events
    → get_or events i d ≡ Fetch actor hart seq pc word predicted → AreRows (reverse (take i events)) rows
    → row ≡ first_row hart pc word predicted i → new ≡ rows ++ row ∷ []
    → AreRows (reverse (take (i + 1) events)) new
fetched_at events i d rows new row actor hart seq pc word predicted history inside is are first more =
    let past = reverse (take i events) in
    let e = Fetch actor hart seq pc word predicted in
    let legal = subst (λ x. is_legal history.0 (x ∷ past)) is (legal_next history.0 events i d inside history.1) in
    let all = fetched_rows history.0 past actor hart seq pc word predicted rows legal are in
    let its : first_row hart pc word predicted (length past) ≡ row =
    ap (first_row hart pc word predicted) (so_many events i inside) ∙ sym first in
    subst (λ xs. AreRows xs new) (ap (λ x. x ∷ past) (sym is) ∙ sym (next events i d inside))
    (subst (AreRows (e ∷ past)) (ap (λ r. rows ++ r ∷ []) its ∙ sym more) all)

pub no_rows : AreRows [] []
no_rows = record { count = refl; each = λ s d inside. absurd (omega (arith, inside)) }
