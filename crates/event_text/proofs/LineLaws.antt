-- A line is read as the event whose line it is, and as no other; an event in range is read back from its line.

use Rattle.std.proofs.Common.{◌≡◌, ℕ, suc, Bool, true, false, ◌==◌, cond, List, [], ◌∷◌, ◌++◌, length}
use Rattle.std.proofs.Common.{Option}
use Rattle.std.proofs.Common.{None, Some, Result, Ok, Err, refl, sym, ◌∙◌, ap, arith}
use Rattle.std.proofs.lemmas.Bool.Decides.{nat_tests}
use Rattle.text_fields.specs.{declared.read.FieldError.FieldError, Splitting.field_count, Splitting.Lacks}
use Rattle.text_fields.proofs.SplittingLaws.{field-cut, rest-cut}
use Rattle.events.specs.{declared.event.Event.Event, declared.kind.EventKind.EventKind}
use Rattle.events.specs.declared.event.Event.TheVariants.{Fetch, Decode, Rename, Issue, Complete}
use Rattle.events.specs.declared.event.Event.TheVariants.{Drop, Retire, Refetch}
use Rattle.events.specs.declared.kind.EventKind.TheVariants as kind
use Rattle.events.specs.Kind.{event_kind, fields_after, kind_of_letter, letter_of}
use Rattle.event_text.specs.{declared.ranges.Ranges.Ranges, declared.read.Rule.TheVariants.FieldCount}
use Rattle.event_text.specs.{Line.line_of, Ranges.IsEventWithin}
use Rattle.event_text.specs.Reading.{event_as, event_fields, event_within, first_field, has_kind, kind_among}
use Rattle.event_text.specs.Reading.{kind_named}
use Rattle.event_text.specs.Reading.{of_fields, others}
use Rattle.event_text.proofs.{LineFields.fields_of, LineFields.line_of-joined, Joining.joined, Sequences.cut}
use Rattle.event_text.proofs.{Readings.event_reading, Readings.EventParts, Small.AreSmall}

-- the letter
letter_only : (c : ℕ) (k : EventKind) → kind_of_letter c ≡ Some k → c ≡ letter_of k
letter_only c kind.Fetch named = grind (arith, nat_tests)
letter_only c kind.Decode named = grind (arith, nat_tests)
letter_only c kind.Rename named = grind (arith, nat_tests)
letter_only c kind.Issue named = grind (arith, nat_tests)
letter_only c kind.Complete named = grind (arith, nat_tests)
letter_only c kind.Drop named = grind (arith, nat_tests)
letter_only c kind.Retire named = grind (arith, nat_tests)
letter_only c kind.Refetch named = grind (arith, nat_tests)

-- a kind that the version has
by_having : (b : Bool) (k l : EventKind) → cond b (Some k) None ≡ Some l → (k ≡ l) × (b ≡ true)
by_having true k l is = (cc, refl)
by_having false k l is = cc

among_only : (ranges : Ranges) (named : Option EventKind) (k : EventKind) → kind_among ranges named ≡ Some k
    → (named ≡ Some k) × (has_kind ranges k ≡ true)
among_only ranges None k is = cc
among_only ranges (Some l) k is =
    let both = by_having (has_kind ranges l) l k is in
    (ap Some both.0, ap (has_kind ranges) (sym both.0) ∙ both.1)

named_only : (ranges : Ranges) (text : List ℕ) (k : EventKind) → kind_named ranges text ≡ Some k
    → (text ≡ letter_of k ∷ []) × (has_kind ranges k ≡ true)
named_only ranges [] k named = cc
named_only ranges (c ∷ []) k named =
    let both = among_only ranges (kind_of_letter c) k named in (ap (λ b. b ∷ []) (letter_only c k both.0), both.1)
named_only ranges (c ∷ d ∷ cs) k named =
    let long : (suc (suc (length cs)) == 1) ≡ false = grind (arith, nat_tests) in
    cc (rw long at named)

letter_names : (ranges : Ranges) (k : EventKind) → has_kind ranges k ≡ true
    → (kind_named ranges (letter_of k ∷ []) ≡ Some k) × Lacks 32 (letter_of k ∷ [])
letter_names ranges kind.Fetch has = (refl, refl)
letter_names ranges kind.Decode has = (refl, refl)
letter_names ranges kind.Rename has = (refl, refl)
letter_names ranges kind.Issue has = (refl, refl)
letter_names ranges kind.Complete has = (refl, refl)
letter_names ranges kind.Drop has = (refl, refl)
letter_names ranges kind.Retire has = (refl, refl)
letter_names ranges kind.Refetch has = (rw has refl, refl)

has_kind_of : (ranges : Ranges) (e : Event) → IsEventWithin ranges e → has_kind ranges (event_kind e) ≡ true
has_kind_of ranges (Fetch actor hart seq pc word predicted) within = refl
has_kind_of ranges (Decode actor seq) within = refl
has_kind_of ranges (Rename actor seq phys) within = refl
has_kind_of ranges (Issue actor seq) within = refl
has_kind_of ranges (Complete actor seq outcome) within = refl
has_kind_of ranges (Drop actor seq) within = refl
has_kind_of ranges (Retire actor seq effect) within = refl
has_kind_of ranges (Refetch actor seq) within = within.1

-- what the reader found: a kind, and an event of its fields
record Found (ranges : Ranges) (named : Option EventKind) (fields : List ℕ) (e : Event) : Type 0 where
  its_kind : EventKind
  named_is : named ≡ Some its_kind
  read : event_fields ranges its_kind fields ≡ Ok e

of_fields_only : (r : Result Event FieldError) (e : Event) → of_fields r ≡ Ok e → r ≡ Ok e
of_fields_only (Ok event) e read = cc
of_fields_only (Err error) e read = cc

by_count : (ranges : Ranges) (b : Bool) (k : EventKind) (fields : List ℕ) (e : Event)
    → cond b (of_fields (event_fields ranges k fields)) (Err FieldCount) ≡ Ok e → Found ranges (Some k) fields e
by_count ranges true k fields e read = record {
  its_kind = k;
  named_is = refl;
  read = of_fields_only (event_fields ranges k fields) e read;
}
by_count ranges false k fields e read = cc

found : (ranges : Ranges) (named : Option EventKind) (fields : List ℕ) (e : Event)
    → event_as ranges named fields ≡ Ok e → Found ranges named fields e
found ranges None fields e read = cc
found ranges (Some k) fields e read = by_count ranges (field_count 32 fields == fields_after k) k fields e read

-- the event of a line is that of its fields: where they are read there are as many as its kind has
pub line_read : (ranges : Ranges) (k : EventKind) (line : List ℕ) (e : Event)
    → kind_named ranges (first_field line) ≡ Some k → event_fields ranges k (others line) ≡ Ok e
    → event_within ranges line ≡ Ok e
unfolding event_within
line_read ranges k line e named read =
    let many = (event_reading ranges k).count e (others line) read in
    let count : (field_count 32 (others line) == fields_after k) ≡ true = grind (arith, nat_tests, many) in
    rw (named, count, read) refl

-- the fields are those of the event, which is in range and of the kind
record Reads (ranges : Ranges) (k : EventKind) (e : Event) (fields : List ℕ) : Type 0 where
  within : IsEventWithin ranges e
  whole : fields ≡ joined (fields_of e)
  its_kind : event_kind e ≡ k

reads : (ranges : Ranges) (k : EventKind) (e : Event) (text : List ℕ) → has_kind ranges k ≡ true
    → EventParts ranges k e text → Reads ranges k e text
reads ranges kind.Fetch e text has (
  actor,
  a,
  t1,
  is1,
  (
    hart,
    h,
    t2,
    is2,
    (
      seq,
      s,
      t3,
      is3,
      (
        pc,
        p,
        t4,
        is4,
        (
          word,
          w,
          t5,
          is5,
          (predicted, (n, is6), makes),
        ),
      ),
    ),
  ),
) =
    let same : Fetch actor hart seq pc word predicted ≡ e = cc makes in
    rw (← same) (record {
      within = ((a, s), h, p, w, n);
      whole = is1 ∙ rw (is2, is3, is4, is5, is6) refl;
      its_kind = refl;
    })
reads ranges kind.Decode e text has (actor, a, t1, is1, (seq, (s, is2), makes)) =
    let same : Decode actor seq ≡ e = cc makes in
    rw (← same) (record { within = (a, s); whole = is1 ∙ rw is2 refl; its_kind = refl })
reads ranges kind.Rename e text has (actor, a, t1, is1, (seq, s, t2, is2, (phys, (p, is3), makes))) =
    let same : Rename actor seq phys ≡ e = cc makes in
    rw (← same) (record {
      within = ((a, s), p);
      whole = is1 ∙ rw (is2, is3) refl;
      its_kind = refl;
    })
reads ranges kind.Issue e text has (actor, a, t1, is1, (seq, (s, is2), makes)) =
    let same : Issue actor seq ≡ e = cc makes in
    rw (← same) (record { within = (a, s); whole = is1 ∙ rw is2 refl; its_kind = refl })
reads ranges kind.Complete e text has (actor, a, t1, is1, (seq, s, t2, is2, (outcome, (o, is3), makes))) =
    let same : Complete actor seq outcome ≡ e = cc makes in
    rw (← same) (record {
      within = ((a, s), o);
      whole = is1 ∙ rw (is2, is3) refl;
      its_kind = refl;
    })
reads ranges kind.Drop e text has (actor, a, t1, is1, (seq, (s, is2), makes)) =
    let same : Drop actor seq ≡ e = cc makes in
    rw (← same) (record { within = (a, s); whole = is1 ∙ rw is2 refl; its_kind = refl })
reads ranges kind.Retire e text has (actor, a, t1, is1, (seq, s, t2, is2, (effect, (o, is3), makes))) =
    let same : Retire actor seq effect ≡ e = cc makes in
    rw (← same) (record {
      within = ((a, s), o);
      whole = is1 ∙ rw (is2, is3) refl;
      its_kind = refl;
    })
reads ranges kind.Refetch e text has (actor, a, t1, is1, (seq, (s, is2), makes)) =
    let same : Refetch actor seq ≡ e = cc makes in
    rw (← same) (record { within = ((a, s), has); whole = is1 ∙ rw is2 refl; its_kind = refl })

spells : (ranges : Ranges) (e : Event) → IsEventWithin ranges e
    → EventParts ranges (event_kind e) e (joined (fields_of e))
spells ranges (Fetch actor hart seq pc word predicted) within = (
  actor,
  within.0.0,
  _,
  refl,
  (
    hart,
    within.1,
    _,
    refl,
    (
      seq,
      within.0.1,
      _,
      refl,
      (
        pc,
        within.2,
        _,
        refl,
        (
          word,
          within.3,
          _,
          refl,
          (predicted, (within.4, refl), refl),
        ),
      ),
    ),
  ),
)
spells ranges (Decode actor seq) within = (actor, within.0, _, refl, (seq, (within.1, refl), refl))
spells ranges (Rename actor seq phys) within = (
  actor,
  within.0.0,
  _,
  refl,
  (
    seq,
    within.0.1,
    _,
    refl,
    (phys, (within.1, refl), refl),
  ),
)
spells ranges (Issue actor seq) within = (actor, within.0, _, refl, (seq, (within.1, refl), refl))
spells ranges (Complete actor seq outcome) within =
    (actor, within.0.0, _, refl, (seq, within.0.1, _, refl, (outcome, (within.1, refl), refl)))
spells ranges (Drop actor seq) within = (actor, within.0, _, refl, (seq, (within.1, refl), refl))
spells ranges (Retire actor seq effect) within =
    (actor, within.0.0, _, refl, (seq, within.0.1, _, refl, (effect, (within.1, refl), refl)))
spells ranges (Refetch actor seq) within = (actor, within.0.0, _, refl, (seq, (within.0.1, refl), refl))

-- the letter of the kind and its fields are the line
spelled : (ranges : Ranges) (line letter fields : List ℕ) (k : EventKind) (e : Event) → line ≡ letter ++ 32 ∷ fields
    → letter ≡ letter_of k ∷ [] → Reads ranges k e fields → line ≡ line_of e
spelled ranges line letter fields k e whole named is =
    let text : line ≡ letter_of k ∷ 32 ∷ joined (fields_of e) = whole ∙ rw (named, is.whole) refl in
    let own : line ≡ letter_of (event_kind e) ∷ 32 ∷ joined (fields_of e) = rw is.its_kind text in
    own ∙ sym (line_of-joined e)

-- a line that is read, and one that is spelled
module _ (ranges : Ranges) (small : AreSmall ranges) where
  pub event_within_only : (e : Event) (line : List ℕ) → event_within ranges line ≡ Ok e
      → IsEventWithin ranges e × (line ≡ line_of e)
  unfolding event_within
  event_within_only e line read =
      let was = found ranges (kind_named ranges (first_field line)) (others line) e read in
      let k = was.its_kind in
      let reading = event_reading ranges k in
      let letter = named_only ranges (first_field line) k was.named_is in
      let is = reads ranges k e (others line) letter.1 (reading.only small e (others line) was.read) in
      let whole = (cut line (λ none. reading.some e (ap (event_fields ranges k) (sym none) ∙ was.read))).0 in
      (is.within, spelled ranges line (first_field line) (others line) k e whole letter.0 is)

  pub event_within-line_of : (e : Event) → IsEventWithin ranges e → event_within ranges (line_of e) ≡ Ok e
  event_within-line_of e within =
      let k = event_kind e in
      let names = letter_names ranges k (has_kind_of ranges e within) in
      let fields = joined (fields_of e) in
      let first : first_field (line_of e) ≡ letter_of k ∷ [] =
      ap first_field (line_of-joined e) ∙ field-cut 32 (letter_of k ∷ []) fields names.1 in
      let behind : others (line_of e) ≡ fields =
      ap others (line_of-joined e) ∙ rest-cut 32 (letter_of k ∷ []) fields names.1 in
      let read = (event_reading ranges k).back small e fields (spells ranges e within) in
      line_read ranges k (line_of e) e (ap (kind_named ranges) first ∙ names.0)
      (ap (event_fields ranges k) behind ∙ read)
