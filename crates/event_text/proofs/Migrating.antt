-- The events of a trace, behind the lines that a trace of version 3 begins with.

use Rattle.std.proofs.Common.{◌≡◌, ℕ, ◌≤◌, Bool, true, false, List, ◌++◌, Option, None, Some}
use Rattle.std.proofs.Common.{refl, sym, ◌∙◌, ap, arith, lit≤}
use Rattle.std.specs.Prelude.{All, IfNone, IfSome, is_some, unwrap_or}
use Rattle.std.proofs.lemmas.List.Elements.{All-weaker}
use Rattle.text_fields.specs.Splitting.{field, rest}
use Rattle.events.specs.{declared.event.Event.Event}
use Rattle.events.specs.declared.event.Event.TheVariants.{Fetch, Decode, Rename, Issue, Complete}
use Rattle.events.specs.declared.event.Event.TheVariants.{Drop, Retire, Refetch}
use Rattle.event_text.specs.{declared.head.TraceHead.TraceHead, declared.ranges.Ranges.Ranges}
use Rattle.event_text.specs.declared.head.LaterVersion.TheVariants.{Second, Third}
use Rattle.event_text.specs.declared.head.TraceHead.TheVariants.{First, Later}
use Rattle.event_text.specs.{Core.CoreSizes}
use Rattle.event_text.specs.Heads.{config_line, ended, first_header, newest_head, told_core}
use Rattle.event_text.specs.Ranges.{first_ranges, HasActorAndNumber, IsEventWithin, later_ranges, ranges_of}
use Rattle.event_text.specs.{declared.trace.migrating.MigrateRefused.MigrateRefused}
use Rattle.event_text.specs.declared.trace.migrating.MigrateRefused.TheVariants as migrate
use Rattle.event_text.specs.Refusals.{IsMigrated, IsNewest, IsTelling, IsUnmigrated}
use Rattle.event_text.specs.Trace.{AreWithin, event_lines, IsHead, trace_text}
use Rattle.event_text.proofs.LineEnds.{rest_found}
use Rattle.event_text.proofs.RefusalLaws.{not_refused}
use Rattle.event_text.proofs.TraceLaws.{behind_later, later_parts, same_trace, trace_text-cons}

-- what is within these ranges is within those
record AreWider (ranges wider : Ranges) : Type 0 where
  actor : (n : ℕ) → n ≤ ranges.actor → n ≤ wider.actor
  hart : (n : ℕ) → n ≤ ranges.hart → n ≤ wider.hart
  seq : (n : ℕ) → n ≤ ranges.seq → n ≤ wider.seq
  phys : (n : ℕ) → n ≤ ranges.phys → n ≤ wider.phys
  refetches : ranges.refetches ≡ true → wider.refetches ≡ true

module _ (ranges wider : Ranges) (are : AreWider ranges wider) where
  moved_wider : (actor seq : ℕ) → HasActorAndNumber ranges actor seq → HasActorAndNumber wider actor seq
  moved_wider actor seq within = (are.actor actor within.0, are.seq seq within.1)

  phys_wider : (phys : Option ℕ) → IfSome phys (λ p. p ≤ ranges.phys) → IfSome phys (λ p. p ≤ wider.phys)
  phys_wider None within = tt
  phys_wider (Some p) within = are.phys p within

  event_wider : (e : Event) → IsEventWithin ranges e → IsEventWithin wider e
  event_wider (Fetch actor hart seq pc word predicted) within =
      (moved_wider actor seq within.0, are.hart hart within.1, within.2, within.3, within.4)
  event_wider (Decode actor seq) within = moved_wider actor seq within
  event_wider (Rename actor seq phys) within = (moved_wider actor seq within.0, phys_wider phys within.1)
  event_wider (Issue actor seq) within = moved_wider actor seq within
  event_wider (Complete actor seq outcome) within = (moved_wider actor seq within.0, within.1)
  event_wider (Drop actor seq) within = moved_wider actor seq within
  event_wider (Retire actor seq effect) within = (moved_wider actor seq within.0, within.1)
  event_wider (Refetch actor seq) within = (moved_wider actor seq within.0, are.refetches within.1)

  events_wider : (es : List Event) → All (IsEventWithin ranges) es → All (IsEventWithin wider) es
  events_wider es within = All-weaker (IsEventWithin ranges) (IsEventWithin wider) event_wider es within

-- the bounds of version 1 are no greater than those of the later ones
as_large : (n least most : ℕ) → least ≤ most → n ≤ least → n ≤ most
as_large n least most are within = omega (arith, are, within)

first_wider : (refetches : Bool) → AreWider first_ranges (later_ranges refetches)
first_wider refetches = record {
  actor = λ n within. as_large n 15 31 (lit≤ tt) within;
  hart = λ n within. as_large n 7 15 (lit≤ tt) within;
  seq = λ n within. within;
  phys = λ n within. as_large n 503 1023 (lit≤ tt) within;
  refetches = λ is. cc is;
}

later_wider : AreWider (later_ranges false) (later_ranges true)
later_wider = record {
  actor = λ n within. within;
  hart = λ n within. within;
  seq = λ n within. within;
  phys = λ n within. within;
  refetches = λ is. refl;
}

pub first_within : (head : TraceHead) (es : List Event) → AreWithin First es → AreWithin head es
first_within First es within = within
first_within (Later Second sizes) es within = events_wider first_ranges _ (first_wider false) es within
first_within (Later Third sizes) es within = events_wider first_ranges _ (first_wider true) es within

pub newest_within : (head : TraceHead) (sizes : CoreSizes) (es : List Event) → AreWithin head es
    → AreWithin (Later Third sizes) es
newest_within First sizes es within = first_within (Later Third sizes) es within
newest_within (Later Second own) sizes es within = events_wider _ _ later_wider es within
newest_within (Later Third own) sizes es within = within

-- What stands behind the first line of a trace, behind the lines that a trace of version 3 begins with up to there, is
-- its migration.
pub migrated_as : (head : TraceHead) (given : CoreSizes) (text lines new : List ℕ) (es : List Event)
    → text ≡ trace_text head es → lines ≡ rest 10 text
    → new ≡ newest_head (is_some (told_core head)) given ++ lines
    → new ≡ trace_text (Later Third (unwrap_or (told_core head) given)) es
migrated_as First given text lines new es is behind made =
    let others : lines ≡ event_lines es =
    behind ∙ ap (rest 10) (is ∙ trace_text-cons First es) ∙ rest_found first_header (event_lines es) refl in
    made ∙ ap (λ t. newest_head false given ++ t) others ∙ sym (trace_text-cons (Later Third given) es)
migrated_as (Later version own) given text lines new es is behind made =
    let others : lines ≡ ended (config_line own) ++ event_lines es =
    behind ∙ ap (rest 10) (is ∙ trace_text-cons (Later version own) es) ∙ behind_later version own (event_lines es) in
    made ∙ ap (λ t. newest_head true given ++ t) others ∙ sym (later_parts Third own (event_lines es))
    ∙ sym (trace_text-cons (Later Third own) es)

-- it says of its core where its header is some
pub tells : {A : Type 0} (now : A → CoreSizes) (header : Option A) (head : TraceHead)
    → IfSome header (λ h. told_core head ≡ Some (now h)) → IfNone header (head ≡ First)
    → is_some (told_core head) ≡ is_some header
tells now None head some none = ap (λ h. is_some (told_core h)) none
tells now (Some h) head some none = ap is_some some

pub migrated : (text lines new : List ℕ) (told : Bool) (given : CoreSizes) → IsTelling text told → lines ≡ rest 10 text
    → new ≡ newest_head told given ++ lines → IsMigrated text given new
migrated text lines new told given trace behind made = record {
  head = trace.head;
  events = trace.events;
  is_head = trace.is_head;
  in_range = trace.in_range;
  was = trace.is_text;
  is = migrated_as trace.head given text lines new trace.events trace.is_text behind (rw (← trace.tells) at made);
}

-- what is so of any head and any events of which it is the text
pub migrated_back : (text lines new : List ℕ) (told : Bool) (given : CoreSizes) (head : TraceHead) (es : List Event)
    → IsTelling text told → IsHead head → AreWithin head es → text ≡ trace_text head es → lines ≡ rest 10 text
    → new ≡ newest_head told given ++ lines → new ≡ trace_text (Later Third (unwrap_or (told_core head) given)) es
migrated_back text lines new told given head es trace is_head within is behind made =
    let same =
    same_trace trace.head head trace.events es trace.is_head is_head trace.in_range within (sym trace.is_text ∙ is) in
    let tells : is_some (told_core head) ≡ told = ap (λ h. is_some (told_core h)) (sym same.0) ∙ trace.tells in
    migrated_as head given text lines new es is behind (rw (← tells) at made)

-- a trace is refused for want of memory alone, where it isn't of version 3
pub memory_alone : (text : List ℕ) (head : TraceHead) (es : List Event) (refused : MigrateRefused) → IsHead head
    → AreWithin head es → text ≡ trace_text head es → (IsNewest text → ⊥) → IsUnmigrated text refused
    → refused ≡ migrate.Memory
memory_alone text head es migrate.Version is_head within is older refused = absurd (older refused)
memory_alone text head es (migrate.Line line rule) is_head within is older refused =
    absurd (not_refused head es line rule is_head within (rw is at refused.1))
memory_alone text head es migrate.Memory is_head within is older refused = refl
