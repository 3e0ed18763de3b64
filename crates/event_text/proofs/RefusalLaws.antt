-- A text is refused in one way, and one that is a trace for want of memory alone.

use Rattle.std.proofs.Common.{◌≡◌, ℕ, ◌+◌, inl, inr, Bool, true, false, ◌==◌, List, [], ◌++◌, length, Ok}
use Rattle.std.proofs.Common.{Err, Result, refl, sym, ◌∙◌, ap, arith, append-nil}
use Rattle.std.specs.Prelude.{IfErr, IfOk, IsErrAnd, MatchBool}
use Rattle.text_fields.specs.Splitting.{field, field_count, rest}
use Rattle.events.specs.{declared.event.Event.Event}
use Rattle.event_text.specs.{declared.head.TraceHead.TraceHead, declared.ranges.Ranges.Ranges, declared.read.Rule.Rule}
use Rattle.event_text.specs.{declared.head.LaterVersion.LaterVersion}
use Rattle.event_text.specs.declared.head.TraceHead.TheVariants.{First, Later}
use Rattle.event_text.specs.{Core.AreCoreSizes, Core.CoreSizes, Ranges.ranges_of}
use Rattle.event_text.specs.{Reading.event_within, Reading.rule_number}
use Rattle.event_text.specs.Heads.{config_line, config_of, ended, first_header, head_count, head_lines, later_header}
use Rattle.event_text.specs.Trace.{AreWithin, Breaks, BreaksConfig, BreaksEvent, BreaksHeader, event_lines, IsHead}
use Rattle.event_text.specs.Trace.{IsRefusedAsConfig, IsRefusedAt, IsRefusedBehind, trace_text}
use Rattle.event_text.specs.{declared.trace.reading.TraceRefused.TraceRefused, Contents.TraceContent, Refusals.Gives}
use Rattle.event_text.specs.Refusals.{IsRefusedFor}
use Rattle.event_text.specs.declared.trace.reading.TraceRefused.TheVariants.{Line, Memory}
use Rattle.event_text.proofs.{ConfigLaws.config_back, ConfigLaws.config_lacks}
use Rattle.event_text.proofs.{LineEnds.first_found, LineEnds.more_found, LineEnds.not_one}
use Rattle.event_text.proofs.{Small.small_of}
use Rattle.event_text.proofs.TraceLaws.{behind_later, behind_named, first_is, header_lacks, later_is, later_parts}
use Rattle.event_text.proofs.TraceLaws.{named_is, other_version, same_texts, same_trace}
use Rattle.event_text.proofs.TraceLaws.{stops-broken, stops-nil, trace_text-cons, trace_text-parts}

-- a text that begins as a trace isn't refused at its first line, nor at the line of its core
right_name : (version : LaterVersion) (behind : List ℕ) (rule : ℕ)
    → Breaks BreaksHeader (ended (later_header version) ++ behind) rule → ⊥
unfolding Breaks
right_name version behind rule breaks =
    let own =
    rw (
      not_one (ended (later_header version) ++ behind)
          (more_found (later_header version) behind (header_lacks version)),
      named_is version behind,
    ) at breaks in
    own.1 version refl

right_version : (head : TraceHead) (behind : List ℕ) (rule : ℕ) → Breaks BreaksHeader (head_lines head ++ behind) rule
    → ⊥
unfolding Breaks
right_version First behind rule breaks =
    let own =
    rw (
      not_one (ended first_header ++ behind) (more_found first_header behind refl),
      first_found first_header behind refl,
    ) at breaks in
    own.0 refl
right_version (Later version sizes) behind rule breaks =
    right_name version (ended (config_line sizes) ++ behind) rule (rw later_parts at breaks)

broken_config : (sizes : CoreSizes) (text : List ℕ) (rule : ℕ) → AreCoreSizes sizes
    → Breaks BreaksConfig (ended (config_line sizes) ++ text) rule → ⊥
unfolding Breaks
broken_config sizes text rule are breaks =
    let lacks = config_lacks sizes are in
    rw (
      not_one (ended (config_line sizes) ++ text) (more_found (config_line sizes) text lacks),
      first_found (config_line sizes) text lacks,
      config_back sizes are,
    ) at breaks

right_config : (head : TraceHead) (text : List ℕ) (rule : ℕ) → IsHead head
    → IsRefusedAsConfig (head_lines head ++ text) rule → ⊥
right_config First text rule is refused =
    other_version refused.version
    (sym (first_is text) ∙ ap (field 10) refused.parts ∙ named_is refused.version refused.behind)
right_config (Later version sizes) text rule is refused =
    let same : ended (config_line sizes) ++ text ≡ refused.behind =
    sym (behind_later version sizes text) ∙ ap (rest 10) refused.parts
    ∙ behind_named refused.version refused.behind in
    broken_config sizes text rule is (rw (← same) at refused.breaks)

pub not_refused : (head : TraceHead) (es : List Event) (line rule : ℕ) → IsHead head → AreWithin head es
    → IsRefusedAt (trace_text head es) line rule → ⊥
not_refused head es line rule is within (inl first) =
    right_version head (event_lines es) rule (rw trace_text-cons at first.1)
not_refused head es line rule is within (inr (inl second)) =
    right_config head (event_lines es) rule is (rw trace_text-cons at second.1)
not_refused head es line rule is within (inr (inr later)) =
    later.more (sym (same_texts head later.head es later.events [] later.behind is later.is_head within later.in_range
    (stops-nil (ranges_of head) (small_of head))
    (stops-broken (ranges_of later.head) (small_of later.head) later.behind rule later.breaks)
    (append-nil (trace_text head es) ∙ later.parts)).ends)

-- the rule is one alone
header_once : (b : Bool) (line : List ℕ) (r s : ℕ) → MatchBool b (r ≡ 2) (BreaksHeader line r)
    → MatchBool b (s ≡ 2) (BreaksHeader line s) → r ≡ s
header_once true line r s first second = first ∙ sym second
header_once false line r s first second = first.2 ∙ sym second.2

rule_once : {A : Type 0} (read : Result A Rule) (r s : ℕ) → IsErrAnd read (λ broken. r ≡ rule_number broken)
    → IsErrAnd read (λ broken. s ≡ rule_number broken) → r ≡ s
rule_once (Ok e) r s first second = absurd first
rule_once (Err broken) r s first second = first ∙ sym second

read_once : {A : Type 0} (b : Bool) (read : Result A Rule) (r s : ℕ)
    → MatchBool b (r ≡ 2) (IsErrAnd read (λ broken. r ≡ rule_number broken))
    → MatchBool b (s ≡ 2) (IsErrAnd read (λ broken. s ≡ rule_number broken)) → r ≡ s
read_once true read r s first second = first ∙ sym second
read_once false read r s first second = rule_once read r s first second

breaks_header_once : (text : List ℕ) (r s : ℕ) → Breaks BreaksHeader text r → Breaks BreaksHeader text s → r ≡ s
unfolding Breaks
breaks_header_once text r s first second = header_once (field_count 10 text == 1) (field 10 text) r s first second

breaks_config_once : (text : List ℕ) (r s : ℕ) → Breaks BreaksConfig text r → Breaks BreaksConfig text s → r ≡ s
unfolding Breaks
breaks_config_once text r s first second =
    read_once (field_count 10 text == 1) (config_of (field 10 text)) r s first second

breaks_event_once : (ranges : Ranges) (text : List ℕ) (r s : ℕ) → Breaks (BreaksEvent ranges) text r
    → Breaks (BreaksEvent ranges) text s → r ≡ s
unfolding Breaks
breaks_event_once ranges text r s first second =
    read_once (field_count 10 text == 1) (event_within ranges (field 10 text)) r s first second

behind_once : (text : List ℕ) (line rule line' rule' : ℕ) → IsRefusedBehind text line rule
    → IsRefusedBehind text line' rule' → (line ≡ line') × (rule ≡ rule')
behind_once text line rule line' rule' first second =
    let same =
    same_texts first.head second.head first.events second.events first.behind second.behind first.is_head second.is_head
    first.in_range second.in_range
    (stops-broken (ranges_of first.head) (small_of first.head) first.behind rule first.breaks)
    (stops-broken (ranges_of second.head) (small_of second.head) second.behind rule' second.breaks)
    (sym first.parts ∙ second.parts) in
    let again : Breaks (BreaksEvent (ranges_of first.head)) first.behind rule' =
    rw (← same.heads, ← same.ends) at second.breaks in (
      omega (arith, first.place, second.place, ap length same.events, ap head_count same.heads),
      breaks_event_once (ranges_of first.head) first.behind rule rule' first.breaks again,
    )

config_once : (text : List ℕ) (r s : ℕ) → IsRefusedAsConfig text r → IsRefusedAsConfig text s → r ≡ s
config_once text r s first second =
    let same : first.behind ≡ second.behind =
    sym (behind_named first.version first.behind) ∙ ap (rest 10) (sym first.parts ∙ second.parts)
    ∙ behind_named second.version second.behind in
    breaks_config_once first.behind r s first.breaks (rw (← same) at second.breaks)

-- not at its first line and at a later one
not_both : (text : List ℕ) (line rule rule' : ℕ) → Breaks BreaksHeader text rule → IsRefusedBehind text line rule' → ⊥
not_both text line rule rule' first later =
    right_version later.head (event_lines later.events ++ later.behind) rule
    (rw (later.parts, trace_text-parts) at first)

not_config : (text : List ℕ) (line rule rule' : ℕ) → IsRefusedAsConfig text rule → IsRefusedBehind text line rule' → ⊥
not_config text line rule rule' second later =
    right_config later.head (event_lines later.events ++ later.behind) rule later.is_head
    (rw (later.parts, trace_text-parts) at second)

pub refused_once : (text : List ℕ) (line rule line' rule' : ℕ) → IsRefusedAt text line rule
    → IsRefusedAt text line' rule' → (line ≡ line') × (rule ≡ rule')
refused_once text line rule line' rule' (inl first) (inl second) =
    (first.0 ∙ sym second.0, breaks_header_once text rule rule' first.1 second.1)
refused_once text line rule line' rule' (inl first) (inr (inl second)) =
    absurd (right_name second.1.version second.1.behind rule (rw second.1.parts at first.1))
refused_once text line rule line' rule' (inl first) (inr (inr second)) =
    absurd (not_both text line' rule rule' first.1 second)
refused_once text line rule line' rule' (inr (inl first)) (inl second) =
    absurd (right_name first.1.version first.1.behind rule' (rw first.1.parts at second.1))
refused_once text line rule line' rule' (inr (inl first)) (inr (inl second)) =
    (first.0 ∙ sym second.0, config_once text rule rule' first.1 second.1)
refused_once text line rule line' rule' (inr (inl first)) (inr (inr second)) =
    absurd (not_config text line' rule rule' first.1 second)
refused_once text line rule line' rule' (inr (inr first)) (inl second) =
    absurd (not_both text line rule' rule second.1 first)
refused_once text line rule line' rule' (inr (inr first)) (inr (inl second)) =
    absurd (not_config text line rule' rule second.1 first)
refused_once text line rule line' rule' (inr (inr first)) (inr (inr second)) =
    behind_once text line rule line' rule' first second

-- so a text that is a trace is refused for want of memory alone
pub refused_for_memory : (text : List ℕ) (head : TraceHead) (es : List Event) (refused : TraceRefused)
    → IsRefusedFor text refused → IsHead head → AreWithin head es → text ≡ trace_text head es → refused ≡ Memory
refused_for_memory text head es (Line line rule) refused is within spelled =
    absurd (not_refused head es line rule is within (rw spelled at refused))
refused_for_memory text head es Memory refused is within spelled = refl

-- the first line isn't ended, or names no version
pub not_ended : (text : List ℕ) → (field_count 10 text == 1) ≡ true → IsRefusedAt text 1 2
unfolding Breaks
not_ended text cut = inl (refl, rw cut refl)

pub other_answer : (test said : Bool) → test ≡ said → said ≡ true → test ≡ false → ⊥
other_answer test said same passes fails = absurd (grind (arith, same, passes, fails))

pub unnamed : (text line : List ℕ) → line ≡ field 10 text → (field_count 10 text == 1) ≡ false
    → (line ≡ first_header → ⊥) → ((version : LaterVersion) → line ≡ later_header version → ⊥) → IsRefusedAt text 1 1
unfolding Breaks
unnamed text line is ended_is not_first not_later =
    inl (refl, rw ended_is (rw is at not_first, rw is at not_later, refl))

-- a line of an event that breaks a rule, behind lines of events
pub refused_behind : (head : TraceHead) (es : List Event) (lines behind : List ℕ) (line rule : ℕ) → IsHead head
    → AreWithin head es → lines ≡ event_lines es ++ behind → (behind ≡ [] → ⊥)
    → line ≡ length es + head_count head + 1 → Breaks (BreaksEvent (ranges_of head)) behind rule
    → IsRefusedAt (head_lines head ++ lines) line rule
refused_behind head es lines behind line rule is within parts more place breaks = inr (inr (record {
  head = head;
  events = es;
  behind = behind;
  is_head = is;
  in_range = within;
  parts = ap (λ text. head_lines head ++ text) parts ∙ sym (trace_text-parts head es behind);
  more = more;
  place = place;
  breaks = breaks;
}))

-- what is answered for a text that is a trace
pub gives : (text : List ℕ) (r : Result TraceContent TraceRefused)
    → IfOk r (λ trace. text ≡ trace_text trace.head trace.events) → IfOk r (λ trace. IsHead trace.head)
    → IfOk r (λ trace. AreWithin trace.head trace.events) → IfErr r (IsRefusedFor text) → (head : TraceHead)
    (events : List Event) → IsHead head → AreWithin head events → text ≡ trace_text head events → Gives head events r
gives text (Ok trace) read is_head within refused head events is in_range spelled =
    same_trace trace.head head trace.events events is_head is within in_range (sym read ∙ spelled)
gives text (Err error) read is_head within refused head events is in_range spelled =
    refused_for_memory text head events error refused is in_range spelled
