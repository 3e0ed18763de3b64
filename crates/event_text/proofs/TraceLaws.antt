-- A trace's text is that of how it begins and of its events alone.

use Rattle.std.proofs.Common.{◌≡◌, ℕ, List, [], ◌∷◌, ◌++◌, length, Ok}
use Rattle.std.proofs.Common.{refl, sym, subst, ◌∙◌, ap, arith, append_assoc, append-nil, length-append, get_or}
use Rattle.std.specs.Prelude.{All}
use Rattle.std.proofs.lemmas.List.{flat_map_more}
use Rattle.std.proofs.lemmas.List.Elements.{All-head, All-tail}
use Rattle.text_fields.specs.Splitting.{field, Lacks, rest}
use Rattle.events.specs.{declared.event.Event.Event}
use Rattle.event_text.specs.{declared.head.TraceHead.TraceHead, declared.ranges.Ranges.Ranges}
use Rattle.event_text.specs.{declared.head.LaterVersion.LaterVersion}
use Rattle.event_text.specs.declared.head.LaterVersion.TheVariants.{Second, Third}
use Rattle.event_text.specs.declared.head.TraceHead.TheVariants.{First, Later}
use Rattle.event_text.specs.{Core.AreCoreSizes, Core.CoreSizes, Line.line_of, Ranges.IsEventWithin, Ranges.ranges_of}
use Rattle.event_text.specs.{Reading.event_within}
use Rattle.event_text.specs.Heads.{config_line, config_of, ended, first_header, head_lines, later_header}
use Rattle.event_text.specs.Trace.{AreWithin, Breaks, BreaksEvent, event_lines, IsHead}
use Rattle.event_text.specs.Trace.{trace_text}
use Rattle.event_text.proofs.{ConfigLaws.config_back, ConfigLaws.config_lacks, LineLaws.event_within-line_of}
use Rattle.event_text.proofs.{LineFields.line_lacks, LineEnds.first_found, LineEnds.more_found, LineEnds.not_one}
use Rattle.event_text.proofs.{LineEnds.rest_found, Small.AreSmall, Small.small_of}

-- no event yet, and one more
pub event_lines-push : (es : List Event) (e : Event) → event_lines (es ++ e ∷ []) ≡ event_lines es ++ ended (line_of e)
unfolding event_lines
event_lines-push es e = sym (flat_map_more (λ event. ended (line_of event)) [] es e)

pub trace_text-nil : (head : TraceHead) → trace_text head [] ≡ head_lines head
unfolding trace_text event_lines
trace_text-nil head = append-nil (head_lines head)

pub trace_text-push : (head : TraceHead) (es : List Event) (e : Event)
    → trace_text head (es ++ e ∷ []) ≡ trace_text head es ++ ended (line_of e)
unfolding trace_text event_lines
trace_text-push head es e = sym (flat_map_more (λ event. ended (line_of event)) (head_lines head) es e)

event_lines-append : (es fs : List Event) → event_lines (es ++ fs) ≡ event_lines es ++ event_lines fs
unfolding event_lines
event_lines-append [] fs = refl
event_lines-append (e ∷ es) fs =
    ap (λ bytes. ended (line_of e) ++ bytes) (event_lines-append es fs)
    ∙ sym (append_assoc (ended (line_of e)) (event_lines es) (event_lines fs))

pub trace_text-append : (head : TraceHead) (es fs : List Event)
    → trace_text head (es ++ fs) ≡ trace_text head es ++ event_lines fs
unfolding trace_text
trace_text-append head es fs =
    ap (λ bytes. head_lines head ++ bytes) (event_lines-append es fs)
    ∙ sym (append_assoc (head_lines head) (event_lines es) (event_lines fs))

pub trace_text-cons : (head : TraceHead) (es : List Event) → trace_text head es ≡ head_lines head ++ event_lines es
unfolding trace_text
trace_text-cons head es = refl

pub one_more : (lines behind others : List ℕ) (es : List Event) (e : Event) → lines ≡ event_lines es ++ behind
    → behind ≡ ended (line_of e) ++ others → lines ≡ event_lines (es ++ e ∷ []) ++ others
one_more lines behind others es e parts here =
    parts ∙ ap (λ bytes. event_lines es ++ bytes) here
    ∙ sym (append_assoc (event_lines es) (ended (line_of e)) others)
    ∙ ap (λ bytes. bytes ++ others) (sym (event_lines-push es e))

-- how it begins, and what stands behind that
pub trace_text-parts : (head : TraceHead) (es : List Event) (behind : List ℕ)
    → trace_text head es ++ behind ≡ head_lines head ++ (event_lines es ++ behind)
unfolding trace_text
trace_text-parts head es behind = append_assoc (head_lines head) (event_lines es) behind

event_lines-cons : (e : Event) (es : List Event) (behind : List ℕ)
    → event_lines (e ∷ es) ++ behind ≡ ended (line_of e) ++ (event_lines es ++ behind)
unfolding event_lines
event_lines-cons e es behind = append_assoc (ended (line_of e)) (event_lines es) behind

pub event_lines-none : (behind : List ℕ) → event_lines [] ++ behind ≡ behind
unfolding event_lines
event_lines-none behind = refl

-- lines of events within some ranges
module _ (ranges : Ranges) (small : AreSmall ranges) where
  -- no line of an event stands first
  abbrev Stops : List ℕ → Type 0
  Stops text = (e : Event) (others : List ℕ) → IsEventWithin ranges e → text ≡ ended (line_of e) ++ others → ⊥

  pub stops-nil : Stops []
  stops-nil e others within is =
      absurd (omega (arith, ap length is, length-append (line_of e ++ 10 ∷ []) others, length-append (line_of e) (10 ∷ [])))

  pub stops-broken : (text : List ℕ) (rule : ℕ) → Breaks (BreaksEvent ranges) text rule → Stops text
  unfolding Breaks
  stops-broken text rule breaks e others within is =
      let lacks = line_lacks ranges small e within in
      rw (
        is,
        not_one (ended (line_of e) ++ others) (more_found (line_of e) others lacks),
        first_found (line_of e) others lacks,
        event_within-line_of ranges small e within,
      ) at breaks

  module _ (a b : Event) (left right : List ℕ) (first : IsEventWithin ranges a) (second : IsEventWithin ranges b)
      (same : ended (line_of a) ++ left ≡ ended (line_of b) ++ right) where
    same_line : line_of a ≡ line_of b
    same_line =
        sym (first_found (line_of a) left (line_lacks ranges small a first)) ∙ ap (field 10) same
        ∙ first_found (line_of b) right (line_lacks ranges small b second)

    same_event : a ≡ b
    same_event =
        let read : event_within ranges (line_of b) ≡ Ok a =
        ap (event_within ranges) (sym same_line) ∙ event_within-line_of ranges small a first in
        let again = event_within-line_of ranges small b second in cc

    same_rest : left ≡ right
    same_rest =
        sym (rest_found (line_of a) left (line_lacks ranges small a first)) ∙ ap (rest 10) same
        ∙ rest_found (line_of b) right (line_lacks ranges small b second)

  -- as many as there are
  same_lines : (es fs : List Event) (r s : List ℕ) → All (IsEventWithin ranges) es → All (IsEventWithin ranges) fs
      → Stops r → Stops s → event_lines es ++ r ≡ event_lines fs ++ s → (es ≡ fs) × (r ≡ s)
  same_lines [] [] r s first second end end' same =
      (refl, sym (event_lines-none r) ∙ same ∙ event_lines-none s)
  same_lines [] (b ∷ fs) r s first second end end' same =
      absurd (end b (event_lines fs ++ s) (All-head (IsEventWithin ranges) b fs second)
      (sym (event_lines-none r) ∙ same ∙ event_lines-cons b fs s))
  same_lines (a ∷ es) [] r s first second end end' same =
      absurd (end' a (event_lines es ++ r) (All-head (IsEventWithin ranges) a es first)
      (sym (event_lines-none s) ∙ sym same ∙ event_lines-cons a es r))
  same_lines (a ∷ es) (b ∷ fs) r s first second end end' same =
      let lines = sym (event_lines-cons a es r) ∙ same ∙ event_lines-cons b fs s in
      let in_a = All-head (IsEventWithin ranges) a es first in
      let in_b = All-head (IsEventWithin ranges) b fs second in
      let others =
      same_lines es fs r s (All-tail (IsEventWithin ranges) a es first)
      (All-tail (IsEventWithin ranges) b fs second) end end'
      (same_rest a b (event_lines es ++ r) (event_lines fs ++ s) in_a in_b lines) in
      let here = same_event a b (event_lines es ++ r) (event_lines fs ++ s) in_a in_b lines in
      (cc (here, others.0), others.1)

-- the lines that say how a trace begins, before other text
pub header_lacks : (version : LaterVersion) → Lacks 10 (later_header version)
header_lacks Second = refl
header_lacks Third = refl

pub later_parts : (version : LaterVersion) (sizes : CoreSizes) (text : List ℕ)
    → head_lines (Later version sizes) ++ text ≡ ended (later_header version) ++ (ended (config_line sizes) ++ text)
later_parts version sizes text = append_assoc (ended (later_header version)) (ended (config_line sizes)) text

pub first_is : (text : List ℕ) → field 10 (head_lines First ++ text) ≡ first_header
first_is text = first_found first_header text refl

-- a later version is named in the first line, whatever stands behind it
pub named_is : (version : LaterVersion) (text : List ℕ)
    → field 10 (ended (later_header version) ++ text) ≡ later_header version
named_is version text = first_found (later_header version) text (header_lacks version)

pub behind_named : (version : LaterVersion) (text : List ℕ) → rest 10 (ended (later_header version) ++ text) ≡ text
behind_named version text = rest_found (later_header version) text (header_lacks version)

pub later_is : (version : LaterVersion) (sizes : CoreSizes) (text : List ℕ)
    → field 10 (head_lines (Later version sizes) ++ text) ≡ later_header version
later_is version sizes text =
    ap (field 10) (later_parts version sizes text) ∙ named_is version (ended (config_line sizes) ++ text)

pub behind_later : (version : LaterVersion) (sizes : CoreSizes) (text : List ℕ)
    → rest 10 (head_lines (Later version sizes) ++ text) ≡ ended (config_line sizes) ++ text
behind_later version sizes text =
    ap (rest 10) (later_parts version sizes text) ∙ behind_named version (ended (config_line sizes) ++ text)

-- each version has a name of its own
abbrev digit_of : List ℕ → ℕ
digit_of line = get_or line 10 0

pub other_version : (version : LaterVersion) → first_header ≡ later_header version → ⊥
other_version Second is = let digits : ◌≡◌ {A = ℕ} 49 50 = ap digit_of is in omega (arith, digits)
other_version Third is = let digits : ◌≡◌ {A = ℕ} 49 51 = ap digit_of is in omega (arith, digits)

pub same_version : (a b : LaterVersion) → later_header a ≡ later_header b → a ≡ b
same_version Second Second is = refl
same_version Second Third is = let digits : ◌≡◌ {A = ℕ} 50 51 = ap digit_of is in absurd (omega (arith, digits))
same_version Third Second is = let digits : ◌≡◌ {A = ℕ} 51 50 = ap digit_of is in absurd (omega (arith, digits))
same_version Third Third is = refl

-- two texts that begin so are of one version and one core, and the same stands behind
module _ (v w : LaterVersion) (a b : CoreSizes) (left right : List ℕ) (first : AreCoreSizes a) (second : AreCoreSizes b)
    (same : head_lines (Later v a) ++ left ≡ head_lines (Later w b) ++ right) where
  same_behind : ended (config_line a) ++ left ≡ ended (config_line b) ++ right
  same_behind = sym (behind_later v a left) ∙ ap (rest 10) same ∙ behind_later w b right

  same_config : config_line a ≡ config_line b
  same_config =
      sym (first_found (config_line a) left (config_lacks a first)) ∙ ap (field 10) same_behind
      ∙ first_found (config_line b) right (config_lacks b second)

  same_sizes : a ≡ b
  same_sizes =
      let read : config_of (config_line b) ≡ Ok a = ap config_of (sym same_config) ∙ config_back a first in
      let again = config_back b second in cc

  same_head : Later v a ≡ Later w b
  same_head =
      let names = sym (later_is v a left) ∙ ap (field 10) same ∙ later_is w b right in
      rw (same_version v w names, same_sizes) refl

  same_lines_behind : left ≡ right
  same_lines_behind =
      sym (rest_found (config_line a) left (config_lacks a first)) ∙ ap (rest 10) same_behind
      ∙ rest_found (config_line b) right (config_lacks b second)

-- no line of an event of this version stands first
abbrev StopsAs : TraceHead → List ℕ → Type 0
StopsAs head text = Stops (ranges_of head) (small_of head) text

pub record AreSame (a b : TraceHead) (es fs : List Event) (r s : List ℕ) : Type 0 where
  pub heads : a ≡ b
  pub events : es ≡ fs
  pub ends : r ≡ s

same_parts : (a b : TraceHead) (es fs : List Event) (r s : List ℕ) → IsHead a → IsHead b → AreWithin a es
    → AreWithin b fs → StopsAs a r → StopsAs b s
    → head_lines a ++ (event_lines es ++ r) ≡ head_lines b ++ (event_lines fs ++ s) → AreSame a b es fs r s
same_parts First First es fs r s is is' first second end end' same =
    let lines =
    sym (rest_found first_header (event_lines es ++ r) refl) ∙ ap (rest 10) same
    ∙ rest_found first_header (event_lines fs ++ s) refl in
    let both = same_lines (ranges_of First) (small_of First) es fs r s first second end end' lines in
    record { heads = refl; events = both.0; ends = both.1 }
same_parts First (Later w y) es fs r s is is' first second end end' same =
    absurd (other_version w
    (sym (first_is (event_lines es ++ r)) ∙ ap (field 10) same ∙ later_is w y (event_lines fs ++ s)))
same_parts (Later v x) First es fs r s is is' first second end end' same =
    absurd (other_version v
    (sym (first_is (event_lines fs ++ s)) ∙ ap (field 10) (sym same) ∙ later_is v x (event_lines es ++ r)))
same_parts (Later v x) (Later w y) es fs r s is is' first second end end' same =
    let head = same_head v w x y (event_lines es ++ r) (event_lines fs ++ s) is is' same in
    let lines = same_lines_behind v w x y (event_lines es ++ r) (event_lines fs ++ s) is is' same in
    let both =
    same_lines (ranges_of (Later v x)) (small_of (Later v x)) es fs r s first
    (subst (λ (h : TraceHead). AreWithin h fs) (sym head) second) end
    (subst (λ (h : TraceHead). StopsAs h s) (sym head) end') lines in
    record { heads = head; events = both.0; ends = both.1 }

pub same_texts : (a b : TraceHead) (es fs : List Event) (r s : List ℕ) → IsHead a → IsHead b → AreWithin a es
    → AreWithin b fs → StopsAs a r → StopsAs b s → trace_text a es ++ r ≡ trace_text b fs ++ s → AreSame a b es fs r s
same_texts a b es fs r s is is' first second end end' same =
    same_parts a b es fs r s is is' first second end end'
    (sym (trace_text-parts a es r) ∙ same ∙ trace_text-parts b fs s)

pub same_trace : (a b : TraceHead) (es fs : List Event) → IsHead a → IsHead b → AreWithin a es → AreWithin b fs
    → trace_text a es ≡ trace_text b fs → (a ≡ b) × (es ≡ fs)
same_trace a b es fs is is' first second same =
    let parts =
    same_texts a b es fs [] [] is is' first second (stops-nil (ranges_of a) (small_of a))
    (stops-nil (ranges_of b) (small_of b))
    (append-nil (trace_text a es) ∙ same ∙ sym (append-nil (trace_text b fs))) in
    (parts.heads, parts.events)
