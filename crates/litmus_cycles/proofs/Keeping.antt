-- What is found behind one candidate, by what was made of it.
use Rattle.std.proofs.Common.{◌≡◌, ◌+◌, true, false, ◌||◌, List, [], ◌∷◌, length, All, sym, ◌∙◌, arith, subst, ap, refl, true≢false}
use Rattle.std.proofs.lemmas.Bool.{or_parts, or_right}
use Rattle.std.proofs.lemmas.List.Elements.{All-nil, All-cons}
use Rattle.litmus_tests.specs.declared.test.LitmusTest.{LitmusTest}
use Rattle.litmus_cycles.specs.declared.{event.MemoryEvent.MemoryEvent, findings.Findings.Findings}
use Rattle.litmus_cycles.specs.declared.{explanation.Shown.Shown, showing.Judged.Judged, event.Edge.Edge}
use Rattle.litmus_cycles.specs.Executions.{is_cycle}
use Rattle.litmus_cycles.specs.declared.explanation.Shown.TheVariants.{Nothing, Cycle, Incoherent, Atomicity, Execution}
use Rattle.litmus_cycles.specs.declared.showing.Judged.TheVariants.{Less, More, Allowed, Last, Untold}
use Rattle.litmus_cycles.specs.declared.demand.Demand.{Demand}
use Rattle.litmus_cycles.specs.declared.demand.Demand.TheVariants.{Whole}
use Rattle.litmus_cycles.specs.Explained.{IsShown, IsJudged, HasCycle, ends_early, is_last, is_told}
use Rattle.litmus_cycles.specs.Explained.{shows_execution, unless_execution, shown_behind}
use Rattle.litmus_cycles.specs.Searched.{IsFound, IsComplete, Keeps, Searches}

stays_shown : (before shown : Shown) → shows_execution (unless_execution before shown) ≡ false
    → shows_execution before ≡ false
stays_shown Nothing shown hidden = refl
stays_shown (Cycle events edges) shown hidden = refl
stays_shown (Incoherent events edges) shown hidden = refl
stays_shown (Atomicity events broken) shown hidden = refl
stays_shown (Execution events order) shown hidden = hidden

is_shown_then : (before shown : Shown) → shows_execution shown ≡ true
    → shows_execution (unless_execution before shown) ≡ true
is_shown_then Nothing shown is = is
is_shown_then (Cycle events edges) shown is = is
is_shown_then (Incoherent events edges) shown is = is
is_shown_then (Atomicity events broken) shown is = is
is_shown_then (Execution events order) shown is = refl

unless_shown : (test : LitmusTest) (before shown : Shown) → IsShown test before → IsShown test shown
    → IsShown test (unless_execution before shown)
unless_shown test Nothing shown was is = is
unless_shown test (Cycle events edges) shown was is = is
unless_shown test (Incoherent events edges) shown was is = is
unless_shown test (Atomicity events broken) shown was is = is
unless_shown test (Execution events order) shown was is = was

behind_shown : (demand : Demand) (test : LitmusTest) (events : List MemoryEvent) (judged : Judged) (before : Shown)
    → IsJudged demand test events judged → IsShown test before → IsShown test (shown_behind judged before)
behind_shown demand test events (Less shown cost) before is was = unless_shown test before shown was is.0
behind_shown demand test events More before is was = was
behind_shown demand test events (Allowed shown) before is was = unless_shown test before shown was is.0
behind_shown demand test events (Last shown) before is was = unless_shown test before shown was is.0
behind_shown demand test events Untold before is was = was

still_none : (judged : Judged) (before : Shown) → shows_execution (shown_behind judged before) ≡ false
    → shows_execution before ≡ false
still_none (Less shown cost) before hidden = stays_shown before shown hidden
still_none More before hidden = hidden
still_none (Allowed shown) before hidden = stays_shown before shown hidden
still_none (Last shown) before hidden = stays_shown before shown hidden
still_none Untold before hidden = hidden

last_early : (demand : Demand) (test : LitmusTest) (events : List MemoryEvent) (judged : Judged)
    → IsJudged demand test events judged → demand ≡ Whole → is_last judged ≡ false
last_early demand test events (Less shown cost) is whole = refl
last_early demand test events More is whole = refl
last_early demand test events (Allowed shown) is whole = refl
last_early demand test events (Last shown) is whole =
    absurd (true≢false (sym is.1 ∙ ap ends_early whole))
last_early demand test events Untold is whole = refl

-- One of which nothing else is said has a cycle.
has_cycle : (demand : Demand) (test : LitmusTest) (events : List MemoryEvent) (judged : Judged) (before : Shown)
    → IsJudged demand test events judged → is_told judged ≡ true → is_last judged ≡ false
    → shows_execution (shown_behind judged before) ≡ false → HasCycle events
has_cycle demand test events (Less shown cost) before is told last hidden = is.1
has_cycle demand test events More before is told last hidden = is
has_cycle demand test events (Allowed shown) before is told last hidden =
    absurd (true≢false (sym (is_shown_then before shown is.1) ∙ hidden))
has_cycle demand test events (Last shown) before is told last hidden = absurd (true≢false last)
has_cycle demand test events Untold before is told last hidden = absurd (true≢false (sym told))

pub kept : (demand : Demand) (test : LitmusTest) (events : List MemoryEvent) (judged : Judged)
    (before after : Findings) → IsJudged demand test events judged → Keeps judged before after
    → Searches demand (events ∷ []) before after
kept demand test events judged before after is keeps = record {
  whole = keeps.whole;
  over = λ w o. (or_parts before.is_over (is_last judged) (sym (keeps.over w) ∙ o)).0;
  lasts = λ asks w o. keeps.over w ∙ ap (λ b. b || is_last judged) o ∙ last_early demand test events judged is asks;
  counted = λ c. keeps.fitting c.whole;
  execution = λ hidden. still_none judged before.shown (ap shows_execution (sym keeps.shown) ∙ hidden);
  cycles = λ c hidden. All-cons HasCycle events []
      (has_cycle demand test events judged before.shown is (keeps.told c.whole)
      (or_parts before.is_over (is_last judged) (sym (keeps.over c.whole) ∙ c.lasts)).1
      (ap shows_execution (sym keeps.shown) ∙ hidden)) (All-nil HasCycle);
}

pub kept_found : (demand : Demand) (test : LitmusTest) (events : List MemoryEvent) (judged : Judged)
    (before after : Findings) → IsJudged demand test events judged → Keeps judged before after → IsFound test before
    → IsFound test after
kept_found demand test events judged before after is keeps found = record {
  shown = subst (IsShown test) (sym keeps.shown)
      (behind_shown demand test events judged before.shown is found.shown);
  over = λ o w. keeps.some;
}

pub cycle_found : (events : List MemoryEvent) (edges : List Edge) → is_cycle events edges ≡ true → HasCycle events
cycle_found events edges is = (edges, is)
