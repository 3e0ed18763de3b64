-- A search has looked at all that comes of a choice of ways, and of what is open.
use Rattle.std.proofs.Common.{◌≡◌, ℕ, ◌+◌, ◌-◌, ◌<◌, ◌≤◌, true, false, cond, ◌&&◌, ◌||◌, List, [], ◌∷◌, ◌++◌, length, map, Bool, if◌then◌else◌}
use Rattle.std.proofs.Common.{Option, Some, None}
use Rattle.std.proofs.Common.{All, filter, flat_map, get_or, take, drop, sym, ◌∙◌, arith, subst, ap, ap₂, refl, true≢false}
use Rattle.std.proofs.Common.{add-one, zero-add, ◌^◌, min}
use Rattle.std.proofs.lemmas.{List.append_assoc, List.append-nil, List.take_all, List.length-append}
use Rattle.std.proofs.lemmas.List.Elements.{All-nil, All-append, filter-append}
use Rattle.std.proofs.lemmas.Grind.{flat_map-append}
use Rattle.litmus_tests.specs.declared.test.LitmusTest.{LitmusTest}
use Rattle.litmus_runs.specs.declared.runs.{AllRuns.AllRuns, HartRuns.HartRuns}
use Rattle.litmus_cycles.specs.declared.{event.MemoryEvent.MemoryEvent, open.Open.Open, findings.Findings.Findings}
use Rattle.litmus_cycles.specs.declared.demand.Demand.{Demand}
use Rattle.litmus_cycles.specs.Choices.{joined, come_of, come, may_choose, with_choice, all_open, events_of, all_ways, candidates_of}
use Rattle.litmus_cycles.specs.{Endings.may_end, Explained.HasCycle, Explained.shows_execution}
use Rattle.litmus_cycles.specs.Searched.{meets_demand, is_wanted, wanted_of, wanted_behind, all_wanted}
use Rattle.litmus_cycles.specs.Searched.{IsComplete, Stays, Searches, HasCounted, AreSearched}
use Rattle.litmus_cycles.specs.Counts.{count_all, is_ruled_out}
use Rattle.litmus_cycles.specs.Kept.{IsReady, IsDecided, AreUnsourced, NoneComes}
use Rattle.litmus_cycles.proofs.Coming.{none_wanted, ready_next, decided_next}
use Rattle.litmus_cycles.proofs.Learning.{never_ends}

was_complete : (demand : Demand) (found : List (List MemoryEvent)) (before after : Findings)
    → Searches demand found before after → IsComplete after → IsComplete before
was_complete demand found before after searches complete = record {
  whole = searches.whole complete.whole;
  lasts = searches.over complete.whole complete.lasts;
}

-- One search goes on where another one ends.
pub searches_on : (demand : Demand) (first second : List (List MemoryEvent)) (before between after : Findings)
    → Searches demand first before between → Searches demand second between after
    → Searches demand (first ++ second) before after
searches_on demand first second before between after one other = record {
  whole = λ w. one.whole (other.whole w);
  over = λ w o. one.over (other.whole w) (other.over w o);
  lasts = λ is w o. other.lasts is w (one.lasts is (other.whole w) o);
  counted = λ c.
      let a = one.counted (was_complete demand second between after other c) in
      let b = other.counted c in
      let n = length-append first second in
      omega (arith, a, b, n);
  execution = λ none. one.execution (other.execution none);
  cycles = λ c none. All-append HasCycle first second
      (one.cycles (was_complete demand second between after other c) (other.execution none)) (other.cycles c none);
}

pub same_found : (demand : Demand) (first second : List (List MemoryEvent)) (before after : Findings) → first ≡ second
    → Searches demand first before after → Searches demand second before after
same_found demand first second before after e searches = subst (λ found. Searches demand found before after) e searches

-- Where none is taken, these are all that are wanted if there is none.
pub tried : (demand : Demand) (found : List (List MemoryEvent)) (before after : Findings) → Stays before after
    → (IsComplete after → found ≡ []) → Searches demand found before after
tried demand found before after stays none = record {
  whole = stays.whole;
  over = λ w o. sym (stays.over w) ∙ o;
  lasts = λ is w o. stays.over w ∙ o;
  counted = λ c.
      let n : length found ≡ 0 = ap length (none c) in
      let same = stays.fitting in
      omega (arith, n, same);
  execution = λ hidden. ap shows_execution (sym stays.shown) ∙ hidden;
  cycles = λ c hidden. subst (All HasCycle) (sym (none c)) (All-nil HasCycle);
}

pub stays_on : (demand : Demand) (found : List (List MemoryEvent)) (before between after : Findings)
    → Stays before between → Searches demand found between after → Searches demand found before after
stays_on demand found before between after stays searches =
    searches_on demand [] found before between after (tried demand [] before between stays (λ c. refl)) searches

pub stays_same : (findings : Findings) → Stays findings findings
stays_same findings = record { whole = λ w. w; over = λ w. refl; fitting = refl; shown = refl }

pub none_tried : (demand : Demand) (findings : Findings) → Searches demand [] findings findings
none_tried demand findings = tried demand [] findings findings (stays_same findings) (λ c. refl)

-- A search that is over claims nothing of what it found.
pub ended : (demand : Demand) (first second : List (List MemoryEvent)) (before after : Findings)
    → Searches demand first before after → after.is_over ≡ true → Searches demand second before after
ended demand first second before after searches over = record {
  whole = searches.whole;
  over = λ w o. absurd (true≢false (sym over ∙ o));
  lasts = searches.lasts;
  counted = λ c. absurd (true≢false (sym over ∙ c.lasts));
  execution = searches.execution;
  cycles = λ c hidden. absurd (true≢false (sym over ∙ c.lasts));
}

pub left_out : (demand : Demand) (found : List (List MemoryEvent)) (before after : Findings) → Stays before after
    → after.is_whole ≡ false → Searches demand found before after
left_out demand found before after stays out =
    tried demand found before after stays (λ c. absurd (true≢false (sym c.whole ∙ out)))

-- Of one candidate: it is among those that pass a test, or isn't.
pub filter_yes : {X : Type 0} (p : X → Bool) (x : X) → p x ≡ true → filter p (x ∷ []) ≡ x ∷ []
filter_yes p x e = ap (λ b. cond b (x ∷ []) []) e

pub filter_no : {X : Type 0} (p : X → Bool) (x : X) → p x ≡ false → filter p (x ∷ []) ≡ []
filter_no p x e = ap (λ b. cond b (x ∷ []) []) e

joined_next : {X : Type 0} (each : ℕ → List X) (count : ℕ) → joined each (count + 1) ≡ joined each count ++ each count
joined_next each count = ap (joined each) (add-one count)

-- Those that are wanted of what comes of the first so many choices of what is open first.
abbrev pub wanted_turns : LitmusTest → AllRuns → List ℕ → Demand → Open → List Open → List MemoryEvent → ℕ
    → List (List MemoryEvent)
wanted_turns test runs chosen demand first rest events turn = filter (is_wanted test runs chosen demand)
    (joined (λ t. come_of test (come test rest) first events (length events - t)) turn)

-- One more choice is looked at.
pub next_turn : (test : LitmusTest) (runs : AllRuns) (chosen : List ℕ) (demand : Demand) (first : Open)
    (rest : List Open) (events : List MemoryEvent) (turn : ℕ) (before between after : Findings)
    → Searches demand (wanted_turns test runs chosen demand first rest events turn) before between
    → Searches demand (filter (is_wanted test runs chosen demand)
    (come_of test (come test rest) first events (length events - turn))) between after
    → Searches demand (wanted_turns test runs chosen demand first rest events (turn + 1)) before after
next_turn test runs chosen demand first rest events turn before between after done one =
    let wanted : List MemoryEvent → Bool = is_wanted test runs chosen demand in
    let each : ℕ → List (List MemoryEvent) = λ t. come_of test (come test rest) first events (length events - t) in
    same_found demand (filter wanted (joined each turn) ++ filter wanted (each turn))
    (filter wanted (joined each (turn + 1))) before after
    (sym (ap (filter wanted) (joined_next each turn) ∙ filter-append wanted (joined each turn) (each turn)))
    (searches_on demand (filter wanted (joined each turn)) (filter wanted (each turn)) before between after done one)

-- What comes of a choice that can be made, and of one that can't.
pub choice_made : (test : LitmusTest) (runs : AllRuns) (chosen : List ℕ) (demand : Demand) (first : Open)
    (rest : List Open) (events next : List MemoryEvent) (choice : ℕ) (before between after : Findings)
    → may_choose test first choice events ≡ true → next ≡ with_choice first choice events → Stays before between
    → Searches demand (filter (is_wanted test runs chosen demand) (come test rest next)) between after
    → Searches demand (filter (is_wanted test runs chosen demand) (come_of test (come test rest) first events choice))
    before after
choice_made test runs chosen demand first rest events next choice before between after may is stays searches =
    let wanted : List MemoryEvent → Bool = is_wanted test runs chosen demand in
    let behind : List (List MemoryEvent) = come test rest (with_choice first choice events) in
    let e : come test rest next ≡ come_of test (come test rest) first events choice =
    ap (come test rest) is ∙ sym (ap (λ b. if b then behind else []) may) in
    same_found demand (filter wanted (come test rest next))
    (filter wanted (come_of test (come test rest) first events choice)) before after (ap (filter wanted) e)
    (stays_on demand (filter wanted (come test rest next)) before between after stays searches)

pub choice_refused : (test : LitmusTest) (runs : AllRuns) (chosen : List ℕ) (demand : Demand) (first : Open)
    (rest : List Open) (events : List MemoryEvent) (choice : ℕ) (before after : Findings)
    → filter (is_wanted test runs chosen demand) (come_of test (come test rest) first events choice) ≡ []
    → Stays before after
    → Searches demand (filter (is_wanted test runs chosen demand) (come_of test (come test rest) first events choice))
    before after
choice_refused test runs chosen demand first rest events choice before after refused stays =
    tried demand (filter (is_wanted test runs chosen demand) (come_of test (come test rest) first events choice))
    before after stays (λ c. refused)

-- Nothing wanted comes of a choice that can't be made, or that leaves none.
pub none_refused : (test : LitmusTest) (runs : AllRuns) (chosen : List ℕ) (demand : Demand) (first : Open)
    (rest : List Open) (events : List MemoryEvent) (choice : ℕ) → may_choose test first choice events ≡ false
    → filter (is_wanted test runs chosen demand) (come_of test (come test rest) first events choice) ≡ []
none_refused test runs chosen demand first rest events choice refused =
    let behind : List (List MemoryEvent) = come test rest (with_choice first choice events) in
    ap (λ b. filter (is_wanted test runs chosen demand) (if b then behind else [])) refused

pub none_vain : (test : LitmusTest) (runs : AllRuns) (chosen : List ℕ) (demand : Demand) (first : Open)
    (rest : List Open) (events next : List MemoryEvent) (choice : ℕ) → may_choose test first choice events ≡ true
    → next ≡ with_choice first choice events → IsReady (first ∷ rest) events
    → (IsDecided rest first choice next → AreUnsourced rest next → NoneComes test runs chosen demand rest next)
    → filter (is_wanted test runs chosen demand) (come_of test (come test rest) first events choice) ≡ []
none_vain test runs chosen demand first rest events next choice may is ready none =
    let wanted : List MemoryEvent → Bool = is_wanted test runs chosen demand in
    let behind : List (List MemoryEvent) = come test rest (with_choice first choice events) in
    ap (λ b. filter wanted (if b then behind else [])) may
    ∙ ap (λ es. filter wanted (come test rest es)) (sym is)
    ∙ none_wanted test runs chosen demand rest next
    (none (subst (IsDecided rest first choice) (sym is) (decided_next test first rest choice events may ready))
    (subst (AreUnsourced rest) (sym is) (ready_next test first rest choice events may ready).unsourced))

-- What is left is ready behind a choice.
pub ready_behind : (test : LitmusTest) (first : Open) (rest left : List Open) (events next : List MemoryEvent) (choice : ℕ)
    → may_choose test first choice events ≡ true → next ≡ with_choice first choice events → left ≡ first ∷ rest
    → IsReady left events → IsReady rest next
ready_behind test first rest left events next choice may is split ready =
    subst (IsReady rest) (sym is)
    (ready_next test first rest choice events may (subst (λ xs. IsReady xs events) split ready))

-- Of the choice of a turn, which counts from the last one down.
pub turn_made : (test : LitmusTest) (runs : AllRuns) (chosen : List ℕ) (demand : Demand) (first : Open)
    (rest : List Open) (events next : List MemoryEvent) (choice turn : ℕ) (before between after : Findings)
    → choice ≡ length events - turn
    → may_choose test first choice events ≡ true → next ≡ with_choice first choice events → Stays before between
    → Searches demand (filter (is_wanted test runs chosen demand) (come test rest next)) between after
    → Searches demand (filter (is_wanted test runs chosen demand)
    (come_of test (come test rest) first events (length events - turn))) before after
turn_made test runs chosen demand first rest events next choice turn before between after e may is stays searches =
    subst (λ k. Searches demand (filter (is_wanted test runs chosen demand)
    (come_of test (come test rest) first events k)) before after) e
    (choice_made test runs chosen demand first rest events next choice before between after may is stays searches)

none_of : {X : Type 0} (given : Option X) → ((x : X) → given ≡ Some x → ⊥) → given ≡ None
none_of None not_some = refl
none_of (Some x) not_some = absurd (not_some x refl)

pub turn_refused : {X : Type 0} (test : LitmusTest) (runs : AllRuns) (chosen : List ℕ) (demand : Demand) (first : Open)
    (rest left : List Open) (events : List MemoryEvent) (choice turn : ℕ) (before after : Findings) (given : Option X)
    → choice ≡ length events - turn → ((x : X) → given ≡ Some x → ⊥) → left ≡ first ∷ rest → IsReady left events
    → (given ≡ None → (others : List Open) → IsReady (first ∷ others) events
    → filter (is_wanted test runs chosen demand) (come_of test (come test others) first events choice) ≡ [])
    → Stays before after
    → Searches demand (filter (is_wanted test runs chosen demand)
    (come_of test (come test rest) first events (length events - turn))) before after
turn_refused test runs chosen demand first rest left events choice turn before after given e not_some split ready refused stays =
    subst (λ k. Searches demand (filter (is_wanted test runs chosen demand)
    (come_of test (come test rest) first events k)) before after) e
    (choice_refused test runs chosen demand first rest events choice before after
    (refused (none_of given not_some) rest (subst (λ xs. IsReady xs events) split ready)) stays)

-- All choices are looked at.
pub all_turns : (test : LitmusTest) (runs : AllRuns) (chosen : List ℕ) (demand : Demand) (first : Open)
    (rest left : List Open) (events : List MemoryEvent) (turn : ℕ) (before after : Findings)
    → Searches demand (wanted_turns test runs chosen demand first rest events turn) before after
    → turn ≡ length events + 1 → left ≡ first ∷ rest
    → Searches demand (filter (is_wanted test runs chosen demand) (come test left events)) before after
all_turns test runs chosen demand first rest left events turn before after searches all is =
    let wanted : List MemoryEvent → Bool = is_wanted test runs chosen demand in
    let each : ℕ → List (List MemoryEvent) = λ t. come_of test (come test rest) first events (length events - t) in
    same_found demand (filter wanted (joined each turn)) (filter wanted (come test left events)) before after
    (ap (λ n. filter wanted (joined each n)) (all ∙ add-one (length events))
    ∙ ap (λ choices. filter wanted (come test choices events)) (sym is)) searches

-- Where the end may meet the condition, it is wanted if it meets the demand; else it isn't.
pub may_be_wanted : (test : LitmusTest) (runs : AllRuns) (chosen : List ℕ) (demand : Demand)
    (events : List MemoryEvent) (before after : Findings) → may_end test runs chosen events ≡ true
    → Searches demand (filter (meets_demand demand test) (events ∷ [])) before after
    → Searches demand (filter (is_wanted test runs chosen demand) (events ∷ [])) before after
may_be_wanted test runs chosen demand events before after may searches =
    let meets : Bool = meets_demand demand test events in
    same_found demand (filter (meets_demand demand test) (events ∷ []))
    (filter (is_wanted test runs chosen demand) (events ∷ [])) before after
    (sym (ap (λ b. cond (b && meets) (events ∷ []) []) may)) searches

pub not_wanted : (test : LitmusTest) (runs : AllRuns) (chosen : List ℕ) (demand : Demand)
    (events : List MemoryEvent) (findings : Findings) → may_end test runs chosen events ≡ false
    → Searches demand (filter (is_wanted test runs chosen demand) (events ∷ [])) findings findings
not_wanted test runs chosen demand events findings fails =
    let meets : Bool = meets_demand demand test events in
    tried demand (filter (is_wanted test runs chosen demand) (events ∷ [])) findings findings (stays_same findings)
    (λ c. ap (λ b. cond (b && meets) (events ∷ []) []) fails)

-- Where nothing is open, the events are all that comes of them.
pub none_open : (test : LitmusTest) (runs : AllRuns) (chosen : List ℕ) (demand : Demand) (left : List Open)
    (events : List MemoryEvent) (before after : Findings) → left ≡ []
    → Searches demand (filter (is_wanted test runs chosen demand) (events ∷ [])) before after
    → Searches demand (filter (is_wanted test runs chosen demand) (come test left events)) before after
none_open test runs chosen demand left events before after none searches =
    same_found demand (filter (is_wanted test runs chosen demand) (events ∷ []))
    (filter (is_wanted test runs chosen demand) (come test left events)) before after
    (sym (ap (λ choices. filter (is_wanted test runs chosen demand) (come test choices events)) none)) searches

-- Behind what takes nothing, all that is open of the events is decided.
pub opened : (test : LitmusTest) (runs : AllRuns) (chosen : List ℕ) (demand : Demand) (left : List Open)
    (events : List MemoryEvent) (locations : ℕ) (before counted kept after : Findings)
    → left ≡ all_open events 0 locations → locations ≡ length test.words.items
    → Stays before counted → Stays counted kept
    → Searches demand (filter (is_wanted test runs chosen demand) (come test left events)) kept after
    → Searches demand (filter (is_wanted test runs chosen demand)
    (come test (all_open events 0 (length test.words.items)) events)) before after
opened test runs chosen demand left events locations before counted kept after is all first second searches =
    let wanted : List MemoryEvent → Bool = is_wanted test runs chosen demand in
    let choices : List Open = all_open events 0 (length test.words.items) in
    let found : List (List MemoryEvent) = filter wanted (come test choices events) in
    stays_on demand found before counted after first (stays_on demand found counted kept after second
    (same_found demand (filter wanted (come test left events)) found kept after
    (ap (λ choices. filter wanted (come test choices events)) (is ∙ ap (all_open events 0) all)) searches))

-- All candidates of the events of these ways are those of the ways.
pub related : (test : LitmusTest) (runs : AllRuns) (chosen : List ℕ) (demand : Demand)
    (start events : List MemoryEvent) (before after : Findings) → start ≡ []
    → events ≡ start ++ events_of runs.harts.items 0 (length start) chosen
    → Searches demand (filter (is_wanted test runs chosen demand)
    (come test (all_open events 0 (length test.words.items)) events)) before after
    → Searches demand (wanted_of test runs demand chosen) before after
related test runs chosen demand start events before after none made searches =
    let e : events ≡ events_of runs.harts.items 0 0 chosen =
    made ∙ ap (λ xs. xs ++ events_of runs.harts.items 0 (length xs) chosen) none in
    subst (λ es. Searches demand (filter (is_wanted test runs chosen demand)
    (come test (all_open es 0 (length test.words.items)) es)) before after) e searches

-- Where no hart is left, the ways are those that are chosen.
pub none_left : (test : LitmusTest) (runs : AllRuns) (chosen : List ℕ) (demand : Demand) (left : List HartRuns)
    (before after : Findings) → left ≡ [] → Searches demand (wanted_of test runs demand chosen) before after
    → Searches demand (wanted_behind test runs demand chosen left) before after
none_left test runs chosen demand left before after none searches =
    let one : wanted_of test runs demand (chosen ++ []) ++ [] ≡ wanted_of test runs demand chosen =
    append-nil (wanted_of test runs demand (chosen ++ [])) ∙ ap (wanted_of test runs demand) (append-nil chosen) in
    same_found demand (wanted_of test runs demand chosen) (wanted_behind test runs demand chosen left) before after
    (sym (ap (wanted_behind test runs demand chosen) none ∙ one)) searches

-- Those of a hart's ways below an index, with each choice of ways of the harts behind it.
abbrev pub wanted_below : LitmusTest → AllRuns → Demand → List ℕ → List HartRuns → ℕ → List (List MemoryEvent)
wanted_below test runs demand chosen rest count =
    flat_map (λ others. wanted_of test runs demand (chosen ++ others))
    (joined (λ index. map (λ others. index ∷ others) (all_ways rest)) count)

of_way : (test : LitmusTest) (runs : AllRuns) (demand : Demand) (chosen : List ℕ) (index : ℕ) (ways : List (List ℕ))
    → flat_map (λ others. wanted_of test runs demand ((chosen ++ index ∷ []) ++ others)) ways
    ≡ flat_map (λ others. wanted_of test runs demand (chosen ++ others)) (map (λ others. index ∷ others) ways)
of_way test runs demand chosen index [] = refl
of_way test runs demand chosen index (way ∷ ways) =
    ap₂ (λ xs ys. xs ++ ys) (ap (wanted_of test runs demand) (append_assoc chosen (index ∷ []) way))
    (of_way test runs demand chosen index ways)

-- What is found of a hart's way with one more index is found of all below the next.
pub next_way : (test : LitmusTest) (runs : AllRuns) (chosen next : List ℕ) (demand : Demand) (index : ℕ)
    (rest : List HartRuns) (before between after : Findings) → next ≡ chosen ++ index ∷ []
    → Searches demand (wanted_below test runs demand chosen rest index) before between
    → Searches demand (wanted_behind test runs demand next rest) between after
    → Searches demand (wanted_below test runs demand chosen rest (index + 1)) before after
next_way test runs chosen next demand index rest before between after is below one =
    let each_of : List ℕ → List (List MemoryEvent) = λ others. wanted_of test runs demand (chosen ++ others) in
    let each : ℕ → List (List ℕ) = λ i. map (λ others. i ∷ others) (all_ways rest) in
    let same : wanted_behind test runs demand next rest ≡ flat_map each_of (each index) =
    ap (λ ways. wanted_behind test runs demand ways rest) is ∙ of_way test runs demand chosen index (all_ways rest) in
    same_found demand (flat_map each_of (joined each index) ++ wanted_behind test runs demand next rest)
    (wanted_below test runs demand chosen rest (index + 1)) before after
    (ap (λ xs. flat_map each_of (joined each index) ++ xs) same
    ∙ sym (ap (flat_map each_of) (joined_next each index) ∙ flat_map-append each_of (joined each index) (each index)))
    (searches_on demand (flat_map each_of (joined each index)) (wanted_behind test runs demand next rest) before between
    after below one)

-- All below so many as it has: all.
pub all_below : (test : LitmusTest) (runs : AllRuns) (chosen : List ℕ) (demand : Demand) (index : ℕ)
    (hart : HartRuns) (rest left : List HartRuns) (before after : Findings)
    → Searches demand (wanted_below test runs demand chosen rest index) before after
    → index ≡ length hart.runs.items → left ≡ hart ∷ rest
    → Searches demand (wanted_behind test runs demand chosen left) before after
all_below test runs chosen demand index hart rest left before after searches all is =
    same_found demand (wanted_below test runs demand chosen rest index) (wanted_behind test runs demand chosen left)
    before after (ap (wanted_below test runs demand chosen rest) all
    ∙ ap (wanted_behind test runs demand chosen) (sym is)) searches

-- What is taken apart at its first.
pub split_first : {A : Type 0} (xs : List A) (x : A) → 1 ≤ length xs → x ≡ get_or xs 0 x
    → xs ≡ x ∷ take (length xs - 1) (drop 1 xs)
split_first [] x some is = absurd (omega (arith, some))
split_first (y ∷ ys) x some is =
    let count : length (y ∷ ys) - 1 ≡ length ys = omega arith in
    ap (λ z. z ∷ ys) (sym is) ∙ ap (λ zs. x ∷ zs) (sym (ap (λ n. take n ys) count ∙ take_all (length ys) ys (omega arith)))

pub split_at_first : {A : Type 0} (xs : List A) (other : A) → 1 ≤ length xs
    → xs ≡ get_or xs 0 other ∷ take (length xs - 1) (drop 1 xs)
split_at_first [] other some = absurd (omega (arith, some))
split_at_first (y ∷ ys) other some = split_first (y ∷ ys) y some refl

-- A search from the beginning.
pub searched : (test : LitmusTest) (runs : AllRuns) (demand : Demand) (new findings : Findings) → new.fitting ≡ 0
    → new.candidates ≡ 0 → new.is_over ≡ false → Searches demand (all_wanted test runs demand) new findings
    → HasCounted (count_all test runs) new findings → AreSearched test runs demand findings
searched test runs demand new findings none uncounted begins searches counts = record {
  lasts = λ is w. searches.lasts is w begins;
  counted = λ c. let n = searches.counted c in omega (arith, n, none);
  cycles = searches.cycles;
  candidates = λ c. counts.sum c ∙ ap (λ n. min (n + count_all test runs) (2 ^ 64 - 1)) uncounted
      ∙ ap (λ n. min n (2 ^ 64 - 1)) (zero-add (count_all test runs));
}

-- Nothing is wanted of ways that are ruled out, and none is counted.
filter_none : {X : Type 0} (p : X → Bool) (xs : List X) → ((x : X) → p x ≡ false) → filter p xs ≡ []
filter_none p [] none = refl
filter_none p (x ∷ xs) none =
    ap (λ b. cond b (x ∷ filter p xs) (filter p xs)) (none x) ∙ filter_none p xs none

flat_none : {X Y : Type 0} (f : X → List Y) (xs : List X) → ((x : X) → f x ≡ []) → flat_map f xs ≡ []
flat_none f [] none = refl
flat_none f (x ∷ xs) none = ap₂ (λ a b. a ++ b) (none x) (flat_none f xs none)

pub ruled_out_found : (test : LitmusTest) (runs : AllRuns) (chosen : List ℕ) (demand : Demand) (left : List HartRuns)
    (before after : Findings) → is_ruled_out test runs chosen ≡ true → Stays before after
    → Searches demand (wanted_behind test runs demand chosen left) before after
ruled_out_found test runs chosen demand left before after out stays =
    tried demand (wanted_behind test runs demand chosen left) before after stays
    (λ c. flat_none (λ others. wanted_of test runs demand (chosen ++ others)) (all_ways left)
    (λ others. filter_none (is_wanted test runs (chosen ++ others) demand) (candidates_of test runs.harts.items (chosen ++ others))
    (λ events. ap (λ b. b && meets_demand demand test events) (never_ends test runs chosen others events out))))

pub none_begins : (test : LitmusTest) (runs : AllRuns) (chosen : List ℕ) (demand : Demand) (events : List MemoryEvent)
    (before after : Findings) → Stays before after
    → ((left : List Open) → NoneComes test runs chosen demand left events)
    → Searches demand (filter (is_wanted test runs chosen demand)
    (come test (all_open events 0 (length test.words.items)) events)) before after
none_begins test runs chosen demand events before after stays none =
    let left : List Open = all_open events 0 (length test.words.items) in
    tried demand (filter (is_wanted test runs chosen demand) (come test left events)) before after stays
    (λ c. none_wanted test runs chosen demand left events (none left))
