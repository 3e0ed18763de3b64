-- How many candidates a search has counted, by the ways that it has gone through.
use Rattle.std.proofs.Common.{◌≡◌, ℕ, ◌+◌, ◌-◌, ◌^◌, ◌≤◌, true, false, min, List, [], ◌∷◌, ◌++◌, length, map, if◌then◌else◌, sum_by, sym, ◌∙◌, arith, ap, ap₂, subst, refl, true≢false}
use Rattle.std.proofs.Common.{add-one}
use Rattle.std.proofs.lemmas.{List.append_assoc, List.append-nil}
use Rattle.std.proofs.lemmas.List.Sums.{sum_by-append, sum_by-cons}
use Rattle.litmus_tests.specs.declared.test.LitmusTest.{LitmusTest}
use Rattle.litmus_runs.specs.declared.runs.{AllRuns.AllRuns, HartRuns.HartRuns}
use Rattle.litmus_cycles.specs.declared.{event.MemoryEvent.MemoryEvent, findings.Findings.Findings}
use Rattle.litmus_cycles.specs.declared.demand.Demand.{Demand}
use Rattle.litmus_cycles.specs.Choices.{joined, all_ways, events_of}
use Rattle.litmus_cycles.specs.Counts.{count_of, count_behind, combinations, is_ruled_out}
use Rattle.litmus_cycles.specs.Searched.{IsComplete, Stays, Searches, HasCounted}
use Rattle.litmus_cycles.proofs.{Products.stopped_sum, Products.once_stopped, Learning.ruled_out_then}

-- What isn't complete has counted as many as you like.
pub never_counted : (total : ℕ) (before after : Findings) → (IsComplete after → ⊥) → HasCounted total before after
never_counted total before after not = record { sum = λ c. absurd (not c) }

pub over_counted : (total : ℕ) (before after : Findings) → after.is_over ≡ true → HasCounted total before after
over_counted total before after over = never_counted total before after (λ c. true≢false (sym over ∙ c.lasts))

pub part_counted : (total : ℕ) (before after : Findings) → after.is_whole ≡ false → HasCounted total before after
part_counted total before after part = never_counted total before after (λ c. true≢false (sym c.whole ∙ part))

pub none_counted : (before after : Findings) → after.candidates ≡ before.candidates → HasCounted 0 before after
none_counted before after same = record {
  sum = λ c. ap (λ n. min n (2 ^ 64 - 1)) (same ∙ omega arith);
}

pub counts_on : (demand : Demand) (found : List (List MemoryEvent)) (first second : ℕ)
    (before between after : Findings) → Searches demand found between after
    → HasCounted first before between → HasCounted second between after → HasCounted (first + second) before after
counts_on demand found first second before between after searches one other = record {
  sum = λ c.
      let mid : IsComplete between = record {
        whole = searches.whole c.whole;
        lasts = searches.over c.whole c.lasts;
      } in
      stopped_sum (2 ^ 64 - 1) before.candidates between.candidates after.candidates first second
      (one.sum mid) (other.sum c);
}

-- So many are counted, and no more behind that.
pub asked_counted : (test : LitmusTest) (runs : AllRuns) (chosen : List ℕ) (events : List MemoryEvent)
    (locations asked : ℕ) (before counted kept after : Findings) → locations ≡ length test.words.items
    → asked ≡ min (if is_ruled_out test runs chosen then 0 else combinations events locations) (2 ^ 64 - 1)
    → counted.candidates ≡ min (before.candidates + asked) (2 ^ 64 - 1) → kept.candidates ≡ counted.candidates
    → after.candidates ≡ kept.candidates
    → HasCounted (if is_ruled_out test runs chosen then 0 else combinations events (length test.words.items)) before after
asked_counted test runs chosen events locations asked before counted kept after all is sum same still = record {
  sum = λ c.
      let e = is ∙ ap (λ n. min (if is_ruled_out test runs chosen then 0 else combinations events n) (2 ^ 64 - 1)) all in
      once_stopped (2 ^ 64 - 1) before.candidates after.candidates asked
      (if is_ruled_out test runs chosen then 0 else combinations events (length test.words.items)) e
      (still ∙ same ∙ sum);
}

pub same_counted : (first second : ℕ) (before after : Findings) → first ≡ second → HasCounted first before after
    → HasCounted second before after
same_counted first second before after e counts = subst (λ n. HasCounted n before after) e counts

-- How many the ways of a hart below an index have, with each choice of ways of the harts behind it.
abbrev pub count_below : LitmusTest → AllRuns → List ℕ → List HartRuns → ℕ → ℕ
count_below test runs chosen rest count =
    sum_by (λ others. count_of test runs (chosen ++ others))
    (joined (λ index. map (λ others. index ∷ others) (all_ways rest)) count)

of_way : (test : LitmusTest) (runs : AllRuns) (chosen : List ℕ) (index : ℕ) (ways : List (List ℕ))
    → sum_by (λ others. count_of test runs ((chosen ++ index ∷ []) ++ others)) ways
    ≡ sum_by (λ others. count_of test runs (chosen ++ others)) (map (λ others. index ∷ others) ways)
of_way test runs chosen index [] = refl
of_way test runs chosen index (way ∷ ways) =
    let longer : List ℕ → ℕ = λ others. count_of test runs ((chosen ++ index ∷ []) ++ others) in
    let each_of : List ℕ → ℕ = λ others. count_of test runs (chosen ++ others) in
    sum_by-cons longer way ways
    ∙ ap₂ (λ a b. a + b) (ap (count_of test runs) (append_assoc chosen (index ∷ []) way))
    (of_way test runs chosen index ways)
    ∙ sym (sum_by-cons each_of (index ∷ way) (map (λ others. index ∷ others) ways))

pub next_counted : (test : LitmusTest) (runs : AllRuns) (chosen next : List ℕ) (demand : Demand)
    (found : List (List MemoryEvent)) (index : ℕ) (rest : List HartRuns) (before between after : Findings)
    → next ≡ chosen ++ index ∷ [] → Searches demand found between after
    → HasCounted (count_below test runs chosen rest index) before between
    → HasCounted (count_behind test runs next rest) between after
    → HasCounted (count_below test runs chosen rest (index + 1)) before after
next_counted test runs chosen next demand found index rest before between after is searches below one =
    let each_of : List ℕ → ℕ = λ others. count_of test runs (chosen ++ others) in
    let each : ℕ → List (List ℕ) = λ i. map (λ others. i ∷ others) (all_ways rest) in
    let same : count_behind test runs next rest ≡ sum_by each_of (each index) =
    ap (λ ways. count_behind test runs ways rest) is ∙ of_way test runs chosen index (all_ways rest) in
    same_counted (count_below test runs chosen rest index + count_behind test runs next rest)
    (count_below test runs chosen rest (index + 1)) before after
    (ap (λ n. count_below test runs chosen rest index + n) same
    ∙ sym (ap (λ n. sum_by each_of (joined each n)) (add-one index) ∙ sum_by-append each_of (joined each index) (each index)))
    (counts_on demand found (count_below test runs chosen rest index) (count_behind test runs next rest)
    before between after searches below one)

pub all_counted : (test : LitmusTest) (runs : AllRuns) (chosen : List ℕ) (index : ℕ) (hart : HartRuns)
    (rest left : List HartRuns) (before after : Findings)
    → HasCounted (count_below test runs chosen rest index) before after
    → index ≡ length hart.runs.items → left ≡ hart ∷ rest → HasCounted (count_behind test runs chosen left) before after
all_counted test runs chosen index hart rest left before after counts all is =
    same_counted (count_below test runs chosen rest index) (count_behind test runs chosen left) before after
    (ap (count_below test runs chosen rest) all ∙ ap (count_behind test runs chosen) (sym is)) counts

-- Where no hart is left, the ways are those that are chosen.
pub counted_here : (test : LitmusTest) (runs : AllRuns) (chosen : List ℕ) (left : List HartRuns)
    (before after : Findings) → left ≡ [] → HasCounted (count_of test runs chosen) before after
    → HasCounted (count_behind test runs chosen left) before after
counted_here test runs chosen left before after none counts =
    let each_of : List ℕ → ℕ = λ others. count_of test runs (chosen ++ others) in
    let zero_behind : each_of [] + 0 ≡ each_of [] = omega arith in
    let one : sum_by each_of ([] ∷ []) ≡ count_of test runs chosen =
    sum_by-cons each_of [] [] ∙ zero_behind ∙ ap (count_of test runs) (append-nil chosen) in
    same_counted (count_of test runs chosen) (count_behind test runs chosen left) before after
    (sym (ap (count_behind test runs chosen) none ∙ one)) counts

-- All events of the ways are counted.
pub related_counted : (test : LitmusTest) (runs : AllRuns) (chosen : List ℕ) (start events : List MemoryEvent)
    (before after : Findings) → start ≡ [] → events ≡ start ++ events_of runs.harts.items 0 (length start) chosen
    → HasCounted (if is_ruled_out test runs chosen then 0 else combinations events (length test.words.items)) before after
    → HasCounted (count_of test runs chosen) before after
related_counted test runs chosen start events before after none made counts =
    let e : events ≡ events_of runs.harts.items 0 0 chosen =
    made ∙ ap (λ xs. xs ++ events_of runs.harts.items 0 (length xs) chosen) none in
    subst (λ es. HasCounted (if is_ruled_out test runs chosen then 0 else combinations es (length test.words.items))
    before after) e counts

sum_none : {X : Type 0} (f : X → ℕ) (xs : List X) → ((x : X) → f x ≡ 0) → sum_by f xs ≡ 0
sum_none f [] none = refl
sum_none f (x ∷ xs) none =
    let one = none x in
    let others = sum_none f xs none in
    sum_by-cons f x xs ∙ omega (arith, one, others)

pub ruled_out_counted : (test : LitmusTest) (runs : AllRuns) (chosen : List ℕ) (left : List HartRuns)
    (before after : Findings) → is_ruled_out test runs chosen ≡ true → after.candidates ≡ before.candidates
    → HasCounted (count_behind test runs chosen left) before after
ruled_out_counted test runs chosen left before after out same =
    same_counted 0 (count_behind test runs chosen left) before after
    (sym (sum_none (λ others. count_of test runs (chosen ++ others)) (all_ways left)
    (λ others. ap (λ b. if b then 0
    else combinations (events_of runs.harts.items 0 0 (chosen ++ others)) (length test.words.items))
    (ruled_out_then test runs chosen others out))))
    (none_counted before after same)
