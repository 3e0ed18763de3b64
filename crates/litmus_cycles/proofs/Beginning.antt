-- Nothing comes of events of which nothing is decided, where a read's number is written nowhere, or no end is asked for.
use Rattle.std.proofs.Common.{◌≡◌, ℕ, ◌&&◌, ◌||◌, true, false, inl, inr, if◌then◌else◌}
use Rattle.std.proofs.Common.{List, slice_get, Option, Some, None, sym, ◌∙◌, subst, ap, refl, true≢false}
use Rattle.std.specs.{Option.option_map_or, List.list_all, List.list_any}
use Rattle.std.proofs.lemmas.Bool.{and_parts, and_cases, or_parts, eq-eqb, false_from_ne_true}
use Rattle.litmus_tests.specs.declared.test.LitmusTest.{LitmusTest}
use Rattle.litmus_runs.specs.{declared.runs.AllRuns.AllRuns, Numbers.initial_number}
use Rattle.litmus_cycles.specs.declared.{event.MemoryEvent.MemoryEvent, open.Open.Open, demand.Demand.Demand}
use Rattle.litmus_cycles.specs.{Executions.has_number, Executions.written_at, Endings.may_end, Refusals.has_write}
use Rattle.litmus_cycles.specs.{Searched.meets_demand, Searched.is_wanted}
use Rattle.litmus_cycles.specs.Kept.{IsKept, KeptAt, AreKept, NoneComes}
use Rattle.litmus_cycles.proofs.{Pairs.IsCandidate, Pairs.candidate_of, Pairs.fails_at, Pairs.any_at}
use Rattle.litmus_cycles.proofs.{Staying.becomes, Learning.never_ends_so}
use Rattle.litmus_cycles.proofs.{Demands.meets_of, Demands.numbers_of, Standing.read_of}

-- What an event was.
was : (rest : List Open) (events : List MemoryEvent) (index : ℕ) (given got : Option MemoryEvent) (found : MemoryEvent)
    → slice_get events index ≡ given → got ≡ Some found → KeptAt rest index given got
    → (event : MemoryEvent) × (slice_get events index ≡ Some event) × IsKept rest index event found
was rest events index None None found at is kept = cc
was rest events index None (Some after) found at is kept = absurd kept
was rest events index (Some before) None found at is kept = absurd kept
was rest events index (Some before) (Some after) found at is kept =
    let e : after ≡ found = cc in
    (before, at, subst (λ z. IsKept rest index before z) e kept)

record IsUnwritten (test : LitmusTest) (events : List MemoryEvent) (event : MemoryEvent) : Type 0 where
  pub number : ℕ
  pub reads : event.reads ≡ Some number
  pub starts : has_number number (initial_number test event.location) ≡ false
  pub written : list_any (λ write. has_number number (written_at write event.location)) events ≡ false

unwritten : (test : LitmusTest) (events : List MemoryEvent) (event : MemoryEvent) (reads : Option ℕ) → event.reads ≡ reads
    → option_map_or (λ number. has_number number (initial_number test event.location)
    || list_any (λ write. has_number number (written_at write event.location)) events) reads true ≡ false
    → IsUnwritten test events event
unwritten test events event None is fails = absurd (true≢false fails)
unwritten test events event (Some number) is fails =
    let ends = or_parts (has_number number (initial_number test event.location))
    (list_any (λ write. has_number number (written_at write event.location)) events) fails in
    record { number = number; reads = is; starts = ends.0; written = ends.1 }

not_written : (test : LitmusTest) (rest : List Open) (events final : List MemoryEvent) → AreKept rest events final
    → IsCandidate test final → list_all (has_write test events) events ≡ false → ⊥
not_written test rest events final kept candidate fails =
    let f = fails_at (has_write test events) events fails in
    let b = becomes rest events final f.index f.event kept f.is in
    let u = unwritten test events f.event f.event.reads refl f.fails in
    elim (read_of test final f.index u.number b.event candidate b.is (b.kept.reads ∙ u.reads)) [
      | inl start ↦
          true≢false (sym start.is ∙ ap (λ l. has_number u.number (initial_number test l)) b.kept.location ∙ u.starts)
      | inr from ↦
          let w = was rest events from.index (slice_get events from.index) (slice_get final from.index) from.write refl from.at
          (kept.each from.index) in
          let here : w.0.location ≡ f.event.location = sym w.2.location ∙ from.here ∙ b.kept.location in
          let given : written_at w.0 f.event.location ≡ from.write.writes =
          ap (λ b. if b then w.0.writes else None) (eq-eqb w.0.location f.event.location here) ∙ sym w.2.writes in
          true≢false (sym (any_at (λ write. has_number u.number (written_at write f.event.location)) events from.index w.0 w.1
          (ap (has_number u.number) given ∙ from.is)) ∙ u.written)
    ]

not_begun : (test : LitmusTest) (runs : AllRuns) (chosen : List ℕ) (demand : Demand) (rest : List Open)
    (events final : List MemoryEvent) → AreKept rest events final
    → (may_end test runs chosen events && list_all (has_write test events) events) ≡ false
    → is_wanted test runs chosen demand final ≡ true → ⊥
not_begun test runs chosen demand rest events final kept fails wanted =
    let candidate = candidate_of test final (numbers_of test demand final (meets_of test runs chosen demand final wanted)) in
    elim (and_cases (may_end test runs chosen events) (list_all (has_write test events) events) fails) [
      | inl end ↦
          true≢false (sym (and_parts (may_end test runs chosen final) (meets_demand demand test final) wanted).0
          ∙ never_ends_so test runs chosen rest events final kept candidate end)
      | inr not_so ↦ not_written test rest events final kept candidate not_so
    ]

pub none_begun : (test : LitmusTest) (runs : AllRuns) (chosen : List ℕ) (demand : Demand) (rest : List Open)
    (events : List MemoryEvent) → (may_end test runs chosen events && list_all (has_write test events) events) ≡ false
    → NoneComes test runs chosen demand rest events
none_begun test runs chosen demand rest events fails = record {
  each = λ final kept. false_from_ne_true (is_wanted test runs chosen demand final)
      (not_begun test runs chosen demand rest events final kept fails);
}
