-- A core that follows the events of a legal history, and the numbers that are read behind each.
use Rattle.std.specs.Prelude.{◌≡◌, ℕ, zero, suc, ◌+◌, ◌-◌, ◌<◌, ◌≤◌, min, true, nat_le, List, [], ◌∷◌, ◌++◌, length, reverse}
use Rattle.std.specs.Prelude.{take, drop, None, slice_index_or}
use Rattle.std.proofs.Common.{◌∙◌, refl, sym, ap, subst, arith, inl, inr, length-append}
use Rattle.std.proofs.lemmas.Bool.{Decides.nat_tests, cases_lt}
use Rattle.std.proofs.lemmas.List.{reverse-append, take_more, take-append-drop, get_or_default}
use Rattle.numbers.specs.Sizes.{are_core_sizes, most_events}
use Rattle.events.specs.declared.event.Event.{Event}
use Rattle.smt_model.specs.{Rules.is_legal, Rules.refused, Setup.Setup, Setup.is_accepted}
use Rattle.core_state.specs.View.{CoreView, grown}
use Rattle.chart_counters.specs.declared.counters.Counters.{Counters}
use Rattle.chart_counters.specs.Counters.{AreCounters, AreCountersBetween, past_at}

-- ---- Each event is allowed as it comes

behind : (setup : Setup) (newer past : List Event) → is_legal setup (newer ++ past) → is_legal setup past
behind setup [] past legal = legal
behind setup (e ∷ newer) past legal = behind setup newer past legal.1

turned : (events : List Event) (i : ℕ) → reverse events ≡ reverse (drop i events) ++ past_at events i
turned events i =
    ap reverse (sym (take-append-drop i events)) ∙ reverse-append (take i events) (drop i events)

pub next : (events : List Event) (i : ℕ) (d : Event) → i < length events
    → past_at events (i + 1) ≡ slice_index_or events i d ∷ past_at events i
next events i d inside =
    ap reverse (take_more events i d inside) ∙ reverse-append (take i events) (slice_index_or events i d ∷ [])

pub allowed_at : (setup : Setup) (events : List Event) (i : ℕ) (d : Event) → is_legal setup (reverse events)
    → i < length events → refused setup (past_at events i) (slice_index_or events i d) ≡ None
allowed_at setup events i d legal inside =
    let here = behind setup (reverse (drop (i + 1) events)) (past_at events (i + 1))
    (subst (is_legal setup) (turned events (i + 1)) legal) in
    let newest : is_legal setup (slice_index_or events i d ∷ past_at events i) =
    subst (is_legal setup) (next events i d inside) here in
    newest.0

pub allowed_in : (events : List Event) (i : ℕ) (d : Event) (now first : CoreView) (setup : Setup)
    → first.setup ≡ setup → is_legal setup (reverse events) → now ≡ record first { past = past_at events i }
    → i < length events → refused now.setup now.past (slice_index_or events i d) ≡ None
allowed_in events i d now first setup same legal follows inside =
    subst (λ (v : CoreView). refused v.setup v.past (slice_index_or events i d) ≡ None) (sym follows)
    (subst (λ (s : Setup). refused s (past_at events i) (slice_index_or events i d) ≡ None) (sym same)
    (allowed_at setup events i d legal inside))

-- A core that has followed the first i of the events has followed one more.
pub followed : (events : List Event) (i : ℕ) (d : Event) (was first now : CoreView)
    → was ≡ record first { past = past_at events i } → i < length events
    → now ≡ grown (slice_index_or events i d) was → now ≡ record first { past = past_at events (i + 1) }
followed events i d was first now follows inside grows =
    grows ∙ (ap (grown (slice_index_or events i d)) follows
    ∙ ap (λ past. record first { past = past }) (sym (next events i d inside)))

-- What is read in it is read behind that event.
pub read_in : (events : List Event) (i : ℕ) (d : Event) (now first : CoreView) (one : Counters)
    → now ≡ record first { past = past_at events (i + 1) } → i < length events
    → AreCounters now.setup now.past (slice_index_or events i d) one
    → AreCounters first.setup (slice_index_or events i d ∷ past_at events i) (slice_index_or events i d) one
read_in events i d now first one is inside read =
    subst (λ past. AreCounters first.setup past (slice_index_or events i d) one) (next events i d inside)
    (subst (λ (v : CoreView). AreCounters v.setup v.past (slice_index_or events i d) one) is read)

-- ---- Fewer events are accepted too

pub few : (setup : Setup) (n : ℕ) → is_accepted setup n ≡ true → n ≤ most_events
few setup n ok = grind (arith, nat_tests)

pub fewer : (setup : Setup) (n m : ℕ) → is_accepted setup n ≡ true → m ≤ n → is_accepted setup m ≡ true
fewer setup n m ok less =
    let sizes : are_core_sizes setup.harts setup.extra setup.queue (length setup.roles) ≡ true = grind arith in
    let within : nat_le m most_events ≡ true = let all = few setup n ok in grind (arith, nat_tests) in
    rw (sizes, within) refl

-- ---- The numbers so far

pub record AreSoFar (setup : Setup) (events : List Event) (from index : ℕ) (all : List Counters) : Type 0 where
  pub count : length all ≡ index - from
  pub each : (k : ℕ) (d : Counters) (e : Event) → k < length all
      → AreCounters setup (past_at events (from + k + 1)) (slice_index_or events (from + k) e) (slice_index_or all k d)

pub none_yet : (setup : Setup) (events : List Event) (from : ℕ) → AreSoFar setup events from 0 []
none_yet setup events from = record {
  count = omega arith;
  each = λ k d e under. absurd (omega (arith, under));
}

pub passed_over : (setup : Setup) (events : List Event) (from index : ℕ) (all : List Counters) → index < from
    → AreSoFar setup events from index all → AreSoFar setup events from (index + 1) all
passed_over setup events from index all before were = record {
  count = let count = were.count in omega (arith, count, before);
  each = were.each;
}

older : (all : List Counters) (one d : Counters) (k : ℕ) → k < length all
    → slice_index_or (all ++ one ∷ []) k d ≡ slice_index_or all k d
older [] one d k under = absurd (omega (arith, under))
older (x ∷ all) one d zero under = refl
older (x ∷ all) one d (suc k) under = older all one d k (omega (arith, under))

newest : (all : List Counters) (one d : Counters) → slice_index_or (all ++ one ∷ []) (length all) d ≡ one
newest [] one d = refl
newest (x ∷ all) one d = newest all one d

module _ (setup : Setup) (events : List Event) (from index : ℕ) (all : List Counters) (one : Counters) (f : Event)
    (inside : index < length events) (after : from ≤ index) (were : AreSoFar setup events from index all)
    (is : AreCounters setup (slice_index_or events index f ∷ past_at events index) (slice_index_or events index f) one)
  where
    last : (k : ℕ) (d : Counters) (e : Event) → k ≡ length all
        → AreCounters setup (past_at events (from + k + 1)) (slice_index_or events (from + k) e)
        (slice_index_or (all ++ one ∷ []) k d)
    last k d e here =
        let count = were.count in
        let place : from + k ≡ index = omega (arith, count, here, after) in
        let it : slice_index_or (all ++ one ∷ []) k d ≡ one =
        ap (λ n. slice_index_or (all ++ one ∷ []) n d) here ∙ newest all one d in
        rw (place, it, next events index f inside, get_or_default events index e f inside) is

    pub one_more : AreSoFar setup events from (index + 1) (all ++ one ∷ [])
    one_more = record {
      count = let count = were.count in let more = length-append all (one ∷ []) in omega (arith, count, more, after);
      each = λ k d e under.
          elim (cases_lt k (length all)) [
            | inl before ↦ rw (older all one d k before) (were.each k d e before)
            | inr not_before ↦ last k d e (let more = length-append all (one ∷ []) in omega (arith, more, under, not_before))
          ];
    }

pub all_there : (setup : Setup) (events : List Event) (from to index : ℕ) (all : List Counters)
    → index ≡ min (length events) (to + 1) → AreSoFar setup events from index all
    → AreCountersBetween setup events from to all
all_there setup events from to index all end were = record {
  count = were.count ∙ ap (λ n. n - from) end;
  each = were.each;
}
