-- A whole turn where the code may be written: the hart's oldest may be stale once it has completed. Then it is
-- refetched, and what is fetched for it has the word that memory has now, until the next retirement. Each hart that
-- goes has one in its latch, so a fetch is for the hart of the turn, and it is known which words are stale.
use Rattle.std.specs.Prelude.{◌≡◌, ◌≢◌, ℕ, suc, ◌==◌, ◌<◌, ◌≤◌, Bool, true, false, not, List, [], ◌∷◌, length, Some}
use Rattle.std.specs.Prelude.{if◌then◌else◌, Option}
use Rattle.std.proofs.Common.{◌∙◌, refl, sym, ap, subst, inl, inr, arith}
use Rattle.std.proofs.{lemmas.Bool.cases_Bool, lemmas.Bool.cases_eq, lemmas.Bool.Decides.nat_tests}
use Rattle.elf_image.specs.Image.{word_now}
use Rattle.rv_instr.specs.{Registers.op_unit, declared.op.Op.Op}
use Rattle.events.specs.{declared.event.Event.Event}
use Rattle.events.specs.declared.event.Event.TheVariants.{Decode, Refetch}
use Rattle.smt_model.specs.{Basics.same_number, Setup.Setup, Jobs.is_actor, Flights.in_decode, Account.order}
use Rattle.smt_model.specs.{Memory.is_going, Memory.byte_at, Rules.is_legal, Rules.is_fresh}
use Rattle.smt_model.specs.{Plain.Run, Plain.run, Plain.word_at_pc, Plain.is_going_status}
use Rattle.smt_model.specs.Fates.{Fetched, fetching, op_at}
use Rattle.smt_model.specs.Asks.{Ask, AskDecode, AskRename, AskRetire, AskFetch}
use Rattle.smt_model.proofs.{Lists.member, Fates.Moves.same_number-self, Fates.Numbers.known}
use Rattle.smt_model.proofs.{Fates.Numbers.known_fetched}
use Rattle.smt_laws.specs.Shown.{Predictor, HasEachKind}
use Rattle.smt_model.specs.declared.turn.Turn.{Turn}
use Rattle.smt_laws.specs.Scripts.{turns_of, turns_script, turn_asks, last_asks, refetching, is_stale, waiting_word}
use Rattle.smt_laws.specs.Scripts.{word_after, goes_after}
use Rattle.smt_laws.proofs.{Done.some_one}
use Rattle.smt_laws.proofs.Showing.{Units.HasUnitFor, Places.is_parked, Counting.first-inside, Replies.answered}
use Rattle.smt_laws.proofs.Showing.Turns.{NoJobs, IsRested, event-Refetch, rested-next, others-wait, KeepsLatches}
use Rattle.smt_laws.proofs.Showing.Turns.{latches-next}
use Rattle.smt_laws.proofs.Showing.{Stages.decode-ok, Stages.decode-alone}
use Rattle.smt_laws.proofs.Showing.{Finishing.refetch-ok, Finishing.stage-Refetch}
use Rattle.smt_laws.proofs.Showing.{UnitAsks.IsInTurn, UnitAsks.unit_asks, Feeding.IsFed, Feeding.IsFilled}
use Rattle.smt_laws.proofs.Showing.Feeding.{IsFreshLatch, empty_list, nothing_stale}
use Rattle.smt_laws.proofs.Showing.Turning.{GoesOn, IsAtRest, rest-wider, executed, IsOver, IsFresh, retired}
use Rattle.smt_laws.proofs.Showing.Turning.{own_answer, next-pc, same-word, its_turn, rest_fed, over_fed, six_more}
use Rattle.smt_laws.proofs.Showing.EachRun.{goes-same}

-- There is a unit for whatever is fetched.
each_unit : (setup : Setup) → HasEachKind setup → (op : Op) → HasUnitFor setup op
each_unit setup kinds op =
    let one = kinds (op_unit op) in record { actor = one.actor; suits = one.suits }

-- ---- What the harts have in their latches

-- Each has one at most, and its word is the one that was at its pc behind its last step.
pub record HoldsWords (setup : Setup) (past : List Event) (harts : List ℕ) : Type 0 where
  pub single : (g : ℕ) → g < setup.harts → length (in_decode past g) ≤ 1
  pub words : (g n : ℕ) (f : Fetched) → g < setup.harts → in_decode past g ≡ n ∷ [] → fetching past n ≡ Some f
      → f.word ≡ waiting_word setup harts g

-- So have all but h.
record OthersHold (setup : Setup) (past : List Event) (harts : List ℕ) (h : ℕ) : Type 0 where
  single : (g : ℕ) → g < setup.harts → length (in_decode past g) ≤ 1
  words : (g n : ℕ) (f : Fetched) → g < setup.harts → g ≢ h → in_decode past g ≡ n ∷ [] → fetching past n ≡ Some f
      → f.word ≡ waiting_word setup harts g

all_but : (setup : Setup) (past : List Event) (harts : List ℕ) (h : ℕ) → HoldsWords setup past harts
    → OthersHold setup past harts h
all_but setup past harts h holds =
    record { single = holds.single; words = λ g n f there apart. holds.words g n f there }

-- In h's turn.
others-kept : (setup : Setup) (from past : List Event) (harts : List ℕ) (h : ℕ) → h < setup.harts
    → KeepsLatches from past h → OthersHold setup from harts h → OthersHold setup past harts h
others-kept setup from past harts h here keeps holds = record {
  single = λ g there. elim (cases_eq g h) [
    | inl same ↦
        let none : length (in_decode past h) ≡ 0 = ap length (keeps.own (holds.single h here)) in
        subst (λ z. length (in_decode past z) ≤ 1) (sym same) (omega arith)
    | inr apart ↦ subst (λ xs. length xs ≤ 1) (sym (keeps.others g apart)) (holds.single g there)
  ];
  words = λ g n f there apart latch at.
      holds.words g n f there apart (sym (keeps.others g apart) ∙ latch) (sym (keeps.fetched n) ∙ at);
}

-- What is in a latch has been fetched, and stays so.
fetched-is : (setup : Setup) (past now : List Event) → is_legal setup past → (g n : ℕ) (f : Fetched)
    → ((s : ℕ) (z : Fetched) → fetching past s ≡ Some z → fetching now s ≡ Some z)
    → in_decode past g ≡ n ∷ [] → fetching now n ≡ Some f → fetching past n ≡ Some f
fetched-is setup past now legal g n f kept latch at =
    let found = known_fetched setup past legal n
    (known setup past legal g n (is_parked setup past legal g n [] latch).of_hart) in
    let same = some_one found.fetch f (sym (kept n found.fetch found.fetched) ∙ at) in
    found.fetched ∙ ap Some same

-- By a fetch for h.
others-fed : (setup : Setup) (predict : Predictor) (asks : List Ask) (order_is harts : List ℕ) (past : List Event)
    (most h : ℕ) → is_legal setup past → (next : IsFed setup predict asks order_is past most) → next.one ≡ h
    → h < setup.harts → in_decode past h ≡ [] → OthersHold setup past harts h → OthersHold setup next.now harts h
others-fed setup predict asks order_is harts past most h legal next one here empty holds = record {
  single = λ g there. elim (cases_eq g h) [
    | inl same ↦
        let more = subst (λ z. length (in_decode next.now z) ≤ suc (length (in_decode past z))) one next.more in
        let none : length (in_decode past h) ≡ 0 = ap length empty in
        subst (λ z. length (in_decode next.now z) ≤ 1) (sym same) (omega arith)
    | inr apart ↦
        subst (λ xs. length xs ≤ 1) (sym (next.others g (λ same. apart (same ∙ one)))) (holds.single g there)
  ];
  words = λ g n f there apart latch at.
      let was = sym (next.others g (λ same. apart (same ∙ one))) ∙ latch in
      holds.words g n f there apart was (fetched-is setup past next.now legal g n f next.kept was at);
}

-- ---- What has come so far

pub record IsReady (setup : Setup) (predict : Predictor) (asks : List Ask) (harts : List ℕ) (most : ℕ)
    : Type 0 where
  pub rest : IsAtRest setup predict asks harts most
  pub holds : HoldsWords setup rest.past harts

pub ready-wider : (setup : Setup) (predict : Predictor) (asks : List Ask) (harts : List ℕ) (most more : ℕ)
    → most ≤ more → IsReady setup predict asks harts most → IsReady setup predict asks harts more
unfolding rest-wider
ready-wider setup predict asks harts most more wider ready = record {
  rest = rest-wider setup predict asks harts most more wider ready.rest;
  holds = ready.holds;
}

-- The first in a latch is at its hart's pc.
latch-pc : (setup : Setup) (predict : Predictor) (asks : List Ask) (harts : List ℕ) (most : ℕ) → is_actor setup 0 ≡ true
    → (rest : IsAtRest setup predict asks harts most) → (before : Run) → run setup harts ≡ Some before
    → (h : ℕ) → is_going rest.past h ≡ true → (n : ℕ) (more : List ℕ) → in_decode rest.past h ≡ n ∷ more
    → (f : Fetched) → fetching rest.past n ≡ Some f → f.pc ≡ before.state.pcs h
latch-pc setup predict asks harts most is_one rest before runs h going n more latch f at =
    let past = rest.past in
    let legal = rest.so.legal in
    let ok = decode-ok setup past legal rest.rested 0 h n is_one more latch in
    let alone = decode-alone setup past legal rest.rested 0 h n more latch in
    next-pc setup harts before runs h (Decode 0 n ∷ past) (ok, legal) going rest.so.in_order n 2 alone (omega arith)
    (omega arith) f at

-- Memory has there the word of the plain machine.
latch-word : (setup : Setup) (predict : Predictor) (asks : List Ask) (harts : List ℕ) (most : ℕ)
    → is_actor setup 0 ≡ true
    → (rest : IsAtRest setup predict asks harts most) → (before : Run) → run setup harts ≡ Some before
    → (h : ℕ) → is_going rest.past h ≡ true → (n : ℕ) (more : List ℕ) → in_decode rest.past h ≡ n ∷ more
    → (f : Fetched) → fetching rest.past n ≡ Some f
    → word_now setup.image (byte_at setup rest.past) f.pc ≡ word_after setup (run setup harts) h
latch-word setup predict asks harts most is_one rest before runs h going n more latch f at =
    same-word setup harts before runs rest.past rest.so.legal rest.so.in_order f.pc
    ∙ (ap (word_now setup.image before.state.bytes)
    (latch-pc setup predict asks harts most is_one rest before runs h going n more latch f at)
    ∙ sym (ap (λ o. word_after setup o h) runs))

-- What is fresh in the latch of h has the word of h's last step.
pub latch_waits : (setup : Setup) (predict : Predictor) (asks : List Ask) (harts : List ℕ) (most : ℕ)
    → is_actor setup 0 ≡ true
    → (rest : IsAtRest setup predict asks harts most) → (before : Run) → run setup harts ≡ Some before
    → (h : ℕ) → is_going rest.past h ≡ true → IsFreshLatch setup rest.past h
    → (n : ℕ) (f : Fetched) → in_decode rest.past h ≡ n ∷ [] → fetching rest.past n ≡ Some f
    → f.word ≡ word_after setup (run setup harts) h
latch_waits setup predict asks harts most is_one rest before runs h going fresh n f latch at =
    let inside : member n (in_decode rest.past h) ≡ true =
    subst (λ xs. member n xs ≡ true) (sym latch) (first-inside n []) in
    fresh n f inside at
    ∙ latch-word setup predict asks harts most is_one rest before runs h going n [] latch f at

-- ---- The end of a turn

waiting-own : (setup : Setup) (harts : List ℕ) (h : ℕ)
    → word_after setup (run setup (h ∷ harts)) h ≡ waiting_word setup (h ∷ harts) h
waiting-own setup harts h = let same : (h == h) ≡ true = grind (arith, nat_tests) in rw same refl

waiting-other : (setup : Setup) (harts : List ℕ) (h g : ℕ) → g ≢ h
    → waiting_word setup harts g ≡ waiting_word setup (h ∷ harts) g
waiting-other setup harts h g apart =
    let other : (h == g) ≡ false = grind (arith, nat_tests) in rw other refl

-- Behind its last step h has nothing there.
last_over : (setup : Setup) (predict : Predictor) (asks : List Ask) (harts : List ℕ) (h : ℕ) (from : List Event)
    (most : ℕ) → h < setup.harts → (over : IsOver setup predict asks (h ∷ harts) h from most)
    → OthersHold setup from harts h → is_going over.past h ≡ false → IsReady setup predict asks (h ∷ harts) most
last_over setup predict asks harts h from most here over holds gone =
    let past = over.past in
    let kept = others-kept setup from past harts h here over.keeps holds in
    let empty = over.keeps.own (holds.single h here) in
    record {
      rest = record {
        past = past;
        so = over.so;
        rested = over.rested;
        jobs = over.jobs;
        waiting = λ g there going.
            over.waiting g there
            (λ same. let stands = subst (λ z. is_going past z ≡ true) same going in absurd (grind arith)) going;
      };
      holds = record {
        single = kept.single;
        words = λ g n f there latch at. elim (cases_eq g h) [
          | inl same ↦
              let none = sym (subst (λ z. in_decode past z ≡ n ∷ []) same latch) ∙ empty in absurd (grind arith)
          | inr apart ↦ kept.words g n f there apart latch at ∙ waiting-other setup harts h g apart
        ];
      };
    }

-- Else it fetches.
fetch_over : (setup : Setup) (predict : Predictor) (asks : List Ask) (harts : List ℕ) (h : ℕ) (from : List Event)
    (most : ℕ) → is_actor setup 0 ≡ true → h < setup.harts → (ran : Run) → run setup (h ∷ harts) ≡ Some ran
    → (over : IsOver setup predict asks (h ∷ harts) h from most)
    → OthersHold setup from harts h → is_going over.past h ≡ true
    → IsReady setup predict (AskFetch 0 ∷ asks) (h ∷ harts) (suc most)
unfolding rest_fed
fetch_over setup predict asks harts h from most is_one here ran runs over holds going =
    let past = over.past in
    let empty = over.keeps.own (holds.single h here) in
    let next = over_fed setup predict asks (h ∷ harts) h from most is_one over in
    let one = its_turn setup predict asks (h ∷ harts) h from most over next (next.fills h here going empty) in
    let rest = rest_fed setup predict asks (h ∷ harts) h from most over next in
    let kept =
    others-fed setup predict asks (h ∷ harts) harts past (suc most) h over.so.legal next one here empty
    (others-kept setup from past harts h here over.keeps holds) in
    let fresh = next.fresh h (nothing_stale setup past h empty) in
    record {
      rest = rest;
      holds = record {
        single = kept.single;
        words = λ g n f there latch at. elim (cases_eq g h) [
          | inl same ↦
              subst (λ z. f.word ≡ waiting_word setup (h ∷ harts) z) (sym same)
              (latch_waits setup predict (AskFetch 0 ∷ asks) (h ∷ harts) (suc most) is_one rest ran runs h
              (next.going h ∙ going) fresh n f (subst (λ z. in_decode next.now z ≡ n ∷ []) same latch) at
              ∙ waiting-own setup harts h)
          | inr apart ↦ kept.words g n f there apart latch at ∙ waiting-other setup harts h g apart
        ];
      };
    }

over_by : (setup : Setup) (predict : Predictor) (asks : List Ask) (harts : List ℕ) (h : ℕ) (from : List Event)
    (most : ℕ) → is_actor setup 0 ≡ true → h < setup.harts → (ran : Run) → run setup (h ∷ harts) ≡ Some ran
    → (over : IsOver setup predict asks (h ∷ harts) h from most) → OthersHold setup from harts h
    → (goes : Bool) → is_going over.past h ≡ goes
    → IsReady setup predict (if goes then AskFetch 0 ∷ asks else asks) (h ∷ harts) (suc most)
over_by setup predict asks harts h from most is_one here ran runs over holds true goes =
    fetch_over setup predict asks harts h from most is_one here ran runs over holds goes
over_by setup predict asks harts h from most is_one here ran runs over holds false goes =
    ready-wider setup predict asks (h ∷ harts) most (suc most) (omega arith)
    (last_over setup predict asks harts h from most here over holds goes)

-- ---- The turn in which it retires

-- The turn of a run's last step, after some asks.
abbrev last_turn : Setup → List ℕ → ℕ → List Ask → List Ask
last_turn setup harts h asks =
    if goes_after (run setup (h ∷ harts)) h then turn_asks setup.roles h asks else last_asks setup.roles h asks

module _ (setup : Setup) (predict : Predictor) (is_one : is_actor setup 0 ≡ true) (spare : 1 ≤ setup.extra)
    (place : 1 ≤ setup.queue) (kinds : HasEachKind setup) (harts : List ℕ) (h : ℕ) (here : h < setup.harts)
    (before ran : Run) (runs : run setup harts ≡ Some before) (runs_on : run setup (h ∷ harts) ≡ Some ran)
    (goes : GoesOn setup harts h) where
  finished : (asks : List Ask) (most : ℕ) (rest : IsAtRest setup predict asks harts most)
      → OthersHold setup rest.past harts h → (n : ℕ) (more : List ℕ) → in_decode rest.past h ≡ n ∷ more
      → IsFresh setup rest.past n → IsReady setup predict (last_turn setup harts h asks) (h ∷ harts) (six_more most)
  finished asks most rest holds n more latch fresh =
      let two = AskRename 0 h ∷ AskDecode 0 h ∷ asks in
      let five = executed setup predict asks harts h most is_one spare place rest n more latch
      (each_unit setup kinds (op_at rest.past n)) in
      let over = retired setup predict (unit_asks setup two) harts h n rest.past (suc (suc (suc (suc most)))) is_one
      five fresh in
      over_by setup predict (AskRetire 0 h ∷ unit_asks setup two) harts h rest.past
      (suc (suc (suc (suc (suc most))))) is_one here ran runs_on over holds (goes_after (run setup (h ∷ harts)) h)
      (goes-same setup (h ∷ harts) ran runs_on h over.past over.so.legal over.so.in_order
      ∙ sym (ap (λ o. goes_after o h) runs_on))

  -- What was just fetched is fresh.
  fetched_then : (asks : List Ask) (most : ℕ) (rest : IsAtRest setup predict asks harts most)
      → OthersHold setup rest.past harts h → 1 ≤ length (in_decode rest.past h) → IsFreshLatch setup rest.past h
      → (latch : List ℕ) → in_decode rest.past h ≡ latch
      → IsReady setup predict (last_turn setup harts h asks) (h ∷ harts) (six_more most)
  fetched_then asks most rest holds waits fresh [] latch =
      let none : length (in_decode rest.past h) ≡ 0 = ap length latch in absurd (omega arith)
  fetched_then asks most rest holds waits fresh (n ∷ more) latch =
      let past = rest.past in
      let legal = rest.so.legal in
      let found = known_fetched setup past legal n
      (known setup past legal h n (is_parked setup past legal h n more latch).of_hart) in
      let inside : member n (in_decode past h) ≡ true =
      subst (λ xs. member n xs ≡ true) (sym latch) (first-inside n more) in
      finished asks most rest holds n more latch
      (record {
        fetch = found.fetch;
        fetched = found.fetched;
        test = subst (λ w. same_number found.fetch.word w ≡ true) (fresh n found.fetch inside found.fetched)
            (same_number-self found.fetch.word);
      })

  -- ---- The turn in which it is refetched

  refetched : (asks : List Ask) (n : ℕ) (from : List Event) (most : ℕ)
      → IsInTurn setup predict asks harts h n from 5 most NoJobs
      → (f : Fetched) → fetching from n ≡ Some f → is_fresh setup from f ≡ false
      → IsOver setup predict (AskRetire 0 h ∷ asks) harts h from (suc most)
  refetched asks n from most turn f at stale =
      let past = turn.past in
      let legal = turn.so.legal in
      let of_n = turn.alone.of_hart in
      let test : is_fresh setup past f ≡ false =
      ap (λ (bytes : ℕ → ℕ). same_number f.word (word_now setup.image bytes f.pc)) turn.memory ∙ stale in
      let e = Refetch 0 n in
      let ok = refetch-ok setup past legal 0 h n is_one turn.alone f (turn.same ∙ at) test in
      let by = event-Refetch past 0 h n of_n in
      let gone = stage-Refetch setup past legal 0 n ok in
      record {
        past = e ∷ past;
        so = answered setup predict asks harts harts past most turn.so (AskRetire 0 h) e ok
            (own_answer past h n of_n) tt turn.so.in_order;
        rested = rested-next past e h n 5 turn.alone by gone;
        jobs = turn.jobs;
        waiting = others-wait setup past legal e h n of_n by turn.waiting;
        keeps = latches-next setup from past legal e h n of_n by (λ s. refl) (omega arith) turn.keeps;
      }

  refetched_then : (asks : List Ask) (from : List Event) (most : ℕ) → IsOver setup predict asks harts h from most
      → OthersHold setup from harts h
      → IsReady setup predict (last_turn setup harts h (AskFetch 0 ∷ asks)) (h ∷ harts) (six_more (suc most))
  unfolding rest_fed
  refetched_then asks from most over holds =
      let past = over.past in
      let going = goes past over.so.legal over.so.in_order in
      let empty = over.keeps.own (holds.single h here) in
      let next = over_fed setup predict asks harts h from most is_one over in
      let one = its_turn setup predict asks harts h from most over next (next.fills h here going empty) in
      let rest = rest_fed setup predict asks harts h from most over next in
      fetched_then (AskFetch 0 ∷ asks) (suc most) rest
      (others-fed setup predict asks harts harts past (suc most) h over.so.legal next one here empty
      (others-kept setup from past harts h here over.keeps holds))
      (rest.waiting h here (next.going h ∙ going)) (next.fresh h (nothing_stale setup past h empty))
      (in_decode rest.past h) refl

  -- ---- The turns of a step

  stale_then : (asks : List Ask) (most : ℕ) (rest : IsAtRest setup predict asks harts most)
      → OthersHold setup rest.past harts h → (n : ℕ) (more : List ℕ) → in_decode rest.past h ≡ n ∷ more
      → (f : Fetched) → fetching rest.past n ≡ Some f → is_fresh setup rest.past f ≡ false
      → IsReady setup predict (last_turn setup harts h (turn_asks setup.roles h asks)) (h ∷ harts)
      (six_more (six_more most))
  stale_then asks most rest holds n more latch f at stale =
      let two = AskRename 0 h ∷ AskDecode 0 h ∷ asks in
      let five = executed setup predict asks harts h most is_one spare place rest n more latch
      (each_unit setup kinds (op_at rest.past n)) in
      let over = refetched (unit_asks setup two) n rest.past (suc (suc (suc (suc most)))) five f at stale in
      refetched_then (AskRetire 0 h ∷ unit_asks setup two) rest.past (suc (suc (suc (suc (suc most))))) over holds

  -- The turns so far, and those of this step.
  abbrev turns_by : Bool → List Turn
  turns_by stale =
      record { hart = h; fetches = goes_after (run setup (h ∷ harts)) h }
      ∷ refetching stale h (turns_of setup harts)

  abbrev so_far : List Ask
  so_far = turns_script setup.harts setup.roles (turns_of setup harts)

  step_by : (most : ℕ) (ready : IsReady setup predict so_far harts most) → (n : ℕ)
      → in_decode ready.rest.past h ≡ n ∷ [] → (f : Fetched) → fetching ready.rest.past n ≡ Some f
      → (stale : Bool) → is_fresh setup ready.rest.past f ≡ not stale
      → IsReady setup predict (turns_script setup.harts setup.roles (turns_by stale)) (h ∷ harts)
      (six_more (six_more most))
  step_by most ready n latch f at false fresh =
      ready-wider setup predict (last_turn setup harts h so_far) (h ∷ harts) (six_more most)
      (six_more (six_more most)) (omega arith)
      (finished so_far most ready.rest (all_but setup ready.rest.past harts h ready.holds) n [] latch
      (record { fetch = f; fetched = at; test = fresh }))
  step_by most ready n latch f at true stale =
      stale_then so_far most ready.rest (all_but setup ready.rest.past harts h ready.holds) n [] latch f at stale

  not_twice : (b : Bool) → b ≡ not (not b)
  not_twice true = refl
  not_twice false = refl

  latched_step : (most : ℕ) (ready : IsReady setup predict so_far harts most) → (latch : List ℕ)
      → in_decode ready.rest.past h ≡ latch
      → IsReady setup predict (turns_script setup.harts setup.roles (turns_of setup (h ∷ harts))) (h ∷ harts)
      (six_more (six_more most))
  latched_step most ready [] latch =
      let rest = ready.rest in
      let waits = rest.waiting h here (goes rest.past rest.so.legal rest.so.in_order) in
      let none : length (in_decode rest.past h) ≡ 0 = ap length latch in
      absurd (omega arith)
  latched_step most ready (n ∷ more) latch =
      let rest = ready.rest in
      let past = rest.past in
      let legal = rest.so.legal in
      let single = ready.holds.single h here in
      let size : length (in_decode past h) ≡ suc (length more) = ap length latch in
      let alone : in_decode past h ≡ n ∷ [] = latch ∙ ap (λ xs. n ∷ xs) (empty_list more (omega arith)) in
      let found = known_fetched setup past legal n
      (known setup past legal h n (is_parked setup past legal h n more latch).of_hart) in
      let f = found.fetch in
      let word = ready.holds.words h n f here alone found.fetched in
      let now = latch-word setup predict so_far harts most is_one rest before runs h
      (goes past legal rest.so.in_order) n more latch f found.fetched in
      let test : is_fresh setup past f
      ≡ same_number (waiting_word setup harts h) (word_after setup (run setup harts) h) =
      ap (λ w. same_number w (word_now setup.image (byte_at setup past) f.pc)) word
      ∙ ap (same_number (waiting_word setup harts h)) now in
      step_by most ready n alone f found.fetched (is_stale setup harts h)
      (test ∙ not_twice (same_number (waiting_word setup harts h) (word_after setup (run setup harts) h)))

  pub stepped : (most : ℕ) → IsReady setup predict so_far harts most
      → IsReady setup predict (turns_script setup.harts setup.roles (turns_of setup (h ∷ harts))) (h ∷ harts)
      (six_more (six_more most))
  stepped most ready = latched_step most ready (in_decode ready.rest.past h) refl
