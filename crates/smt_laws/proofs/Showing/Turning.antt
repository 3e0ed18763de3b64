-- A whole turn: from rest, the oldest instruction in the hart's latch goes down the pipeline and retires, one is
-- fetched, and then there is rest.
use Rattle.std.specs.Prelude.{◌≡◌, ℕ, suc, ◌≤◌, true, false, ◌==◌, ◌&&◌, List, [], ◌∷◌, length, Some}
use Rattle.std.proofs.Common.{◌∙◌, refl, sym, ap, subst, inl, inr, arith}
use Rattle.std.proofs.{lemmas.Bool.cases_eq, lemmas.Bool.cases_lt}
use Rattle.rv_instr.specs.declared.op.Op.{Op}
use Rattle.elf_image.specs.Image.{word_now, code_writable}
use Rattle.elf_image.proofs.Words.{word_now-same}
use Rattle.rv_instr.specs.Decode.{op_of_word}
use Rattle.events.specs.{declared.event.Event.Event}
use Rattle.events.specs.declared.event.Event.TheVariants.{Decode, Rename, Retire}
use Rattle.smt_model.specs.{Setup.Setup, Jobs.is_actor, Account.order, Flights.in_decode, Flights.live}
use Rattle.smt_model.specs.{Memory.is_going, Fetching.fetch_pc, Plain.Run, Plain.run, Plain.op_at_pc}
use Rattle.smt_model.specs.{Basics.same_number, Memory.byte_at}
use Rattle.smt_model.specs.Rules.{is_legal, is_fresh, effect_now}
use Rattle.smt_model.specs.Fates.{Fetched, fetching, completion, is_of, op_at, op_of_fetched}
use Rattle.smt_model.specs.Asks.{Ask, AskDecode, AskRename, AskRetire, AskFetch}
use Rattle.smt_model.proofs.{Fates.Moves.same_number-self}
use Rattle.smt_model.proofs.Fates.Numbers.{known, known_fetched, is_of-one}
use Rattle.smt_laws.specs.{Shown.Predictor, Chain.Hop, Chain.hop, Chain.hop_of, Chain.following_pc}
use Rattle.smt_laws.specs.{Sequential.retired_pc, Scripts.turn_asks}
use Rattle.smt_laws.proofs.{Done.some_one, Done.is_of_own, Paths.chain-front, FixedCode.never_stale, Chains.chained}
use Rattle.smt_laws.proofs.{Sequential.sequential}
use Rattle.smt_laws.proofs.Showing.{Units.HasUnitFor, Places.live-oldest, Places.is_parked, Replies.answered}
use Rattle.smt_laws.proofs.Showing.Turns.{IsSoFar, IsRested, IsAlone, NoJobs, OthersWait, AllWait, event-Decode}
use Rattle.smt_laws.proofs.Showing.Turns.{event-Rename, event-Retire, alone-next, rested-next, others-wait}
use Rattle.smt_laws.proofs.Showing.Turns.{KeepsLatches, latch-other, latches-next}
use Rattle.smt_laws.proofs.Showing.Stages.{decode-ok, decode-alone, taking, nothing_flies, rename-ok, stage-Rename}
use Rattle.smt_laws.proofs.Showing.Finishing.{retire-ok, stage-Retire, order-Retire}
use Rattle.smt_laws.proofs.Showing.UnitAsks.{IsInTurn, unit_asks, units-asked}
use Rattle.smt_laws.proofs.Showing.Feeding.{IsFed, IsFilled, fed, empty_list}
use Rattle.smt_laws.proofs.Steps.Decode.{leaves-Decode}

-- A hart that goes in every history of this order.
abbrev pub GoesOn : Setup → List ℕ → ℕ → Type 0
GoesOn setup harts h = (past : List Event) → is_legal setup past → order past ≡ harts → is_going past h ≡ true

-- ---- The instruction is the next of its hart's program

first_hop : (past : List Event) (n : ℕ) (f : Fetched) → fetching past n ≡ Some f
    → hop past n ≡ Some (record { pc = f.pc; next = following_pc (completion past n) f.predicted })
first_hop past n f at = ap (λ o. hop_of o (completion past n)) at

pub next-pc : (setup : Setup) (harts : List ℕ) (before : Run) → run setup harts ≡ Some before
    → (h : ℕ) (past : List Event) → is_legal setup past → is_going past h ≡ true
    → order past ≡ harts → (n at : ℕ) → IsAlone past h n at → 1 ≤ at → at ≤ 5
    → (f : Fetched) → fetching past n ≡ Some f → f.pc ≡ before.state.pcs h
next-pc setup harts before runs h past legal goes in_order n at alone low high f fetched =
    let one : Hop = record { pc = f.pc; next = following_pc (completion past n) f.predicted } in
    let front : one.pc ≡ retired_pc setup past h =
    chain-front (hop past) (live past h) n one (live-oldest setup past legal h n at alone low high)
    (first_hop past n f fetched) (retired_pc setup past h) (fetch_pc setup past h)
    (chained setup past legal h goes) in
    let k = sequential setup past legal in
    let same : before ≡ k.ran = some_one before k.ran (sym runs ∙ (ap (run setup) (sym in_order) ∙ k.runs)) in
    front ∙ (sym (k.pcs h) ∙ ap (λ z. z.state.pcs h) (sym same))

-- Memory has the word that the plain machine's has.
pub same-word : (setup : Setup) (harts : List ℕ) (before : Run) → run setup harts ≡ Some before
    → (past : List Event) → is_legal setup past → order past ≡ harts → (pc : ℕ)
    → word_now setup.image (byte_at setup past) pc ≡ word_now setup.image before.state.bytes pc
same-word setup harts before runs past legal in_order pc =
    let k = sequential setup past legal in
    let same : before ≡ k.ran = some_one before k.ran (sym runs ∙ (ap (run setup) (sym in_order) ∙ k.runs)) in
    word_now-same setup.image (byte_at setup past) before.state.bytes
    (λ a. sym (k.bytes a) ∙ ap (λ z. z.state.bytes a) (sym same)) pc

pub next-op : (setup : Setup) (harts : List ℕ) (before : Run) → run setup harts ≡ Some before
    → (h : ℕ) → GoesOn setup harts h → code_writable setup.image ≡ false → (past : List Event) → is_legal setup past
    → order past ≡ harts → (n at : ℕ) → IsAlone past h n at → 1 ≤ at → at ≤ 5
    → op_at past n ≡ op_at_pc setup before.state h
next-op setup harts before runs h goes fixed past legal in_order n at alone low high =
    let stands = alone.stands in
    let found = known_fetched setup past legal n (omega arith) in
    let f = found.fetch in
    let pc : f.pc ≡ before.state.pcs h =
    next-pc setup harts before runs h past legal (goes past legal in_order) in_order n at alone low high f
    found.fetched in
    let word : f.word ≡ word_now setup.image before.state.bytes f.pc =
    never_stale setup fixed past legal n f found.fetched
    ∙ same-word setup harts before runs past legal in_order f.pc in
    ap op_of_fetched found.fetched
    ∙ (ap op_of_word word
    ∙ ap (λ z. op_of_word (word_now setup.image before.state.bytes z)) pc)

-- ---- Rest

-- What a core has between turns, after these asks, in at most so many events.
pub record IsAtRest (setup : Setup) (predict : Predictor) (asks : List Ask) (harts : List ℕ) (most : ℕ)
    : Type 0 where
  pub past : List Event
  pub so : IsSoFar setup predict asks harts past most
  pub rested : IsRested past
  pub jobs : NoJobs past
  pub waiting : AllWait setup past

pub so-wider : (setup : Setup) (predict : Predictor) (asks : List Ask) (harts : List ℕ) (past : List Event)
    → (most more : ℕ) → most ≤ more → IsSoFar setup predict asks harts past most
    → IsSoFar setup predict asks harts past more
so-wider setup predict asks harts past most more wider so =
    let count = so.count in
    record {
      legal = so.legal;
      decided = so.decided;
      replied = so.replied;
      in_order = so.in_order;
      count = omega arith;
    }

unfoldable pub rest-wider : (setup : Setup) (predict : Predictor) (asks : List Ask) (harts : List ℕ) (most more : ℕ)
    → most ≤ more → IsAtRest setup predict asks harts most → IsAtRest setup predict asks harts more
rest-wider setup predict asks harts most more wider rest = record {
  past = rest.past;
  so = so-wider setup predict asks harts rest.past most more wider rest.so;
  rested = rest.rested;
  jobs = rest.jobs;
  waiting = rest.waiting;
}

-- ---- Step by step

pub own_answer : (past : List Event) (h n : ℕ) → is_of past h n ≡ true → ((0 == 0) && is_of past h n) ≡ true
own_answer past h n of_n = of_n

decoded : (setup : Setup) (predict : Predictor) (asks : List Ask) (harts : List ℕ) (h most : ℕ)
    → is_actor setup 0 ≡ true → (rest : IsAtRest setup predict asks harts most) → (n : ℕ) (more : List ℕ)
    → in_decode rest.past h ≡ n ∷ more
    → IsInTurn setup predict (AskDecode 0 h ∷ asks) harts h n rest.past 2 (suc most) NoJobs
decoded setup predict asks harts h most is_one rest n more latch =
    let past = rest.past in
    let legal = rest.so.legal in
    let e = Decode 0 n in
    let it = is_parked setup past legal h n more latch in
    let ok = decode-ok setup past legal rest.rested 0 h n is_one more latch in
    record {
      past = e ∷ past;
      so = answered setup predict asks harts harts past most rest.so (AskDecode 0 h) e ok
          (own_answer past h n it.of_hart) tt rest.so.in_order;
      alone = decode-alone setup past legal rest.rested 0 h n more latch;
      same = refl;
      memory = refl;
      keeps = record {
        others = λ g apart.
            latch-other setup past legal e h n it.of_hart (event-Decode past 0 h n) g apart;
        own = λ few.
            let leaves = ap length (leaves-Decode setup past legal 0 n ok h it.of_hart) in
            empty_list (in_decode (e ∷ past) h) (omega arith);
        going = λ g apart. refl;
        fetched = λ s. refl;
      };
      waiting = others-wait setup past legal e h n it.of_hart (event-Decode past 0 h n)
          (λ g there apart going. rest.waiting g there going);
      jobs = rest.jobs;
    }

renamed : (setup : Setup) (predict : Predictor) (asks : List Ask) (harts : List ℕ) (h n : ℕ) (from : List Event)
    → (most : ℕ) → is_actor setup 0 ≡ true → 1 ≤ setup.extra → 1 ≤ setup.queue
    → IsInTurn setup predict asks harts h n from 2 most NoJobs
    → IsInTurn setup predict (AskRename 0 h ∷ asks) harts h n from 3 (suc most) NoJobs
renamed setup predict asks harts h n from most is_one spare place turn =
    let past = turn.past in
    let take = taking setup past (op_at past n) spare (nothing_flies past h n turn.alone) in
    let e = Rename 0 n take.register in
    let ok = rename-ok setup past turn.so.legal place 0 h n is_one turn.alone take in
    let by = event-Rename past 0 h n take.register in
    let now = stage-Rename past 0 n take.register turn.alone.stands in
    record {
      past = e ∷ past;
      so = answered setup predict asks harts harts past most turn.so (AskRename 0 h) e ok
          (own_answer past h n turn.alone.of_hart) take.least turn.so.in_order;
      alone = alone-next past e h n 2 3 turn.alone by now;
      same = turn.same;
      memory = turn.memory;
      keeps = latches-next setup from past turn.so.legal e h n turn.alone.of_hart by (λ s. refl) (omega arith)
          turn.keeps;
      waiting = others-wait setup past turn.so.legal e h n turn.alone.of_hart by turn.waiting;
      jobs = turn.jobs;
    }

-- The oldest in the latch is decoded, renamed, issued and completed.
pub executed : (setup : Setup) (predict : Predictor) (asks : List Ask) (harts : List ℕ) (h most : ℕ)
    → is_actor setup 0 ≡ true → 1 ≤ setup.extra → 1 ≤ setup.queue → (rest : IsAtRest setup predict asks harts most)
    → (n : ℕ) (more : List ℕ) → in_decode rest.past h ≡ n ∷ more → HasUnitFor setup (op_at rest.past n)
    → IsInTurn setup predict (unit_asks setup (AskRename 0 h ∷ AskDecode 0 h ∷ asks)) harts h n rest.past 5
    (suc (suc (suc (suc most)))) NoJobs
executed setup predict asks harts h most is_one spare place rest n more latch unit =
    let one = decoded setup predict asks harts h most is_one rest n more latch in
    let three = renamed setup predict (AskDecode 0 h ∷ asks) harts h n rest.past (suc most) is_one spare place one in
    units-asked setup predict (AskRename 0 h ∷ AskDecode 0 h ∷ asks) harts h n rest.past (suc (suc most)) three unit

-- It has left, and its hart may have an empty latch.
pub record IsOver (setup : Setup) (predict : Predictor) (asks : List Ask) (harts : List ℕ) (h : ℕ) (from : List Event)
    (most : ℕ) : Type 0 where
  pub past : List Event
  pub so : IsSoFar setup predict asks harts past most
  pub rested : IsRested past
  pub jobs : NoJobs past
  pub waiting : OthersWait setup past h
  pub keeps : KeepsLatches from past h

-- Its word is the one that memory has at its pc at the start of the turn.
pub record IsFresh (setup : Setup) (from : List Event) (n : ℕ) : Type 0 where
  pub fetch : Fetched
  pub fetched : fetching from n ≡ Some fetch
  pub test : is_fresh setup from fetch ≡ true

pub retired : (setup : Setup) (predict : Predictor) (asks : List Ask) (harts : List ℕ) (h n : ℕ) (from : List Event)
    → (most : ℕ) → is_actor setup 0 ≡ true → IsInTurn setup predict asks harts h n from 5 most NoJobs
    → IsFresh setup from n → IsOver setup predict (AskRetire 0 h ∷ asks) (h ∷ harts) h from (suc most)
retired setup predict asks harts h n from most is_one turn fresh =
    let past = turn.past in
    let was = turn.alone.stands in
    let f = fresh.fetch in
    let at : fetching past n ≡ Some f = turn.same ∙ fresh.fetched in
    let test : is_fresh setup past f ≡ true =
    ap (λ (bytes : ℕ → ℕ). same_number f.word (word_now setup.image bytes f.pc)) turn.memory ∙ fresh.test in
    let x = effect_now setup past n f in
    let e = Retire 0 n x in
    let ok = retire-ok setup past turn.so.legal 0 h n is_one turn.alone f at test in
    let by = event-Retire past 0 h n x turn.alone.of_hart in
    let gone = stage-Retire past 0 n x was in
    let mine : f.hart ≡ h = is_of-one past f.hart h n (is_of_own past n f at) turn.alone.of_hart in
    record {
      past = e ∷ past;
      so = answered setup predict asks harts (h ∷ harts) past most turn.so (AskRetire 0 h) e ok
          (own_answer past h n turn.alone.of_hart) tt
          (order-Retire past 0 h n x f at mine ∙ ap (λ hs. h ∷ hs) turn.so.in_order);
      rested = rested-next past e h n 5 turn.alone by gone;
      jobs = turn.jobs;
      waiting = others-wait setup past turn.so.legal e h n turn.alone.of_hart by turn.waiting;
      keeps = latches-next setup from past turn.so.legal e h n turn.alone.of_hart by (λ s. refl) (omega arith)
          turn.keeps;
    }

-- Where its latch is empty, its hart is fetched: no other that goes has an empty one.
pub its_turn : (setup : Setup) (predict : Predictor) (asks : List Ask) (harts : List ℕ) (h : ℕ) (from : List Event)
    (most : ℕ) (over : IsOver setup predict asks harts h from most)
    → (next : IsFed setup predict asks harts over.past (suc most)) → IsFilled setup over.past next.now next.one
    → next.one ≡ h
its_turn setup predict asks harts h from most over next fill =
    elim (cases_eq next.one h) [
      | inl same ↦ same
      | inr apart ↦
          let waits = over.waiting next.one fill.there apart fill.going in
          let nothing : length (in_decode over.past next.one) ≡ 0 = ap length fill.empty in
          absurd (omega arith)
    ]

-- After the fetch every hart that goes has one in its latch.
pub refilled : (setup : Setup) (predict : Predictor) (asks : List Ask) (harts : List ℕ) (h : ℕ) (from : List Event)
    (most : ℕ) (over : IsOver setup predict asks harts h from most)
    → (next : IsFed setup predict asks harts over.past (suc most)) → AllWait setup next.now
refilled setup predict asks harts h from most over next g there going =
    let past = over.past in
    let went : is_going past g ≡ true = sym (next.going g) ∙ going in
    let grows = next.grows g in
    elim (cases_lt 0 (length (in_decode past g))) [
      | inl some ↦ omega arith
      | inr none ↦
          let empty = empty_list (in_decode past g) none in
          let fill = next.fills g there went empty in
          let its_own : g ≡ h =
          elim (cases_eq g h) [
            | inl same ↦ same
            | inr apart ↦ let waits = over.waiting g there apart went in absurd (omega arith)
          ] in
          subst (λ z. 1 ≤ length (in_decode next.now z))
          (its_turn setup predict asks harts h from most over next fill ∙ sym its_own) fill.filled
    ]

-- A fetch, and there is rest.
unfoldable pub rest_fed : (setup : Setup) (predict : Predictor) (asks : List Ask) (harts : List ℕ) (h : ℕ)
    (from : List Event)
    (most : ℕ) (over : IsOver setup predict asks harts h from most)
    → IsFed setup predict asks harts over.past (suc most) → IsAtRest setup predict (AskFetch 0 ∷ asks) harts (suc most)
rest_fed setup predict asks harts h from most over next = record {
  past = next.now;
  so = next.so;
  rested = next.rested;
  jobs = next.jobs;
  waiting = refilled setup predict asks harts h from most over next;
}

pub over_fed : (setup : Setup) (predict : Predictor) (asks : List Ask) (harts : List ℕ) (h : ℕ) (from : List Event)
    (most : ℕ) → is_actor setup 0 ≡ true → (over : IsOver setup predict asks harts h from most)
    → IsFed setup predict asks harts over.past (suc most)
over_fed setup predict asks harts h from most is_one over =
    fed setup predict asks harts over.past most over.so over.rested over.jobs is_one

-- ---- The turn, where the code may not be written

abbrev pub six_more : ℕ → ℕ
six_more n = suc (suc (suc (suc (suc (suc n)))))

turned_by : (setup : Setup) (predict : Predictor) (asks : List Ask) (harts : List ℕ) (h most : ℕ)
    → is_actor setup 0 ≡ true
    → 1 ≤ setup.extra → 1 ≤ setup.queue → code_writable setup.image ≡ false → (op : Op) → HasUnitFor setup op
    → ((past : List Event) (n at : ℕ) → is_legal setup past → order past ≡ harts → IsAlone past h n at → 1 ≤ at
    → at ≤ 5 → op_at past n ≡ op)
    → (rest : IsAtRest setup predict asks harts most) → 1 ≤ length (in_decode rest.past h)
    → (latch : List ℕ) → in_decode rest.past h ≡ latch
    → IsAtRest setup predict (turn_asks setup.roles h asks) (h ∷ harts) (six_more most)
turned_by setup predict asks harts h most is_one spare place fixed op unit is_op rest waits [] latch =
    let none : length (in_decode rest.past h) ≡ 0 = ap length latch in absurd (omega arith)
turned_by setup predict asks harts h most is_one spare place fixed op unit is_op rest waits (n ∷ more) latch =
    let past = rest.past in
    let legal = rest.so.legal in
    let two = AskRename 0 h ∷ AskDecode 0 h ∷ asks in
    let ok = decode-ok setup past legal rest.rested 0 h n is_one more latch in
    let alone = decode-alone setup past legal rest.rested 0 h n more latch in
    let same : op_at past n ≡ op =
    is_op (Decode 0 n ∷ past) n 2 (ok, legal) rest.so.in_order alone (omega arith) (omega arith) in
    let five = executed setup predict asks harts h most is_one spare place rest n more latch
    (subst (HasUnitFor setup) (sym same) unit) in
    let found = known_fetched setup past legal n
    (known setup past legal h n (is_parked setup past legal h n more latch).of_hart) in
    let over = retired setup predict (unit_asks setup two) harts h n past (suc (suc (suc (suc most)))) is_one five
    (record {
      fetch = found.fetch;
      fetched = found.fetched;
      test = subst (λ w. same_number found.fetch.word w ≡ true)
          (never_stale setup fixed past legal n found.fetch found.fetched) (same_number-self found.fetch.word);
    }) in
    let last = AskRetire 0 h ∷ unit_asks setup two in
    rest_fed setup predict last (h ∷ harts) h past (suc (suc (suc (suc (suc most))))) over
    (over_fed setup predict last (h ∷ harts) h past (suc (suc (suc (suc (suc most))))) is_one over)

pub turned : (setup : Setup) (predict : Predictor) (asks : List Ask) (harts : List ℕ) (h most : ℕ)
    → is_actor setup 0 ≡ true
    → 1 ≤ setup.extra → 1 ≤ setup.queue → code_writable setup.image ≡ false → (op : Op) → HasUnitFor setup op
    → ((past : List Event) (n at : ℕ) → is_legal setup past → order past ≡ harts → IsAlone past h n at → 1 ≤ at
    → at ≤ 5 → op_at past n ≡ op)
    → (rest : IsAtRest setup predict asks harts most) → 1 ≤ length (in_decode rest.past h)
    → IsAtRest setup predict (turn_asks setup.roles h asks) (h ∷ harts) (six_more most)
turned setup predict asks harts h most is_one spare place fixed op unit is_op rest waits =
    turned_by setup predict asks harts h most is_one spare place fixed op unit is_op rest waits
    (in_decode rest.past h) refl
