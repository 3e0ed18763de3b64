-- What a completion changes that goes elsewhere than predicted: it completes and sends its hart to the new pc, then all
-- younger ones are squashed. The picture in between is of no history.
use Rattle.std.specs.Prelude.{◌≡◌, ◌≢◌, ℕ, ◌≤◌, Bool, true, false, ◌==◌, ◌&&◌, nat_lt, if◌then◌else◌, List, ◌∷◌, Some}
use Rattle.std.specs.Prelude.{None}
use Rattle.std.proofs.Common.{◌∙◌, refl, sym, ap, subst, inl, inr, arith}
use Rattle.std.proofs.{lemmas.Bool.cases_eq, lemmas.Bool.Decides.nat_tests}
use Rattle.numbers.specs.Sizes.{most_registers}
use Rattle.rv_instr.specs.declared.op.Op.{Op}
use Rattle.events.specs.{declared.effect.Outcome.Outcome, declared.event.Event.Event}
use Rattle.events.specs.{declared.event.Event.TheVariants.Complete}
use Rattle.smt_model.specs.{Setup.Setup, Setup.registers_of, Kinds.first_source, Kinds.second_source, Flights.flight}
use Rattle.smt_model.specs.{Rules.refused, Rules.is_legal, Jobs.job, Picture.Picture, Picture.picture}
use Rattle.smt_model.specs.{Picture.source_register_in, Fetching.fetch_pc, Nexts.pc_after}
use Rattle.smt_model.specs.Fates.{Fate, Renamed, Completed, stage, fate, fetching, is, is_in_flight, is_of, completion}
use Rattle.smt_model.specs.Fates.{mispredicts, same_hart}
use Rattle.smt_model.specs.Registers.{phys, committed, value, reads}
use Rattle.smt_laws.proofs.{Staying.another, Registers.Committing.committed-kept}
use Rattle.smt_laws.proofs.{Registers.Committing.committer-Complete, Events.Calm.completion-other}
use Rattle.smt_model.proofs.{Fates.Moves.complete_lent, Fates.Numbers.same_hart-at}
use Rattle.smt_laws.proofs.Steps.Drop.{job_done}
use Rattle.smt_laws.proofs.Events.Mapping.{youngest-same}
use Rattle.smt_model.specs.Steps.{IsSameHart, HasCompleted, IsSquash, IsMisprediction, IsSameInstruction, ReadsTheSame}
use Rattle.smt_model.specs.Steps.{woken_reading, filled_value, up_to}
use Rattle.smt_laws.proofs.Steps.Complete.{now-Complete, was-Complete, completion-Complete, no_value, values-Complete}
use Rattle.smt_laws.proofs.Steps.Complete.{readings-Complete, untouched-Complete}
use Rattle.smt_laws.proofs.Events.Squash.{IsSquashing, squash_other, in_decode-squash, in_rename-squash, flight-squash}
use Rattle.smt_laws.proofs.Events.Squash.{icount-squash, queue-squash, mapped-squash, apart}
use Rattle.smt_laws.proofs.Events.SquashedRegisters.{are_own, flight-rises, flight-owns, IsGiving, free-squash}

-- n has completed, its hart goes on at the new pc, and its younger ones are still there.
abbrev pub misprediction_middle : Setup → List Event → ℕ → ℕ → ℕ → Outcome → ℕ → Picture
misprediction_middle setup past h n k o goes_on = record (picture setup past) {
  fate = λ s. if s == n then Completed else fate past s;
  completion = λ s. if s == n then Some o else completion past s;
  reads = λ which s. woken_reading (phys past n) o.value (source_register_in past which s (fetching past s))
      (reads setup which past s);
  fetch_pc = λ g. if g == h then goes_on else fetch_pc setup past g;
  value = λ x. filled_value (phys past n) o.value x (value setup past x);
  job = λ j. if j == k then None else job past j;
}

pub at_own : {A : Type 0} → (n : ℕ) (x y : A) → (if n == n then x else y) ≡ x
at_own n x y = let same : (n == n) ≡ true = grind (arith, nat_tests) in rw same refl

pub at_other : {A : Type 0} → (s n : ℕ) (x y : A) → s ≢ n → (if s == n then x else y) ≡ y
at_other s n x y other = let apart_too : (s == n) ≡ false = grind (arith, nat_tests) in rw apart_too refl

-- ---- The first half

completes : (setup : Setup) (past : List Event) → is_legal setup past → (actor n : ℕ) (o : Outcome)
    → refused setup past (Complete actor n o) ≡ None
    → (h goes_on : ℕ) → is_of past h n ≡ true
    → HasCompleted (picture setup past) (misprediction_middle setup past h n actor o goes_on) h n actor o goes_on
completes setup past legal actor n o ok h goes_on of_n = record {
  of_hart = of_n;
  lent = complete_lent setup past actor n o ok;
  waited = was-Complete setup past legal actor n o ok;
  fate = at_own n Completed (fate past n);
  phys = refl;
  completion = at_own n (Some o) (completion past n);
  untouched = untouched-Complete setup past legal actor n o ok;
  fetch_pc = at_own h goes_on (fetch_pc setup past h);
  no_value = no_value setup past legal actor n o ok;
  values = λ x claimed. refl;
  readings = λ s waits. ((refl, refl), (refl, refl));
  job = λ j. refl;
  flights = λ t flies other. record {
    fate = at_other t n Completed (fate past t) other;
    phys = refl;
    completion = at_other t n (Some o) (completion past t) other;
  };
  stays = record {
    hart = record {
      in_decode = refl;
      in_rename = refl;
      flight = refl;
      icount = refl;
      mapped = λ r low high. refl;
      committed = λ r low high. refl;
      fetch_pc = tt;
      status = refl;
    };
    others = λ g other. record {
      in_decode = refl;
      in_rename = refl;
      flight = refl;
      icount = refl;
      mapped = λ r low high. refl;
      committed = λ r low high. refl;
      fetch_pc = at_other g h goes_on (fetch_pc setup past g) other;
      status = refl;
    };
    shared = record {
      kept = λ s f at. at;
      operands = λ k s before now. (refl, refl);
      queue = refl;
      free = λ x. refl;
      values = tt;
      readings = tt;
      job = tt;
      fetches = record { fetched = λ s. refl; fetches = refl; last_fetched = refl };
      records = refl;
      output = refl;
      memory = record { byte = λ addr. refl; reserved = λ g. refl; touched = λ s. refl; looks = refl };
    };
  };
}

-- ---- The second half

pub squashing-Complete : (setup : Setup) (past : List Event) → is_legal setup past → (actor n : ℕ) (o : Outcome)
    → refused setup past (Complete actor n o) ≡ None
    → mispredicts past n o.next ≡ true → (h : ℕ) → is_of past h n ≡ true → IsSquashing past (Complete actor n o) h
squashing-Complete setup past legal actor n o ok mispredicted_next h of_n = record {
  of_hart = of_n;
  flew = ap is_in_flight (was-Complete setup past legal actor n o ok);
  late = subst (λ f. 5 ≤ stage f) (sym (now-Complete setup past legal actor n o ok)) (omega arith);
  squashes_it = λ s other. ap (λ b. b && (nat_lt n s && same_hart past n s)) mispredicted_next
      ∙ ap (λ b. nat_lt n s && b) (same_hart-at past h n s of_n);
  adds_none = λ g. refl;
  adds_no_number = refl;
}

commits-Complete : (setup : Setup) (past : List Event) → is_legal setup past → (actor n : ℕ) (o : Outcome)
    → refused setup past (Complete actor n o) ≡ None
    → (g r : ℕ) → committed (Complete actor n o ∷ past) g r ≡ committed past g r
commits-Complete setup past legal actor n o ok g r =
    committed-kept setup past legal (Complete actor n o) ok g r (committer-Complete setup past legal actor n o ok g r)

giving-Complete : (setup : Setup) (past : List Event) → is_legal setup past → (actor n : ℕ) (o : Outcome)
    → refused setup past (Complete actor n o) ≡ None
    → mispredicts past n o.next ≡ true → (h : ℕ) → is_of past h n ≡ true → IsGiving setup past (Complete actor n o) h
giving-Complete setup past legal actor n o ok mispredicted_next h of_n = record {
  squashing = squashing-Complete setup past legal actor n o ok mispredicted_next h of_n;
  still = ap is_in_flight (now-Complete setup past legal actor n o ok);
  names = λ s. refl;
  commits = commits-Complete setup past legal actor n o ok;
}

goes_on_at : (setup : Setup) (past : List Event) (actor n : ℕ) (o : Outcome) → mispredicts past n o.next ≡ true
    → (h : ℕ) → is_of past h n ≡ true
    → fetch_pc setup (Complete actor n o ∷ past) h ≡ pc_after o.next (fetch_pc setup past h)
goes_on_at setup past actor n o mispredicted_next h of_n = rw (of_n, mispredicted_next) refl

stays_at : (setup : Setup) (past : List Event) (actor n : ℕ) (o : Outcome) (g : ℕ) → is_of past g n ≡ false
    → fetch_pc setup (Complete actor n o ∷ past) g ≡ fetch_pc setup past g
stays_at setup past actor n o g apart_too = rw apart_too refl

pub spared_upto : (n t : ℕ) (mine : Bool) → (mine ≡ true → t ≤ n) → (nat_lt n t && mine) ≡ false
spared_upto n t true upto = let under = upto refl in grind (arith, nat_tests)
spared_upto n t false upto = grind (arith, nat_tests)

not_renamed_own : (s n : ℕ) (f : Fate) → is (if s == n then Completed else f) Renamed ≡ true → s ≢ n
not_renamed_own s n f waits same = grind (arith, nat_tests)

-- Those that aren't squashed are as they were in between.
same_again : (setup : Setup) (past : List Event) → is_legal setup past → (actor n : ℕ) (o : Outcome)
    → (ok : refused setup past (Complete actor n o) ≡ None)
    → (h goes_on : ℕ) → IsSquashing past (Complete actor n o) h → (t : ℕ) → (is_of past h t ≡ true → t ≤ n)
    → IsSameInstruction (misprediction_middle setup past h n actor o goes_on)
    (picture setup (Complete actor n o ∷ past)) t
same_again setup past legal actor n o ok h goes_on squashing t upto =
    elim (cases_eq t n) [
      | inl here ↦ record {
        fate =
            ap (fate (Complete actor n o ∷ past)) here
            ∙ (now-Complete setup past legal actor n o ok
            ∙ sym (ap (λ z. if z == n then Completed else fate past z) here ∙ at_own n Completed (fate past n)));
        phys = refl;
        completion =
            ap (completion (Complete actor n o ∷ past)) here
            ∙ (completion-Complete past actor n o
            ∙ sym (ap (λ z. if z == n then Some o else completion past z) here
            ∙ at_own n (Some o) (completion past n)));
      }
      | inr other ↦ record {
        fate =
            squash_other past (Complete actor n o) h squashing t (λ same. other (sym same))
            (spared_upto n t (is_of past h t) upto)
            ∙ sym (at_other t n Completed (fate past t) other);
        phys = refl;
        completion = completion-other (Complete actor n o) past t (λ same. other (sym same))
            ∙ sym (at_other t n (Some o) (completion past t) other);
      }
    ]

reads_again : (setup : Setup) (past : List Event) → is_legal setup past → (actor n : ℕ) (o : Outcome)
    → refused setup past (Complete actor n o) ≡ None
    → (h goes_on : ℕ) → (which : Op → ℕ) (s : ℕ) → is (if s == n then Completed else fate past s) Renamed ≡ true
    → is (fate (Complete actor n o ∷ past) s) Renamed ≡ true
    → ReadsTheSame (misprediction_middle setup past h n actor o goes_on)
    (picture setup (Complete actor n o ∷ past)) which s
reads_again setup past legal actor n o ok h goes_on which s waits still =
    let other : s ≢ n = not_renamed_own s n (fate past s) waits in
    let waited : is (fate past s) Renamed ≡ true =
    sym (ap (λ f. is f Renamed) (at_other s n Completed (fate past s) other)) ∙ waits in
    let both_same = readings-Complete setup past legal actor n o ok which s waited still in
    record { seen = both_same.0; reads = both_same.1 }

others_mispredict : (setup : Setup) (past : List Event) → is_legal setup past → (actor n : ℕ) (o : Outcome)
    → (ok : refused setup past (Complete actor n o) ≡ None)
    → (h g goes_on : ℕ) → IsSquashing past (Complete actor n o) h → is_of past h n ≡ true → g ≢ h
    → IsSameHart (misprediction_middle setup past h n actor o goes_on) (picture setup (Complete actor n o ∷ past)) g
others_mispredict setup past legal actor n o ok h g goes_on squashing of_n other =
    let same = apart setup past legal (Complete actor n o) ok h g squashing other (λ s. refl) (λ s. refl)
    (commits-Complete setup past legal actor n o ok g)
    (stays_at setup past actor n o g (another past h g n of_n other)) refl in
    record {
      in_decode = same.in_decode;
      in_rename = same.in_rename;
      flight = same.flight;
      icount = same.icount;
      mapped = same.mapped;
      committed = same.committed;
      fetch_pc = same.fetch_pc ∙ sym (at_other g h goes_on (fetch_pc setup past g) other);
      status = same.status;
    }

squashes_rest : (setup : Setup) (past : List Event) → is_legal setup past → (actor n : ℕ) (o : Outcome)
    → (ok : refused setup past (Complete actor n o) ≡ None)
    → registers_of setup ≤ most_registers → mispredicts past n o.next ≡ true → (h : ℕ) → is_of past h n ≡ true
    → IsSquash (misprediction_middle setup past h n actor o (pc_after o.next (fetch_pc setup past h)))
    (picture setup (Complete actor n o ∷ past)) h n
squashes_rest setup past legal actor n o ok fits mispredicted_next h of_n =
    let e = Complete actor n o in
    let goes_on = pc_after o.next (fetch_pc setup past h) in
    let squashing = squashing-Complete setup past legal actor n o ok mispredicted_next h of_n in
    let owns = flight-owns setup past legal fits h in
    let flies = flight-squash setup past legal e ok h squashing
    (ap is_in_flight (now-Complete setup past legal actor n o ok)) in
    let commits = commits-Complete setup past legal actor n o ok in
    record {
      own = are_own (misprediction_middle setup past h n actor o goes_on) (flight past h)
          (flight-rises setup past legal h)
          (record { range = owns.range; claimed = owns.claimed; once = owns.once });
      in_decode = in_decode-squash setup past legal e ok h squashing;
      in_rename = in_rename-squash setup past legal e ok h squashing;
      flight = flies;
      icount =
          icount-squash setup past legal e ok h squashing (λ s. is (if s == n then Completed else fate past s) Renamed)
          (λ s under. ap (λ f. is f Renamed) (at_other s n Completed (fate past s) (λ same. absurd (omega arith))))
          (ap (λ f. is f Renamed) (at_own n Completed (fate past n)));
      mapped = λ r low high.
          mapped-squash setup past legal e ok h r low (up_to n (flight past h)) flies (commits h r)
          ∙ youngest-same (picture setup (e ∷ past)) (misprediction_middle setup past h n actor o goes_on) r
          (up_to n (flight past h)) (committed past h r)
          (λ s m. refl) (λ s m. refl);
      queue = queue-squash setup past legal e ok h squashing
          (ap (λ f. is f Renamed) (was-Complete setup past legal actor n o ok));
      free =
          free-squash setup past legal e ok h (giving-Complete setup past legal actor n o ok mispredicted_next h of_n);
      flights = λ t in_flight upto. same_again setup past legal actor n o ok h goes_on squashing t upto;
      stays = record {
        hart = record {
          in_decode = tt;
          in_rename = tt;
          flight = tt;
          icount = tt;
          mapped = tt;
          committed = λ r low high. commits h r;
          fetch_pc =
              goes_on_at setup past actor n o mispredicted_next h of_n ∙ sym (at_own h goes_on (fetch_pc setup past h));
          status = refl;
        };
        others = λ g other. others_mispredict setup past legal actor n o ok h g goes_on squashing of_n other;
        shared = record {
          kept = λ s f at. at;
          operands = λ k s before now. (refl, refl);
          queue = tt;
          free = tt;
          values = λ x claimed. values-Complete setup past legal actor n o ok x;
          readings = λ s waits still. (
            reads_again setup past legal actor n o ok h goes_on first_source s waits still,
            reads_again setup past legal actor n o ok h goes_on second_source s waits still,
          );
          job = λ j. job_done actor j (job past j);
          fetches = record { fetched = λ s. refl; fetches = refl; last_fetched = refl };
          records = refl;
          output = refl;
          memory = record { byte = λ addr. refl; reserved = λ g. refl; touched = λ s. refl; looks = refl };
        };
      };
    }

pub steps-Misprediction : (setup : Setup) (past : List Event) → is_legal setup past → (actor n : ℕ) (o : Outcome)
    → refused setup past (Complete actor n o) ≡ None
    → registers_of setup ≤ most_registers → mispredicts past n o.next ≡ true → (h : ℕ) → is_of past h n ≡ true
    → IsMisprediction (picture setup past) (picture setup (Complete actor n o ∷ past)) h n actor o
    (pc_after o.next (fetch_pc setup past h))
steps-Misprediction setup past legal actor n o ok fits mispredicted_next h of_n = record {
  middle = misprediction_middle setup past h n actor o (pc_after o.next (fetch_pc setup past h));
  complete = completes setup past legal actor n o ok h (pc_after o.next (fetch_pc setup past h)) of_n;
  squash = squashes_rest setup past legal actor n o ok fits mispredicted_next h of_n;
}
