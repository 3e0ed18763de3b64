-- A retirement of a load that has another value now, as two steps of pictures: all younger ones of its hart are
-- squashed, then it retires and its hart goes on behind it.
use Rattle.std.specs.Prelude.{◌≡◌, ◌≢◌, ℕ, ◌<◌, ◌≤◌, Bool, true, false, not, ◌==◌, ◌&&◌, ◌||◌, nat_lt, if◌then◌else◌}
use Rattle.std.specs.Prelude.{List, [], ◌∷◌, None, is_some}
use Rattle.std.proofs.Common.{◌∙◌, refl, sym, ap, subst, arith}
use Rattle.std.proofs.lemmas.Bool.Decides.{nat_tests}
use Rattle.rv_instr.specs.declared.op.Op.{Op}
use Rattle.events.specs.{declared.effect.Effect.Effect, declared.event.Event.Event}
use Rattle.events.specs.{declared.event.Event.TheVariants.Retire}
use Rattle.smt_model.specs.{Basics.how_many, Setup.Setup, Setup.registers_of, Kinds.destination, Kinds.first_source}
use Rattle.smt_model.specs.{Kinds.second_source, Registers.phys, Registers.mapped, Registers.committed, Rules.refused}
use Rattle.smt_model.specs.{Rules.is_legal, Picture.picture, Picture.is_free, Nexts.is_last, Nexts.pc_after}
use Rattle.smt_model.specs.{Fetching.fetch_pc}
use Rattle.smt_model.specs.Fates.{Fate, Renamed, Completed, fate, is, is_in_flight, is_of, op_at}
use Rattle.smt_model.specs.Fates.{squashes_at_retirement, squashed_fate}
use Rattle.smt_model.specs.Flights.{in_decode, in_rename, flight, icount}
use Rattle.smt_laws.proofs.{Events.Freeing.is_flying, Events.Freeing.true_false, Registers.Below.first_source-below}
use Rattle.smt_laws.proofs.{Registers.Below.second_source-below, Registers.Operands.IsSourceName}
use Rattle.smt_laws.proofs.{Events.Filling.reads-woken, Events.Mapping.mapped-is, Steps.Misprediction.at_own}
use Rattle.smt_laws.proofs.{Steps.Misprediction.at_other, Staying.another, Events.Emptying.not_read}
use Rattle.smt_laws.proofs.Events.Emptying.{squashing-Retire, emptying-Retire, flight-emptied}
use Rattle.std.specs.List.{list_any}
use Rattle.numbers.specs.Sizes.{most_registers}
use Rattle.smt_model.specs.Steps.{IsSameHart, IsRetire, IsReplay, WakesReadings, up_to, beyond, youngest, has_register}
use Rattle.smt_laws.proofs.Steps.RetireCommits.{was-Retire, result-Retire, committed-other, committed-Retire}
use Rattle.smt_laws.proofs.Steps.RetireCommits.{writes_elsewhere, fits, own_register}
use Rattle.smt_laws.proofs.Steps.Retire.{values-Retire, records-Retire, status-Retire, replaced}
use Rattle.smt_laws.proofs.Events.Squash.{IsSquashing, squash_other, in_decode-squash, in_rename-squash, queue-squash}
use Rattle.smt_laws.proofs.Events.Squash.{apart}
use Rattle.smt_laws.proofs.Steps.ReplaySquash.{replay_middle, squash_first, same_again, only_one, waiting_one}
use Rattle.smt_laws.proofs.Steps.ReplaySquash.{none_beyond, free-Replay, squash_lands, swapped}

-- ---- Readings: nobody who is left reads its register

waits_still : (test : Bool) (f : Fate) → is (if test then squashed_fate f else f) Renamed ≡ true → is f Renamed ≡ true
waits_still true f waits = grind (arith, nat_tests)
waits_still false f waits = waits

waits_flies : (f : Fate) → is f Renamed ≡ true → is_in_flight f ≡ true
waits_flies f waits = grind (arith, nat_tests)

completed_waits : (f : Fate) → f ≡ Completed → is f Renamed ≢ true
completed_waits f at waits =
    let not_so : is f Renamed ≡ false = ap (λ g. is g Renamed) at in absurd (true_false (sym waits ∙ not_so))

reads-Replay : (setup : Setup) (past : List Event) → is_legal setup past → (actor n : ℕ) (x : Effect)
    → (ok : refused setup past (Retire actor n x) ≡ None) → (h : ℕ) → IsSquashing past (Retire actor n x) h
    → (which : Op → ℕ) → IsSourceName which
    → (s : ℕ) → is (if is_of past h s && nat_lt n s then squashed_fate (fate past s) else fate past s) Renamed ≡ true
    → WakesReadings (replay_middle setup past h n) (picture setup (Retire actor n x ∷ past))
    (phys past n) x.value which s
reads-Replay setup past legal actor n x ok h squashing which names s waits =
    let e = Retire actor n x in
    let test = is_of past h s && nat_lt n s in
    let waited = waits_still test (fate past s) waits in
    let spared_it = squash_lands test (fate past s)
    (waits_flies (if test then squashed_fate (fate past s) else fate past s) waits) in
    let other : n ≢ s =
    (λ same. let at = was-Retire setup past actor n x ok in
    absurd (completed_waits (fate past s) (subst (λ z. fate past z ≡ Completed) same at) waited)) in
    let kept : fate (e ∷ past) s ≡ fate past s =
    squash_other past e h squashing s other (swapped (is_of past h s) (nat_lt n s) spared_it) in
    let flying = is_flying setup past legal e ok s (waits_flies (fate past s) waited)
    (ap is_in_flight kept ∙ waits_flies (fate past s) waited) in
    subst (λ v. WakesReadings (picture setup past) (picture setup (e ∷ past)) (phys past n) v which s)
    (result-Retire past actor n x)
    (reads-woken setup past legal e ok (λ y. refl) (ap is_in_flight (was-Retire setup past actor n x ok)) which s flying
    (λ w some named held. absurd (not_read setup past legal e ok h squashing which names s flying some named)))

-- ---- The hart

own_map : (setup : Setup) (past : List Event) → is_legal setup past → (actor n : ℕ) (x : Effect)
    → (ok : refused setup past (Retire actor n x) ≡ None) → is_last x.next ≡ false → (h : ℕ)
    → IsSquashing past (Retire actor n x) h → is_of past h n ≡ true
    → (r : ℕ) → 1 ≤ r
    → mapped (Retire actor n x ∷ past) h r ≡ youngest (picture setup past) r (up_to n (flight past h))
    (committed past h r)
own_map setup past legal actor n x ok going h squashing of_n r low =
    let e = Retire actor n x in
    mapped-is setup (e ∷ past) (ok, legal) h r low
    ∙ (ap (λ xs. youngest (picture setup (e ∷ past)) r xs (committed (e ∷ past) h r))
    (flight-emptied setup past legal e ok h (emptying-Retire setup past actor n x ok h squashing))
    ∙ (committed-Retire setup past legal actor n x ok going h r low of_n
    ∙ ap (λ xs. youngest (picture setup past) r xs (committed past h r))
    (sym (only_one setup past legal actor n x ok h of_n))))

pc-own : (setup : Setup) (past : List Event) (actor n h : ℕ) (x : Effect) → is_of past h n ≡ true
    → squashes_at_retirement past n x ≡ true
    → fetch_pc setup (Retire actor n x ∷ past) h ≡ pc_after x.next (fetch_pc setup past h)
pc-own setup past actor n h x of_n squashes_now = rw (of_n, squashes_now) refl

pc-other : (setup : Setup) (past : List Event) (actor n g : ℕ) (x : Effect) → is_of past g n ≡ false
    → fetch_pc setup (Retire actor n x ∷ past) g ≡ fetch_pc setup past g
pc-other setup past actor n g x apart_too = rw apart_too refl

others-Replay : (setup : Setup) (past : List Event) → is_legal setup past → (actor n : ℕ) (x : Effect)
    → (ok : refused setup past (Retire actor n x) ≡ None) → is_last x.next ≡ false → (h g : ℕ)
    → IsSquashing past (Retire actor n x) h
    → is_of past h n ≡ true → g ≢ h
    → IsSameHart (replay_middle setup past h n) (picture setup (Retire actor n x ∷ past)) g
others-Replay setup past legal actor n x ok going h g squashing of_n other =
    let away = another past h g n of_n other in
    let same = apart setup past legal (Retire actor n x) ok h g squashing other (λ s. refl) (λ s. refl)
    (λ r. committed-other setup past legal actor n x ok g r
    (ap (λ b. b && not (is_last x.next)) (writes_elsewhere past g r n away)))
    (pc-other setup past actor n g x away) (status-Retire past actor n x going g) in
    record {
      in_decode = same.in_decode ∙ sym (at_other g h [] (in_decode past g) other);
      in_rename = same.in_rename ∙ sym (at_other g h [] (in_rename past g) other);
      flight = same.flight ∙ sym (at_other g h (up_to n (flight past h)) (flight past g) other);
      icount = same.icount
          ∙ sym (at_other g h (how_many (λ s. is (fate past s) Renamed) (up_to n (flight past h)))
          (icount past g) other);
      mapped = λ r low high.
          same.mapped r low high
          ∙ sym (at_other g h (youngest (picture setup past) r (up_to n (flight past h)) (committed past h r))
          (mapped past g r) other);
      committed = same.committed;
      fetch_pc = same.fetch_pc;
      status = same.status;
    }

both_gone : (a b : Bool) → a ≡ false → b ≡ false → (a || b) ≡ false
both_gone a b one two = rw (one, two) refl

replaced_too : (setup : Setup) (past : List Event) → is_legal setup past → registers_of setup ≤ most_registers
    → (actor n : ℕ) (x : Effect)
    → (ok : refused setup past (Retire actor n x) ≡ None) → (h : ℕ) → is_of past h n ≡ true
    → is_some (phys past n) ≡ true
    → (committed past h (destination (op_at past n)) < most_registers)
    × ((is_free setup past (committed past h (destination (op_at past n)))
    || list_any (has_register (picture setup past) (committed past h (destination (op_at past n))))
    (beyond n (flight past h))) ≡ false)
replaced_too setup past legal fit actor n x ok h of_n some =
    let d = destination (op_at past n) in
    let before = replaced setup past legal fit actor n x ok h of_n some in
    let has : not (d == 0) ≡ true = sym (fits setup past legal actor n x ok) ∙ some in
    let low : 1 ≤ d = grind (arith, nat_tests) in
    let is_register = own_register setup past legal h n of_n low in (
      before.0,
      both_gone (is_free setup past (committed past h d))
          (list_any (has_register (picture setup past) (committed past h d)) (beyond n (flight past h)))
          before.1 (none_beyond setup past legal h n d is_register),
    )

-- ---- Its own step

retires_then : (setup : Setup) (past : List Event) → is_legal setup past → registers_of setup ≤ most_registers
    → (actor n : ℕ) (x : Effect)
    → (ok : refused setup past (Retire actor n x) ≡ None) → squashes_at_retirement past n x ≡ true
    → is_last x.next ≡ false → (h : ℕ) → is_of past h n ≡ true
    → IsRetire (replay_middle setup past h n) (picture setup (Retire actor n x ∷ past)) h n x
    (pc_after x.next (fetch_pc setup past h))
retires_then setup past legal fit actor n x ok squashes_now going h of_n =
    let e = Retire actor n x in
    let squashing = squashing-Retire setup past legal actor n x ok squashes_now h of_n in
    let emptied_too =
    flight-emptied setup past legal e ok h (emptying-Retire setup past actor n x ok h squashing) in
    record {
      of_hart = of_n;
      fits = fits setup past legal actor n x ok;
      flight =
          at_own h (up_to n (flight past h)) (flight past h)
          ∙ (only_one setup past legal actor n x ok h of_n ∙ ap (λ xs. n ∷ xs) (sym emptied_too));
      committed = λ r low high. committed-Retire setup past legal actor n x ok going h r low of_n;
      fetch_pc = pc-own setup past actor n h x of_n squashes_now;
      replaced = replaced_too setup past legal fit actor n x ok h of_n;
      free = free-Replay setup past legal actor n x ok going h squashing of_n;
      values = λ y claimed. values-Retire setup past legal actor n x ok y;
      readings = λ s waits. (
        reads-Replay setup past legal actor n x ok h squashing first_source first_source-below s waits,
        reads-Replay setup past legal actor n x ok h squashing second_source second_source-below s waits,
      );
      records = records-Retire past actor n x;
      output = refl;
      byte = λ addr. refl;
      reserved = λ g. refl;
      touched = λ s. refl;
      looks = refl;
      flights = λ t flies other. same_again setup past legal actor n x ok h squashing t flies other;
      stays = record {
        hart = record {
          in_decode = in_decode-squash setup past legal e ok h squashing ∙ sym (at_own h [] (in_decode past h));
          in_rename = in_rename-squash setup past legal e ok h squashing ∙ sym (at_own h [] (in_rename past h));
          flight = tt;
          icount =
              waiting_one setup past legal actor n x ok h squashing
              ∙ sym (at_own h (how_many (λ s. is (fate past s) Renamed) (up_to n (flight past h))) (icount past h));
          mapped = λ r low high.
              own_map setup past legal actor n x ok going h squashing of_n r low
              ∙ sym (at_own h (youngest (picture setup past) r (up_to n (flight past h)) (committed past h r))
              (mapped past h r));
          committed = tt;
          fetch_pc = tt;
          status = status-Retire past actor n x going h;
        };
        others = λ g other. others-Replay setup past legal actor n x ok going h g squashing of_n other;
        shared = record {
          kept = λ s f at. at;
          operands = λ k s before now. (refl, refl);
          queue = queue-squash setup past legal e ok h squashing
              (ap (λ f. is f Renamed) (was-Retire setup past actor n x ok));
          free = tt;
          values = tt;
          readings = tt;
          job = λ j. refl;
          fetches = record { fetched = λ s. refl; fetches = refl; last_fetched = refl };
          records = tt;
          output = tt;
          memory = tt;
        };
      };
    }

pub steps-Replay : (setup : Setup) (past : List Event) → is_legal setup past → (actor n : ℕ) (x : Effect)
    → (ok : refused setup past (Retire actor n x) ≡ None) → registers_of setup ≤ most_registers
    → squashes_at_retirement past n x ≡ true → is_last x.next ≡ false → (h : ℕ)
    → is_of past h n ≡ true
    → IsReplay (picture setup past) (picture setup (Retire actor n x ∷ past)) h n x
    (pc_after x.next (fetch_pc setup past h))
steps-Replay setup past legal actor n x ok fit squashes_now going h of_n = record {
  middle = replay_middle setup past h n;
  squash = squash_first setup past legal fit h n;
  retire = retires_then setup past legal fit actor n x ok squashes_now going h of_n;
}
