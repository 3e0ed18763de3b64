-- What an instruction that isn't ready waits for: its source without a number is one in flight.
use Rattle.std.specs.Prelude.{◌≡◌, ℕ, ◌<◌, ◌≤◌, Bool, true, false, ◌==◌, ◌&&◌, if◌then◌else◌, List, [], ◌∷◌, find, map}
use Rattle.std.specs.Prelude.{Option, Some, None, is_some, slice_index_or}
use Rattle.std.specs.List.{AllByRecursion, list_all}
use Rattle.std.proofs.Common.{◌∙◌, refl, sym, ap, subst, inl, inr, arith}
use Rattle.std.proofs.{lemmas.Bool.cases_Bool, lemmas.Bool.Decides.nat_tests}
use Rattle.rv_instr.specs.declared.op.Op.{Op}
use Rattle.events.specs.declared.event.Event.{Event}
use Rattle.issue_queue.specs.{Entry.has_values, Entry.is_value, declared.entry.Entry.Entry}
use Rattle.issue_queue.specs.{declared.entry.Source.Source, declared.entry.Source.TheVariants.Value}
use Rattle.issue_queue.specs.declared.entry.Source.TheVariants.{Waits}
use Rattle.retire_squash.specs.{declared.active.Active.Active, declared.active.Stage.Stage}
use Rattle.retire_squash.specs.declared.active.Stage.TheVariants as stages
use Rattle.smt_model.specs.{Basics.holds_of, Basics.or_zero, Basics.same_number, Setup.Setup, Rules.is_legal}
use Rattle.smt_model.specs.Kinds.{first_source, second_source}
use Rattle.smt_model.specs.Fates.{Fetched, fate, fetching, is_in_flight, is_of, op_at, op_of_fetched, stage}
use Rattle.smt_model.specs.{Flights.numbers, Flights.flight, Picture.Picture, Picture.picture, Picture.source_register_in}
use Rattle.smt_model.specs.Registers.{phys, source, source_register, committer, committed, register_by}
use Rattle.smt_model.specs.Registers.{first_register, is_ready, value, reading, reads}
use Rattle.smt_model.proofs.Lists.{member, filter-member}
use Rattle.smt_model.proofs.Fates.Moves.{same_number-is, same_number-self}
use Rattle.smt_model.proofs.Fates.Numbers.{numbers-member}
use Rattle.smt_laws.proofs.{Fates.Choosing.hart_there, Sequential.sequential}
use Rattle.smt_laws.proofs.{Registers.Operands.IsSourceName, Registers.Operands.reading_by-is}
use Rattle.smt_laws.proofs.Registers.Below.{first_source-below, second_source-below}
use Rattle.smt_laws.proofs.Registers.Sources.{source-is, source-committed, source-none}
use Rattle.smt_laws.proofs.{Registers.Held.writer_named, Registers.Held.some_is, Registers.Counts.flights-once}
use Rattle.core_parts.specs.Agree.{HartAgrees, IsEntry, IsActive, IsStage, source_at, source_of}
use Rattle.core_parts.specs.declared.hart.HartState.{HartState}
use Rattle.reasons.specs.Reasons.{waited_register, writer_for}
use Rattle.reasons.specs.Waiting.{register_waited, first_waiting}

-- ---- The writer is in flight

pub record IsWriter (past : List Event) (h r s : ℕ) : Type 0 where
  pub writer : ℕ
  pub is : source past h r s ≡ Some writer
  pub of_hart : is_of past h writer ≡ true
  pub flies : is_in_flight (fate past writer) ≡ true
  pub named : phys past writer ≡ Some (source_register past h r s)

some_none : {A : Type 0} → (o : Option A) (v : A) → o ≡ Some v → o ≡ None → ⊥
some_none None v is none = absurd (grind arith)
some_none (Some x) v is none = absurd (grind arith)

-- What a committed register holds is a number.
committed_reads : (setup : Setup) (past : List Event) → is_legal setup past → (h r s : ℕ) → h < setup.harts → 1 ≤ r
    → r < 32 → source past h r s ≡ committer past h r → reading setup past h r s ≡ None → ⊥
committed_reads setup past legal h r s there low high at none =
    let k = sequential setup past legal in
    let same : source_register past h r s ≡ committed past h r = ap (register_by past (first_register h r)) at in
    let holds : value setup past (source_register past h r s) ≡ Some (k.ran.state.registers h r) =
    ap (value setup past) same ∙ k.registers h r there low high in
    let some : (r == 0) ≡ false = grind (arith, nat_tests) in
    let it : reading setup past h r s ≡ Some (k.ran.state.registers h r) = rw some holds in
    some_none (reading setup past h r s) (k.ran.state.registers h r) it none

not_zero : (setup : Setup) (past : List Event) (h r s : ℕ) → reading setup past h r s ≡ None → 1 ≤ r
not_zero setup past h r s none =
    elim (cases_Bool (r == 0)) [
      | inl zero ↦
          let it : reading setup past h r s ≡ Some 0 = rw zero refl in
          absurd (some_none (reading setup past h r s) 0 it none)
      | inr some ↦ grind (arith, nat_tests)
    ]

writer_is : (setup : Setup) (past : List Event) → is_legal setup past → (h r s : ℕ) → r < 32 → is_of past h s ≡ true
    → is_in_flight (fate past s) ≡ true → reading setup past h r s ≡ None → (o : Option ℕ)
    → source past h r s ≡ o → IsWriter past h r s
writer_is setup past legal h r s high of_s flies none None found =
    absurd (committed_reads setup past legal h r s (hart_there setup past legal h s of_s)
    (not_zero setup past h r s none) high (found ∙ sym (source-none setup past legal h r s of_s flies found)) none)
writer_is setup past legal h r s high of_s flies none (Some w) found =
    elim (cases_Bool (is_in_flight (fate past w))) [
      | inl too ↦
          let by = source-is past h r s w found in
          let given = writer_named setup past legal h r w (not_zero setup past h r s none) by.writes_it
          (grind (arith, nat_tests)) (grind (arith, nat_tests)) in
          record {
            writer = w;
            is = found;
            of_hart = by.of_hart;
            flies = too;
            named = some_is (phys past w) given ∙ ap Some (sym (ap (register_by past (first_register h r)) found));
          }
      | inr landed ↦
          absurd (committed_reads setup past legal h r s (hart_there setup past legal h s of_s)
          (not_zero setup past h r s none) high
          (found ∙ sym (source-committed setup past legal h r s w of_s flies found landed)) none)
    ]

-- ---- Of an entry

pub record IsAwaited (setup : Setup) (past : List Event) (e : Entry) : Type 0 where
  pub register : register_waited e ≡ waited_register setup past e.seq
  pub writer : IsWriter past e.hart (register_waited e) e.seq
  pub awaits : first_waiting e.sources ≡ source_register past e.hart (register_waited e) e.seq

value_known : (o : Option ℕ) (r : ℕ) → is_value (source_of o r) ≡ is_some o
value_known None r = refl
value_known (Some n) r = refl

waits_at : (o : Option ℕ) (r : ℕ) (others : List Source) → o ≡ None → first_waiting (source_of o r ∷ others) ≡ r
waits_at None r others none = refl
waits_at (Some n) r others none = absurd (grind arith)

waits_behind : (o : Option ℕ) (r : ℕ) (others : List Source) → is_some o ≡ true
    → first_waiting (source_of o r ∷ others) ≡ first_waiting others
waits_behind None r others some = absurd (grind arith)
waits_behind (Some n) r others some = refl

is_none_of : {A : Type 0} → (o : Option A) → is_some o ≡ false → o ≡ None
is_none_of None none = refl
is_none_of (Some x) none = absurd (grind arith)

-- The sources of an entry are those of its instruction.
module _ (setup : Setup) (past : List Event) (legal : is_legal setup past) (e : Entry)
    (is : IsEntry (picture setup past) e) where
  own : is_of past e.hart e.seq ≡ true
  own = let same = is.hart in let own_hart : (is.instruction.hart == e.hart) ≡ true = grind (arith, nat_tests) in
      ap (λ o. holds_of (λ (f : Fetched). f.hart == e.hart) o) is.fetched ∙ own_hart

  flying : is_in_flight (fate past e.seq) ≡ true
  flying = ap is_in_flight is.waits

  op_is : op_at past e.seq ≡ e.op
  op_is = ap op_of_fetched is.fetched ∙ sym is.op

  -- One of the two, which reads no number.
  module _ (which : Op → ℕ) (below : IsSourceName which) (none : reads setup which past e.seq ≡ None) where
    which_is : which (op_of_fetched (Some is.instruction)) ≡ which e.op
    which_is = ap which (sym is.op)

    reads_none : reading setup past e.hart (which e.op) e.seq ≡ None
    reads_none =
        subst (λ h. reading setup past h (which e.op) e.seq ≡ None) is.hart
        (subst (λ r. reading setup past is.instruction.hart r e.seq ≡ None) which_is
        (sym (reading_by-is setup which past e.seq is.instruction is.fetched) ∙ none))

    awaited : IsWriter past e.hart (which e.op) e.seq
    awaited =
        writer_is setup past legal e.hart (which e.op) e.seq
        (subst (λ o. which o < 32) (sym is.op) (below is.instruction.word)) own flying reads_none
        (source past e.hart (which e.op) e.seq) refl

    seen_is : (picture setup past).seen which e.seq ≡ source_register past e.hart (which e.op) e.seq
    seen_is =
        ap (source_register_in past which e.seq) is.fetched
        ∙ (ap (λ r. source_register past is.instruction.hart r e.seq) which_is
        ∙ ap (λ h. source_register past h (which e.op) e.seq) is.hart)

  first_known : is_value (slice_index_or e.sources 0 (Value 0)) ≡ is_some (reads setup first_source past e.seq)
  first_known =
      ap (λ xs. is_value (slice_index_or xs 0 (Value 0))) is.sources
      ∙ value_known (reads setup first_source past e.seq) ((picture setup past).seen first_source e.seq)

  -- Which of the two it is.
  by_first : reads setup first_source past e.seq ≡ None → IsAwaited setup past e
  by_first none =
      let no_value : is_value (slice_index_or e.sources 0 (Value 0)) ≡ false = first_known ∙ ap is_some none in
      let register : register_waited e ≡ first_source e.op =
      ap (λ b. if b then second_source e.op else first_source e.op) no_value in
      let register_too : waited_register setup past e.seq ≡ first_source e.op =
      ap (λ o. if is_some o then second_source (op_at past e.seq) else first_source (op_at past e.seq)) none
      ∙ ap first_source op_is in
      record {
        register = register ∙ sym register_too;
        writer = subst (λ r. IsWriter past e.hart r e.seq) (sym register) (awaited first_source first_source-below none);
        awaits =
            ap first_waiting is.sources
            ∙ (waits_at (reads setup first_source past e.seq) ((picture setup past).seen first_source e.seq)
            (source_at (picture setup past) second_source e.seq ∷ []) none
            ∙ (seen_is first_source first_source-below none
            ∙ ap (λ r. source_register past e.hart r e.seq) (sym register)));
      }

  by_second : is_some (reads setup first_source past e.seq) ≡ true → reads setup second_source past e.seq ≡ None
      → IsAwaited setup past e
  by_second some none =
      let has_value : is_value (slice_index_or e.sources 0 (Value 0)) ≡ true = first_known ∙ some in
      let register : register_waited e ≡ second_source e.op =
      ap (λ b. if b then second_source e.op else first_source e.op) has_value in
      let register_too : waited_register setup past e.seq ≡ second_source e.op =
      ap (λ b. if b then second_source (op_at past e.seq) else first_source (op_at past e.seq)) some
      ∙ ap second_source op_is in
      record {
        register = register ∙ sym register_too;
        writer =
            subst (λ r. IsWriter past e.hart r e.seq) (sym register) (awaited second_source second_source-below none);
        awaits =
            ap first_waiting is.sources
            ∙ (waits_behind (reads setup first_source past e.seq) ((picture setup past).seen first_source e.seq)
            (source_at (picture setup past) second_source e.seq ∷ []) some
            ∙ (waits_at (reads setup second_source past e.seq) ((picture setup past).seen second_source e.seq) [] none
            ∙ (seen_is second_source second_source-below none
            ∙ ap (λ r. source_register past e.hart r e.seq) (sym register))));
      }

  both_known : is_some (reads setup first_source past e.seq) ≡ true
      → is_some (reads setup second_source past e.seq) ≡ true → has_values e ≡ true
  both_known one two =
      ap (λ xs. list_all is_value xs) is.sources
      ∙ (rw (
        value_known (reads setup first_source past e.seq) ((picture setup past).seen first_source e.seq),
        value_known (reads setup second_source past e.seq) ((picture setup past).seen second_source e.seq),
        one,
        two,
      ) refl)

  pub is_awaited : has_values e ≡ false → IsAwaited setup past e
  is_awaited waits =
      elim (cases_Bool (is_some (reads setup first_source past e.seq))) [
        | inl one ↦
            elim (cases_Bool (is_some (reads setup second_source past e.seq))) [
              | inl two ↦
                  let both : false ≡ true = sym waits ∙ both_known one two in
                  absurd (grind arith)
              | inr none ↦ by_second one (is_none_of (reads setup second_source past e.seq) none)
            ]
        | inr none ↦ by_first (is_none_of (reads setup first_source past e.seq) none)
      ]

-- ---- Who holds the register, among those in flight

stage_flies : (p : Picture) (s : ℕ) (at : Stage) → IsStage p s at → is_in_flight (p.fate s) ≡ true
stage_flies p s stages.Renamed is = ap is_in_flight is
stage_flies p s stages.Issued is = ap is_in_flight is
stage_flies p s (stages.Completed outcome) is = ap is_in_flight is.0

-- What a search for the register finds.
pub record IsFound (setup : Setup) (past : List Event) (h w p : ℕ) (xs : List Active) : Type 0 where
  pub active : Active
  pub found : find (λ (a : Active). same_number a.phys (Some p)) xs ≡ Some active
  pub number : active.seq ≡ w
  pub is : IsActive (picture setup past) h active

pub find_writer : (setup : Setup) (past : List Event) → is_legal setup past → (h w p : ℕ)
    → is_in_flight (fate past w) ≡ true → phys past w ≡ Some p → (xs : List Active)
    → AllByRecursion (IsActive (picture setup past) h) xs → member w (map (λ a. a.seq) xs) ≡ true
    → IsFound setup past h w p xs
find_writer setup past legal h w p flies names [] all there = absurd (grind arith)
find_writer setup past legal h w p flies names (x ∷ xs) all there =
    let own : x.phys ≡ phys past x.seq = all.0.phys in
    elim (cases_Bool (same_number x.phys (Some p))) [
      | inl here ↦ record {
        active = x;
        found = rw here refl;
        number =
            flights-once setup past legal x.seq w p (stage_flies (picture setup past) x.seq x.stage all.0.stage) flies
            (sym own ∙ same_number-is x.phys (Some p) here) names;
        is = all.0;
      }
      | inr other ↦
          let apart : (x.seq == w) ≡ false =
          elim (cases_Bool (x.seq == w)) [
            | inl same ↦
                let at : x.seq ≡ w = grind (arith, nat_tests) in
                let given : x.phys ≡ Some p = own ∙ (ap (phys past) at ∙ names) in
                let both : false ≡ true =
                sym other ∙ (ap (λ o. same_number o (Some p)) given ∙ same_number-self (Some p)) in
                absurd (grind arith)
            | inr apart ↦ apart
          ] in
          let rest = find_writer setup past legal h w p flies names xs all.1 (grind arith) in
          record { active = rest.active; found = rw other rest.found; number = rest.number; is = rest.is }
    ]

pub in_flight_list : (setup : Setup) (past : List Event) → is_legal setup past → (h w : ℕ) → is_of past h w ≡ true
    → is_in_flight (fate past w) ≡ true → member w (flight past h) ≡ true
in_flight_list setup past legal h w of_h flies =
    filter-member (λ s. is_in_flight (fate past s)) w (numbers past h)
    (numbers-member setup past legal h w of_h) flies

both_tests : (a b c d : Bool) → a ≡ c → b ≡ d → (a && (b && true)) ≡ (c && d)
both_tests a b true true one two = rw (one, two) refl
both_tests a b true false one two = rw (one, two) refl
both_tests a b false d one two = rw one refl

pub is_valued : (setup : Setup) (past : List Event) (e : Entry) → IsEntry (picture setup past) e
    → has_values e ≡ is_ready setup past e.seq
is_valued setup past e is =
    ap (λ xs. list_all is_value xs) is.sources
    ∙ both_tests (is_value (source_at (picture setup past) first_source e.seq))
    (is_value (source_at (picture setup past) second_source e.seq))
    (is_some (reads setup first_source past e.seq)) (is_some (reads setup second_source past e.seq))
    (value_known (reads setup first_source past e.seq) ((picture setup past).seen first_source e.seq))
    (value_known (reads setup second_source past e.seq) ((picture setup past).seen second_source e.seq))

-- What is found in the active list of an entry's hart.
pub record IsAwaitedOne (setup : Setup) (past : List Event) (e : Entry) (r : Option Active) : Type 0 where
  pub active : Active
  pub is : r ≡ Some active
  pub stage : IsStage (picture setup past) active.seq active.stage
  pub number : active.seq ≡ writer_for past (fetching past e.seq) (register_waited e) e.seq

module _ (setup : Setup) (past : List Event) (legal : is_legal setup past) (e : Entry)
    (is : IsEntry (picture setup past) e) where
  pub entry_there : e.hart < setup.harts
  entry_there = hart_there setup past legal e.hart e.seq (own setup past legal e is)

  pub awaited_in : has_values e ≡ false → (x : HartState) → HartAgrees (picture setup past) e.hart x
      → (ys : List Active) → ys ≡ x.active → (q : ℕ) → q ≡ first_waiting e.sources → (r : Option Active)
      → r ≡ find (λ (a : Active). same_number a.phys (Some q)) ys → IsAwaitedOne setup past e r
  awaited_in waits x agrees ys same q at r looked =
      let one = is_awaited setup past legal e is waits in
      let w = one.writer.writer in
      let p = source_register past e.hart (register_waited e) e.seq in
      let there : member w (map (λ a. a.seq) x.active) ≡ true =
      subst (λ ns. member w ns ≡ true) (sym agrees.active)
      (in_flight_list setup past legal e.hart w one.writer.of_hart one.writer.flies) in
      let found = find_writer setup past legal e.hart w p one.writer.flies one.writer.named x.active agrees.actives
      there in
      record {
        active = found.active;
        is =
            looked ∙ (ap (find (λ (a : Active). same_number a.phys (Some q))) same
            ∙ (ap (λ z. find (λ (a : Active). same_number a.phys (Some z)) x.active) (at ∙ one.awaits) ∙ found.found));
        stage = found.is.stage;
        number =
            found.number ∙ sym (ap (λ o. writer_for past o (register_waited e) e.seq) is.fetched
            ∙ (ap (λ h. or_zero (source past h (register_waited e) e.seq)) is.hart
            ∙ ap or_zero one.writer.is));
      }

some_inner : {A : Type 0} → (a b : A) → Some a ≡ Some b → a ≡ b
some_inner a b same = cc

none_some : {A : Type 0} → (a : A) → None ≡ Some a → ⊥
none_some a same = absurd cc

-- The same of what the code found.
pub one_found : (setup : Setup) (past : List Event) (e : Entry) (r : Option Active) → IsAwaitedOne setup past e r
    → r ≡ None → ⊥
one_found setup past e r one none = none_some one.active (sym none ∙ one.is)

pub stage_of : (setup : Setup) (past : List Event) (e : Entry) (r : Option Active) → IsAwaitedOne setup past e r
    → (a : Active) → r ≡ Some a → IsStage (picture setup past) a.seq a.stage
stage_of setup past e r one a at =
    subst (λ (x : Active). IsStage (picture setup past) x.seq x.stage) (some_inner one.active a (sym one.is ∙ at))
    one.stage

pub number_of : (setup : Setup) (past : List Event) (e : Entry) (r : Option Active) → IsAwaitedOne setup past e r
    → (a : Active) → r ≡ Some a
    → a.seq ≡ writer_for past (fetching past e.seq) (register_waited e) e.seq
number_of setup past e r one a at =
    ap (λ (x : Active). x.seq) (sym (some_inner one.active a (sym one.is ∙ at))) ∙ one.number
