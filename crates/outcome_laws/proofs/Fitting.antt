-- Every step fits tables that allow all; and a step that uses nothing is local.
use Rattle.std.specs.Prelude.{◌≡◌, ℕ, ◌%◌, Bool, true, false, ◌==◌, ◌&&◌, ◌||◌, if◌then◌else◌, List, [], ◌∷◌}
use Rattle.std.specs.Prelude.{Option, Some, None, option_map, unwrap_or, is_some}
use Rattle.std.specs.List.{list_all}
use Rattle.std.proofs.Common.{◌∙◌, refl, sym, ap, inl, inr, arith}
use Rattle.std.proofs.{lemmas.Bool.cases_Bool, lemmas.Bool.Decides.nat_tests}
use Rattle.rv_word.specs.Word.{sum_of}
use Rattle.rv_instr.specs.{declared.op.Op.Op, declared.op.Op.TheVariants.Known, declared.op.Op.TheVariants.Illegal}
use Rattle.rv_instr.specs.{declared.op.Op.TheVariants.NoWord, declared.instr.Instr.Instr}
use Rattle.rv_instr.specs.declared.instr.Instr.TheVariants as instr
use Rattle.events.specs.{declared.effect.Next.Next}
use Rattle.events.specs.{declared.effect.Next.TheVariants.Pc, declared.effect.Next.TheVariants.Ended}
use Rattle.events.specs.{declared.effect.Next.TheVariants.Stopped}
use Rattle.smt_model.specs.{Setup.Setup, Nexts.is_last}
use Rattle.smt_model.specs.Exec.{Computed, exec, computed_of, next_pc, extended, jump_to, is_taken, call}
use Rattle.smt_model.specs.{Faults.checked, Faults.fault, Words.ProgramImage}
use Rattle.smt_model.specs.Kinds.{Kind, Computing, Loading, Storing, Reserving, Conditional, Atomic, kind_of}
use Rattle.smt_model.specs.Kinds.{first_source, second_source, touches_memory}
use Rattle.smt_model.specs.Plain.{Plain, read_register, op_at_pc, computes}
use Rattle.outcome_laws.specs.Tables.{may_follow, may_follow_of, may_go, goes_anywhere, may_change}
use Rattle.outcome_laws.specs.Tables.{Tables, AllowsAll, LiveAloneIsTables}
use Rattle.outcome_laws.specs.Local.{Use, accesses, accesses_by, fetches, uses, goes_on_within, fits, is_apart}
use Rattle.outcome_laws.specs.Local.{lacks_reservation, is_silent, keeps_to, SilentStepsAreLocal, EveryStepFits}
use Rattle.outcome_laws.specs.Local.{FitsByItsTarget}
use Rattle.outcome_laws.proofs.Facts.{both_of, one_of_two, neither, none_put, either_left, either_right}

-- ---- Where an instruction goes on

one_pc : (a b : ℕ) → Pc a ≡ Pc b → a ≡ b
one_pc a b same = cc

stops_never : (cause to : ℕ) → Stopped cause ≡ Pc to → ⊥
stops_never cause to goes = cc

ends_never : (n to : ℕ) → Ended n ≡ Pc to → ⊥
ends_never n to goes = cc

jumps_to : (target to : ℕ) → jump_to target ≡ Pc to → (to == target) ≡ true
jumps_to target to goes =
    elim (cases_Bool (target % 4 == 0)) [
      | inl even ↦
          let here : Pc target ≡ Pc to = sym (rw even refl) ∙ goes in
          let is : target ≡ to = one_pc target to here in
          grind (arith, nat_tests)
      | inr odd ↦ absurd (stops_never 0 to (sym (rw odd refl) ∙ goes))
    ]

goes_behind : (pc to : ℕ) → Pc (next_pc pc) ≡ Pc to → (to == next_pc pc) ≡ true
goes_behind pc to goes = let is : next_pc pc ≡ to = one_pc (next_pc pc) to goes in grind (arith, nat_tests)

branches_to : (taken : Bool) (pc target to : ℕ) → (if taken then jump_to target else Pc (next_pc pc)) ≡ Pc to
    → (to == target || to == next_pc pc) ≡ true
branches_to true pc target to goes = either_left (to == target) (to == next_pc pc) (jumps_to target to goes)
branches_to false pc target to goes = either_right (to == target) (to == next_pc pc) (goes_behind pc to goes)

call_next : (pc number argument : ℕ) → (call pc number argument).next
    ≡ (if number == 93 then Ended argument else (if number == 1 then Pc (next_pc pc) else Stopped 8))
call_next pc number argument =
    elim (cases_Bool (number == 93)) [
      | inl ends ↦ rw ends refl
      | inr other ↦
          elim (cases_Bool (number == 1)) [
            | inl puts ↦ rw (other, puts) refl
            | inr stops ↦ rw (other, stops) refl
          ]
    ]

called : (ends puts : Bool) (argument pc to : ℕ)
    → (if ends then Ended argument else (if puts then Pc (next_pc pc) else Stopped 8)) ≡ Pc to
    → (to == next_pc pc) ≡ true
called true puts argument pc to goes = absurd (ends_never argument to goes)
called false true argument pc to goes = goes_behind pc to goes
called false false argument pc to goes = absurd (stops_never 8 to goes)

goes_of : (i : Instr) (pc a b to : ℕ) → (computed_of i pc a b).next ≡ Pc to → may_follow_of i pc to ≡ true
unfolding computed_of
goes_of (instr.Lui rd imm) pc a b to goes = goes_behind pc to goes
goes_of (instr.Auipc rd imm) pc a b to goes = goes_behind pc to goes
goes_of (instr.Jal rd offset) pc a b to goes = jumps_to (sum_of pc (extended offset)) to goes
goes_of (instr.Jalr rd rs1 offset) pc a b to goes = refl
goes_of (instr.Branch op rs1 rs2 offset) pc a b to goes =
    branches_to (is_taken op a b) pc (sum_of pc (extended offset)) to goes
goes_of (instr.Load op rd rs1 offset) pc a b to goes = goes_behind pc to goes
goes_of (instr.Store op rs2 rs1 offset) pc a b to goes = goes_behind pc to goes
goes_of (instr.Immediate op rd rs1 imm) pc a b to goes = goes_behind pc to goes
goes_of (instr.Shift op rd rs1 amount) pc a b to goes = goes_behind pc to goes
goes_of (instr.Register op rd rs1 rs2) pc a b to goes = goes_behind pc to goes
goes_of (instr.MulDiv op rd rs1 rs2) pc a b to goes = goes_behind pc to goes
goes_of instr.Fence pc a b to goes = goes_behind pc to goes
goes_of instr.InstructionFence pc a b to goes = goes_behind pc to goes
goes_of instr.Ecall pc a b to goes = called (a == 93) (a == 1) b pc to (sym (call_next pc a b) ∙ goes)
goes_of instr.Ebreak pc a b to goes = absurd (stops_never 3 to goes)
goes_of (instr.LoadReserved rd rs1 ordering) pc a b to goes = goes_behind pc to goes
goes_of (instr.StoreConditional rd rs1 rs2 ordering) pc a b to goes = goes_behind pc to goes
goes_of (instr.Amo kind rd rs1 rs2 ordering) pc a b to goes = goes_behind pc to goes

goes : (op : Op) (pc a b to : ℕ) → (exec op pc a b).next ≡ Pc to → may_follow op pc to ≡ true
unfolding exec may_follow
goes (Known i) pc a b to is = goes_of i pc a b to is
goes Illegal pc a b to is = absurd (stops_never 2 to is)
goes NoWord pc a b to is = absurd (stops_never 1 to is)

-- With its faults an instruction goes on nowhere else.
faulted : (cause : Option ℕ) (next : Next) (to : ℕ) → unwrap_or (option_map Stopped cause) next ≡ Pc to
    → next ≡ Pc to
faulted None next to is = is
faulted (Some cause) next to is = absurd (stops_never cause to is)

checked_goes : (image : ProgramImage) (op : Op) (c : Computed) (to : ℕ) → (checked image op c).next ≡ Pc to
    → c.next ≡ Pc to
unfolding checked
checked_goes image op c to is =
    elim (cases_Bool (is_last c.next)) [
      | inl last ↦ sym (rw last refl) ∙ is
      | inr going ↦ faulted (fault image op c.addr) c.next to (sym (rw going refl) ∙ is)
    ]

pub follows : (setup : Setup) (s : Plain) (h to : ℕ) → (computes setup s h).next ≡ Pc to
    → may_follow (op_at_pc setup s h) (s.pcs h) to ≡ true
follows setup s h to is =
    let op = op_at_pc setup s h in
    let a = read_register s h (first_source op) in
    let b = read_register s h (second_source op) in
    goes op (s.pcs h) a b to (checked_goes setup.image op (exec op (s.pcs h) a b) to is)

-- Where the code doesn't change, an instruction goes on only where its own words let it.
follows_if : (op : Op) (targets : ℕ → ℕ → Bool) (pc to : ℕ)
    → (if goes_anywhere op then targets pc to else may_follow op pc to) ≡ true → may_follow op pc to ≡ true
unfolding goes_anywhere may_follow
follows_if (Known (instr.Jalr rd rs1 offset)) targets pc to goes = refl
follows_if (Known i) targets pc to goes = goes
follows_if Illegal targets pc to goes = goes
follows_if NoWord targets pc to goes = goes

pub follows_where_it_goes : (changes : ℕ → Bool) (targets : ℕ → ℕ → Bool) (op : Op) (pc to : ℕ) → changes pc ≡ false
    → may_go changes targets op pc to ≡ true → may_follow op pc to ≡ true
follows_where_it_goes changes targets op pc to stays goes =
    follows_if op targets pc to (rw stays at goes)

-- ---- Every step fits

always : (test : Use → Bool) (us : List Use) → ((u : Use) → test u ≡ true) → list_all test us ≡ true
always test [] each = refl
always test (u ∷ us) each = both_of (test u) (list_all test us) (each u) (always test us each)

anywhere : (changes : ℕ → Bool) (targets : ℕ → ℕ → Bool) (op : Op) (pc to : ℕ) → targets pc to ≡ true
    → may_follow op pc to ≡ true → may_go changes targets op pc to ≡ true
anywhere changes targets op pc to allowed follows =
    elim (cases_Bool (changes pc || goes_anywhere op)) [
      | inl any ↦ rw any allowed
      | inr known ↦ rw known follows
    ]

within : (image : ProgramImage) (tables : Tables) → AllowsAll tables → (op : Op) (pc : ℕ) (next : Next)
    → ((to : ℕ) → next ≡ Pc to → may_follow op pc to ≡ true)
    → goes_on_within image tables op pc next ≡ true
within image tables allows op pc (Pc to) follows =
    anywhere (may_change image tables) tables.targets op pc to (allows.targets pc to) (follows to refl)
within image tables allows op pc (Ended n) follows = refl
within image tables allows op pc (Stopped cause) follows = refl

pub every_step_fits : EveryStepFits
every_step_fits setup tables allows h s =
    let may = λ (u : Use). tables.ahead h (s.pcs h) u.what u.writes in
    both_of (list_all may (uses setup tables h s))
    (goes_on_within setup.image tables (op_at_pc setup s h) (s.pcs h) (computes setup s h).next)
    (always may (uses setup tables h s) (λ u. allows.ahead h (s.pcs h) u.what u.writes))
    (within setup.image tables allows (op_at_pc setup s h) (s.pcs h) (computes setup s h).next (follows setup s h))

-- Where the code may not change, each but JALR goes on where the code says.
kept_within : (image : ProgramImage) (tables : Tables) (op : Op) (pc : ℕ) (next : Next)
    → may_change image tables pc ≡ false → ((to : ℕ) → next ≡ Pc to → may_follow op pc to ≡ true)
    → goes_on_within image tables op pc next ≡ keeps_to tables.targets op pc next
kept_within image tables op pc (Pc to) stays follows =
    elim (cases_Bool (goes_anywhere op)) [
      | inl any ↦ rw (stays, any) refl
      | inr known ↦ rw (stays, known) (follows to refl)
    ]
kept_within image tables op pc (Ended n) stays follows = refl
kept_within image tables op pc (Stopped cause) stays follows = refl

pub fits_by_its_target : FitsByItsTarget
fits_by_its_target setup tables h s stays ahead =
    let op = op_at_pc setup s h in
    let next = (computes setup s h).next in
    let may = λ (u : Use). tables.ahead h (s.pcs h) u.what u.writes in
    let used : list_all may (uses setup tables h s) ≡ true =
    always may (uses setup tables h s) (λ u. ahead h (s.pcs h) u.what u.writes) in
    ap (λ b. b && goes_on_within setup.image tables op (s.pcs h) next) used
    ∙ kept_within setup.image tables op (s.pcs h) next stays (follows setup s h)

pub live_alone_is_tables : LiveAloneIsTables
live_alone_is_tables image live good = record {
  tables_are = record {
    live = good;
    kept = record {
      used = λ pc is. refl;
      stays = λ pc to goes kept replaces. refl;
      all = λ pc changes. refl;
    };
    ahead = record {
      stays = λ h pc to what writes goes ahead. refl;
      touches = λ h pc what ahead. refl;
    };
    rewritten = λ h pc word ahead. refl;
  };
  allows = record { targets = λ pc to. refl; ahead = λ h pc what writes. refl };
}

-- ---- A step that uses nothing

unused : (kind : Kind) (c : Computed) → touches_memory kind ≡ false → c.out ≡ None → accesses_by kind c ≡ []
unused Computing c touches none = rw none refl
unused Loading c touches none = absurd (grind arith)
unused Storing c touches none = absurd (grind arith)
unused Reserving c touches none = absurd (grind arith)
unused Conditional c touches none = absurd (grind arith)
unused Atomic c touches none = absurd (grind arith)

silent_uses : (op : Op) (c : Computed) → is_silent op c ≡ true → accesses op c ≡ []
silent_uses op c silent =
    elim (cases_Bool (is_last c.next)) [
      | inl last ↦ rw last refl
      | inr going ↦
          let both = neither (touches_memory (kind_of op)) (is_some c.out) (rw going at silent) in
          rw going (unused (kind_of op) c both.0 (none_put c.out both.1))
    ]

silent_or_lacks : (setup : Setup) (tables : Tables) (h : ℕ) (s : Plain)
    → (is_silent (op_at_pc setup s h) (computes setup s h) || lacks_reservation setup h s) ≡ true
    → (list_all (is_apart setup tables h s) (accesses (op_at_pc setup s h) (computes setup s h))
    || lacks_reservation setup h s) ≡ true
silent_or_lacks setup tables h s is =
    let op = op_at_pc setup s h in
    let c = computes setup s h in
    let accessed = list_all (is_apart setup tables h s) (accesses op c) in
    elim (one_of_two (is_silent op c) (lacks_reservation setup h s) is) [
      | inl silent ↦
          either_left accessed (lacks_reservation setup h s)
          (ap (list_all (is_apart setup tables h s)) (silent_uses op c silent))
      | inr lacks ↦ either_right accessed (lacks_reservation setup h s) lacks
    ]

pub silent_steps_are_local : SilentStepsAreLocal
silent_steps_are_local setup tables h s stays is fitting =
    let fetched : list_all (is_apart setup tables h s) (fetches setup.image tables (s.pcs h)) ≡ true =
    rw stays refl in
    both_of (fits setup tables h s) _ fitting
    (both_of (list_all (is_apart setup tables h s) (fetches setup.image tables (s.pcs h))) _ fetched
    (silent_or_lacks setup tables h s is))
