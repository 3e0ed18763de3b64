-- Harts that stand alike go on alike.
use Rattle.std.specs.Prelude.{◌≡◌, ℕ, ◌<◌, List, ◌++◌, length, Option, Some, None, slice_index}
use Rattle.std.proofs.Common.{sym, subst, refl, ap, arith, ◌∙◌, append-nil}
use Rattle.std.proofs.lemmas.List.{same_lists, get_or_default}
use Rattle.std.proofs.lemmas.Option.{same_Some}
use Rattle.events.specs.declared.effect.Written.{Written}
use Rattle.rv_instr.specs.declared.{instr.Instr.Instr, op.Op.Op, op.Op.TheVariants.Known}
use Rattle.rv_instr.specs.declared.instr.Instr.TheVariants as instr
use Rattle.litmus_tests.specs.declared.test.Thread.{Thread}
use Rattle.litmus_tests.specs.declared.step.LitmusStep.{LitmusStep}
use Rattle.litmus_tests.specs.declared.step.LitmusStep.TheVariants.{Straight, Constant, Branch, Fence}
use Rattle.litmus_runs.specs.declared.{access.Access.Access, hart.Hart.Hart, finding.Found.Found}
use Rattle.litmus_runs.specs.Steps.{IsMade, HasExecuted, HasTaken, effect_in, those_made}
use Rattle.litmus_runs.specs.Ways.{IsAtStart}
use Rattle.litmus_runs.specs.Work.{IsSame}

pub same_access : (a b : Access) → a.step ≡ b.step → a.location ≡ b.location → a.reads ≡ b.reads
    → a.writes ≡ b.writes → a.reserved_by ≡ b.reserved_by → a ≡ b
same_access a b step location reads writes by =
    let e : record { step = a.step; location = a.location; reads = a.reads; writes = a.writes; reserved_by = a.reserved_by } ≡ b =
    rw (step, location, reads, writes, by) refl in e

-- An instruction makes one access alone, or none.
pub made_same : (op : Op) (found : Found) (write : Option Written) (step reserving : ℕ) (a b : Option Access)
    → IsMade op found write step reserving a → IsMade op found write step reserving b → a ≡ b
made_same op found write step reserving None None x y = refl
made_same op found write step reserving None (Some b) x y =
    let e : None ≡ Some b.location = sym x ∙ y.0 in absurd (grind (arith, e))
made_same op found write step reserving (Some a) None x y =
    let e : None ≡ Some a.location = sym y ∙ x.0 in absurd (grind (arith, e))
made_same op found write step reserving (Some a) (Some b) (at, reads, writes, placed, by) (at', reads', writes', placed', by') =
    ap Some (same_access a b (placed ∙ sym placed') (same_Some a.location b.location (sym at ∙ at')) (reads ∙ sym reads')
    (writes ∙ sym writes') (by ∙ sym by'))

-- Registers that hold the same are the same.
pub same_registers : (xs ys : List ℕ) → length xs ≡ 32 → length ys ≡ 32
    → ((r : ℕ) → r < 32 → slice_index xs r ≡ slice_index ys r) → xs ≡ ys
same_registers xs ys long long' each = same_lists xs ys (long ∙ sym long') (λ k d below.
    let within : k < 32 = omega (arith, below, long) in
    get_or_default xs k d 0 below ∙ each k within
    ∙ get_or_default ys k 0 d (subst (λ (n : ℕ). k < n) (sym long') within))

-- So are harts behind the same instruction.
pub executed_alike : (instruction : Instr) (found : Found) (before other after second : Hart) → IsSame before other
    → length after.registers ≡ 32 → length second.registers ≡ 32 → HasExecuted instruction found before after
    → HasExecuted instruction found other second → IsSame after second
executed_alike instruction found before other after second same long long' t u =
    let op : Op = Known instruction in
    let u' = rw (same.registers, same.next, same.reserving) at u.made in
    let made : u.access ≡ t.access = made_same op found (effect_in op before.registers found).write before.next
    before.reserving u.access t.access u' t.made in
    record {
      registers = same_registers second.registers after.registers long' long
          (λ r below. u.registers r below ∙ rw same.registers (sym (t.registers r below)));
      accesses = u.accesses ∙ rw (same.accesses, made) (sym t.accesses);
      next = u.next ∙ rw same.next (sym t.next);
      reserved = u.reserved ∙ rw (same.registers, same.reserved) (sym t.reserved);
      reserving = u.reserving ∙ rw (same.reserving, same.accesses) (sym t.reserving);
    }

-- And behind the same step, whatever it is.
pub taken_alike : (step : LitmusStep) (found : Found) (before other after second : Hart) → IsSame before other
    → length after.registers ≡ 32 → length second.registers ≡ 32 → HasTaken step found before after
    → HasTaken step found other second → IsSame after second
taken_alike (Straight instruction) found before other after second same long long' t u =
    executed_alike instruction found before other after second same long long' t u
taken_alike (Fence fence) found before other after second same long long' t u =
    executed_alike instr.Fence found before other after second same long long' t u
taken_alike (Constant register value) found before other after second same long long' (regs, gone) (regs', gone') = record {
  registers = same_registers second.registers after.registers long' long
      (λ r below. regs' r below ∙ rw same.registers (sym (regs r below)));
  accesses = gone'.accesses ∙ same.accesses ∙ sym gone.accesses;
  next = gone'.next ∙ rw same.next (sym gone.next);
  reserved = gone'.reserved ∙ same.reserved ∙ sym gone.reserved;
  reserving = gone'.reserving ∙ same.reserving ∙ sym gone.reserving;
}
taken_alike (Branch op left right target) found before other after second same long long' (regs, gone) (regs', gone') = record {
  registers = regs' ∙ same.registers ∙ sym regs;
  accesses = gone'.accesses ∙ same.accesses ∙ sym gone.accesses;
  next = gone'.next ∙ rw (same.registers, same.next) (sym gone.next);
  reserved = gone'.reserved ∙ same.reserved ∙ sym gone.reserved;
  reserving = gone'.reserving ∙ same.reserving ∙ sym gone.reserving;
}

-- At the start there is one way to stand.
pub starts_alike : (thread : Thread) (hart other : Hart) → length hart.registers ≡ 32 → length other.registers ≡ 32
    → IsAtStart thread hart → IsAtStart thread other → IsSame hart other
starts_alike thread hart other long long' t u = record {
  registers = same_registers other.registers hart.registers long' long
      (λ r below. u.registers r below ∙ sym (t.registers r below));
  accesses = u.accesses ∙ sym t.accesses;
  next = u.next ∙ sym t.next;
  reserved = u.reserved ∙ sym t.reserved;
  reserving = u.reserving ∙ sym t.reserving;
}

-- A step makes one access more at most.
pub one_more_at_most : (step : LitmusStep) (found : Found) (before after : Hart) → HasTaken step found before after
    → (made : Option Access) × (after.accesses.items ≡ before.accesses.items ++ those_made made)
one_more_at_most (Straight instruction) found before after t = (t.access, t.accesses)
one_more_at_most (Fence fence) found before after t = (t.access, t.accesses)
one_more_at_most (Constant register value) found before after (regs, gone) =
    (None, gone.accesses ∙ sym (append-nil before.accesses.items))
one_more_at_most (Branch op left right target) found before after (regs, gone) =
    (None, gone.accesses ∙ sym (append-nil before.accesses.items))
