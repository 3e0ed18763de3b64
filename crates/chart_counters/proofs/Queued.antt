-- The entries of a queue, by the kind of unit that executes them.
use Rattle.std.specs.Prelude.{◌≡◌, ℕ, suc, Bool, List, [], ◌∷◌, count_by, length, map, filter}
use Rattle.std.specs.List.{AllByRecursion}
use Rattle.std.proofs.Common.{◌∙◌, refl, sym, ap, inl, inr}
use Rattle.std.proofs.lemmas.Bool.{cases_Bool}
use Rattle.std.proofs.lemmas.List.Sums.{length-filter}
use Rattle.rv_instr.specs.{declared.op.UnitKind.UnitKind, Registers.op_unit, Registers.same_unit}
use Rattle.events.specs.declared.event.Event.{Event}
use Rattle.issue_queue.specs.{declared.entry.Entry.Entry, Queue.Queue}
use Rattle.smt_model.specs.{Basics.how_many, Fates.op_at, Fates.op_of_fetched}
use Rattle.smt_model.specs.{Picture.picture, Setup.Setup}
use Rattle.core_parts.specs.Agree.{IsEntry, QueueAgrees}
use Rattle.rv_instr.specs.declared.op.UnitKind.TheVariants.{Alu, Mul, Mem}
use Rattle.chart_counters.specs.declared.counters.Waiting.{Waiting}
use Rattle.chart_counters.specs.Counters.{waiting, waiting_for}

abbrev pub is_for : UnitKind → Entry → Bool
is_for kind e = same_unit kind (op_unit e.op)

abbrev is_for_at : UnitKind → List Event → ℕ → Bool
is_for_at kind past s = same_unit kind (op_unit (op_at past s))

same_kind : (setup : Setup) (past : List Event) (kind : UnitKind) (e : Entry) → IsEntry (picture setup past) e
    → is_for kind e ≡ is_for_at kind past e.seq
same_kind setup past kind e is =
    ap (λ op. same_unit kind (op_unit op)) (is.op ∙ sym (ap op_of_fetched is.fetched))

counted : (setup : Setup) (past : List Event) (kind : UnitKind) (es : List Entry)
    → AllByRecursion (IsEntry (picture setup past)) es
    → length (filter (is_for kind) es) ≡ how_many (is_for_at kind past) (map (λ (e : Entry). e.seq) es)
counted setup past kind [] all = refl
counted setup past kind (e ∷ es) all =
    let same = same_kind setup past kind e all.0 in
    let rest = counted setup past kind es all.1 in
    elim (cases_Bool (is_for kind e)) [
      | inl yes_it ↦ rw (yes_it, sym same ∙ yes_it) (ap suc rest)
      | inr not_it ↦ rw (not_it, sym same ∙ not_it) rest
    ]

pub waits_for : (setup : Setup) (past : List Event) (kind : UnitKind) (q : Queue) → QueueAgrees (picture setup past) q
    → count_by (is_for kind) q.entries ≡ waiting_for kind past
waits_for setup past kind q agrees =
    sym (length-filter (is_for kind) q.entries)
    ∙ counted setup past kind q.entries agrees.entries ∙ ap (how_many (is_for_at kind past)) agrees.numbers

pub all_wait : (past : List Event) (alu mul mem : ℕ) → alu ≡ waiting_for Alu past → mul ≡ waiting_for Mul past
    → mem ≡ waiting_for Mem past
    → ◌≡◌ {A = Waiting} (record { alu = alu; mul = mul; mem = mem }) (waiting past)
all_wait past alu mul mem first second third = rw (first, second, third) refl
