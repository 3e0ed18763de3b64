-- What a step makes of a hart's loads and stores in flight, and what it says of memory.
use Rattle.std.specs.Prelude.{ℕ, false, map, Option, Some, None}
use Rattle.rv_instr.specs.declared.op.Op.{Op}
use Rattle.events.specs.{declared.effect.Outcome.Outcome, declared.effect.Written.Written}
use Rattle.retire_squash.specs.declared.active.Stage.{Stage}
use Rattle.retire_squash.specs.declared.active.Stage.TheVariants as stage
use Rattle.smt_model.specs.{Basics.or_zero, Looks.stored_by}
use Rattle.smt_model.specs.Kinds.{Kind, Loading, Storing, kind_of}
use Rattle.load_store.specs.{Queues.Queues, declared.load.FirstLook.FirstLook}
use Rattle.load_store.specs.Queues.{with_load, with_store, with_resolved, looking, with_touch}
use Rattle.load_store.specs.Queues.{without_load, without_store}
use Rattle.core_parts.specs.Accesses.{looked_by}

-- With an instruction that is renamed: a load or a store, not yet resolved, or neither.
abbrev pub with_kind : Kind → ℕ → Queues → Queues
with_kind Loading seq q = with_load seq q
with_kind Storing seq q = with_store seq q
with_kind _ seq q = q

abbrev pub with_access : Op → ℕ → Queues → Queues
with_access op seq q = with_kind (kind_of op) seq q

-- With what the store of this number will write, where it names a write.
abbrev pub with_write : ℕ → Option Written → Queues → Queues
with_write seq None q = q
with_write seq (Some w) q = with_resolved seq w q

-- With the first look of the load of this number, where there is one.
abbrev pub with_first_look : ℕ → Option FirstLook → Queues → Queues
with_first_look seq None q = q
with_first_look seq (Some look) q = record q { loads = map (looking seq look) q.loads }

-- Once this instruction has completed: what it will write, or where it has looked. Nothing has
-- touched it yet.
abbrev pub with_outcome : ℕ → Op → Outcome → Queues → Queues
with_outcome seq op o q =
    with_first_look seq (looked_by op false o) (with_write seq (stored_by op o) q)

-- Once this has been written, if anything.
abbrev pub with_touched : Option Written → Queues → Queues
with_touched None q = q
with_touched (Some w) q = with_touch w q

-- Without the oldest instruction, which was a load, a store or neither.
abbrev pub without_kind : Kind → Queues → Queues
without_kind Loading q = without_load q
without_kind Storing q = without_store q
without_kind _ q = q

abbrev pub without_access : Op → Queues → Queues
without_access op q = without_kind (kind_of op) q

-- ---- What retirement does with memory

-- The address that a completed instruction names, 0 where it names none.
abbrev pub address_at : Stage → ℕ
address_at stage.Renamed = 0
address_at stage.Issued = 0
address_at (stage.Completed outcome) = or_zero outcome.addr
