-- How a hart goes on by what it has itself: reads, stores and conditionals, what is copied.
use Rattle.std.specs.Prelude.{◌≡◌, ℕ, Bool, true, false, List, is_some}
use Rattle.std.specs.List.{AllZip}
use Rattle.std.proofs.Common.{sym, ap, subst, ◌∙◌}
use Rattle.elf_image.specs.Image.{in_code}
use Rattle.rv_instr.specs.Table.{OpInRange}
use Rattle.rv_execute.specs.Access.{reads_memory}
use Rattle.smt_model.specs.Words.{Op}
use Rattle.smt_model.specs.Kinds.{Kind, Conditional, kind_of}
use Rattle.smt_model.specs.{Exec.Computed, Nexts.is_last, Bytes.read}
use Rattle.smt_model.specs.Reservations.{holds_word, word_of_address}
use Rattle.sc_machine.specs.{Access.HasNoFault, Harts.HartAgrees, Here.op_here, Here.computed_here}
use Rattle.sc_machine.specs.{declared.hart.Hart.Hart as State}
use Rattle.litmus_runs.specs.declared.access.Access.{Access}
use Rattle.program_ways.specs.declared.{program.Program.Program, hart.Hart.Hart, hart.Sharing.Sharing, own.OwnWord.OwnWord}
use Rattle.program_ways.specs.Steps.{location_of, accesses_memory}
use Rattle.program_ways.specs.Ways.{IsOnWay, IsTold}
use Rattle.program_ways.specs.Keeping.{setup_here, own_byte, op_of, may_write, HasWay, IsAt, IsCopy, IsNoCode, GoesAlone}
use Rattle.program_ways.proofs.Moving.{apart, reads_accesses}

held_none : (kind : Kind) (held : Bool) → accesses_memory kind held ≡ false → kind ≡ Conditional → false ≡ held
held_none kind held none is = sym (sym (ap (λ k. accesses_memory k held) is) ∙ none)

held_some : (kind : Kind) (held : Bool) → accesses_memory kind held ≡ true → kind ≡ Conditional → true ≡ held
held_some kind held some is = sym (sym (ap (λ k. accesses_memory k held) is) ∙ some)

module _ (p : Program) (shared : List ℕ) (hart : Hart) (op : Op) (c : Computed) (is_op : op ≡ op_of p hart)
    (is : c ≡ computed_here p.memory hart.state op) (in_range : OpInRange op) (none : HasNoFault p.memory.image op c)
    (goes : is_last c.next ≡ false) where
  -- An instruction that accesses no memory.
  pub goes_without : accesses_memory (kind_of op) (holds_word hart.reserved c.addr) ≡ false
      → GoesAlone p shared hart op c 0 false
  goes_without no_access =
      let has = accesses_memory (kind_of op) (holds_word hart.reserved c.addr) in
      record {
        op_is = is_op;
        computed = is ∙ ap (computed_here p.memory hart.state) is_op;
        in_range = in_range;
        no_fault = none;
        goes = goes;
        alone = λ accesses. absurd (apart has no_access accesses);
        held_is = held_none (kind_of op) (holds_word hart.reserved c.addr) no_access;
        number_is = λ reads.
            absurd (apart has no_access (reads_accesses (kind_of op) (holds_word hart.reserved c.addr) reads));
      }

  -- One that accesses a word of the hart's own.
  pub goes_own : (number : ℕ) → accesses_memory (kind_of op) (holds_word hart.reserved c.addr) ≡ true
      → is_some (location_of shared (word_of_address c.addr)) ≡ false → IsNoCode p op c.addr
      → (reads_memory (kind_of op) ≡ true → number ≡ read op (own_byte p.memory.image hart.own.items) c.addr)
      → GoesAlone p shared hart op c number true
  goes_own number accesses unshared no_code number_is = record {
    op_is = is_op;
    computed = is ∙ ap (computed_here p.memory hart.state) is_op;
    in_range = in_range;
    no_fault = none;
    goes = goes;
    alone = λ _. (unshared, no_code);
    held_is = held_some (kind_of op) (holds_word hart.reserved c.addr) accesses;
    number_is = number_is;
  }

-- What writes where no code is, or may not write.
pub no_code_there : (p : Program) (op : Op) (addr word : ℕ) → word ≡ word_of_address addr
    → in_code p.memory.image word ≡ false → IsNoCode p op addr
no_code_there p op addr word at out = λ _. subst (λ a. in_code p.memory.image a ≡ false) at out

pub no_write_there : (p : Program) (op : Op) (addr : ℕ) → may_write (kind_of op) ≡ false → IsNoCode p op addr
no_write_there p op addr never = λ writes. absurd (apart (may_write (kind_of op)) never writes)

-- A copy of a hart is on the same way, and stands at the same access.
pub copied_way : (p : Program) (shared : List ℕ) (hart copy : Hart) → IsCopy hart copy → HasWay p shared hart
    → HasWay p shared copy
copied_way p shared hart copy is has =
    let s = has.way.state in
    record {
      way = has.way;
      on = subst (λ i. IsOnWay (setup_here p) shared i has.way) (sym is.index) has.on;
      keeps = record {
        state = subst (λ i. HartAgrees s i copy.state) (sym is.index)
            (subst (λ (x : State). HartAgrees s hart.index x) (sym is.state) has.keeps.state);
        accesses = subst (λ (xs : List Access). AllZip (IsTold shared p.places.items) has.way.made xs) (sym is.accesses)
            has.keeps.accesses;
        own = λ a inside. ap (λ (xs : List OwnWord). own_byte p.memory.image xs a) is.own ∙ has.keeps.own a inside;
        reserved = is.reserved ∙ has.keeps.reserved ∙ ap s.reserved (sym is.index);
        reserving = is.reserving ∙ has.keeps.reserving;
        code = has.keeps.code;
      };
    }

pub copied_at : (p : Program) (shared : List ℕ) (hart copy : Hart) (sharing : Sharing) → IsCopy hart copy
    → IsAt p shared hart sharing → IsAt p shared copy sharing
copied_at p shared hart copy sharing is at = record {
  op = at.op ∙ ap (op_here p.memory) (sym is.state);
  address = at.address
      ∙ ap (λ (x : State). (computed_here p.memory x (op_here p.memory x)).addr) (sym is.state);
  in_range = at.in_range;
  goes = subst (λ (x : State). is_last (computed_here p.memory x (op_here p.memory x)).next ≡ false) (sym is.state) at.goes;
  accesses = subst (λ r. accesses_memory (kind_of sharing.op) (holds_word r sharing.address) ≡ true) (sym is.reserved)
      at.accesses;
  location = at.location;
  whole = at.whole;
  code = at.code;
}
