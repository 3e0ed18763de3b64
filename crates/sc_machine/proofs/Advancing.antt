-- After a step of one hart the machine agrees with the state of the definitions' machine after it.
use Rattle.std.proofs.Common.{◌≡◌, ℕ, ◌<◌, length, get_or, sym, ap, subst, ◌∙◌, arith, inl, inr}
use Rattle.std.specs.Prelude.{◌==◌, slice_set}
use Rattle.std.proofs.lemmas.Bool.{cases_eq}
use Rattle.std.proofs.lemmas.List.{length-set, get_or-set_same, get_or-set_other}
use Rattle.shared_memory.specs.Contents.{byte_of, reserved_of}
use Rattle.smt_model.specs.Words.{Op, Effect}
use Rattle.smt_model.specs.{Setup.Setup, Bytes.byte_after, Reservations.reservation_after}
use Rattle.smt_model.specs.Plain.{Plain, after, output_after}
use Rattle.sc_machine.specs.{Harts.HartAgrees, Machine.Machine, Machine.Agrees, declared.hart.Hart.Hart}
use Rattle.sc_machine.proofs.Harts.{other_hart}

pub advanced : (setup : Setup) (s : Plain) (m n : Machine) (h : ℕ) (op : Op) (addr : ℕ) (e : Effect) (y : Hart)
    → Agrees setup s m → h < length m.harts → HartAgrees (after s h op addr e) h y → n.harts ≡ slice_set m.harts h y
    → n.memory.image ≡ m.memory.image
    → ((a : ℕ) → byte_of n.memory a ≡ byte_after e.write a (byte_of m.memory a))
    → ((g : ℕ) → reserved_of n.memory g ≡ reservation_after op addr e (g == h) (reserved_of m.memory g))
    → n.output ≡ output_after e.out m.output → Agrees setup (after s h op addr e) n
advanced setup s m n h op addr e y agrees inside own harts image bytes reserved output =
    let count : length n.harts ≡ length m.harts = ap length harts ∙ length-set m.harts h y in
    record {
      image = image ∙ agrees.image;
      count = count ∙ agrees.count;
      each = λ g d there.
          subst (λ xs. HartAgrees (after s h op addr e) g (get_or xs g d)) (sym harts)
          (elim (cases_eq g h) [
            | inl same ↦
                subst (λ k. HartAgrees (after s h op addr e) k (get_or (slice_set m.harts h y) k d)) (sym same)
                (subst (HartAgrees (after s h op addr e) h) (sym (get_or-set_same m.harts h y d inside)) own)
            | inr other ↦
                subst (HartAgrees (after s h op addr e) g) (sym (get_or-set_other m.harts h g y d other))
                (other_hart s h g op addr e (get_or m.harts g d) other (agrees.each g d (omega arith)))
          ]);
      reserved = λ g. reserved g ∙ ap (reservation_after op addr e (g == h)) (agrees.reserved g);
      bytes = λ a. bytes a ∙ ap (byte_after e.write a) (agrees.bytes a);
      output = output ∙ ap (output_after e.out) agrees.output;
    }
