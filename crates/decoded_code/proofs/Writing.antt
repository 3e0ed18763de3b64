-- After a write the code is again what memory has, once the word that it touches is decoded anew.
use Rattle.std.proofs.Common.{◌≡◌, ◌≢◌, ℕ, ◌+◌, ◌-◌, ◌*◌, ◌/◌, ◌%◌, ◌<◌, ◌≤◌, ◌⊎◌, true, false, List, length, Some, None, refl, sym, ap, ◌∙◌}
use Rattle.std.proofs.Common.{subst, arith, inl, inr}
use Rattle.std.specs.Prelude.{slice_index_or, slice_set}
use Rattle.std.proofs.lemmas.Bool.{cases_eq, cases_lt}
use Rattle.std.proofs.{lemmas.List.get_or-set_other, lemmas.List.length-set, lemmas.Grind.get_or-set_at}
use Rattle.std.specs.Vec.{with_item}
use Rattle.rv_instr.specs.{Decode.op_of_word, Table.OpInRange}
use Rattle.std.proofs.lemmas.Bool.Decides.{nat_tests}
use Rattle.elf_image.specs.Image.{ProgramImage, code_start, code_size, word_now, word_of, has_code_word, ram_start}
use Rattle.elf_image.proofs.Words.{word_now-at, word_now-same}
use Rattle.events.specs.declared.effect.Written.{Written}
use Rattle.rv_execute.specs.Access.{IsSize}
use Rattle.smt_model.specs.{Bytes.written_byte, Bytes.byte_after, Faults.write_fault}
use Rattle.shared_memory.specs.Contents.{CanWrite}
use Rattle.decoded_code.specs.{Code.IsFetched, Code.IsCodeOf, Code.place_of}
use Rattle.decoded_code.specs.{declared.code.Code.Code, declared.code.Fetched.Fetched}

-- ---- A write lies in one aligned word

aligned_write : (image : ProgramImage) (addr n : ℕ) → write_fault image addr n ≡ None → addr % n ≡ 0
aligned_write image addr n none = grind (arith, nat_tests)

in_word : (addr n : ℕ) → IsSize n → addr % n ≡ 0 → addr + n ≤ addr - addr % 4 + 4
in_word addr n (inl one) so = omega arith
in_word addr n (inr (inl two)) so = let even : addr % 2 ≡ 0 = rw two at so in omega arith
in_word addr n (inr (inr four)) so = let whole : addr % 4 ≡ 0 = rw four at so in omega arith

untouched : (w : Written) (a before : ℕ) → w.addr + w.n ≤ w.addr - w.addr % 4 + 4
    → (a < w.addr - w.addr % 4) ⊎ (w.addr - w.addr % 4 + 4 ≤ a)
    → written_byte w a before ≡ before
untouched w a before within outside = grind (arith, nat_tests)

-- ---- A word that the write doesn't touch is decoded still

module _ (image : ProgramImage) (before after : ℕ → ℕ) (w : Written) (can : CanWrite image w)
    (written : (a : ℕ) → after a ≡ byte_after (Some w) a (before a)) where
  same_byte : (a : ℕ) → (a < w.addr - w.addr % 4) ⊎ (w.addr - w.addr % 4 + 4 ≤ a) → before a ≡ after a
  same_byte a outside =
      let within = in_word w.addr w.n can.size (aligned_write image w.addr w.n can.no_fault) in
      sym (written a ∙ untouched w a (before a) within outside)

  apart : (pc k a : ℕ) → pc % 4 ≡ 0 → pc ≢ w.addr - w.addr % 4 → k < 4 → a ≡ pc + k
      → (a < w.addr - w.addr % 4) ⊎ (w.addr - w.addr % 4 + 4 ≤ a)
  apart pc k a aligned other small is =
      elim (cases_lt a (w.addr - w.addr % 4)) [
        | inl under ↦ inl under
        | inr above ↦ inr (omega (arith, aligned, other, small, is, above))
      ]

  kept_word : (pc : ℕ) → pc % 4 ≡ 0 → pc ≢ w.addr - w.addr % 4 → word_now image after pc ≡ word_now image before pc
  kept_word pc aligned other =
      sym (word_now-at image before after pc (same_byte pc (apart pc 0 pc aligned other (omega arith) (omega arith)))
      (same_byte (pc + 1) (apart pc 1 (pc + 1) aligned other (omega arith) refl))
      (same_byte (pc + 2) (apart pc 2 (pc + 2) aligned other (omega arith) refl))
      (same_byte (pc + 3) (apart pc 3 (pc + 3) aligned other (omega arith) refl)))

  kept_fetched : (pc : ℕ) (f : Fetched) → pc % 4 ≡ 0 → pc ≢ w.addr - w.addr % 4 → IsFetched image before pc f
      → IsFetched image after pc f
  kept_fetched pc f aligned other was = record {
    word = kept_word pc aligned other ∙ was.word;
    op = was.op;
    in_range = was.in_range;
  }

  module _ (code : Code) (is : IsCodeOf image before code) where
    elsewhere : (i place : ℕ) → i ≢ place → w.addr - w.addr % 4 ≡ code.start + 4 * place
        → code.start + 4 * i ≢ w.addr - w.addr % 4
    elsewhere i place other there same = absurd (omega (arith, other, there, same))

    aligned_place : (i : ℕ) → (code.start + 4 * i) % 4 ≡ 0
    aligned_place i = omega (arith, is.aligned)

    -- A write beside the code leaves it as it is.
    beside : (i count : ℕ) → count ≡ length code.words.items → i < count → place_of code.start count w.addr ≡ None
        → code.start + 4 * i ≢ w.addr - w.addr % 4
    beside i count all inside none same = absurd (grind (arith, nat_tests))

    pub kept : place_of code.start (length code.words.items) w.addr ≡ None → IsCodeOf image after code
    kept none = record {
      start = is.start;
      aligned = is.aligned;
      size = is.size;
      each = λ i d inside.
          kept_fetched (code.start + 4 * i) (slice_index_or code.words.items i d) (aligned_place i)
          (beside i (length code.words.items) refl inside none) (is.each i d inside);
    }

    -- A write into the code changes the one word that it touches.
    word_there : (pc place : ℕ) → pc ≡ code.start + 4 * place → place < length code.words.items
        → word_now image after pc ≡ Some (word_of after pc)
    unfolding word_now
    word_there pc place at inside =
        let start = is.start in
        let size = is.size in
        let aligned = is.aligned in
        let there : has_code_word image pc ≡ true = grind (arith, nat_tests) in rw there refl

    in_place : (place count : ℕ) → place_of code.start count w.addr ≡ Some place
        → (w.addr - w.addr % 4 ≡ code.start + 4 * place) × (place < count)
    in_place place count some = let aligned = is.aligned in grind (arith, nat_tests)

    changed : (place : ℕ) (x : Fetched) → place_of code.start (length code.words.items) w.addr ≡ Some place
        → x.word ≡ word_of after (w.addr - w.addr % 4) → x.op ≡ op_of_word (Some x.word) → OpInRange x.op
        → (i : ℕ) (d : Fetched) → i < length code.words.items
        → IsFetched image after (code.start + 4 * i) (slice_index_or (slice_set code.words.items place x) i d)
    changed place x some word op in_range i d inside =
        let at = in_place place (length code.words.items) some in
        elim (cases_eq i place) [
          | inl here ↦
              let same = get_or-set_at code.words.items place i x d here at.1 in
              rw (same, here) (record {
                word = word_there (code.start + 4 * place) place refl at.1
                    ∙ ap Some (ap (word_of after) (sym at.0) ∙ sym word);
                op = op;
                in_range = in_range;
              })
          | inr other ↦
              let same = get_or-set_other code.words.items place i x d other in
              rw same (kept_fetched (code.start + 4 * i) (slice_index_or code.words.items i d) (aligned_place i)
              (elsewhere i place other at.0) (is.each i d inside))
        ]

    pub decoded_anew : (place : ℕ) (x : Fetched)
        → place_of code.start (length code.words.items) w.addr ≡ Some place
        → x.word ≡ word_of after (w.addr - w.addr % 4) → x.op ≡ op_of_word (Some x.word) → OpInRange x.op
        → IsCodeOf image after (record code { words = with_item code.words place x })
    decoded_anew place x some word op in_range = record {
      start = is.start;
      aligned = is.aligned;
      size = rw length-set is.size;
      each = λ i d inside. changed place x some word op in_range i d (rw length-set at inside);
    }

-- What isn't written leaves it as it is.
pub same_bytes : (image : ProgramImage) (before after : ℕ → ℕ) (code : Code) → ((a : ℕ) → after a ≡ before a)
    → IsCodeOf image before code → IsCodeOf image after code
same_bytes image before after code same is = record {
  start = is.start;
  aligned = is.aligned;
  size = is.size;
  each = λ i d inside.
      let was = is.each i d inside in
      record {
        word = word_now-same image after before same (code.start + 4 * i) ∙ was.word;
        op = was.op;
        in_range = was.in_range;
      };
}
