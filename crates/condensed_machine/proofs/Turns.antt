-- The harts of a program begin in turn, each by its local steps.
use Rattle.std.proofs.Common.{◌≡◌, ℕ, zero, suc, ◌<◌, ◌≤◌, true, false, List, [], None}
use Rattle.std.proofs.Common.{length, replicate, refl, sym, ap, subst, ◌∙◌, arith}
use Rattle.std.proofs.Common.{inl, inr}
use Rattle.std.specs.Prelude.{◌==◌, if◌then◌else◌, nat_lt, slice_index}
use Rattle.std.proofs.lemmas.Bool.{cases_eq, cases_lt, Decides.nat_tests}
use Rattle.std.proofs.lemmas.Option.{slice_get_within}
use Rattle.smt_model.specs.{declared.config.Status.TheVariants.Going}
use Rattle.smt_model.specs.{Setup.Setup, Setup.first_number, Plain.Plain, Plain.start}
use Rattle.outcome_laws.specs.Search.{IsLocalPath}
use Rattle.outcome_laws.proofs.Holding.{has_local, paths_keep_code}
use Rattle.sc_machine.specs.{Harts.HartAgrees, Harts.IsFirst, declared.hart.Hart.Hart}
use Rattle.elf_image.specs.Image.{byte_in}
use Rattle.changed_memory.specs.Shared.{Shared, changed, reserved_at}
use Rattle.condensed_machine.specs.{Resting.IsRested, Settling.HartsStay, Settling.GoesOn}
use Rattle.condensed_machine.specs.{Tables.HasNumber, Steps.SettlesBy, Steps.turns}
use Rattle.condensed_machine.specs.{Machine.Program, Machine.tables_of, Machine.IsSound}
use Rattle.condensed_machine.specs.{Executing.SharedAgrees}
use Rattle.condensed_machine.specs.Beginning.{HaveBegun}
use Rattle.condensed_machine.specs.Decoded.{Decoded, full, hart_at}
use Rattle.condensed_machine.proofs.Alike.{IsKeptAs, IsFirstBeyond, alike_by_harts, register_absent}
use Rattle.condensed_machine.proofs.Alike.{still_beyond, rests_as}
use Rattle.condensed_machine.proofs.{Following.paths_join, Following.agrees_still, Instructions.has_targets}

first_reads : (r n : ℕ) → (r ≡ 0 → n ≡ 0) → n ≡ (if r == 0 then 0 else n)
first_reads r n at_zero = grind (arith, nat_tests)

first_zero : (harts h r : ℕ) → r ≡ 0 → first_number harts h r ≡ 0
first_zero harts h r is = subst (λ k. first_number harts h k ≡ 0) (sym is) refl

-- A hart that has come to rest in s, as the hart with a number.
record IsSettledAs (p : Program) (s : Plain) (table : List Hart) (h number : ℕ) : Type 0 where
  moved : Hart
  agrees : HartAgrees s h moved
  hart : Hart
  rested : IsRested p.live p.watched moved hart
  has : HasNumber table hart number

module _ (p : Program) (table : List Hart) (ways numbers : List ℕ) (setup : Setup) (image : setup.image ≡ p.image)
    (harts : setup.harts ≡ p.harts) (begun : HaveBegun p table p.harts ways numbers) where
  -- The harts before h have come to rest in s, and nothing else has changed since the start.
  record IsAt (h : ℕ) : Type 0 where
    there : Plain
    local : IsLocalPath setup (tables_of p) (turns ways h) (start setup) there
    settled : (g : ℕ) → g < h → IsSettledAs p there table g (slice_index numbers g)
    registers : (g r : ℕ) → h ≤ g → there.registers g r ≡ first_number p.harts g r
    beyond : IsFirstBeyond p there
    pcs : (g : ℕ) → h ≤ g → there.pcs g ≡ p.image.entry
    statuses : (g : ℕ) → h ≤ g → there.statuses g ≡ Going
    reserved : (g : ℕ) → there.reserved g ≡ (start setup).reserved g
    bytes : (a : ℕ) → there.bytes a ≡ (start setup).bytes a
    output : there.output ≡ (start setup).output

  at_start : IsAt 0
  at_start = record {
    there = start setup;
    local = refl;
    settled = λ g below. absurd (omega arith);
    registers = λ g r above. ap (λ n. first_number n g r) harts;
    beyond = λ g r past. ap (λ n. first_number n g r) harts;
    pcs = λ g above. ap (λ i. i.entry) image;
    statuses = λ g above. refl;
    reserved = λ g. refl;
    bytes = λ a. refl;
    output = refl;
  }

  first_agrees : (h : ℕ) (now : IsAt h) (x : Hart) → IsFirst h p.harts p.image.entry x → HartAgrees now.there h x
  first_agrees h now x is = record {
    registers = λ r below.
        is.registers r
        ∙ first_reads r (first_number p.harts h r) (first_zero p.harts h r)
        ∙ ap (λ n. if r == 0 then 0 else n) (sym (now.registers h r (omega arith)));
    pc = is.pc ∙ sym (now.pcs h (omega arith));
    status = is.status ∙ sym (now.statuses h (omega arith));
  }

  still_settled : (h g number : ℕ) (s t : Plain) → (g == h) ≡ false → HartsStay h s t → IsSettledAs p s table g number
      → IsSettledAs p t table g number
  still_settled h g number s t apart stay settled = record {
    moved = settled.moved;
    agrees = agrees_still h g s t settled.moved apart stay settled.agrees;
    hart = settled.hart;
    rested = settled.rested;
    has = settled.has;
  }

  one_turn : (h : ℕ) → h < p.harts → IsAt h → IsAt (suc h)
  one_turn h inside now =
      let own = begun h inside in
      let there : h < setup.harts = omega (arith, harts) in
      let goes : GoesOn setup (tables_of p) h (slice_index ways h) now.there own.rests.moved =
      own.rests.settles.leads setup (tables_of p) h now.there (has_targets p) image there
      (has_local setup (tables_of p) (turns ways h) (start setup) now.there (paths_keep_code setup).0 now.local)
      (first_agrees h now own.first own.is_first) (λ free. now.reserved h) in
      record {
        there = goes.there;
        local = paths_join setup (tables_of p) (turns ways h) (replicate (slice_index ways h) h) (start setup) now.there
            goes.there now.local goes.local;
        settled = λ g below. elim (cases_eq g h) [
          | inl same ↦
              subst (λ k. IsSettledAs p goes.there table k (slice_index numbers k)) (sym same)
              (record {
                moved = own.rests.moved;
                agrees = goes.agrees;
                hart = own.hart;
                rested = own.rests.rested;
                has = own.has;
              })
          | inr other ↦
              let apart : (g == h) ≡ false = grind (arith, nat_tests) in
              still_settled h g (slice_index numbers g) now.there goes.there apart goes.others.harts
              (now.settled g (omega arith))
        ];
        registers = λ g r above.
            let apart : (g == h) ≡ false = grind (arith, nat_tests) in
            goes.others.harts.registers g r apart ∙ now.registers g r (omega arith);
        beyond = still_beyond p h now.there goes.there goes.others.harts now.beyond;
        pcs = λ g above.
            let apart : (g == h) ≡ false = grind (arith, nat_tests) in
            goes.others.harts.pcs g apart ∙ now.pcs g (omega arith);
        statuses = λ g above.
            let apart : (g == h) ≡ false = grind (arith, nat_tests) in
            goes.others.harts.statuses g apart ∙ now.statuses g (omega arith);
        reserved = λ g. goes.others.reserved g ∙ now.reserved g;
        bytes = λ a. goes.others.bytes a ∙ now.bytes a;
        output = goes.others.output ∙ now.output;
      }

  all_turns : (h : ℕ) → h ≤ p.harts → IsAt h
  all_turns zero within = at_start
  all_turns (suc h) within = one_turn h (omega arith) (all_turns h (omega arith))

  module _ (d : Decoded) (sound : IsSound p)
      (is : (h : ℕ) (y : Hart) → h < p.harts → HasNumber table y (slice_index numbers h) → hart_at d.harts h ≡ y)
      (shared : SharedAgrees p.image (start setup) d.shared) where
    end : IsAt p.harts
    end = all_turns p.harts (omega arith)

    kept : (h : ℕ) → IsKeptAs p end.there h (hart_at d.harts h)
    kept h = elim (cases_lt h p.harts) [
      | inl inside ↦
          let here = end.settled h inside in
          let test : nat_lt h p.harts ≡ true = grind (arith, nat_tests) in
          subst (IsKeptAs p end.there h) (sym (is h here.hart inside here.has))
          (rests_as p end.there h here.moved here.hart test here.agrees here.rested end.beyond)
      | inr beyond ↦
          let test : nat_lt h p.harts ≡ false = grind (arith, nat_tests) in
          let x = hart_at d.harts h in
          record {
            pc = end.pcs h beyond ∙ sym (ap (λ b. if b then x.pc else p.image.entry) test);
            status = end.statuses h beyond ∙ sym (ap (λ b. if b then x.status else Going) test);
            registers = λ r some matter.
                end.registers h r beyond
                ∙ sym (register_absent p h x r test);
          }
    ]

    pub settles_in_turn : SettlesBy setup p (turns ways p.harts) (start setup) (full p d)
    settles_in_turn = record {
      settles = record {
        order = turns ways p.harts;
        there = end.there;
        local = end.local;
        alike = alike_by_harts p end.there d kept (record {
          reserved = λ g matter. shared.reserved g ∙ sym (end.reserved g);
          bytes = λ a. shared.bytes a ∙ sym (end.bytes a);
          output = shared.output ∙ sym end.output;
        });
      };
      by = refl;
    }

-- What harts share at the start.
pub shared_begins : (p : Program) (setup : Setup) (shared : Shared) → setup.image ≡ p.image → shared.changes ≡ []
    → ((h : ℕ) → reserved_at shared h ≡ None) → shared.output ≡ [] → SharedAgrees p.image (start setup) shared
shared_begins p setup shared image changes reserved output = record {
  reserved = reserved;
  bytes = λ a.
      ap (λ cs. changed cs a (byte_in p.image a)) changes ∙ ap (λ i. byte_in i a) (sym image);
  output = output;
}

-- Each number of the start is that of a hart: those that aren't there have 0, which is hart 0's or another's.
pub numbers_within : (p : Program) (table : List Hart) (ways numbers : List ℕ) → 0 < p.harts
    → HaveBegun p table p.harts ways numbers → ((h : ℕ) → p.harts ≤ h → slice_index numbers h ≡ 0)
    → (h : ℕ) → slice_index numbers h < length table
numbers_within p table ways numbers some begun absent h =
    let of_first = begun 0 some in
    let first = slice_get_within table (slice_index numbers 0) of_first.hart of_first.has in
    elim (cases_lt h p.harts) [
      | inl inside ↦ let own = begun h inside in slice_get_within table (slice_index numbers h) own.hart own.has
      | inr beyond ↦ let none = absent h beyond in omega arith
    ]
