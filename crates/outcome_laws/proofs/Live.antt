-- Alike states make alike steps.
use Rattle.std.specs.Prelude.{◌≡◌, ◌≢◌, ℕ, Bool, true, false, not, ◌==◌, ◌&&◌, ◌||◌, nat_lt, if◌then◌else◌}
use Rattle.std.specs.Prelude.{◌++◌}
use Rattle.std.specs.List.{list_all}
use Rattle.std.proofs.Common.{◌∙◌, refl, sym, ap, ap₂, subst, inl, inr, arith}
use Rattle.std.proofs.{lemmas.Bool.cases_Bool, lemmas.Bool.Decides.nat_tests, Math.Path.fun_ext}
use Rattle.elf_image.specs.Image.{word_now}
use Rattle.elf_image.proofs.Words.{word_now-same}
use Rattle.rv_instr.specs.declared.op.Op.{Op}
use Rattle.events.specs.{declared.effect.Effect.Effect}
use Rattle.events.specs.{declared.effect.Next.TheVariants.Pc}
use Rattle.smt_model.specs.{Setup.Setup, Nexts.is_last, Nexts.pc_after}
use Rattle.smt_model.specs.{Exec.Computed, Faults.computed_on, Words.op_of_word, Basics.below}
use Rattle.smt_model.specs.Kinds.{kind_of}
use Rattle.smt_model.specs.Kinds.{destination, first_source, second_source, writes_register}
use Rattle.smt_model.specs.{Bytes.read, Bytes.byte_after, Reservations.holds_word}
use Rattle.smt_model.specs.{Reservations.reservation_after, Plain.output_after}
use Rattle.smt_model.specs.{Reservations.reservation_after_write}
use Rattle.smt_model.specs.Plain.{Plain, is_going_status, register_after, status_after, read_register}
use Rattle.smt_model.specs.Plain.{op_at_pc, computes, effect_at}
use Rattle.smt_laws.proofs.{Registers.Reading.effect-next, Done.value-given}
use Rattle.outcome_laws.specs.{Paths.can_step, Paths.stepped}
use Rattle.outcome_laws.specs.Tables.{Tables, IsTables, IsAsCoded, op_at, may_change, may_go, reads_register}
use Rattle.outcome_laws.specs.Tables.{is_conditional}
use Rattle.outcome_laws.specs.Tables.{replaces_reservation}
use Rattle.outcome_laws.specs.Local.{Use, accesses, fetches, goes_on_within, fits, apart_from, is_apart}
use Rattle.outcome_laws.specs.Local.{lacks_reservation, is_local}
use Rattle.outcome_laws.specs.Live.{matters, reservation_matters, AreAlike, StepAlike, AlikeStatesStepAlike}
use Rattle.outcome_laws.proofs.Facts.{first_of_both, second_of_both, either_left, either_right}
use Rattle.outcome_laws.proofs.Known.{known, op_as_coded, goes_by_image}
use Rattle.outcome_laws.proofs.Uses.{same_effect, effect_on}
use Rattle.outcome_laws.proofs.Words.{access_lies}
use Rattle.outcome_laws.proofs.Afterwards.{apart_or, only_watched, last_stands, destined, register_by, goes_to}
use Rattle.outcome_laws.proofs.Afterwards.{own_replaced, lacks_by}

-- ---- What alike states find

module _ (setup : Setup) (watched : ℕ → Bool) (tables : Tables) (good : IsTables setup.image tables)
    (s t : Plain) (coded : IsAsCoded setup tables s) (alike : AreAlike watched tables s t) where
  same_op : (h : ℕ) → op_at_pc setup t h ≡ op_at_pc setup s h
  same_op h =
      ap (λ pc. op_of_word (word_now setup.image t.bytes pc)) (sym (alike.pcs h))
      ∙ ap op_of_word (word_now-same setup.image t.bytes s.bytes (λ a. sym (alike.bytes a)) (s.pcs h))

  -- What the tables say of the image they say of memory, or the code may change, and all are live.
  live_read : (h r : ℕ) → r ≢ 0 → reads_register (op_at_pc setup s h) r ≡ true → tables.live (s.pcs h) r ≡ true
  live_read h r some reads =
      elim (cases_Bool (may_change setup.image tables (s.pcs h))) [
        | inl changes ↦ good.live.all (s.pcs h) r some changes
        | inr stays ↦
            good.live.reads (s.pcs h) r some
            (subst (λ o. reads_register o r ≡ true) (op_as_coded setup tables s coded h stays) reads)
      ]

  -- Hart h's instruction goes on there, by the image.
  abbrev Goes : ℕ → ℕ → Type 0
  Goes h to = may_go (may_change setup.image tables) tables.targets (op_at setup.image (s.pcs h)) (s.pcs h) to ≡ true

  live_stays : (h to r : ℕ) → r ≢ 0 → Goes h to → tables.live to r ≡ true
      → (r == destination (op_at_pc setup s h)) ≡ false → tables.live (s.pcs h) r ≡ true
  live_stays h to r some leads lives other =
      elim (cases_Bool (may_change setup.image tables (s.pcs h))) [
        | inl changes ↦ good.live.all (s.pcs h) r some changes
        | inr stays ↦
            good.live.stays (s.pcs h) to r some leads lives
            (subst (λ o. (r == destination o) ≡ false) (op_as_coded setup tables s coded h stays) other)
      ]

  -- So it is of reservations.
  kept_used : (h : ℕ) → is_conditional (kind_of (op_at_pc setup s h)) ≡ true → tables.kept (s.pcs h) ≡ true
  kept_used h is =
      elim (cases_Bool (may_change setup.image tables (s.pcs h))) [
        | inl changes ↦ good.kept.all (s.pcs h) changes
        | inr stays ↦
            good.kept.used (s.pcs h)
            (subst (λ o. is_conditional (kind_of o) ≡ true) (op_as_coded setup tables s coded h stays) is)
      ]

  kept_stays : (h to : ℕ) → Goes h to → tables.kept to ≡ true
      → replaces_reservation (kind_of (op_at_pc setup s h)) ≡ false → tables.kept (s.pcs h) ≡ true
  kept_stays h to leads keeps other =
      elim (cases_Bool (may_change setup.image tables (s.pcs h))) [
        | inl changes ↦ good.kept.all (s.pcs h) changes
        | inr stays ↦
            good.kept.stays (s.pcs h) to leads keeps
            (subst (λ o. replaces_reservation (kind_of o) ≡ false) (op_as_coded setup tables s coded h stays) other)
      ]

  can_too : (h : ℕ) → can_step setup h t ≡ can_step setup h s
  can_too h = ap (λ status. nat_lt h setup.harts && is_going_status status) (sym (alike.statuses h))

  going_of : (h : ℕ) → can_step setup h s ≡ true → is_going_status (s.statuses h) ≡ true
  going_of h can = grind arith

  -- A register that is live at the pc of a hart that goes matters.
  live_matters : (h r : ℕ) → is_going_status (s.statuses h) ≡ true → tables.live (s.pcs h) r ≡ true
      → matters watched tables.live s h r ≡ true
  live_matters h r going is =
      either_right (watched r) (is_going_status (s.statuses h) && tables.live (s.pcs h) r) (grind arith)

  same_read : (h r : ℕ) → is_going_status (s.statuses h) ≡ true → (r ≢ 0 → tables.live (s.pcs h) r ≡ true)
      → read_register t h r ≡ read_register s h r
  same_read h r going is =
      elim (cases_Bool (r == 0)) [
        | inl zero ↦ rw zero refl
        | inr other ↦
            let apart : r ≢ 0 = (λ same. absurd (grind (arith, nat_tests))) in
            rw other (sym (alike.registers h r apart (live_matters h r going (is apart))))
      ]

  same_first : (h : ℕ) → is_going_status (s.statuses h) ≡ true
      → read_register t h (first_source (op_at_pc setup s h)) ≡ read_register s h (first_source (op_at_pc setup s h))
  same_first h going =
      let r = first_source (op_at_pc setup s h) in
      same_read h r going (λ some. live_read h r some (either_left (r == r) (r == second_source (op_at_pc setup s h))
      (grind (arith, nat_tests))))

  same_second : (h : ℕ) → is_going_status (s.statuses h) ≡ true
      → read_register t h (second_source (op_at_pc setup s h)) ≡ read_register s h (second_source (op_at_pc setup s h))
  same_second h going =
      let r = second_source (op_at_pc setup s h) in
      same_read h r going (λ some. live_read h r some (either_right (r == first_source (op_at_pc setup s h)) (r == r)
      (grind (arith, nat_tests))))

  same_computes : (h : ℕ) → is_going_status (s.statuses h) ≡ true → computes setup t h ≡ computes setup s h
  same_computes h going =
      let op = op_at_pc setup s h in
      ap₂ (λ o pc. computed_on setup o pc (read_register t h (first_source o)) (read_register t h (second_source o)))
      (same_op h) (sym (alike.pcs h))
      ∙ ap₂ (λ a b. computed_on setup op (s.pcs h) a b) (same_first h going) (same_second h going)

  -- Of SC's reservation, which it uses, and so which is the same.
  same_held : (h : ℕ) → is_going_status (s.statuses h) ≡ true
      → is_conditional (kind_of (op_at_pc setup s h)) ≡ true → t.reserved h ≡ s.reserved h
  same_held h going is =
      sym (alike.reserved h (rw (going, kept_used h is) refl))

  says_same : (h : ℕ) → is_going_status (s.statuses h) ≡ true → effect_at setup t h ≡ effect_at setup s h
  says_same h going =
      let op = op_at_pc setup s h in
      let c = computes setup s h in
      ap₂ (λ o x. effect_on o x t.bytes (t.reserved h)) (same_op h) (same_computes h going)
      ∙ same_effect op c t.bytes s.bytes (t.reserved h) (s.reserved h) (access_lies setup s h) (λ on touches. record {
        bytes = λ a is. sym (alike.bytes a);
        held = λ asks. ap (λ r. holds_word r c.addr) (same_held h going asks);
      })

  -- ---- What fits, and what is local

  abbrev fits_as : ℕ → ℕ → Op → Computed → Bool
  fits_as h pc op c =
      list_all (λ (u : Use). tables.ahead h pc u.what u.writes) (fetches setup.image tables pc ++ accesses op c)
      && goes_on_within setup.image tables op pc c.next

  same_fits : (h : ℕ) → is_going_status (s.statuses h) ≡ true → fits setup tables h t ≡ fits setup tables h s
  same_fits h going =
      ap (λ pc. fits_as h pc (op_at_pc setup t h) (computes setup t h)) (sym (alike.pcs h))
      ∙ ap₂ (fits_as h (s.pcs h)) (same_op h) (same_computes h going)

  same_other : (h : ℕ) (u : Use) (g : ℕ) → apart_from tables h t g u ≡ apart_from tables h s g u
  same_other h u g =
      ap₂ (λ status pc. g == h || not (is_going_status status) || not (tables.ahead g pc u.what (not u.writes)))
      (sym (alike.statuses g)) (sym (alike.pcs g))

  same_apart : (h : ℕ) → is_apart setup tables h t ≡ is_apart setup tables h s
  same_apart h =
      fun_ext (λ (u : Use).
      ap (λ (test : ℕ → Bool). not (u.writes && tables.seen u.what) && list_all test (below setup.harts))
      (fun_ext (same_other h u)))

  same_lacks : (h : ℕ) → is_going_status (s.statuses h) ≡ true
      → lacks_reservation setup h t ≡ lacks_reservation setup h s
  same_lacks h going =
      ap₂ (λ o (c : Computed). is_conditional (kind_of o) && not (holds_word (t.reserved h) c.addr)) (same_op h)
      (same_computes h going)
      ∙ lacks_by (kind_of (op_at_pc setup s h)) (computes setup s h).addr (t.reserved h) (s.reserved h)
      (same_held h going)

  same_fetched : (h : ℕ) → list_all (is_apart setup tables h t) (fetches setup.image tables (t.pcs h))
      ≡ list_all (is_apart setup tables h s) (fetches setup.image tables (s.pcs h))
  same_fetched h =
      ap₂ (λ test pc. list_all test (fetches setup.image tables pc)) (same_apart h) (sym (alike.pcs h))

  same_accessed : (h : ℕ) → is_going_status (s.statuses h) ≡ true
      → list_all (is_apart setup tables h t) (accesses (op_at_pc setup t h) (computes setup t h))
      ≡ list_all (is_apart setup tables h s) (accesses (op_at_pc setup s h) (computes setup s h))
  same_accessed h going =
      ap (λ test. list_all test (accesses (op_at_pc setup t h) (computes setup t h))) (same_apart h)
      ∙ ap₂ (λ o c. list_all (is_apart setup tables h s) (accesses o c)) (same_op h) (same_computes h going)

  same_local : (h : ℕ) → is_going_status (s.statuses h) ≡ true → is_local setup tables h t ≡ is_local setup tables h s
  same_local h going =
      ap₂ (λ a b. a && b) (same_fits h going)
      (ap₂ (λ a b. a && b) (same_fetched h) (ap₂ (λ a b. a || b) (same_accessed h going) (same_lacks h going)))

  -- ---- Registers afterwards

  -- And a step that fits goes on where it may.
  goes_there : (h to : ℕ) → fits setup tables h s ≡ true → (effect_at setup s h).next ≡ Pc to → Goes h to
  goes_there h to fitting is =
      let op = op_at_pc setup s h in
      let c = computes setup s h in
      let from : c.next ≡ Pc to =
      sym (effect-next op c (read op s.bytes c.addr) (holds_word (s.reserved h) c.addr)) ∙ is in
      goes_by_image setup tables h s to coded
      (subst (λ next. goes_on_within setup.image tables op (s.pcs h) next ≡ true) from
      (known setup tables good h s fitting).goes)

  -- What matters afterwards of a register that isn't written mattered before.
  mattered : (h r : ℕ) → r ≢ 0 → is_going_status (s.statuses h) ≡ true → fits setup tables h s ≡ true
      → (r == destination (op_at_pc setup s h)) ≡ false
      → (watched r || (is_going_status (status_after (effect_at setup s h).next (s.statuses h))
      && tables.live (pc_after (effect_at setup s h).next (s.pcs h)) r)) ≡ true
      → matters watched tables.live s h r ≡ true
  mattered h r some going fitting other now =
      let next = (effect_at setup s h).next in
      elim (cases_Bool (watched r)) [
        | inl is ↦ either_left (watched r) (is_going_status (s.statuses h) && tables.live (s.pcs h) r) is
        | inr unwatched ↦
            let both = apart_or (watched r) (is_going_status (status_after next (s.statuses h))
            && tables.live (pc_after next (s.pcs h)) r) now unwatched in
            let on = goes_to next (s.statuses h) (first_of_both (is_going_status (status_after next (s.statuses h)))
            (tables.live (pc_after next (s.pcs h)) r) both) in
            let lives : tables.live on.to r ≡ true =
            subst (λ n. tables.live (pc_after n (s.pcs h)) r ≡ true) on.is_so
            (second_of_both (is_going_status (status_after next (s.statuses h)))
            (tables.live (pc_after next (s.pcs h)) r) both) in
            live_matters h r going
            (live_stays h on.to r some (goes_there h on.to fitting on.is_so) lives other)
      ]

  -- What is written is written into both; where nothing is, the hart has ended, and the register is watched.
  written : (h r : ℕ) → r ≢ 0 → (r == destination (op_at_pc setup s h)) ≡ true
      → (watched r || (is_going_status (status_after (effect_at setup s h).next (s.statuses h))
      && tables.live (pc_after (effect_at setup s h).next (s.pcs h)) r)) ≡ true
      → register_after (effect_at setup s h).value (s.registers h r)
      ≡ register_after (effect_at setup s h).value (t.registers h r)
  written h r some is now =
      let x = effect_at setup s h in
      let op = op_at_pc setup s h in
      let c = computes setup s h in
      let next = effect-next op c (read op s.bytes c.addr) (holds_word (s.reserved h) c.addr) in
      elim (cases_Bool (is_last c.next)) [
        | inl last ↦
            let stands : is_going_status (status_after x.next (s.statuses h)) ≡ false =
            rw next (last_stands c.next (s.statuses h) last) in
            let seen : watched r ≡ true =
            only_watched (watched r) (is_going_status (status_after x.next (s.statuses h)))
            (tables.live (pc_after x.next (s.pcs h)) r) stands now in
            ap (register_after x.value) (alike.registers h r some
            (either_left (watched r) (is_going_status (s.statuses h) && tables.live (s.pcs h) r) seen))
        | inr goes_on ↦
            let writes : writes_register op ≡ true = destined r (destination op) some is in
            let given = value-given op c (read op s.bytes c.addr) (holds_word (s.reserved h) c.addr) goes_on writes in
            rw given.is_so refl
      ]

  -- The registers afterwards: of hart h, and of every other hart g.
  own_registers : (h r : ℕ) → can_step setup h s ≡ true → fits setup tables h s ≡ true → r ≢ 0
      → matters watched tables.live (stepped setup h s) h r ≡ true
      → (stepped setup h s).registers h r ≡ (stepped setup h t).registers h r
  own_registers h r can fitting some now =
      let going = going_of h can in
      let op = op_at_pc setup s h in
      let x = effect_at setup s h in
      let self : (h == h) ≡ true = grind (arith, nat_tests) in
      let here : (watched r || (is_going_status (status_after x.next (s.statuses h))
      && tables.live (pc_after x.next (s.pcs h)) r)) ≡ true = rw self at now in
      let both : register_by h op x s.registers h r ≡ register_by h op x t.registers h r =
      elim (cases_Bool (r == destination op)) [
        | inl is ↦ rw (self, is) (written h r some is here)
        | inr other ↦ rw (self, other) (alike.registers h r some (mattered h r some going fitting other here))
      ] in
      both ∙ ap₂ (λ o e. register_by h o e t.registers h r) (sym (same_op h)) (sym (says_same h going))

  other_registers : (h g r : ℕ) → (g == h) ≡ false → r ≢ 0
      → matters watched tables.live (stepped setup h s) g r ≡ true
      → (stepped setup h s).registers g r ≡ (stepped setup h t).registers g r
  other_registers h g r apart some now = rw apart (alike.registers g r some (rw apart at now))

  registers_after : (h g r : ℕ) → can_step setup h s ≡ true → fits setup tables h s ≡ true → r ≢ 0
      → matters watched tables.live (stepped setup h s) g r ≡ true
      → (stepped setup h s).registers g r ≡ (stepped setup h t).registers g r
  registers_after h g r can fitting some now =
      elim (cases_Bool (g == h)) [
        | inl same ↦
            let is : g ≡ h = grind (arith, nat_tests) in
            subst (λ k. (stepped setup h s).registers k r ≡ (stepped setup h t).registers k r) (sym is)
            (own_registers h r can fitting some
            (subst (λ k. matters watched tables.live (stepped setup h s) k r ≡ true) is now))
        | inr apart ↦ other_registers h g r apart some now
      ]

  -- ---- Reservations afterwards

  -- A hart's reservation behind its own step, where it matters: LR and SC make it anew, others keep it.
  own_reserved : (h : ℕ) → is_going_status (s.statuses h) ≡ true → fits setup tables h s ≡ true
      → (is_going_status (status_after (effect_at setup s h).next (s.statuses h))
      && tables.kept (pc_after (effect_at setup s h).next (s.pcs h))) ≡ true
      → reservation_after (op_at_pc setup s h) (computes setup s h).addr (effect_at setup s h) true (s.reserved h)
      ≡ reservation_after (op_at_pc setup s h) (computes setup s h).addr (effect_at setup s h) true (t.reserved h)
  own_reserved h going fitting now =
      let op = op_at_pc setup s h in
      let addr = (computes setup s h).addr in
      let x = effect_at setup s h in
      let on = goes_to x.next (s.statuses h) (first_of_both (is_going_status (status_after x.next (s.statuses h)))
      (tables.kept (pc_after x.next (s.pcs h))) now) in
      let keeps : tables.kept on.to ≡ true =
      subst (λ n. tables.kept (pc_after n (s.pcs h)) ≡ true) on.is_so
      (second_of_both (is_going_status (status_after x.next (s.statuses h)))
      (tables.kept (pc_after x.next (s.pcs h))) now) in
      elim (cases_Bool (replaces_reservation (kind_of op))) [
        | inl replaces ↦
            let going_on : is_last x.next ≡ false = ap is_last on.is_so in
            rw going_on
            (ap (reservation_after_write x.write)
            (own_replaced (kind_of op) addr (s.reserved h) (t.reserved h) replaces))
        | inr leaves ↦
            let was = kept_stays h on.to (goes_there h on.to fitting on.is_so) keeps leaves in
            ap (reservation_after op addr x true) (alike.reserved h (rw (going, was) refl))
      ]

  reserved_by : (h g : ℕ) → is_going_status (s.statuses h) ≡ true → fits setup tables h s ≡ true
      → reservation_matters tables.kept (stepped setup h s) g ≡ true
      → reservation_after (op_at_pc setup s h) (computes setup s h).addr (effect_at setup s h) (g == h) (s.reserved g)
      ≡ reservation_after (op_at_pc setup s h) (computes setup s h).addr (effect_at setup s h) (g == h) (t.reserved g)
  reserved_by h g going fitting now =
      let op = op_at_pc setup s h in
      let addr = (computes setup s h).addr in
      let x = effect_at setup s h in
      elim (cases_Bool (g == h)) [
        | inl same ↦
            let is : h ≡ g = grind (arith, nat_tests) in
            let self : (h == h) ≡ true = grind (arith, nat_tests) in
            let mine : reservation_matters tables.kept (stepped setup h s) h ≡ true =
            subst (λ k. reservation_matters tables.kept (stepped setup h s) k ≡ true) (sym is) now in
            subst (λ k. reservation_after op addr x (k == h) (s.reserved k)
            ≡ reservation_after op addr x (k == h) (t.reserved k)) is
            (rw self (own_reserved h going fitting (rw self at mine)))
        | inr apart ↦
            ap (reservation_after op addr x (g == h)) (alike.reserved g (rw apart at now))
      ]

  step_alike : (h : ℕ) → can_step setup h s ≡ true → fits setup tables h s ≡ true
      → StepAlike setup watched tables h s t
  step_alike h can fitting =
      let going = going_of h can in
      let x = effect_at setup s h in
      let y = effect_at setup t h in
      let same_x : x ≡ y = sym (says_same h going) in
      let addr : (computes setup s h).addr ≡ (computes setup t h).addr =
      ap (λ (c : Computed). c.addr) (sym (same_computes h going)) in
      record {
        can = can_too h;
        fits = same_fits h going;
        local = same_local h going;
        alike = record {
          pcs = λ k. ap₂ (λ (e : Effect) pc. if k == h then pc_after e.next pc else pc) same_x (alike.pcs k);
          statuses = λ k. ap₂ (λ (e : Effect) v. if k == h then status_after e.next v else v) same_x (alike.statuses k);
          reserved = λ k now.
              reserved_by h k going fitting now
              ∙ (ap₂ (λ o (e : Effect). reservation_after o (computes setup s h).addr e (k == h) (t.reserved k))
              (sym (same_op h)) same_x
              ∙ ap (λ a. reservation_after (op_at_pc setup t h) a y (k == h) (t.reserved k)) addr);
          bytes = λ a. ap₂ (λ (e : Effect) b. byte_after e.write a b) same_x (alike.bytes a);
          output = ap₂ (λ (e : Effect) o. output_after e.out o) same_x alike.output;
          registers = λ k r some now. registers_after h k r can fitting some now;
        };
      }

pub alike_states_step_alike : AlikeStatesStepAlike
alike_states_step_alike setup watched tables good s t coded alike h can fitting =
    step_alike setup watched tables good s t coded alike h can fitting
