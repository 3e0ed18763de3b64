-- A local step and any step that fits of another hart come to the same in both orders.
use Rattle.std.specs.Prelude.{◌≡◌, ℕ, Bool, true, false, not, ◌==◌, ◌&&◌, if◌then◌else◌}
use Rattle.std.specs.Prelude.{List, Option, Some, None, is_some}
use Rattle.std.proofs.Common.{◌∙◌, refl, sym, ap, ap₂, inl, inr, arith}
use Rattle.std.proofs.{lemmas.Bool.cases_Bool, lemmas.Bool.Decides.nat_tests, Math.Path.fun_ext}
use Rattle.rv_instr.specs.declared.op.Op.{Op}
use Rattle.events.specs.{declared.effect.Effect.Effect, declared.effect.Written.Written}
use Rattle.smt_model.specs.{Setup.Setup, Exec.Computed, Nexts.is_last, Nexts.pc_after, declared.config.Status.Status}
use Rattle.smt_model.specs.Kinds.{Kind, Computing, Loading, Storing, Reserving, Conditional, Atomic, kind_of}
use Rattle.smt_model.specs.Kinds.{touches_memory, destination}
use Rattle.smt_model.specs.{Bytes.read, Bytes.byte_after}
use Rattle.smt_model.specs.Reservations.{word_of_address, holds_word, own_reservation, reservation_after}
use Rattle.smt_model.specs.Reservations.{reservation_after_write}
use Rattle.smt_model.specs.Plain.{Plain, register_after, status_after, output_after}
use Rattle.smt_model.specs.Plain.{op_at_pc, computes, effect_at}
use Rattle.smt_laws.proofs.{Registers.Reading.effect-next}
use Rattle.outcome_laws.specs.Paths.{can_step, stepped}
use Rattle.outcome_laws.specs.Tables.{Tables, IsTables, IsAsCoded, is_conditional}
use Rattle.outcome_laws.specs.Local.{the_output, fits, lacks_reservation, is_local}
use Rattle.outcome_laws.proofs.Uses.{is_written, effect_on, byte_stays, same_effect, flipped}
use Rattle.outcome_laws.proofs.Words.{access_lies}
use Rattle.outcome_laws.proofs.Uses.{reservation_stays, holds_still, holds_never}
use Rattle.outcome_laws.proofs.Facts.{first_of_both, second_of_both, is_false, not_true}
use Rattle.outcome_laws.proofs.Known.{IsKnown, known, local_fits, spared_word, coded_next}
use Rattle.outcome_laws.proofs.Local.{SparesFetch, finds_op, finds, IsClear, clear, fails_same}

-- ---- Two steps of two harts

-- Where two tests don't both hold, what each of them changes is changed in either order.
two_changes : {A : Type 0} → (a b : Bool) (f g : A → A) (x : A) → (a && b) ≡ false
    → (if b then g (if a then f x else x) else (if a then f x else x))
    ≡ (if a then f (if b then g x else x) else (if b then g x else x))
two_changes true true f g x apart = absurd (grind arith)
two_changes true false f g x apart = refl
two_changes false true f g x apart = refl
two_changes false false f g x apart = refl

apart_at : (k h g : ℕ) → (g == h) ≡ false → ((k == h) && (k == g)) ≡ false
apart_at k h g apart = grind (arith, nat_tests)

apart_writes : (k h g r d e : ℕ) → (g == h) ≡ false → (((k == h) && (r == d)) && ((k == g) && (r == e))) ≡ false
apart_writes k h g r d e apart = grind (arith, nat_tests)

-- ---- Both orders

record IsSame (s t : Plain) : Type 0 where
  registers : (k r : ℕ) → s.registers k r ≡ t.registers k r
  pcs : (k : ℕ) → s.pcs k ≡ t.pcs k
  statuses : (k : ℕ) → s.statuses k ≡ t.statuses k
  reserved : (k : ℕ) → s.reserved k ≡ t.reserved k
  bytes : (a : ℕ) → s.bytes a ≡ t.bytes a
  output : s.output ≡ t.output

abbrev parts : (ℕ → ℕ → ℕ) → (ℕ → ℕ) → (ℕ → Status) → (ℕ → Option ℕ) → (ℕ → ℕ) → List ℕ → Plain
parts registers pcs statuses reserved bytes output = record {
  registers = registers;
  pcs = pcs;
  statuses = statuses;
  reserved = reserved;
  bytes = bytes;
  output = output;
}

same_parts : (r1 r2 : ℕ → ℕ → ℕ) (p1 p2 : ℕ → ℕ) (s1 s2 : ℕ → Status) (v1 v2 : ℕ → Option ℕ) (b1 b2 : ℕ → ℕ)
    (o1 o2 : List ℕ) → r1 ≡ r2 → p1 ≡ p2 → s1 ≡ s2 → v1 ≡ v2 → b1 ≡ b2 → o1 ≡ o2
    → parts r1 p1 s1 v1 b1 o1 ≡ parts r2 p2 s2 v2 b2 o2
same_parts r1 r2 p1 p2 s1 s2 v1 v2 b1 b2 o1 o2 r p s v b o = cc

same_state : (s t : Plain) → IsSame s t → s ≡ t
same_state s t is =
    same_parts s.registers t.registers s.pcs t.pcs s.statuses t.statuses s.reserved t.reserved s.bytes t.bytes
    s.output t.output (fun_ext (λ k. fun_ext (is.registers k))) (fun_ext is.pcs) (fun_ext is.statuses)
    (fun_ext is.reserved) (fun_ext is.bytes) is.output

-- A step by what its instruction is found to be.
abbrev step_by : ℕ → Op → ℕ → Effect → Plain → Plain
step_by h op addr x s = record {
  registers = λ k r.
      if (k == h) && (r == destination op) then register_after x.value (s.registers k r) else s.registers k r;
  pcs = λ k. if k == h then pc_after x.next (s.pcs k) else s.pcs k;
  statuses = λ k. if k == h then status_after x.next (s.statuses k) else s.statuses k;
  reserved = λ k. reservation_after op addr x (k == h) (s.reserved k);
  bytes = λ a. byte_after x.write a (s.bytes a);
  output = output_after x.out s.output;
}

same_step : (h : ℕ) (op oq : Op) (a b : ℕ) (x y : Effect) (s : Plain) → op ≡ oq → a ≡ b → x ≡ y
    → step_by h op a x s ≡ step_by h oq b y s
same_step h op oq a b x y s one two three =
    ap (λ o. step_by h o a x s) one ∙ (ap (λ n. step_by h oq n x s) two ∙ ap (λ e. step_by h oq b e s) three)

-- ---- Reservations in both orders

abbrev is_reserving : Kind → Bool
is_reserving Reserving = true
is_reserving _ = false

ended_by : (first second : Bool) (a : ℕ) (write write2 : Option Written)
    → reservation_after_write write2 (Some a) ≡ (if second then None else Some a)
    → reservation_after_write write (Some a) ≡ (if first then None else Some a)
    → reservation_after_write write None ≡ None → reservation_after_write write2 None ≡ None
    → reservation_after_write write (if second then None else Some a)
    ≡ reservation_after_write write2 (if first then None else Some a)
ended_by true true a write write2 is2 is none none2 = none ∙ sym none2
ended_by true false a write write2 is2 is none none2 = is ∙ sym none2
ended_by false true a write write2 is2 is none none2 = none ∙ sym is2
ended_by false false a write write2 is2 is none none2 = is ∙ sym is2

writes_commute : (write write2 : Option Written) (held : Option ℕ)
    → reservation_after_write write (reservation_after_write write2 held)
    ≡ reservation_after_write write2 (reservation_after_write write held)
writes_commute None write2 held = refl
writes_commute (Some w) None held = refl
writes_commute (Some w) (Some w2) None = refl
writes_commute (Some w) (Some w2) (Some a) =
    ended_by (word_of_address a == word_of_address w.addr) (word_of_address a == word_of_address w2.addr) a (Some w)
    (Some w2) refl refl refl refl

none_left : (write : Option Written) → reservation_after_write write None ≡ None
none_left None = refl
none_left (Some w) = refl

own_commutes : (kind : Kind) (at : ℕ) (write : Option Written) (held : Option ℕ)
    → (is_reserving kind ≡ true → is_written write (word_of_address at) ≡ false)
    → reservation_after_write write (own_reservation kind at held)
    ≡ own_reservation kind at (reservation_after_write write held)
own_commutes Computing at write held spared = refl
own_commutes Loading at write held spared = refl
own_commutes Storing at write held spared = refl
own_commutes Reserving at write held spared = reservation_stays write at (spared refl)
own_commutes Conditional at write held spared = none_left write
own_commutes Atomic at write held spared = refl

-- LR's own reservation isn't ended by the other's write.
abbrev Reserves : Op → ℕ → Effect → Effect → Type 0
Reserves op at x y = is_last x.next ≡ false → is_reserving (kind_of op) ≡ true
    → is_written y.write (word_of_address at) ≡ false

owner_first : (op oq : Op) (at bt : ℕ) (x y : Effect) (held : Option ℕ) → Reserves op at x y
    → reservation_after oq bt y false (reservation_after op at x true held)
    ≡ reservation_after op at x true (reservation_after oq bt y false held)
owner_first op oq at bt x y held spared =
    elim (cases_Bool (is_last x.next)) [
      | inl last ↦ rw last refl
      | inr going ↦
          elim (cases_Bool (is_last y.next)) [
            | inl last ↦ rw (going, last) refl
            | inr on ↦
                rw (going, on)
                (writes_commute y.write x.write (own_reservation (kind_of op) at held)
                ∙ ap (reservation_after_write x.write) (own_commutes (kind_of op) at y.write held (spared going)))
          ]
    ]

neither_owns : (op oq : Op) (at bt : ℕ) (x y : Effect) (held : Option ℕ)
    → reservation_after oq bt y false (reservation_after op at x false held)
    ≡ reservation_after op at x false (reservation_after oq bt y false held)
neither_owns op oq at bt x y held =
    elim (cases_Bool (is_last x.next)) [
      | inl last ↦ rw last refl
      | inr going ↦
          elim (cases_Bool (is_last y.next)) [
            | inl last ↦ rw (going, last) refl
            | inr on ↦ rw (going, on) (writes_commute y.write x.write held)
          ]
    ]

reservations_commute : (own other : Bool) (op oq : Op) (at bt : ℕ) (x y : Effect) (held : Option ℕ)
    → (own && other) ≡ false → Reserves op at x y → Reserves oq bt y x
    → reservation_after oq bt y other (reservation_after op at x own held)
    ≡ reservation_after op at x own (reservation_after oq bt y other held)
reservations_commute true true op oq at bt x y held apart first second = absurd (grind arith)
reservations_commute true false op oq at bt x y held apart first second = owner_first op oq at bt x y held first
reservations_commute false true op oq at bt x y held apart first second = sym (owner_first oq op bt at y x held second)
reservations_commute false false op oq at bt x y held apart first second = neither_owns op oq at bt x y held

-- ---- The whole state in both orders

outputs_commute : (out out2 : Option ℕ) (output : List ℕ) → (is_some out && is_some out2) ≡ false
    → output_after out2 (output_after out output) ≡ output_after out (output_after out2 output)
outputs_commute None out2 output apart = refl
outputs_commute (Some byte) None output apart = refl
outputs_commute (Some byte) (Some byte2) output apart = absurd (grind arith)

-- What two steps do to what harts share comes to the same in both orders.
record Agrees (op oq : Op) (at bt : ℕ) (x y : Effect) : Type 0 where
  bytes : (a before : ℕ) → byte_after y.write a (byte_after x.write a before)
      ≡ byte_after x.write a (byte_after y.write a before)
  output : (is_some x.out && is_some y.out) ≡ false
  first : Reserves op at x y
  second : Reserves oq bt y x

swapped : (g h : ℕ) (s : Plain) (op oq : Op) (at bt : ℕ) (x y : Effect) → (h == g) ≡ false → Agrees op oq at bt x y
    → IsSame (step_by h oq bt y (step_by g op at x s)) (step_by g op at x (step_by h oq bt y s))
swapped g h s op oq at bt x y apart agrees = record {
  registers = λ k r.
      two_changes ((k == g) && (r == destination op)) ((k == h) && (r == destination oq)) (register_after x.value)
      (register_after y.value) (s.registers k r) (apart_writes k g h r (destination op) (destination oq) apart);
  pcs = λ k. two_changes (k == g) (k == h) (pc_after x.next) (pc_after y.next) (s.pcs k) (apart_at k g h apart);
  statuses = λ k.
      two_changes (k == g) (k == h) (status_after x.next) (status_after y.next) (s.statuses k) (apart_at k g h apart);
  reserved = λ k.
      reservations_commute (k == g) (k == h) op oq at bt x y (s.reserved k) (apart_at k g h apart) agrees.first
      agrees.second;
  bytes = λ a. agrees.bytes a (s.bytes a);
  output = outputs_commute x.out y.out s.output agrees.output;
}

-- ---- Two harts, of which one makes a local step

not_both : (a b : Bool) → (b ≡ true → a ≡ false) → (a && b) ≡ false
not_both a true apart = rw (apart refl) refl
not_both true false apart = refl
not_both false false apart = refl

reserving_touches : (kind : Kind) → is_reserving kind ≡ true → touches_memory kind ≡ true
reserving_touches Reserving is = refl
reserving_touches Computing is = absurd (grind arith)
reserving_touches _ is = refl

not_conditional : (kind : Kind) → is_reserving kind ≡ true → is_conditional kind ≡ true → ⊥
not_conditional Reserving is also = grind arith
not_conditional Computing is also = grind arith
not_conditional Loading is also = grind arith
not_conditional Storing is also = grind arith
not_conditional Conditional is also = grind arith
not_conditional Atomic is also = grind arith

module _ (setup : Setup) (tables : Tables) (good : IsTables setup.image tables) (g h : ℕ) (s : Plain)
    (apart : (h == g) ≡ false) (coded : IsAsCoded setup tables s) (can : can_step setup h s ≡ true)
    (local : is_local setup tables g s ≡ true) (fitting : fits setup tables h s ≡ true) where
  pub clears : IsClear setup tables g h s
  clears = clear setup tables good g h s apart can local

  pub knows : IsKnown setup tables h s
  knows = known setup tables good h s fitting

  abbrev op : Op
  op = op_at_pc setup s g

  abbrev oq : Op
  oq = op_at_pc setup s h

  abbrev c : Computed
  c = computes setup s g

  abbrev d : Computed
  d = computes setup s h

  abbrev x : Effect
  x = effect_at setup s g

  abbrev y : Effect
  y = effect_at setup s h

  -- Where g's step writes, h may not touch; so each spares what the other uses.
  x_spares : (word : ℕ) → is_written y.write word ≡ true → is_written x.write word ≡ false
  x_spares word written =
      clears.writes word (good.ahead.touches h (s.pcs h) word (knows.writes word written))

  y_spares : (word : ℕ) → tables.ahead h (s.pcs h) word true ≡ false → is_written y.write word ≡ false
  y_spares word none = is_false (is_written y.write word) (tables.ahead h (s.pcs h) word true) (knows.writes word) none

  pub fetch_of_h : SparesFetch setup tables g h s
  fetch_of_h changes = clears.writes (word_of_address (s.pcs h)) (knows.fetch changes)

  pub fetch_of_g : SparesFetch setup tables h g s
  fetch_of_g changes = y_spares (word_of_address (s.pcs g)) (clears.fetch changes)

  coded_g : IsAsCoded setup tables (stepped setup g s)
  coded_g = coded_next setup tables good g s coded (local_fits setup tables g s local)

  pub coded_h : IsAsCoded setup tables (stepped setup h s)
  coded_h = coded_next setup tables good h s coded fitting

  pub back : (g == h) ≡ false
  back = flipped g h apart

  -- ---- What each says

  says_h : effect_at setup (stepped setup g s) h ≡ y
  says_h =
      let sg = stepped setup g s in
      let held : sg.reserved h ≡ reservation_after op c.addr x false (s.reserved h) =
      ap (λ own. reservation_after op c.addr x own (s.reserved h)) apart in
      ap₂ (λ o e. effect_on o e sg.bytes (sg.reserved h)) (finds_op setup tables g h s coded coded_g apart fetch_of_h)
      (finds setup tables g h s coded coded_g apart fetch_of_h)
      ∙ same_effect oq d sg.bytes s.bytes (sg.reserved h) (s.reserved h) (access_lies setup s h) (λ going touches.
      let spared = clears.writes (word_of_address d.addr) (knows.touches going touches) in
      record {
        bytes = spared_word setup g s (word_of_address d.addr) spared;
        held = λ asks. ap (λ r. holds_word r d.addr) held ∙ holds_still op c.addr x (s.reserved h) d.addr spared;
      })

  held_g : (stepped setup h s).reserved g ≡ reservation_after oq d.addr y false (s.reserved g)
  held_g = ap (λ own. reservation_after oq d.addr y own (s.reserved g)) back

  pub never_g : holds_word (s.reserved g) c.addr ≡ false → holds_word ((stepped setup h s).reserved g) c.addr ≡ false
  never_g lacks = ap (λ r. holds_word r c.addr) held_g ∙ holds_never oq d.addr y (s.reserved g) c.addr lacks

  same_g : effect_on op c (stepped setup h s).bytes ((stepped setup h s).reserved g) ≡ x
  same_g =
      let sh = stepped setup h s in
      elim (cases_Bool (lacks_reservation setup g s)) [
        | inl lacks ↦
            let is = first_of_both (is_conditional (kind_of op)) (not (holds_word (s.reserved g) c.addr)) lacks in
            let none = not_true (holds_word (s.reserved g) c.addr)
            (second_of_both (is_conditional (kind_of op)) (not (holds_word (s.reserved g) c.addr)) lacks) in
            fails_same op c (read op sh.bytes c.addr) (read op s.bytes c.addr) (holds_word (sh.reserved g) c.addr)
            (holds_word (s.reserved g) c.addr) is (never_g none) none
        | inr keeps ↦
            same_effect op c sh.bytes s.bytes (sh.reserved g) (s.reserved g) (access_lies setup s g) (λ going touches.
            elim (clears.touches going touches) [
              | inl none ↦
                  let spared = y_spares (word_of_address c.addr) none in
                  record {
                    bytes = spared_word setup h s (word_of_address c.addr) spared;
                    held = λ asks.
                        ap (λ r. holds_word r c.addr) held_g
                        ∙ holds_still oq d.addr y (s.reserved g) c.addr spared;
                  }
              | inr lacks ↦ absurd (grind (arith, lacks, keeps))
            ])
      ]

  says_g : effect_at setup (stepped setup h s) g ≡ x
  says_g =
      let sh = stepped setup h s in
      ap₂ (λ o e. effect_on o e sh.bytes (sh.reserved g)) (finds_op setup tables h g s coded coded_h back fetch_of_g)
      (finds setup tables h g s coded coded_h back fetch_of_g)
      ∙ same_g

  -- ---- What both do

  pub next_g : x.next ≡ c.next
  next_g = effect-next op c (read op s.bytes c.addr) (holds_word (s.reserved g) c.addr)

  pub next_h : y.next ≡ d.next
  next_h = effect-next oq d (read oq s.bytes d.addr) (holds_word (s.reserved h) d.addr)

  x_keeps : (a before : ℕ) → is_written x.write (word_of_address a) ≡ false → byte_after x.write a before ≡ before
  x_keeps a before spared =
      byte_stays op c (read op s.bytes c.addr) (holds_word (s.reserved g) c.addr) a before
      (access_lies setup s g) spared

  y_keeps : (a before : ℕ) → is_written y.write (word_of_address a) ≡ false → byte_after y.write a before ≡ before
  y_keeps a before spared =
      byte_stays oq d (read oq s.bytes d.addr) (holds_word (s.reserved h) d.addr) a before
      (access_lies setup s h) spared

  bytes_agree : (a before : ℕ) → byte_after y.write a (byte_after x.write a before)
      ≡ byte_after x.write a (byte_after y.write a before)
  bytes_agree a before =
      elim (cases_Bool (is_written y.write (word_of_address a))) [
        | inl written ↦
            let spared = x_spares (word_of_address a) written in
            ap (byte_after y.write a) (x_keeps a before spared) ∙ sym (x_keeps a (byte_after y.write a before) spared)
        | inr spared ↦
            y_keeps a (byte_after x.write a before) spared ∙ sym (ap (byte_after x.write a) (y_keeps a before spared))
      ]

  agree : Agrees op oq c.addr d.addr x y
  agree = record {
    bytes = bytes_agree;
    output = not_both (is_some x.out) (is_some y.out) (λ put.
        clears.puts (good.ahead.touches h (s.pcs h) the_output (knows.puts put)));
    first = λ going reserving.
        elim (clears.touches (ap is_last (sym next_g) ∙ going) (reserving_touches (kind_of op) reserving)) [
          | inl none ↦ y_spares (word_of_address c.addr) none
          | inr lacks ↦
              absurd (not_conditional (kind_of op) reserving
              (first_of_both (is_conditional (kind_of op)) (not (holds_word (s.reserved g) c.addr)) lacks))
        ];
    second = λ going reserving.
        clears.writes (word_of_address d.addr)
        (knows.touches (ap is_last (sym next_h) ∙ going) (reserving_touches (kind_of oq) reserving));
  }

  pub commutes : stepped setup h (stepped setup g s) ≡ stepped setup g (stepped setup h s)
  commutes =
      let sg = stepped setup g s in
      let sh = stepped setup h s in
      let left : stepped setup h sg ≡ step_by h oq d.addr y sg =
      same_step h (op_at_pc setup sg h) oq (computes setup sg h).addr d.addr (effect_at setup sg h) y sg
      (finds_op setup tables g h s coded coded_g apart fetch_of_h)
      (ap (λ (e : Computed). e.addr) (finds setup tables g h s coded coded_g apart fetch_of_h)) says_h in
      let right : stepped setup g sh ≡ step_by g op c.addr x sh =
      same_step g (op_at_pc setup sh g) op (computes setup sh g).addr c.addr (effect_at setup sh g) x sh
      (finds_op setup tables h g s coded coded_h back fetch_of_g)
      (ap (λ (e : Computed). e.addr) (finds setup tables h g s coded coded_h back fetch_of_g)) says_g in
      left
      ∙ (same_state (step_by h oq d.addr y sg) (step_by g op c.addr x sh)
      (swapped g h s op oq c.addr d.addr x y apart agree)
      ∙ sym right)
