-- Renaming: what the map of a rename's hart becomes, what its own instruction finds for its sources, and what is freed.
use Rattle.std.specs.Prelude.{◌≡◌, ◌≢◌, ℕ, ◌<◌, ◌≤◌, Bool, true, false, ◌==◌, ◌&&◌, nat_lt, List, ◌∷◌, Option, Some}
use Rattle.std.specs.Prelude.{None}
use Rattle.std.proofs.Common.{◌∙◌, refl, sym, ap, subst, inl, inr, arith}
use Rattle.std.proofs.{lemmas.Bool.cases_Bool, lemmas.Bool.cases_lt, lemmas.Bool.Decides.nat_tests}
use Rattle.rv_instr.specs.declared.op.Op.{Op}
use Rattle.events.specs.{declared.event.Event.Event, declared.event.Event.TheVariants.Rename}
use Rattle.smt_model.specs.{Basics.holds_of, Basics.or_zero, Setup.Setup, Kinds.destination, Kinds.writes_register}
use Rattle.smt_model.specs.{Rules.refused, Rules.is_legal, Picture.source_register_in, Steps.renamed_map}
use Rattle.smt_model.specs.Fates.{InRename, Renamed, Retired, Fetched, stage, fate, fetching, is, is_in_flight, stands}
use Rattle.smt_model.specs.Fates.{is_of, op_at, op_of_fetched}
use Rattle.smt_model.specs.Registers.{phys, namings, writes, writer, committer, source, source_register, mapped}
use Rattle.smt_model.specs.Registers.{committed, register_by, first_register, is_unclaimed}
use Rattle.smt_model.proofs.Lists.{member, skips, takes, first-narrow, first-none_narrow, first-passes}
use Rattle.smt_model.proofs.Fates.Moves.{fate_at, rename_was}
use Rattle.smt_laws.proofs.Fates.Order.{in_order}
use Rattle.smt_model.proofs.Registers.Claims.{IsRegister, flight_claimed}
use Rattle.smt_model.proofs.Registers.Claims.{committed_claimed}
use Rattle.smt_laws.proofs.Registers.Committing.{register_by-kept}
use Rattle.smt_laws.proofs.Events.Calm.{fate-other, mapped-kept}
use Rattle.smt_model.proofs.Allowed.{rename_allowed}
use Rattle.smt_laws.proofs.{Registers.Sources.writes-of, Registers.Held.writer_named, Registers.Held.some_is}
use Rattle.smt_laws.proofs.{Fates.Choosing.hart_there, Registers.Operands.IsSourceName, Stated.sources_claimed}
use Rattle.smt_laws.proofs.Registers.Namings.{newest-same, named-renamed, taken, same_truth-is}

true_false : true ≢ false
true_false same = grind arith

-- ---- Its own fate

pub now-Rename : (setup : Setup) (past : List Event) (actor n : ℕ) (register : Option ℕ)
    → refused setup past (Rename actor n register) ≡ None
    → fate (Rename actor n register ∷ past) n ≡ Renamed
now-Rename setup past actor n register ok =
    let was = rename_was setup past actor n register ok in
    fate_at (fate (Rename actor n register ∷ past) n) Renamed (grind (arith, nat_tests))

pub was-Rename : (setup : Setup) (past : List Event) (actor n : ℕ) (register : Option ℕ)
    → refused setup past (Rename actor n register) ≡ None
    → fate past n ≡ InRename
was-Rename setup past actor n register ok = fate_at (fate past n) InRename (rename_was setup past actor n register ok)

pub named-Rename : (past : List Event) (actor n : ℕ) (register : Option ℕ)
    → phys (Rename actor n register ∷ past) n ≡ register
named-Rename past actor n register = let same : (n == n) ≡ true = grind (arith, nat_tests) in rw same refl

-- ---- The map

-- All of the hart's that stand are older.
older-Rename : (setup : Setup) (past : List Event) → is_legal setup past → (actor n : ℕ) (register : Option ℕ)
    → refused setup past (Rename actor n register) ≡ None → (h x : ℕ) → is_of past h n ≡ true → is_of past h x ≡ true
    → stands (fate past x) ≡ true → x < n
older-Rename setup past legal actor n register ok h x of_n of_x standing =
    let was = rename_was setup past actor n register ok in
    elim (cases_lt x n) [
      | inl under ↦ under
      | inr above ↦
          let other : n ≢ x = λ same. absurd (grind (arith, nat_tests)) in
          let order = in_order setup past legal h n x of_n of_x (omega arith) (grind (arith, nat_tests)) in
          absurd (grind (arith, nat_tests))
    ]

not_named : (setup : Setup) (past : List Event) → is_legal setup past → (actor n : ℕ) (register : Option ℕ)
    → refused setup past (Rename actor n register) ≡ None → (x : ℕ) → member x (namings past) ≡ true → n ≢ x
not_named setup past legal actor n register ok x m same =
    let was = rename_was setup past actor n register ok in
    let late = named-renamed setup past legal x m in
    absurd (grind arith)

and_absorbs : (a b : Bool) → (b ≡ true → a ≡ true) → (a && b) ≡ b
and_absorbs true b sure = refl
and_absorbs false true sure = absurd (true_false (sym (sure refl)))
and_absorbs false false sure = refl

-- Its source is what its hart's map had before it.
source-test : (setup : Setup) (past : List Event) → is_legal setup past → (actor n : ℕ) (register : Option ℕ)
    → refused setup past (Rename actor n register) ≡ None → (h r : ℕ) → is_of past h n ≡ true → (x : ℕ)
    → member x (namings past) ≡ true
    → (nat_lt x n && (writes past h r x && stands (fate (Rename actor n register ∷ past) x)))
    ≡ (writes past h r x && stands (fate past x))
source-test setup past legal actor n register ok h r of_n x m =
    let same : fate (Rename actor n register ∷ past) x ≡ fate past x =
    fate-other (Rename actor n register) past x (not_named setup past legal actor n register ok x m) refl in
    ap (λ f. nat_lt x n && (writes past h r x && stands f)) same
    ∙ and_absorbs (nat_lt x n) (writes past h r x && stands (fate past x)) (λ passes.
    let mine : writes past h r x ≡ true = grind arith in
    let under = older-Rename setup past legal actor n register ok h x of_n (writes-of past h r x mine) (grind arith) in
    grind (arith, nat_tests))

pub source-Rename : (setup : Setup) (past : List Event) → is_legal setup past → (actor n : ℕ) (register : Option ℕ)
    → refused setup past (Rename actor n register) ≡ None → (h r : ℕ) → is_of past h n ≡ true
    → source (Rename actor n register ∷ past) h r n ≡ writer past h r
source-Rename setup past legal actor n None ok h r of_n =
    newest-same (λ x. nat_lt x n && (writes past h r x && stands (fate (Rename actor n None ∷ past) x)))
    (λ x. writes past h r x && stands (fate past x)) past (source-test setup past legal actor n None ok h r of_n)
source-Rename setup past legal actor n (Some p) ok h r of_n =
    let e = Rename actor n (Some p) in
    skips (λ x. nat_lt x n && (writes past h r x && stands (fate (e ∷ past) x))) n (namings past)
    (let none : nat_lt n n ≡ false = grind (arith, nat_tests) in rw none refl)
    ∙ newest-same (λ x. nat_lt x n && (writes past h r x && stands (fate (e ∷ past) x)))
    (λ x. writes past h r x && stands (fate past x)) past (source-test setup past legal actor n (Some p) ok h r of_n)

writer_late : (setup : Setup) (past : List Event) → is_legal setup past → (h r w : ℕ) → writer past h r ≡ Some w
    → stage (fate past w) ≢ 2
writer_late setup past legal h r w found two =
    let passes = first-passes (λ x. writes past h r x && stands (fate past x)) (namings past) w found in
    let late = named-renamed setup past legal w passes.1 in
    absurd (omega arith)

pub seen-Rename : (setup : Setup) (past : List Event) → is_legal setup past → (actor n : ℕ) (register : Option ℕ)
    → refused setup past (Rename actor n register) ≡ None → (h r : ℕ) → is_of past h n ≡ true
    → source_register (Rename actor n register ∷ past) h r n ≡ mapped past h r
seen-Rename setup past legal actor n register ok h r of_n =
    ap (register_by (Rename actor n register ∷ past) (first_register h r))
    (source-Rename setup past legal actor n register ok h r of_n)
    ∙ register_by-kept setup past legal (Rename actor n register) ok (first_register h r) (writer past h r)
    (writer_late setup past legal h r)

-- The map of its hart, where it doesn't write r.
writer-Rename_test : (setup : Setup) (past : List Event) → is_legal setup past → (actor n : ℕ) (register : Option ℕ)
    → refused setup past (Rename actor n register) ≡ None → (h r x : ℕ) → member x (namings past) ≡ true
    → (writes past h r x && stands (fate (Rename actor n register ∷ past) x))
    ≡ (writes past h r x && stands (fate past x))
writer-Rename_test setup past legal actor n register ok h r x m =
    ap (λ f. writes past h r x && stands f)
    (fate-other (Rename actor n register) past x (not_named setup past legal actor n register ok x m) refl)

pub writer-Rename_other : (setup : Setup) (past : List Event) → is_legal setup past
    → (actor n : ℕ) (register : Option ℕ)
    → refused setup past (Rename actor n register) ≡ None → (h r : ℕ) → writes past h r n ≡ false
    → writer (Rename actor n register ∷ past) h r ≡ writer past h r
writer-Rename_other setup past legal actor n None ok h r another =
    newest-same (λ x. writes past h r x && stands (fate (Rename actor n None ∷ past) x))
    (λ x. writes past h r x && stands (fate past x)) past
    (writer-Rename_test setup past legal actor n None ok h r)
writer-Rename_other setup past legal actor n (Some p) ok h r another =
    skips (λ x. writes past h r x && stands (fate (Rename actor n (Some p) ∷ past) x)) n (namings past)
    (rw another refl)
    ∙ newest-same (λ x. writes past h r x && stands (fate (Rename actor n (Some p) ∷ past) x))
    (λ x. writes past h r x && stands (fate past x)) past
    (writer-Rename_test setup past legal actor n (Some p) ok h r)

pub mapped-Rename_other : (setup : Setup) (past : List Event) → is_legal setup past
    → (actor n : ℕ) (register : Option ℕ)
    → refused setup past (Rename actor n register) ≡ None → (h r : ℕ) → writes past h r n ≡ false
    → mapped (Rename actor n register ∷ past) h r ≡ mapped past h r
mapped-Rename_other setup past legal actor n register ok h r another =
    mapped-kept setup past legal (Rename actor n register) ok h r
    (writer-Rename_other setup past legal actor n register ok h r another)

mapped-Rename_own : (setup : Setup) (past : List Event) (actor n p : ℕ)
    → refused setup past (Rename actor n (Some p)) ≡ None → (h r : ℕ)
    → writes past h r n ≡ true → mapped (Rename actor n (Some p) ∷ past) h r ≡ p
mapped-Rename_own setup past actor n p ok h r mine =
    let e = Rename actor n (Some p) in
    ap (register_by (e ∷ past) (first_register h r))
    (takes (λ x. writes past h r x && stands (fate (e ∷ past) x)) n (namings past)
    (rw mine (ap stands (now-Rename setup past actor n (Some p) ok))))
    ∙ ap or_zero (named-Rename past actor n (Some p))

-- What it writes, where it is hart h's.
pub writes_where : (o : Option Fetched) (h r : ℕ) → holds_of (λ f. f.hart == h) o ≡ true
    → holds_of (λ f. (f.hart == h) && (destination (op_of_fetched (Some f)) == r)) o
    ≡ (r == destination (op_of_fetched o))
writes_where None h r of_n = absurd (grind arith)
writes_where (Some f) h r of_n = grind (arith, nat_tests)

none_written : (setup : Setup) (past : List Event) (actor n : ℕ) → refused setup past (Rename actor n None) ≡ None
    → (h r : ℕ) → is_of past h n ≡ true
    → 1 ≤ r → writes past h r n ≡ false
none_written setup past actor n ok h r of_n low =
    let fits : writes_register (op_at past n) ≡ false =
    sym (same_truth-is false (writes_register (op_at past n)) (rename_allowed setup past actor n None ok).named) in
    writes_where (fetching past n) h r of_n ∙ grind (arith, nat_tests)

pub mapped-Rename : (setup : Setup) (past : List Event) → is_legal setup past → (actor n : ℕ) (register : Option ℕ)
    → refused setup past (Rename actor n register) ≡ None → (h r : ℕ) → is_of past h n ≡ true → 1 ≤ r
    → mapped (Rename actor n register ∷ past) h r ≡ renamed_map (destination (op_at past n)) register r
    (mapped past h r)
mapped-Rename setup past legal actor n None ok h r of_n low =
    mapped-Rename_other setup past legal actor n None ok h r (none_written setup past actor n ok h r of_n low)
mapped-Rename setup past legal actor n (Some p) ok h r of_n low =
    let at : writes past h r n ≡ (r == destination (op_at past n)) = writes_where (fetching past n) h r of_n in
    elim (cases_Bool (r == destination (op_at past n))) [
      | inl mine ↦ rw mine (mapped-Rename_own setup past actor n p ok h r (at ∙ mine))
      | inr another ↦ rw another (mapped-Rename_other setup past legal actor n (Some p) ok h r (at ∙ another))
    ]

-- ---- Registers that are read are claimed

pub seen_claimed : (setup : Setup) (past : List Event) → is_legal setup past → (which : Op → ℕ) → IsSourceName which
    → (s : ℕ) (f : Fetched)
    → fetching past s ≡ Some f → 1 ≤ which (op_of_fetched (Some f)) → is_in_flight (fate past s) ≡ true
    → is_unclaimed setup past (source_register_in past which s (fetching past s)) ≡ false
seen_claimed setup past legal which names s f at some flies =
    let of_s : is_of past f.hart s ≡ true = rw at (grind (arith, nat_tests)) in
    let r = which (op_of_fetched (Some f)) in
    let is_register : IsRegister setup f.hart r =
    record { hart = hart_there setup past legal f.hart s of_s; low = some; high = names f.word } in
    subst (λ x. is_unclaimed setup past x ≡ false) (sym (ap (source_register_in past which s) at))
    (elim (sources_claimed setup past legal f.hart r s some (names f.word) of_s flies) [
      | inl same ↦ subst (λ x. is_unclaimed setup past x ≡ false) (sym same)
          (committed_claimed setup past f.hart r is_register)
      | inr older ↦ flight_claimed setup past legal older.one (source_register past f.hart r s) older.flies older.names
    ])

retired_stands : (past : List Event) (h r y : ℕ) → (writes past h r y && is (fate past y) Retired) ≡ true
    → (writes past h r y && stands (fate past y)) ≡ true
retired_stands past h r y passes = grind (arith, nat_tests)

mapped_claimed_by : (setup : Setup) (past : List Event) → is_legal setup past → (h r : ℕ) → IsRegister setup h r
    → (o : Option ℕ)
    → writer past h r ≡ o → is_unclaimed setup past (register_by past (first_register h r) o) ≡ false
mapped_claimed_by setup past legal h r is_register None found =
    let none : committer past h r ≡ None =
    first-none_narrow (λ x. writes past h r x && stands (fate past x))
    (λ x. writes past h r x && is (fate past x) Retired) (namings past)
    (λ y passes. retired_stands past h r y passes) found in
    let same : committed past h r ≡ first_register h r = ap (register_by past (first_register h r)) none in
    subst (λ x. is_unclaimed setup past x ≡ false) same (committed_claimed setup past h r is_register)
mapped_claimed_by setup past legal h r is_register (Some w) found =
    let passes = first-passes (λ x. writes past h r x && stands (fate past x)) (namings past) w found in
    let at : (writes past h r w && stands (fate past w)) ≡ true = passes.0 in
    let mine : writes past h r w ≡ true = grind arith in
    elim (cases_Bool (is_in_flight (fate past w))) [
      | inl flies ↦
          let some = writer_named setup past legal h r w is_register.low mine (grind (arith, nat_tests))
          (grind (arith, nat_tests)) in
          flight_claimed setup past legal w (or_zero (phys past w)) flies (some_is (phys past w) some)
      | inr landed ↦
          let committed_one : committer past h r ≡ Some w =
          first-narrow (λ x. writes past h r x && stands (fate past x))
          (λ x. writes past h r x && is (fate past x) Retired) (namings past) w
          (λ y passes. retired_stands past h r y passes) found (grind (arith, nat_tests)) in
          let same : committed past h r ≡ or_zero (phys past w) =
          ap (register_by past (first_register h r)) committed_one in
          subst (λ x. is_unclaimed setup past x ≡ false) same (committed_claimed setup past h r is_register)
    ]

pub mapped_claimed : (setup : Setup) (past : List Event) → is_legal setup past → (h r : ℕ) → h < setup.harts
    → 1 ≤ r → r < 32
    → is_unclaimed setup past (mapped past h r) ≡ false
mapped_claimed setup past legal h r there low high =
    mapped_claimed_by setup past legal h r (record { hart = there; low = low; high = high }) (writer past h r) refl

-- A claimed register isn't the one that a rename takes.
pub not_taken : (setup : Setup) (past : List Event) (actor n : ℕ) (register : Option ℕ)
    → refused setup past (Rename actor n register) ≡ None
    → (x : ℕ) → is_unclaimed setup past x ≡ false → register ≢ Some x
not_taken setup past actor n None ok x claimed same = absurd (grind arith)
not_taken setup past actor n (Some p) ok x claimed same =
    let at : p ≡ x = grind arith in
    let free = (taken setup past actor n p ok).unclaimed in
    absurd (true_false (sym (subst (λ z. is_unclaimed setup past z ≡ true) at free) ∙ claimed))
