-- An order that stops: the output has room, and the definitions' machine has no run of it.
use Rattle.std.proofs.Common.{◌≡◌, ◌≢◌, ℕ, ◌+◌, ◌<◌, ◌≤◌, Bool, true, false, List, [], ◌∷◌, ◌++◌, Option, Some, None}
use Rattle.std.proofs.Common.{length, get_or, take, drop, reverse, refl, ap, sym, subst, ◌∙◌, inl, inr, arith}
use Rattle.std.specs.Prelude.{not, ◌&&◌, if◌then◌else◌, nat_lt, nat_le, is_some}
use Rattle.std.proofs.{lemmas.Bool.cases_Bool, lemmas.Bool.Decides.nat_tests}
use Rattle.std.proofs.lemmas.List.{length_push, length-reverse, length-take-le, reverse-append, take_more}
use Rattle.std.proofs.lemmas.List.{take-append-drop}
use Rattle.elf_image.specs.Image.{ProgramImage}
use Rattle.events.specs.declared.effect.Record.{Record}
use Rattle.smt_model.specs.Setup.{Setup}
use Rattle.smt_model.specs.Plain.{Run, advance, effect_at, is_going_status, output_after, start, step, run}
use Rattle.sc_machine.specs.{Machine.Machine, Machine.InEachState, Refusals.refusal}
use Rattle.sc_machine.specs.declared.refused.Stopped.{Stopped}
use Rattle.sc_machine.specs.declared.refused.Stopped.TheVariants.{NotGoing, OutputFull, NoHart}
use Rattle.plain_run.specs.Orders.{OfEachSetup, IsStoppedAt}
use Rattle.plain_run.proofs.Running.{HasMade}

-- ---- The output has at most a byte for each step

byte_more : (out : Option ℕ) (before : List ℕ) → length (output_after out before) ≤ length before + 1
byte_more None before = omega arith
byte_more (Some byte) before = omega (arith, length_push before byte)

same_run : (a b : Run) → Some a ≡ Some b → a ≡ b
same_run a b same = cc

step_within : (setup : Setup) (h n : ℕ) (o : Option Run) (ran : Run)
    → ((before : Run) → o ≡ Some before → length before.state.output ≤ n) → step setup h o ≡ Some ran
    → length ran.state.output ≤ n + 1
step_within setup h n None ran within made = absurd (cc)
step_within setup h n (Some before) ran within made =
    elim (cases_Bool (nat_lt h setup.harts && is_going_status (before.state.statuses h))) [
      | inl goes ↦
          let now : Some (advance setup h before) ≡ Some ran = rw goes at made in
          let bound = within before refl in
          let more = byte_more (effect_at setup before.state h).out before.state.output in
          subst (λ (r : Run). length r.state.output ≤ n + 1) (same_run (advance setup h before) ran now) (omega arith)
      | inr stands ↦ let none : None ≡ Some ran = rw stands at made in absurd (cc)
    ]

output_within : (setup : Setup) (order : List ℕ) (ran : Run) → run setup order ≡ Some ran
    → length ran.state.output ≤ length order
output_within setup [] ran runs =
    let is = same_run (record { records = []; state = start setup }) ran runs in
    subst (λ (r : Run). length r.state.output ≤ 0) is (omega arith)
output_within setup (h ∷ order) ran runs =
    let within = step_within setup h (length order) (run setup order) ran (output_within setup order) runs in
    omega arith

-- ---- What a refusal says

-- The refusal of a hart by four tests: it is there, it goes, it puts a byte out, that has no room.
abbrev refused_by : Bool → Bool → Bool → Bool → Option Stopped
refused_by there goes out full =
    if not there then Some NoHart
    else (if not goes then Some NotGoing else (if out && full then Some OutputFull else None))

room_left : (there goes out full : Bool) (why : Stopped) → full ≡ false → refused_by there goes out full ≡ Some why
    → why ≢ OutputFull
room_left false goes out full why room is = λ same. absurd (cc)
room_left true false out full why room is = λ same. absurd (cc)
room_left true true true true why room is = λ same. absurd (cc)
room_left true true true false why room is = λ same. absurd (cc)
room_left true true false full why room is = λ same. absurd (cc)

no_step : {A : Type 0} (there goes out full : Bool) (why : Stopped) (x : Option A) → why ≢ OutputFull
    → refused_by there goes out full ≡ Some why → (if there && goes then x else None) ≡ None
no_step false goes out full why x room is = refl
no_step true false out full why x room is = refl
no_step true true true true why x room is = absurd (room (cc))
no_step true true true false why x room is = absurd (cc)
no_step true true false full why x room is = absurd (cc)

pub never_full : (setup : Setup) (room : ℕ) (before : Run) (h : ℕ) (why : Stopped)
    → length before.state.output < room → refusal setup room before.state h ≡ Some why → why ≢ OutputFull
never_full setup room before h why free is =
    let left : nat_le room (length before.state.output) ≡ false = grind (arith, nat_tests) in
    room_left (nat_lt h setup.harts) (is_going_status (before.state.statuses h))
    (is_some (effect_at setup before.state h).out) (nat_le room (length before.state.output)) why left is

refused_step : (setup : Setup) (room : ℕ) (before : Run) (h : ℕ) (why : Stopped) → why ≢ OutputFull
    → refusal setup room before.state h ≡ Some why → step setup h (Some before) ≡ None
refused_step setup room before h why not_full is =
    no_step (nat_lt h setup.harts) (is_going_status (before.state.statuses h))
    (is_some (effect_at setup before.state h).out) (nat_le room (length before.state.output)) why
    (Some (advance setup h before)) not_full is

-- ---- No run goes on from there

none_after : (setup : Setup) (later earlier : List ℕ) → run setup earlier ≡ None → run setup (later ++ earlier) ≡ None
none_after setup [] earlier none = none
none_after setup (h ∷ later) earlier none = ap (step setup h) (none_after setup later earlier none)

pub no_run : (setup : Setup) (order : List ℕ) (index room : ℕ) (before : Run) (why : Stopped) → index < length order
    → run setup (reverse (take index order)) ≡ Some before → why ≢ OutputFull
    → refusal setup room before.state (get_or order index 0) ≡ Some why → run setup (reverse order) ≡ None
no_run setup order index room before why inside runs not_full is =
    let h = get_or order index 0 in
    let until : reverse (take (index + 1) order) ≡ h ∷ reverse (take index order) =
    ap reverse (take_more order index 0 inside) ∙ reverse-append (take index order) (h ∷ []) in
    let stops : run setup (reverse (take (index + 1) order)) ≡ None =
    ap (run setup) until ∙ (ap (step setup h) runs ∙ refused_step setup room before h why not_full is) in
    ap (λ xs. run setup (reverse xs)) (sym (take-append-drop (index + 1) order))
    ∙ (ap (run setup) (reverse-append (take (index + 1) order) (drop (index + 1) order))
    ∙ none_after setup (reverse (drop (index + 1) order)) (reverse (take (index + 1) order)) stops)

-- ---- Together

-- Room for a byte for each step is enough.
pub has_room : (setup : Setup) (order : List ℕ) (index : ℕ) (before : Run) → index < length order
    → run setup (reverse (take index order)) ≡ Some before → length before.state.output < length order
has_room setup order index before inside runs =
    let within = output_within setup (reverse (take index order)) before runs in
    let same : length (reverse (take index order)) ≡ length (take index order) = length-reverse (take index order) in
    let some : index ≤ length order = omega arith in
    let under : length (take index order) ≡ index = length-take-le index order some in
    omega arith

pub stops_at : (image : ProgramImage) (harts : ℕ) (order : List ℕ) (index : ℕ) (why : Stopped) (said : List Record)
    (m : Machine) → index < length order → m.room ≡ length order
    → OfEachSetup image harts (λ setup. HasMade setup (take index order) said m)
    → InEachState m (λ setup s. refusal setup m.room s (get_or order index 0) ≡ Some why)
    → IsStoppedAt image harts order index why
stops_at image harts order index why said m inside room made refused =
    let some : Setup = record { image = image; harts = harts; extra = 0; queue = 0; roles = [] } in
    let one = made some refl refl in
    let not_full = never_full some m.room one.ran (get_or order index 0) why
    (subst (λ n. length one.ran.state.output < n) (sym room) (has_room some order index one.ran inside one.runs))
    (refused some one.ran.state one.agrees) in
    record {
      inside = inside;
      not_full = not_full;
      at = λ setup of_image of_harts.
          let one = made setup of_image of_harts in
          let is = refused setup one.ran.state one.agrees in
          record {
            before = one.ran;
            runs = one.runs;
            refused = subst (λ n. refusal setup n one.ran.state (get_or order index 0) ≡ Some why) room is;
            undefined = no_run setup order index m.room one.ran why inside one.runs not_full is;
          };
    }
