-- Alike states end alike.
use Rattle.std.specs.Prelude.{◌≡◌, ℕ, suc, ◌<◌, Bool, true, List, [], ◌∷◌, map, Some, slice_get}
use Rattle.std.proofs.Common.{◌∙◌, refl, ap₂, arith}
use Rattle.std.proofs.{lemmas.Bool.Decides.nat_tests, Math.Path.fun_ext}
use Rattle.smt_model.specs.{declared.config.Status.Status}
use Rattle.smt_model.specs.{Basics.below, Plain.Plain, Bytes.number_at}
use Rattle.outcome_laws.specs.{Tables.Tables, Live.AreAlike}
use Rattle.condensed_machine.specs.Resting.{is_watched}
use Rattle.watched_outcomes.specs.declared.{watch.Watch.Watch, watch.WatchedRegister.WatchedRegister}
use Rattle.watched_outcomes.specs.{Endings.ending_of, Endings.watched_in, Endings.word_in}
use Rattle.watched_outcomes.specs.{declared.watch.WatchedBytes.WatchedBytes, Watching.bytes_of}
use Rattle.outcomes.specs.{Refusals.AreWatched}
use Rattle.watched_outcomes.specs.{Watching.AreThere, Watching.is_register_there}

-- Two functions that agree on each member map a list to the same.
pub map_members : {X Y : Type 0} (f g : X → Y) (xs : List X)
    → ((k : ℕ) (x : X) → slice_get xs k ≡ Some x → f x ≡ g x) → map f xs ≡ map g xs
map_members f g [] same = refl
map_members f g (x ∷ xs) same =
    ap₂ (λ y ys. y ∷ ys) (same 0 x refl) (map_members f g xs (λ k z at. same (suc k) z at))

is_number : (harts : ℕ) (w : WatchedRegister) → is_register_there harts w ≡ true
    → (0 < w.register) × (w.register < 32)
is_number harts w there = (grind (arith, nat_tests), grind (arith, nat_tests))

parts_same : (h : ℕ) (watch : Watch) (s t : Plain) → s.statuses ≡ t.statuses
    → map (watched_in s) watch.registers.items ≡ map (watched_in t) watch.registers.items
    → s.bytes ≡ t.bytes → s.output ≡ t.output → ending_of h watch s ≡ ending_of h watch t
parts_same h watch s t statuses registers bytes output =
    ap₂ (λ (f : ℕ → Status) xs. record { statuses = map f (below h); registers = xs; words = map (word_in s) watch.words.items; output = s.output })
    statuses registers
    ∙ ap₂ (λ (b : ℕ → ℕ) o. record {
      statuses = map t.statuses (below h);
      registers = map (watched_in t) watch.registers.items;
      words = map (λ (w : WatchedBytes). number_at b w.address (bytes_of w.width)) watch.words.items;
      output = o;
    }) bytes output

pub alike_ends : (h harts : ℕ) (watched : List Bool) (tables : Tables) (watch : Watch) (s t : Plain)
    → AreWatched watched watch → AreThere harts watch → AreAlike (is_watched watched) tables s t
    → ending_of h watch s ≡ ending_of h watch t
alike_ends h harts watched tables watch s t marked there alike =
    parts_same h watch s t (fun_ext alike.statuses)
    (map_members (watched_in s) (watched_in t) watch.registers.items (λ k w at.
    let number = is_number harts w (there k w at) in
    let counts = marked k w at number.1 in
    let some = number.0 in
    alike.registers w.hart w.register (λ zero. absurd (omega (arith, zero))) (rw counts refl)))
    (fun_ext alike.bytes) alike.output
