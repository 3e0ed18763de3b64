-- Every core that runs a program to its end ends as some order of the plain machine does.
use Rattle.std.specs.Prelude.{◌≡◌, ℕ, ◌<◌, Bool, true, false, ◌&&◌, nat_lt, List, Some, map, option_map, reverse, unwrap_or, slice_get}
use Rattle.std.proofs.Common.{◌∙◌, refl, sym, ap, ap₂, inl, inr, arith}
use Rattle.std.proofs.{lemmas.Bool.cases_Bool, lemmas.Bool.Decides.nat_tests, Math.Path.fun_ext}
use Rattle.events.specs.declared.event.Event.{Event}
use Rattle.smt_model.specs.{Setup.Setup, Plain.Run, Plain.start, Plain.is_going_status}
use Rattle.smt_model.specs.{declared.config.Status.Status}
use Rattle.smt_model.specs.{Basics.below, Bytes.number_at, Account.order}
use Rattle.smt_model.specs.Memory.{output}
use Rattle.smt_laws.specs.Sequential.{IsSequential, EachIsSequential}
use Rattle.outcome_laws.specs.Paths.{path, IsEnd, RunsArePaths}
use Rattle.watched_outcomes.specs.declared.watch.{Watch.Watch, WatchedRegister.WatchedRegister}
use Rattle.watched_outcomes.specs.{Endings.Ending, Endings.ending_of, Endings.watched_in, Watching.AreThere}
use Rattle.watched_outcomes.specs.{declared.watch.WatchedBytes.WatchedBytes, Watching.bytes_of}
use Rattle.outcomes.specs.Found.{Found, ListsAll, AllAreOver, CoversCores, committed_in, core_word, core_ending}
use Rattle.outcomes.proofs.{Endings.map_members, Graph.none_behind}

last_false : (a b : Bool) → b ≡ false → (a && b) ≡ false
last_false true b is = is
last_false false b is = refl

abbrev made : List Status → List ℕ → List ℕ → List ℕ → Ending
made statuses registers words output =
    record { statuses = statuses; registers = registers; words = words; output = output }

module _ (setup : Setup) (watch : Watch) (there : AreThere setup.harts watch) (past : List Event)
    (is : IsSequential setup past) where
  register_same : (k : ℕ) (w : WatchedRegister) → slice_get watch.registers.items k ≡ Some w
      → watched_in is.ran.state w ≡ committed_in setup past w
  register_same k w at =
      let here = there k w at in
      let below : w.hart < setup.harts = grind (arith, nat_tests, here) in
      let some : 0 < w.register = grind (arith, nat_tests, here) in
      let small : w.register < 32 = grind (arith, nat_tests, here) in
      sym (ap (λ v. unwrap_or v 0) (is.registers w.hart w.register below (omega arith) small))

  pub ending_same : core_ending setup watch past ≡ ending_of setup.harts watch is.ran.state
  ending_same =
      ap₂ (λ (f : ℕ → Status) xs. made (map f (below setup.harts)) xs (map (core_word setup past) watch.words.items) (output past))
      (sym (fun_ext is.statuses))
      (sym (map_members (watched_in is.ran.state) (committed_in setup past) watch.registers.items register_same))
      ∙ ap₂ (λ (b : ℕ → ℕ) o. made (map is.ran.state.statuses (below setup.harts))
      (map (watched_in is.ran.state) watch.registers.items) (map (λ (w : WatchedBytes). number_at b w.address (bytes_of w.width)) watch.words.items) o)
      (sym (fun_ext is.bytes)) (sym is.output)

  pub end_of_core : AllAreOver setup past → IsEnd setup is.ran.state
  end_of_core over h =
      elim (cases_Bool (nat_lt h setup.harts)) [
        | inl inside ↦
            let below : h < setup.harts = grind (arith, nat_tests, inside) in
            let stands : is_going_status (is.ran.state.statuses h) ≡ false =
            ap is_going_status (is.statuses h) ∙ over h below in
            last_false (nat_lt h setup.harts) (is_going_status (is.ran.state.statuses h)) stands
        | inr outside ↦ none_behind (nat_lt h setup.harts) _ outside
      ]

  pub leads_to : RunsArePaths → path setup (reverse (order past)) (start setup) ≡ Some is.ran.state
  leads_to paths = sym (paths setup (order past)) ∙ ap (option_map (λ (r : Run). r.state)) is.runs

pub covers_cores : EachIsSequential → RunsArePaths → (setup : Setup) (watch : Watch) (found : Found)
    → AreThere setup.harts watch → ListsAll setup watch found → CoversCores setup watch found
covers_cores headline paths setup watch found there complete past legal over =
    let is = headline setup past legal in
    complete (reverse (order past)) (core_ending setup watch past) (record {
      last = is.ran.state;
      leads = leads_to setup watch there past is paths;
      is_end = end_of_core setup watch there past is over;
      is = ending_same setup watch there past is;
    })
