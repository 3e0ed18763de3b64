use Rattle.std.proofs.Common.{◌≡◌, ◌<◌, ◌≤◌, ◌+◌, ◌*◌, ◌||◌, not, [], ◌∷◌, ◌++◌, length, get_or, slice_set, replicate, take, refl, ap, sym}
use Rattle.std.proofs.Common.{subst, ◌∙◌, arith, List, Option, ℕ}
use Rattle.std.proofs.lemmas.List.{length_push, length-set, take_all, take_more}
use Rattle.events.specs.declared.effect.Record.{Record}
use Rattle.smt_model.specs.Plain.{start, is_going_status}
use Rattle.smt_model.specs.declared.turn.Turn.{Turn}
use Rattle.elf_image.specs.Image.{code_writable}
use Rattle.plain_run.proofs.Refusing.{stops_at}
use Rattle.schedules.specs.Ran.{step_turns}
use Rattle.schedules.proofs.Stepping.{HasTurned, turned_none, turned_more, hart_inside, hart_there, stale_read}
use Rattle.schedules.proofs.running.run_turns.Goals as goal

pub loop-index-init : goal.loop-index-init
loop-index-init c =
    let none = c.in-Ok-with_capacity.ensures.items in
    let no_turns = c.in-Ok-with_capacity-2.ensures.items in
    let m = c.in-Ok.machine in
    let words = replicate 16 c.word_at_pc-fetched.result in
    record {
      room = c.in-Ok.ensures.ok.room_is;
      count = ap length none;
      space = c.in-Ok-with_capacity.ensures.capacity;
      turn_count = let size = ap length no_turns in omega arith;
      turn_space = c.in-Ok-with_capacity-2.ensures.capacity;
      writable = c.code_writable-writable.ensures;
      places = refl;
      made = λ setup of_image of_harts.
          let agrees = c.in-Ok.ensures.ok.agrees setup of_image of_harts in
          subst (λ (xs : List Record). HasTurned setup [] xs c.in-Ok-with_capacity-2.turns.items words m) (sym none)
          (subst (λ (ts : List Turn). HasTurned setup [] [] ts words m) (sym no_turns)
          (turned_none setup m c.word_at_pc-fetched.result (omega (arith, of_harts, c.requires)) agrees
          (c.word_at_pc-fetched.ensures setup (start setup) agrees)));
    }

pub returns-in-Err-step-clause-refused : goal.returns-in-Err-step-clause-refused
returns-in-Err-step-clause-refused c =
    stops_at c.args.image.now c.args.harts c.args.order.now c.loop-index.index c.in-Err-step.why
    c.loop-index.records.items c.loop-index.machine c.loop-index-test.true c.loop-index.invariant.room
    (λ setup of_image of_harts. (c.loop-index.invariant.made setup of_image of_harts).made)
    c.in-Err-step.ensures.refused

pub bounds-fetched-from : goal.bounds-fetched-from
bounds-fetched-from c =
    let inside =
    hart_inside c.args.image.now c.args.harts _ _ _ _ _ _ c.in-Ok-step.record c.loop-index.machine c.step.new.self
    c.loop-index.invariant.made c.in-Ok-step.ensures.done in
    omega (arith, c.from.ensures, c.requires)

pub fetches-more-requires : goal.fetches-more-requires
fetches-more-requires c =
    hart_there c.args.image.now c.args.harts _ _ _ _ _ _ c.in-Ok-step.record c.loop-index.machine c.step.new.self
    c.loop-index.invariant.made c.in-Ok-step.ensures.done

pub push_turns-requires : goal.push_turns-requires
push_turns-requires c =
    omega (arith, c.loop-index.invariant.turn_count, c.loop-index.invariant.turn_space, c.loop-index-test.true)

pub word_at_pc-requires : goal.word_at_pc-requires
word_at_pc-requires c =
    hart_there c.args.image.now c.args.harts _ _ _ _ _ _ c.in-Ok-step.record c.loop-index.machine c.step.new.self
    c.loop-index.invariant.made c.in-Ok-step.ensures.done

pub bounds-fetched-from-in-loop-index : goal.bounds-fetched-from-in-loop-index
bounds-fetched-from-in-loop-index c =
    let inside =
    hart_inside c.args.image.now c.args.harts _ _ _ _ _ _ c.in-Ok-step.record c.loop-index.machine c.step.new.self
    c.loop-index.invariant.made c.in-Ok-step.ensures.done in
    omega (arith, c.from-in-loop-index.ensures, c.requires)

pub loop-index-preserved : goal.loop-index-preserved
loop-index-preserved c =
    let order = c.args.order.now in
    let k = c.loop-index.index in
    let h = get_or order k 0 in
    let was = c.loop-index.invariant in
    let said = c.loop-index.records.items in
    let turns = c.loop-index.turns.items in
    let words = c.loop-index.fetched in
    let one = c.in-Ok-step.record in
    let old = c.loop-index.machine in
    let new = c.step.new.self in
    let w = c.word_at_pc.result in
    let stale = c.is_stale-stale.result in
    let fetches = c.fetches-more.result in
    let more : c.push.new.self.items ≡ said ++ one ∷ [] = rw c.unwrap.ensures at c.push.ensures.items in
    let inside = c.loop-index-test.true in
    let there : h < c.args.harts =
    hart_inside c.args.image.now c.args.harts _ _ _ _ _ _ one old new was.made c.in-Ok-step.ensures.done in
    let placed : h < length words = omega (arith, was.places, c.requires) in
    record {
      room = c.step.ensures.room ∙ was.room;
      count = ap length more ∙ (length_push said one ∙ ap (λ n. n + 1) was.count);
      space = omega arith;
      turn_count = omega (arith, c.push_turns.ensures.count, was.turn_count);
      turn_space = omega (arith, c.push_turns.ensures.capacity, was.turn_space);
      writable = was.writable;
      places = length-set words c.from-in-loop-index.result w ∙ was.places;
      made = λ setup of_image of_harts.
          let code = c.code_writable-writable.ensures ∙ ap code_writable (sym of_image) in
          let next = turned_more setup (take k order) said turns words h old.room one old new
          (was.made setup of_image of_harts) c.in-Ok-step.ensures.done stale fetches c.code_writable-writable.result w code
          (subst (λ n. h < n) (sym of_harts) there) placed
          (stale_read words c.from.result h _ one.word c.code_writable-writable.result (code_writable setup.image) stale
          c.from.ensures placed code c.is_stale-stale.ensures)
          c.fetches-more.ensures
          c.word_at_pc.ensures in
          subst (λ i. HasTurned setup (take (k + 1) order) c.push.new.self.items c.push_turns.new.turns.items
          (slice_set words i w) new) (sym c.from-in-loop-index.ensures)
          (subst (λ xs. HasTurned setup xs c.push.new.self.items c.push_turns.new.turns.items (slice_set words h w) new)
          (sym (take_more order k 0 inside))
          (subst (λ (xs : List Record). HasTurned setup (take k order ++ h ∷ []) xs c.push_turns.new.turns.items
          (slice_set words h w) new) (sym more)
          (subst (λ (ts : List Turn). HasTurned setup (take k order ++ h ∷ []) (said ++ one ∷ []) ts
          (slice_set words h w) new) (sym c.push_turns.ensures.items) next)));
    }

pub returns-clause-ran : goal.returns-clause-ran
returns-clause-ran c = λ setup of_image of_harts.
    let order = c.args.order.now in
    let end : length order ≤ c.loop-index.index = omega arith in
    let said = c.loop-index.records.items in
    let turns = c.loop-index.turns.items in
    let now = subst (λ xs. HasTurned setup xs said turns c.loop-index.fetched c.loop-index.machine)
    (take_all c.loop-index.index order end) (c.loop-index.invariant.made setup of_image of_harts) in
    record { ran = now.made.ran; runs = now.made.runs; records = now.made.records; turns = now.turned }
