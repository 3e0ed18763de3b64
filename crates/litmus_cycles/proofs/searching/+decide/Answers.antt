use Rattle.std.proofs.Common.{◌≡◌, true, ◌-◌, ◌+◌, ◌∙◌, refl, length, take, drop, slice_index_or, IfSome, subst, ap, arith, rules}
use Rattle.std.proofs.lemmas.Grind.{common_steps}
use Rattle.litmus_cycles.specs.declared.open.Open.TheVariants.{Place}
use Rattle.litmus_cycles.specs.Choices.{may_choose, with_choice}
use Rattle.litmus_cycles.proofs.Wholes.{next_turn, turn_made, turn_refused, all_turns, split_at_first, ready_behind}
use Rattle.litmus_cycles.proofs.searching.+decide.Goals as goal
use Rattle.litmus_cycles.proofs.searching.+decide.Goals.{in-Some+in_ok-decide, in_default-next}

pub loop-turn-preserved : goal.loop-turn-preserved
loop-turn-preserved t c =
    let i = c.loop-turn.invariant in
    let made = c.in_ok-next.ensures in
    let test = c.args.asked.now.test.now in
    let runs = c.args.asked.now.runs.now in
    let chosen = c.args.asked.now.chosen.now in
    let demand = c.args.asked.now.demand in
    let first = slice_index_or c.args.left.now 0 (Place 0 0) in
    let rest = take (length c.args.left.now - 1) (drop 1 c.args.left.now) in
    let events = c.args.events.now in
    let choice = c.saturating_sub.result in
    let less = c.loop-turn-test.true in
    let split = split_at_first c.args.left.now (Place 0 0) c.in-len1-up.len_at_least in
    elim c.match-next.branch [
      | in-Some+in_ok-decide w ↦
          let may = subst (λ o. IfSome o (λ next. may_choose test first choice events ≡ true)) w.in-Some.is made.chosen in
          let is = subst (λ o. IfSome o (λ next. next.items ≡ with_choice first choice events)) w.in-Some.is made.some in
          rw (w.findings-is) record {
            found = w.in_ok-decide.ensures.found;
            searches = next_turn test runs chosen demand first rest events c.loop-turn.turn c.args.findings.now
                c.loop-turn.findings w.decide.new.findings i.searches
                (turn_made test runs chosen demand first rest events w.as_slice.result.now choice c.loop-turn.turn
                c.loop-turn.findings c.choose.new.findings w.decide.new.findings c.saturating_sub.ensures may
                (w.as_slice.ensures.value ∙ is) made.stays w.in_ok-decide.ensures.all);
            counts = w.in_ok-decide.ensures.counts ∙ made.counts ∙ i.counts;
            inside = omega (arith, less);
          }
      | in_default-next w ↦
          rw (w.findings-is) record {
            found = made.found;
            searches = next_turn test runs chosen demand first rest events c.loop-turn.turn c.args.findings.now
                c.loop-turn.findings c.choose.new.findings i.searches
                (turn_refused test runs chosen demand first rest c.args.left.now events choice c.loop-turn.turn
                c.loop-turn.findings c.choose.new.findings c.in_ok-next.next c.saturating_sub.ensures
                w.in_default-next.not-Some split c.requires.ready made.none made.stays);
            counts = made.counts ∙ i.counts;
            inside = omega (arith, less);
          }
    ]

pub returns-after-next-clause-all : goal.returns-after-next-clause-all
returns-after-next-clause-all t c =
    let i = c.loop-turn.invariant in
    let made = c.in_ok-next.ensures in
    let test = c.args.asked.now.test.now in
    let runs = c.args.asked.now.runs.now in
    let chosen = c.args.asked.now.chosen.now in
    let demand = c.args.asked.now.demand in
    let first = slice_index_or c.args.left.now 0 (Place 0 0) in
    let rest = take (length c.args.left.now - 1) (drop 1 c.args.left.now) in
    let events = c.args.events.now in
    let choice = c.saturating_sub.result in
    let over = c.loop-turn-test.true in
    let inside = i.inside in
    let end = c.loop-turn.auto.turn-end in
    let turns : c.loop-turn.turn + 1 ≡ length events + 1 = omega (arith, over, inside, end) in
    let split = split_at_first c.args.left.now (Place 0 0) c.in-len1-up.len_at_least in
    elim c.match-next.branch [
      | in-Some+in_ok-decide w ↦
          let may = subst (λ o. IfSome o (λ next. may_choose test first choice events ≡ true)) w.in-Some.is made.chosen in
          let is = subst (λ o. IfSome o (λ next. next.items ≡ with_choice first choice events)) w.in-Some.is made.some in
          rw (w.findings-is) (all_turns test runs chosen demand first rest c.args.left.now events (c.loop-turn.turn + 1)
          c.args.findings.now w.decide.new.findings
          (next_turn test runs chosen demand first rest events c.loop-turn.turn c.args.findings.now
          c.loop-turn.findings w.decide.new.findings i.searches
          (turn_made test runs chosen demand first rest events w.as_slice.result.now choice c.loop-turn.turn
          c.loop-turn.findings c.choose.new.findings w.decide.new.findings c.saturating_sub.ensures may
          (w.as_slice.ensures.value ∙ is) made.stays w.in_ok-decide.ensures.all)) turns split)
      | in_default-next w ↦
          rw (w.findings-is) (all_turns test runs chosen demand first rest c.args.left.now events (c.loop-turn.turn + 1)
          c.args.findings.now c.choose.new.findings
          (next_turn test runs chosen demand first rest events c.loop-turn.turn c.args.findings.now
          c.loop-turn.findings c.choose.new.findings i.searches
          (turn_refused test runs chosen demand first rest c.args.left.now events choice c.loop-turn.turn
          c.loop-turn.findings c.choose.new.findings c.in_ok-next.next c.saturating_sub.ensures
          w.in_default-next.not-Some split c.requires.ready made.none made.stays)) turns split)
    ]

pub decide-requires : goal.decide-requires
decide-requires t c =
    let made = c.in_ok-next.ensures in
    let test = c.args.asked.now.test.now in
    let first = slice_index_or c.args.left.now 0 (Place 0 0) in
    let rest = take (length c.args.left.now - 1) (drop 1 c.args.left.now) in
    let events = c.args.events.now in
    let choice = c.saturating_sub.result in
    let may = subst (λ o. IfSome o (λ next. may_choose test first choice events ≡ true)) c.in-Some.is made.chosen in
    let is = subst (λ o. IfSome o (λ next. next.items ≡ with_choice first choice events)) c.in-Some.is made.some in (
      first_of (search rules, grind (arith, common_steps)),
      (
        made.found,
        ready_behind test first rest c.args.left.now events c.as_slice.result.now choice may (c.as_slice.ensures.value ∙ is)
            (split_at_first c.args.left.now (Place 0 0) c.in-len1-up.len_at_least) c.requires.ready,
      ),
    )
