use Rattle.std.proofs.Common.{◌∙◌, ◌+◌, length, Some, take, subst, set, sym, ap, arith}
use Rattle.std.specs.List.{AllByRecursion}
use Rattle.std.proofs.lemmas.Bool.Decides.{nat_tests}
use Rattle.std.proofs.lemmas.List.{set-get_or}
use Rattle.rename_map.specs.{Maps.Checkpoint, Maps.KeepsToo, Places.kept_in, Places.IsWhole}
use Rattle.rename_map.proofs.Places.{whole_set, taken, some_free, one_more}
use Rattle.rename_map.proofs.checkpoints.keep_in.Goals as goal

pub returns-then-is_none-clause-room : goal.returns-then-is_none-clause-room
returns-then-is_none-clause-room c =
    let l = c.loop-place in
    let few = some_free l.places l.place-index _ (omega (arith, c.loop-place-test.true, l.auto.places))
    c.if-is_none.ensures in
    let fewer = rw l.invariant.0 at few in
    grind (arith, nat_tests)

pub returns-then-is_none-clause-kept : goal.returns-then-is_none-clause-kept
returns-then-is_none-clause-kept c = λ kept.
    let l = c.loop-place in
    let k : Checkpoint = record { seq = c.args.seq; map = c.args.map.now } in
    let now = set l.places l.place-index (record { number = Some c.args.seq; map = c.args.map.now }) in
    subst (λ xs. KeepsToo k (kept_in xs) (kept_in now)) l.invariant.0
    (taken l.places l.place-index _ c.args.seq c.args.map.now (omega (arith, c.loop-place-test.true, l.auto.places))
    c.if-is_none.ensures)

pub loop-place-preserved : goal.loop-place-preserved
loop-place-preserved c =
    let l = c.loop-place in (
      set-get_or l.places l.place-index _ ∙ l.invariant.0,
      ap (λ xs. length (kept_in (take (l.place-index + 1) xs))) (sym l.invariant.0)
          ∙ (one_more l.places l.place-index _ (omega (arith, c.loop-place-test.true, l.auto.places))
          c.if-is_none.ensures
          ∙ ap (λ n. n + 1) (ap (λ xs. length (kept_in (take l.place-index xs))) l.invariant.0 ∙ l.invariant.1)),
    )

pub returns-then-is_none-clause-whole : goal.returns-then-is_none-clause-whole
returns-then-is_none-clause-whole c = λ all.
    let l = c.loop-place in
    whole_set l.places l.place-index _ c.told-map (subst (AllByRecursion IsWhole) (sym l.invariant.0) all)
