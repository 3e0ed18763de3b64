use Rattle.std.proofs.Common.{sym, subst}
use Rattle.litmus_tests.specs.declared.location.Location.{Location}
use Rattle.std.proofs.lemmas.List.Elements.{All-more}
use Rattle.litmus_tests.specs.WellFormed.{IsLocation}
use Rattle.litmus_reading.proofs.Told.{all_told}
use Rattle.litmus_reading.proofs.sound.are_locations.Goals as goal

pub loop-location-preserved : goal.loop-location-preserved
loop-location-preserved c =
    All-more (IsLocation c.args.words) c.args.locations.now _ c.location-item.result c.loop-location-test.true
    c.loop-location.invariant
    (subst (λ (location : Location). IsLocation c.args.words location) c.location-item.is
    (c.is_location.ensures.yes c.if-not-is_location.false))

pub returns-clause-yes : goal.returns-clause-yes
returns-clause-yes c = λ is.
    all_told (IsLocation c.args.words) c.args.locations.now c.loop-location.location-index c.loop-location-test.false c.loop-location.invariant

pub returns-then-not-is_location-clause-no : goal.returns-then-not-is_location-clause-no
returns-then-not-is_location-clause-no c = λ is all.
    c.is_location.ensures.no c.if-not-is_location.true
    (subst (λ (location : Location). IsLocation c.args.words location) (sym c.location-item.is)
    (all c.loop-location.location-index c.location-item.result c.loop-location-test.true))
