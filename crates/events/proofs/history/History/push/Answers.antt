use Rattle.std.proofs.Common.{[], ◌∷◌, refl}
use Rattle.std.proofs.lemmas.List.{map-append}
use Rattle.events.specs.Packed.{event_in}
use Rattle.events.proofs.history.History.push.Goals as goal

pub returns-clause-pushed : goal.returns-clause-pushed
returns-clause-pushed c =
    rw (
      ← c.self.view_is,
      c.push_reserved.ensures.items,
      map-append event_in c.self.inside.events.items (c.pack.result ∷ []),
      c.pack.ensures,
    )
    refl
