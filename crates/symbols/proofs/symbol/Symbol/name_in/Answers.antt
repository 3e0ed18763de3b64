use Rattle.std.proofs.Common.{sym, ap, ◌∙◌}
use Rattle.std.specs.List.{before_first}
use Rattle.std.specs.Prelude.{◌==◌}
use Rattle.symbols.proofs.Before.{before_at, before_none}
use Rattle.symbols.proofs.symbol.Symbol.name_in.Goals as goal

pub returns-in-Some : goal.returns-in-Some
returns-in-Some g =
    before_at (λ byte. byte == 0) g.behind-rest.result.now g.in-Some.end (sym g.first_zero.ensures ∙ g.in-Some.is)
    ∙ ap (before_first (λ byte. byte == 0)) g.behind-rest.ensures

pub returns-in-None : goal.returns-in-None
returns-in-None g =
    before_none (λ byte. byte == 0) g.behind-rest.result.now (sym g.first_zero.ensures ∙ g.in-None.is)
    ∙ ap (before_first (λ byte. byte == 0)) g.behind-rest.ensures
