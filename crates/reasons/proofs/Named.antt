-- What is named of a core, from what is named of its history.
use Rattle.std.specs.Prelude.{◌≡◌, ◌<◌, ◌==◌, Bool, true, false, length, Option, Some, None}
use Rattle.std.proofs.Common.{◌∙◌, refl, sym, ap, arith}
use Rattle.std.proofs.{lemmas.Bool.cases_Bool, lemmas.Bool.Decides.nat_tests}
use Rattle.smt_model.specs.{Asks.Ask, Basics.or_else, Rules.is_legal}
use Rattle.core_state.specs.View.{CoreView}
use Rattle.reasons.specs.Reasons.{named, first_named, reasons}
use Rattle.reasons.specs.Exact.{IsPossible, IsReason, reason_in}
use Rattle.reasons.specs.{declared.reason.Reason.Reason, declared.reason.Reason.TheVariants.Full}
use Rattle.reasons.proofs.Exact.{are_exact}

not_full : (core : CoreView) → length core.past < core.limit → (length core.past == core.limit) ≡ false
not_full core room = grind (arith, nat_tests)

pub is_reason : (core : CoreView) → is_legal core.setup core.past → (ask : Ask) → length core.past < core.limit
    → (r : Option Reason) → r ≡ first_named (reasons core.setup core.past ask) → IsReason core ask r
is_reason core legal ask room r is =
    let exact = are_exact core.setup core.past legal ask in
    let first : reason_in core ask ≡ first_named (reasons core.setup core.past ask) =
    ap (λ b. or_else (named b Full) (first_named (reasons core.setup core.past ask))) (not_full core room) in
    record {
      first = is ∙ sym first;
      exact = (
        λ none. record { room = room; may = exact.0 (sym is ∙ none) },
        λ possible. is ∙ exact.1 possible.may,
      );
    }

some_none : (r : Reason) → Some r ≡ None → ⊥
some_none r none = absurd (grind arith)

pub is_full : (core : CoreView) (ask : Ask) → length core.past ≡ core.limit → IsReason core ask (Some Full)
is_full core ask full =
    let test : (length core.past == core.limit) ≡ true = grind (arith, nat_tests) in
    record {
      first = sym (ap (λ b. or_else (named b Full) (first_named (reasons core.setup core.past ask))) test);
      exact = (
        λ none. absurd (some_none Full none),
        λ possible. let room = possible.room in absurd (omega arith),
      );
    }
