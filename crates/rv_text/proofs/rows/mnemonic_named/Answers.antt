use Rattle.std.proofs.Common.{◌≡◌, ◌∙◌, refl, lit<}
use Rattle.std.proofs.lemmas.Option.{IfSome_then}
use Rattle.std.proofs.lemmas.Str.Pattern.{split_parts, split_once_first}
use Rattle.rv_text.specs.{declared.mnemonic.Mnemonic.TheVariants.Atomic, Mnemonic.mnemonic_name}
use Rattle.rv_text.proofs.Names.{only_named, only_plain}
use Rattle.rv_text.proofs.rows.mnemonic_named.Goals as goal

pub returns-in_default-clause-only : goal.returns-in_default-clause-only
returns-in_default-clause-only c =
    let place = rw c.in_default.is
    at (split_once_first 46 c.args.text.now c.split_once.result c.split_once.ensures.cases (lit< tt)) in
    only_plain c.args.text.now c.plain.result c.plain.ensures.found c.plain.ensures.none place

pub returns-clause-only : goal.returns-clause-only
returns-clause-only c =
    let parts =
    rw c.in-Some.is at (split_parts 46 c.args.text.now c.split_once.result c.split_once.ensures.cases (lit< tt)) in
    let is : c.args.text.now ≡ mnemonic_name (Atomic c.in_ok-atomic_named.field-0 c.in_ok-ordering.field-0) =
    parts.0 ∙ rw (c.in_ok-atomic_named.ensures.found, c.in_ok-ordering.ensures.found) refl in
    only_named c.args.text.now _ is

pub returns-in_default-clause-found : goal.returns-in_default-clause-found
returns-in_default-clause-found c = IfSome_then c.plain.result c.plain.ensures.found (λ m is. is.0)

pub returns-clause-found : goal.returns-clause-found
returns-clause-found c =
    let parts =
    rw c.in-Some.is at (split_parts 46 c.args.text.now c.split_once.result c.split_once.ensures.cases (lit< tt)) in
    parts.0 ∙ rw (c.in_ok-atomic_named.ensures.found, c.in_ok-ordering.ensures.found) refl
