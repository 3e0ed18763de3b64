use Rattle.std.proofs.Common.{◌∙◌}
use Rattle.litmus_words.proofs.Naming.{names_keyword, names_nothing}
use Rattle.litmus_words.proofs.names.text_token.Goals as goal

pub returns-in-Some : goal.returns-in-Some
returns-in-Some c = names_keyword _ _ c.requires c.in-Some.ensures.found

pub returns-in-None : goal.returns-in-None
returns-in-None c =
    let none = rw c.in_default.is at c.keyword_named.ensures.none in
    let none' = rw c.in_default-type_named.is at c.type_named.ensures.none in
    let none'' = rw c.in_default-mnemonic_named.is at c.mnemonic_named.ensures.none in
    names_nothing c.args.name.now c.requires none none' none''
    (λ h small is. c.in-None.ensures.none h small (c.as_bytes.ensures.value ∙ is))
