use Rattle.std.proofs.Common.{List, map}
use Rattle.clap.specs.Words.{Text}
use Rattle.sim_inputs.proofs.Refusals.{asked, not_asked, kinds_of, refused_for}
use Rattle.sim_inputs.proofs.words.read_words.Goals as goal

pub returns-in-Err-clause-refused : goal.returns-in-Err-clause-refused
returns-in-Err-clause-refused c =
    let words : List Text = map (λ word. word.now) c.args.words.now in
    refused_for words c.in-Err.error c.refusal.result
    (kinds_of _ words c.in-Err.error c.in-Ok.ensures c.in-Err.ensures.kinds) c.refusal.ensures

pub returns-in-Some-clause-ok : goal.returns-in-Some-clause-ok
returns-in-Some-clause-ok c =
    let words : List Text = map (λ word. word.now) c.args.words.now in
    let found = c.in-Ok-try_get_matches_from in
    asked words _ found.matches c.in-Some.line c.in-Ok.ensures found.ensures.matches found.ensures.kinds
    c.in-Some.ensures

pub returns-clause-refused : goal.returns-clause-refused
returns-clause-refused c =
    let words : List Text = map (λ word. word.now) c.args.words.now in
    let found = c.in-Ok-try_get_matches_from in
    not_asked words _ found.matches c.in-Ok.ensures found.ensures.matches found.ensures.kinds c.in-None.ensures
