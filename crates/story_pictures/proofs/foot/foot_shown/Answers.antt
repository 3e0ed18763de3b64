use Rattle.std.proofs.Common.{◌∙◌, ap, take}
use Rattle.std.proofs.lemmas.List.{take_min}
use Rattle.story_pictures.specs.Foot.{most_foot}
use Rattle.story_pictures.proofs.foot.foot_shown.Goals as goal

pub returns-clause-shown : goal.returns-clause-shown
returns-clause-shown c =
    ap (λ n. take n c.args.foot.now) c.min.ensures ∙ take_min most_foot c.args.foot.now
