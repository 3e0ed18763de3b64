use Rattle.std.proofs.Common.{◌-◌, subst}
use Rattle.prompts.proofs.Lines.{in_range_seen, truncated, asked_before}
use Rattle.prompts.specs.Kept.{AreInRange}
use Rattle.prompts.proofs.session.Session.undo.Goals as goal

pub ask_all-requires : goal.ask_all-requires
ask_all-requires g c =
    in_range_seen (c.len-count.result - 1) c.args.self.now.lines.items c.as_slice.result.now c.as_slice.ensures.value
    c.requires.in_range

pub returns-in-Ok-clause-session : goal.returns-in-Ok-clause-session
returns-in-Ok-clause-session g c =
    let same = truncated (c.len-count.result - 1) c.args.self.now.lines.items c.as_slice.result.now
    c.truncate.new.self.items c.as_slice.ensures.value c.truncate.ensures.items in
    record {
      in_range = subst AreInRange same (in_range_seen (c.len-count.result - 1) c.args.self.now.lines.items
          c.as_slice.result.now c.as_slice.ensures.value c.requires.in_range);
      asked = asked_before g.P.Predict.predicts _ _ _ _ _ same _ _ _ c.in-Ok.ensures.asked;
    }
