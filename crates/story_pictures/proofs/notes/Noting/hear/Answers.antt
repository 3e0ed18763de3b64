use Rattle.story_pictures.proofs.notes.Noting.hear.Goals as goal

pub returns : goal.returns
returns c = λ past has. record {
  heard = c.hear.ensures past has.heard;
  kept = c.hear-2.ensures past has.kept;
}
