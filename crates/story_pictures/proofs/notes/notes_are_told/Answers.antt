use Rattle.story_pictures.proofs.Marking.{told}
use Rattle.story_pictures.proofs.notes.notes_are_told.Goals as goal

pub returns : goal.returns
returns c = told
