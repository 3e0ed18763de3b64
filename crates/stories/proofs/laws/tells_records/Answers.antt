use Rattle.stories.proofs.Recording.{tells}
use Rattle.stories.proofs.laws.tells_records.Goals as goal

pub returns : goal.returns
returns c = tells
