use Rattle.hints.proofs.Together.{begun_text}
use Rattle.hints.proofs.hint.Hint.finish.Goals as goal

pub returns-in-Lines : goal.returns-in-Lines
returns-in-Lines c =
    begun_text c.args.self.form c.args.self.text.items c.args.self.count c.in-Lines.is c.args.self.few c.args.self.begun
