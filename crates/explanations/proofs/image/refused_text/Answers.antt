use Rattle.explanations.proofs.Checks.{table_in_file}
use Rattle.explanations.proofs.image.refused_text.Goals as goal

pub headers_for-requires-clause-table : goal.headers_for-requires-clause-table
headers_for-requires-clause-table c late = table_in_file c.args.file.now c.args.ram c.args.check c.requires late
