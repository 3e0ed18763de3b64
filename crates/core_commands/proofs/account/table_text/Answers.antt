use Rattle.reports.specs.Tables.{AreTablesOf}
use Rattle.core_commands.proofs.OfAccount.{printed_all}
use Rattle.core_commands.proofs.account.table_text.Goals as goal

pub returns-in-Ok : goal.returns-in-Ok
returns-in-Ok c =
    rw c.if-not-wanted.false
    (record {
      tables = printed_all (AreTablesOf c.args.core.now) _ _ c.new-text.ensures.items c.in-Ok.ensures;
    })
