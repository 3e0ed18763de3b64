use Rattle.std.proofs.Common.{None, refl}
use Rattle.symbols.specs.Tables.{table_of}
use Rattle.symbols.specs.declared.meanings.Name.{Name}
use Rattle.outcome_queries.proofs.Namesakes.{differs, is_nothing}
use Rattle.outcome_queries.proofs.put.is_free.Goals as goal

pub returns-in-One : goal.returns-in-One
returns-in-One c =
    let name : Name = record { file = None; name = c.args.name } in
    record {
      free = λ never. cc;
      taken = λ is is_free.
          differs c.meaning_of.result (is_nothing (table_of c.args.names.now) name c.meaning_of.result
          c.meaning_of.ensures (is_free name refl refl)) c.in-One.is;
    }
