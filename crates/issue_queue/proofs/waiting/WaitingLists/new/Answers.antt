use Rattle.std.proofs.Common.{◌+◌, [], arith}
use Rattle.std.proofs.lemmas.List.{get_or-replicate}
use Rattle.issue_queue.specs.Waiting.{nodes, places}
use Rattle.issue_queue.proofs.Following.{none_some}
use Rattle.issue_queue.proofs.waiting.WaitingLists.new.Goals as goal

pub returns : goal.returns
returns c =
    λ register inside.
    record {
      members = [];
      follow = get_or-replicate places (nodes + register) places 0 (omega (arith, inside));
      distinct = tt;
      only = tt;
      each = λ n lt is. none_some register is;
    }
