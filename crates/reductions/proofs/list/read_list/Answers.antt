use Rattle.reductions.proofs.Listing.{one_listed, two_listed, no_list}
use Rattle.reductions.specs.declared.reduction.Reduction.TheVariants.{Conditional, Jumps}
use Rattle.reductions.proofs.list.read_list.Goals as goal

pub returns-in-RX-clause-read : goal.returns-in-RX-clause-read
returns-in-RX-clause-read c =
    one_listed c.args.text.now c.none.result c.and.result Conditional c.none.ensures c.and.ensures c.in-RX.is

pub returns-in-J-clause-read : goal.returns-in-J-clause-read
returns-in-J-clause-read c =
    one_listed c.args.text.now c.none-in-J.result c.and-in-J.result Jumps c.none-in-J.ensures c.and-in-J.ensures c.in-J.is

pub returns-in-text-clause-read : goal.returns-in-text-clause-read
returns-in-text-clause-read c =
    two_listed c.args.text.now c.both.result Conditional Jumps (λ same. cc) c.both.ensures c.in-text.is

pub returns-in-text-2-clause-read : goal.returns-in-text-2-clause-read
returns-in-text-2-clause-read c =
    two_listed c.args.text.now c.both-in-text-2.result Jumps Conditional (λ same. cc) c.both-in-text-2.ensures
    c.in-text-2.is

pub returns-in_default-clause-unread : goal.returns-in_default-clause-unread
returns-in_default-clause-unread c is =
    no_list c.args.text.now c.in_default.not-RX c.in_default.not-J c.in_default.not-text c.in_default.not-text-2
