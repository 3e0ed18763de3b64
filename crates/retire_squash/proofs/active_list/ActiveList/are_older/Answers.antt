use Rattle.std.proofs.Common.{◌-◌, length, take, subst, arith}
use Rattle.std.proofs.lemmas.Bool.Decides.{nat_tests}
use Rattle.retire_squash.specs.Active.{Above}
use Rattle.retire_squash.proofs.Rising.{Above-from, Above-last}
use Rattle.retire_squash.proofs.active_list.ActiveList.are_older.Goals as goal

pub returns-in-Some : goal.returns-in-Some
returns-in-Some c =
    let now = c.args.self.now in
    let young = c.in-Some.youngest in (
      λ less. Above-from now young.seq c.args.seq c.in-Some.ensures.above (grind (arith, nat_tests, less)),
      λ above. grind (
        arith,
        nat_tests,
        Above-last (take (length now - 1) now) young c.args.seq
            (subst (Above c.args.seq) c.in-Some.ensures.some above),
      ),
    )
