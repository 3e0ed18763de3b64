use Rattle.std.proofs.Common.{◌≡◌, Bool, true, IfOk, subst, ◌∙◌, Result}
use Rattle.std.specs.declared.alloc.AllocError.{AllocError}
use Rattle.program_ways.specs.Keeping.{HasWay}
use Rattle.program_ways.proofs.Coming.{copied_way, copied_at}
use Rattle.program_ways.proofs.Listing.{may_read}
use Rattle.program_ways.proofs.following.share_with.Goals as goal

pub returns-then-is_made : goal.returns-then-is_made
returns-then-is_made c =
    let asked = c.args.asked.now in
    let p = asked.program.now in
    let shared = asked.shared.now in
    let hart = c.args.hart.now in
    let sharing = c.args.sharing.now in
    let copy = c.in_ok-next.next in
    record {
      way = subst (λ (r : Result Bool AllocError). IfOk r (λ m. m ≡ true → HasWay p shared c.make_access.new.hart))
          c.in_ok-is_made.was
          (c.make_access.ensures.way shared
          (record {
            way = copied_way p shared hart copy c.in_ok-next.ensures c.requires.way.way;
            at = copied_at p shared hart copy sharing c.in_ok-next.ensures c.requires.at;
            place = c.requires.found.place;
            number = λ reads. may_read p shared asked.known.now sharing.location c.args.found.number c.requires.known
                (c.requires.found.number reads);
          }))
          c.if-is_made.true;
      same = c.make_access.ensures.index ∙ c.in_ok-next.ensures.index ∙ c.requires.way.same;
    }
