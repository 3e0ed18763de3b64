use Rattle.std.proofs.Common.{◌≡◌, ◌==◌, not, filter, ap, sym, subst, ◌∙◌, rules}
use Rattle.std.proofs.lemmas.Fn.{filter_same}
use Rattle.changed_memory.specs.declared.change.Change.{Change}
use Rattle.changed_memory.specs.Canonical.{AreCanonical}
use Rattle.changed_memory.specs.Shared.{changed}
use Rattle.changed_memory.proofs.Canonical.{stay_without}
use Rattle.changed_memory.proofs.Changing.{taken_out}
use Rattle.changed_memory.proofs.changes.take_out.Goals as goal

pub returns : goal.returns
returns c =
    let test = λ (x : Change). not (x.addr == c.args.addr) in
    let items = c.args.changes.now.items in
    let left : c.retain.new.self.items ≡ filter test items =
    filter_same _ test _ (λ x b f' k. search rules) _ _ c.retain.ensures.filtered in
    record {
      bytes = λ addr before. ap (λ xs. changed xs addr before) left ∙ taken_out c.args.addr items addr before;
      canonical = λ first are. subst (AreCanonical first) (sym left) (stay_without first c.args.addr items are);
    }
