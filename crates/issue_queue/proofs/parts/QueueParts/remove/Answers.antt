use Rattle.std.proofs.Common.{◌∙◌, None}
use Rattle.issue_queue.specs.Parts.{waits_at}
use Rattle.issue_queue.specs.Waiting.{with_register, IsLinked}
use Rattle.issue_queue.proofs.Agreeing.{gone_sound, first_waits, second_waits}
use Rattle.issue_queue.proofs.parts.QueueParts.remove.Goals.{After-unlink}
use Rattle.issue_queue.proofs.parts.QueueParts.remove.Goals as goal

-- once the first source stands in no list
without_first : (c : After-unlink)
    → IsLinked c.unlink.new.waiting (with_register (waits_at c.args.self.now.entries) c.args.key None)
without_first c =
    c.unlink.ensures (waits_at c.args.self.now.entries) c.requires.sound.waiting
    (first_waits c.args.self.now c.requires.sound c.args.key c.remove-entry.result c.remove-entry.ensures.value)

pub unlink-requires-clause-there : goal.unlink-requires-clause-there
unlink-requires-clause-there c =
    λ register is known.
    record {
      waits = waits_at c.args.self.now.entries;
      linked = c.requires.sound.waiting;
      register = register;
      inside = known;
      there = first_waits c.args.self.now c.requires.sound c.args.key c.remove-entry.result c.remove-entry.ensures.value
          ∙ is;
    }

pub unlink-requires-2-clause-there : goal.unlink-requires-2-clause-there
unlink-requires-2-clause-there c =
    λ register is known.
    record {
      waits = with_register (waits_at c.args.self.now.entries) c.args.key None;
      linked = without_first (goal.at.unlink-requires-2-clause-there c).After-unlink;
      register = register;
      inside = known;
      there = second_waits c.args.self.now c.requires.sound c.args.key c.remove-entry.result c.remove-entry.ensures.value
          ∙ is;
    }

pub returns-clause-sound : goal.returns-clause-sound
returns-clause-sound c =
    gone_sound c.args.self.now
    (record { entries = c.remove-entry.new.self; waiting = c.unlink-2.new.waiting; ready = c.withdraw.new.ready })
    c.requires.sound c.remove-entry.ensures.capacity c.args.key c.remove-entry.result c.remove-entry.ensures.value
    c.remove-entry.ensures.updates
    (c.unlink-2.ensures (with_register (waits_at c.args.self.now.entries) c.args.key None)
    (without_first (goal.at.returns-clause-sound c).After-unlink)
    (second_waits c.args.self.now c.requires.sound c.args.key c.remove-entry.result c.remove-entry.ensures.value))
    c.withdraw.ensures
