use Rattle.litmus_runs.proofs.written.Written.new.Goals as goal

pub returns-clause-known : goal.returns-clause-known
returns-clause-known c = record { each = rw c.in_ok-copy.ensures.held c.requires.each }

pub returns-clause-kept : goal.returns-clause-kept
returns-clause-kept c = record {
  whole = λ h. rw c.in_ok-copy.ensures.whole at h;
  kept = λ held there. rw c.in_ok-copy.ensures.held there;
}
