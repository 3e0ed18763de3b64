use Rattle.issue_queue.proofs.parts.QueueParts.search_waiting.Goals as goal

pub waits_for-requires : goal.waits_for-requires
waits_for-requires c = c.requires.placed
