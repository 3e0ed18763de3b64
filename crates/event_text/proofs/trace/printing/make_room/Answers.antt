use Rattle.std.proofs.Common.{rules}
use Rattle.event_text.proofs.trace.printing.make_room.Goals as goal

pub returns-clause-broken : goal.returns-clause-broken
returns-clause-broken c = search rules

pub returns-clause-held : goal.returns-clause-held
returns-clause-held c = search rules

pub returns-clause-room : goal.returns-clause-room
returns-clause-room c = search rules

pub returns-in_err-put_all-clause-broken : goal.returns-in_err-put_all-clause-broken
returns-in_err-put_all-clause-broken c = search rules

pub returns-in_err-put_all-clause-held : goal.returns-in_err-put_all-clause-held
returns-in_err-put_all-clause-held c = search rules

pub returns-in_err-put_all-clause-room : goal.returns-in_err-put_all-clause-room
returns-in_err-put_all-clause-room c = search rules

pub returns-then-remaining_capacity-ge-LONGEST-clause-broken : goal.returns-then-remaining_capacity-ge-LONGEST-clause-broken
returns-then-remaining_capacity-ge-LONGEST-clause-broken c = search rules

pub returns-then-remaining_capacity-ge-LONGEST-clause-held : goal.returns-then-remaining_capacity-ge-LONGEST-clause-held
returns-then-remaining_capacity-ge-LONGEST-clause-held c = search rules

pub returns-then-remaining_capacity-ge-LONGEST-clause-room : goal.returns-then-remaining_capacity-ge-LONGEST-clause-room
returns-then-remaining_capacity-ge-LONGEST-clause-room c = search rules
