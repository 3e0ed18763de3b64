-- The law: no reason is named exactly where an event is possible.
use Rattle.std.specs.Prelude.{◌≡◌, List, None}
use Rattle.events.specs.declared.event.Event.{Event}
use Rattle.smt_model.specs.{Asks.Ask, Asks.AskFetch, Asks.AskDecode, Asks.AskRename, Asks.AskIssue}
use Rattle.smt_model.specs.{Asks.AskComplete, Asks.AskRetire, Setup.Setup, Rules.is_legal}
use Rattle.reasons.specs.{Reasons.first_named, Reasons.reasons, Exact.MayCome, Exact.ReasonsAreExact}
use Rattle.reasons.proofs.FetchLaw.{fetch_may, fetch_by}
use Rattle.reasons.proofs.HartLaws.{decode_may, decode_by, retire_may, retire_by}
use Rattle.reasons.proofs.RenameLaw.{rename_may, rename_by}
use Rattle.reasons.proofs.UnitLaws.{issue_may, issue_by, complete_may, complete_by}

may_come : (setup : Setup) (past : List Event) → is_legal setup past → (ask : Ask)
    → first_named (reasons setup past ask) ≡ None → MayCome setup past ask
may_come setup past legal (AskFetch k) none = fetch_may setup past k none
may_come setup past legal (AskDecode k h) none = decode_may setup past legal k h none
may_come setup past legal (AskRename k h) none = rename_may setup past legal k h none
may_come setup past legal (AskIssue k) none = issue_may setup past legal k none
may_come setup past legal (AskComplete k) none = complete_may setup past legal k none
may_come setup past legal (AskRetire k h) none = retire_may setup past legal k h none

none_named : (setup : Setup) (past : List Event) → is_legal setup past → (ask : Ask) → MayCome setup past ask
    → first_named (reasons setup past ask) ≡ None
none_named setup past legal (AskFetch k) may = fetch_by setup past k may.event may.answer may.allowed
none_named setup past legal (AskDecode k h) may = decode_by setup past legal k h may.event may.answer may.allowed
none_named setup past legal (AskRename k h) may = rename_by setup past legal k h may.event may.answer may.allowed
none_named setup past legal (AskIssue k) may = issue_by setup past legal k may.event may.answer may.allowed
none_named setup past legal (AskComplete k) may = complete_by setup past legal k may.event may.answer may.allowed
none_named setup past legal (AskRetire k h) may = retire_by setup past legal k h may.event may.answer may.allowed

pub are_exact : ReasonsAreExact
are_exact setup past legal ask = (may_come setup past legal ask, none_named setup past legal ask)
