-- What every reply says of the step that was made, whatever was asked: its event is of the kind that was asked for and
-- by the actor.
use Rattle.std.proofs.Common.{◌≡◌, ◌∙◌, ℕ, ◌==◌, not, true, false, List, length, Option, Some, None, refl, sym, ap}
use Rattle.std.proofs.Common.{subst, arith}
use Rattle.std.proofs.{lemmas.Bool.and_parts, lemmas.Bool.false≢true, lemmas.Bool.Decides.nat_tests}
use Rattle.events.specs.{declared.event.Event.Event, Event.actor_of}
use Rattle.events.specs.declared.event.Event.TheVariants as event
use Rattle.smt_model.specs.Asks.{AskFetch, AskDecode, AskRename, AskIssue, AskComplete, AskRetire, answers}
use Rattle.smt_model.specs.Asks.{Ask as CoreAsk}
use Rattle.smt_model.specs.Fates.{is_of}
use Rattle.core_state.specs.View.{CoreView}
use Rattle.core_lock.specs.{declared.ask.Ask.Ask, declared.ask.Asked.Asked, declared.ask.Said.Said, Passes.more}
use Rattle.core_lock.specs.{Passes.later, Passes.IsTold}
use Rattle.core_lock.specs.declared.ask.Ask.TheVariants as ask
use Rattle.core_lock.specs.declared.ask.Asked.TheVariants as asked
use Rattle.core_lock.specs.declared.ask.Said.TheVariants as said
use Rattle.core_lock.specs.Asks.{asked_of, event_in, PlainlyReplied, IssueReplied, CompleteReplied, Replied, grown_by}
use Rattle.core_lock.specs.Asks.{is_event_for, is_issue, is_complete, is_reply}

-- ---- The event is one for this ask of this actor

for_fetch : (k : ℕ) (past : List Event) (e : Event) → answers (AskFetch k) past e ≡ true
    → is_event_for k asked.Fetch e ≡ true
for_fetch k past (event.Fetch actor hart seq pc word predicted) h = h
for_fetch k past (event.Decode actor seq) h = h
for_fetch k past (event.Rename actor seq phys) h = h
for_fetch k past (event.Issue actor seq) h = h
for_fetch k past (event.Complete actor seq outcome) h = h
for_fetch k past (event.Drop actor seq) h = h
for_fetch k past (event.Retire actor seq effect) h = h
for_fetch k past (event.Refetch actor seq) h = h

for_decode : (k h : ℕ) (past : List Event) (e : Event) → answers (AskDecode k h) past e ≡ true
    → is_event_for k (asked.Decode h) e ≡ true
for_decode k h past (event.Fetch actor hart seq pc word predicted) yes_it_is = yes_it_is
for_decode k h past (event.Decode actor seq) yes_it_is = (and_parts (actor == k) (is_of past h seq) yes_it_is).0
for_decode k h past (event.Rename actor seq phys) yes_it_is = yes_it_is
for_decode k h past (event.Issue actor seq) yes_it_is = yes_it_is
for_decode k h past (event.Complete actor seq outcome) yes_it_is = yes_it_is
for_decode k h past (event.Drop actor seq) yes_it_is = yes_it_is
for_decode k h past (event.Retire actor seq effect) yes_it_is = yes_it_is
for_decode k h past (event.Refetch actor seq) yes_it_is = yes_it_is

for_rename : (k h : ℕ) (past : List Event) (e : Event) → answers (AskRename k h) past e ≡ true
    → is_event_for k (asked.Rename h) e ≡ true
for_rename k h past (event.Fetch actor hart seq pc word predicted) yes_it_is = yes_it_is
for_rename k h past (event.Decode actor seq) yes_it_is = yes_it_is
for_rename k h past (event.Rename actor seq phys) yes_it_is = (and_parts (actor == k) (is_of past h seq) yes_it_is).0
for_rename k h past (event.Issue actor seq) yes_it_is = yes_it_is
for_rename k h past (event.Complete actor seq outcome) yes_it_is = yes_it_is
for_rename k h past (event.Drop actor seq) yes_it_is = yes_it_is
for_rename k h past (event.Retire actor seq effect) yes_it_is = yes_it_is
for_rename k h past (event.Refetch actor seq) yes_it_is = yes_it_is

for_issue : (k : ℕ) (past : List Event) (e : Event) → answers (AskIssue k) past e ≡ true
    → is_event_for k asked.Issue e ≡ true
for_issue k past (event.Fetch actor hart seq pc word predicted) h = h
for_issue k past (event.Decode actor seq) h = h
for_issue k past (event.Rename actor seq phys) h = h
for_issue k past (event.Issue actor seq) h = h
for_issue k past (event.Complete actor seq outcome) h = h
for_issue k past (event.Drop actor seq) h = h
for_issue k past (event.Retire actor seq effect) h = h
for_issue k past (event.Refetch actor seq) h = h

for_complete : (k : ℕ) (past : List Event) (e : Event) → answers (AskComplete k) past e ≡ true
    → is_event_for k asked.Complete e ≡ true
for_complete k past (event.Fetch actor hart seq pc word predicted) h = h
for_complete k past (event.Decode actor seq) h = h
for_complete k past (event.Rename actor seq phys) h = h
for_complete k past (event.Issue actor seq) h = h
for_complete k past (event.Complete actor seq outcome) h = h
for_complete k past (event.Drop actor seq) h = h
for_complete k past (event.Retire actor seq effect) h = h
for_complete k past (event.Refetch actor seq) h = h

for_retire : (k h : ℕ) (past : List Event) (e : Event) → answers (AskRetire k h) past e ≡ true
    → is_event_for k (asked.Retire h) e ≡ true
for_retire k h past (event.Fetch actor hart seq pc word predicted) yes_it_is = yes_it_is
for_retire k h past (event.Decode actor seq) yes_it_is = yes_it_is
for_retire k h past (event.Rename actor seq phys) yes_it_is = yes_it_is
for_retire k h past (event.Issue actor seq) yes_it_is = yes_it_is
for_retire k h past (event.Complete actor seq outcome) yes_it_is = yes_it_is
for_retire k h past (event.Drop actor seq) yes_it_is = yes_it_is
for_retire k h past (event.Retire actor seq effect) yes_it_is = (and_parts (actor == k) (is_of past h seq) yes_it_is).0
for_retire k h past (event.Refetch actor seq) yes_it_is = (and_parts (actor == k) (is_of past h seq) yes_it_is).0

-- A plain ask, as the core and as the lock name it.
record IsSameAsk (k : ℕ) (ask : CoreAsk) (asked : Asked) : Type 0 where
  issue : is_issue asked ≡ false
  complete : is_complete asked ≡ false
  event : (past : List Event) (e : Event) → answers ask past e ≡ true → is_event_for k asked e ≡ true

own_plainly : (k : ℕ) (ask : CoreAsk) (asked : Asked) (old : CoreView) (s : Said) (new : CoreView)
    → IsSameAsk k ask asked
    → PlainlyReplied ask old s new → is_reply k asked s ≡ true
own_plainly k ask asked old (said.Event e) new same r = rw same.issue (same.event old.past e r.asked)
own_plainly k ask asked old (said.Job job e) new same r = absurd r
own_plainly k ask asked old said.Idle new same r = rw same.complete refl
own_plainly k ask asked old said.Stranger new same r = absurd r
own_plainly k ask asked old said.Full new same r = refl

own_issue : (k : ℕ) (old : CoreView) (s : Said) (new : CoreView) → IssueReplied k old s new
    → is_reply k asked.Issue s ≡ true
own_issue k old (said.Event e) new r = absurd r
own_issue k old (said.Job job e) new r = for_issue k old.past e r.made.asked
own_issue k old said.Idle new r = refl
own_issue k old said.Stranger new r = absurd r
own_issue k old said.Full new r = refl

own_complete : (k : ℕ) (done : _) (old : CoreView) (s : Said) (new : CoreView) → CompleteReplied k done old s new
    → is_reply k asked.Complete s ≡ true
own_complete k done old (said.Event e) new r = for_complete k old.past e r.made.asked
own_complete k done old (said.Job job e) new r = absurd r
own_complete k done old said.Idle new r = absurd r
own_complete k done old said.Stranger new r = refl
own_complete k done old said.Full new r = refl

pub own_reply : (k : ℕ) (a : Ask) (old : CoreView) (s : Said) (new : CoreView) → Replied k a old s new
    → is_reply k (asked_of a) s ≡ true
own_reply k ask.Fetch old s new r =
    own_plainly k (AskFetch k) asked.Fetch old s new (record { issue = refl; complete = refl; event = for_fetch k }) r
own_reply k (ask.Decode h) old s new r =
    own_plainly k (AskDecode k h) (asked.Decode h) old s new
    (record { issue = refl; complete = refl; event = for_decode k h }) r
own_reply k (ask.Rename h) old s new r =
    own_plainly k (AskRename k h) (asked.Rename h) old s new
    (record { issue = refl; complete = refl; event = for_rename k h }) r
own_reply k ask.Issue old s new r = own_issue k old s new r
own_reply k (ask.Complete done) old s new r = own_complete k done.job old s new r
own_reply k (ask.Retire h) old s new r =
    own_plainly k (AskRetire k h) (asked.Retire h) old s new
    (record { issue = refl; complete = refl; event = for_retire k h }) r

-- ---- The event is the actor's, and so the pass of the actor keeps knowing all of it

by_actor : (k : ℕ) (a : Asked) (e : Event) → is_event_for k a e ≡ true → actor_of e ≡ k
by_actor k asked.Fetch (event.Fetch actor hart seq pc word predicted) h = grind (arith, nat_tests)
by_actor k (asked.Decode g) (event.Decode actor seq) h = grind (arith, nat_tests)
by_actor k (asked.Rename g) (event.Rename actor seq phys) h = grind (arith, nat_tests)
by_actor k asked.Issue (event.Issue actor seq) h = grind (arith, nat_tests)
by_actor k asked.Complete (event.Complete actor seq outcome) h = grind (arith, nat_tests)
by_actor k asked.Complete (event.Drop actor seq) h = grind (arith, nat_tests)
by_actor k (asked.Retire g) (event.Retire actor seq effect) h = grind (arith, nat_tests)
by_actor k (asked.Retire g) (event.Refetch actor seq) h = grind (arith, nat_tests)
by_actor k _ _ h = absurd (false≢true h)

-- The event, where there is one, is this actor's.
abbrev pub IsBy : ℕ → Option Event → Type 0
IsBy k None = Unit {0}
IsBy k (Some e) = actor_of e ≡ k

pub reply_by : (k : ℕ) (a : Asked) (s : Said) → is_reply k a s ≡ true → IsBy k (event_in s)
reply_by k a (said.Event e) h = by_actor k a e (and_parts (not (is_issue a)) (is_event_for k a e) h).1
reply_by k a (said.Job job e) h = by_actor k a e (and_parts (is_issue a) (is_event_for k a e) h).1
reply_by k a said.Idle h = tt
reply_by k a said.Stranger h = tt
reply_by k a said.Full h = tt

-- ---- The history grows by the event alone

plainly_grows : (ask : CoreAsk) (old : CoreView) (s : Said) (new : CoreView) → PlainlyReplied ask old s new
    → new ≡ grown_by (event_in s) old
plainly_grows ask old (said.Event e) new r = r.grows
plainly_grows ask old (said.Job job e) new r = absurd r
plainly_grows ask old said.Idle new r = r.unchanged
plainly_grows ask old said.Stranger new r = absurd r
plainly_grows ask old said.Full new r = r.unchanged

issue_grows : (k : ℕ) (old : CoreView) (s : Said) (new : CoreView) → IssueReplied k old s new
    → new ≡ grown_by (event_in s) old
issue_grows k old (said.Event e) new r = absurd r
issue_grows k old (said.Job job e) new r = r.made.grows
issue_grows k old said.Idle new r = r.unchanged
issue_grows k old said.Stranger new r = absurd r
issue_grows k old said.Full new r = r.unchanged

complete_grows : (k : ℕ) (done : _) (old : CoreView) (s : Said) (new : CoreView) → CompleteReplied k done old s new
    → new ≡ grown_by (event_in s) old
complete_grows k done old (said.Event e) new r = r.made.grows
complete_grows k done old (said.Job job e) new r = absurd r
complete_grows k done old said.Idle new r = absurd r
complete_grows k done old said.Stranger new r = r.unchanged
complete_grows k done old said.Full new r = r.unchanged

pub reply_grows : (k : ℕ) (a : Ask) (old : CoreView) (s : Said) (new : CoreView) → Replied k a old s new
    → new ≡ grown_by (event_in s) old
reply_grows k ask.Fetch old s new r = plainly_grows (AskFetch k) old s new r
reply_grows k (ask.Decode h) old s new r = plainly_grows (AskDecode k h) old s new r
reply_grows k (ask.Rename h) old s new r = plainly_grows (AskRename k h) old s new r
reply_grows k ask.Issue old s new r = issue_grows k old s new r
reply_grows k (ask.Complete done) old s new r = complete_grows k done.job old s new r
reply_grows k (ask.Retire h) old s new r = plainly_grows (AskRetire k h) old s new r

-- ---- The pass

told_more : (k count : ℕ) (last : Option Event) (e : Option Event) (core : CoreView) → IsBy k e
    → IsTold core.past k count last
    → IsTold (grown_by e core).past k (more count e) (later last e)
told_more k count last None core is_by told = told
told_more k count last (Some e) core is_by told = record {
  counts = grind (arith, nat_tests, is_by, told.counts);
  ends = grind (arith, nat_tests, is_by);
}

-- A step that is made keeps the pass in the know.
pub told_still : (k : ℕ) (a : Ask) (old : CoreView) (s : Said) (new : CoreView) (count next : ℕ)
    (last latest : Option Event)
    → Replied k a old s new → next ≡ more count (event_in s) → latest ≡ later last (event_in s)
    → IsTold old.past k count last → IsTold new.past k next latest
told_still k a old s new count next last latest r counted noted told =
    let grows = reply_grows k a old s new r in
    let after = told_more k count last (event_in s) old (reply_by k (asked_of a) s (own_reply k a old s new r)) told in
    subst (λ core. IsTold core.past k next latest) (sym grows)
    (subst (λ n. IsTold (grown_by (event_in s) old).past k n latest) (sym counted)
    (subst (λ l. IsTold (grown_by (event_in s) old).past k (more count (event_in s)) l) (sym noted) after))

-- The history is as long as the book says.
length_more : (e : Option Event) (core : CoreView) → length (grown_by e core).past ≡ more (length core.past) e
length_more None core = refl
length_more (Some e) core = omega arith

pub counted_still : (k : ℕ) (a : Ask) (old : CoreView) (s : Said) (new : CoreView) (total after : ℕ)
    → Replied k a old s new → length old.past ≡ total → after ≡ more total (event_in s) → length new.past ≡ after
counted_still k a old s new total after r counted noted =
    ap (λ core. length core.past) (reply_grows k a old s new r) ∙ length_more (event_in s) old
    ∙ ap (λ n. more n (event_in s)) counted ∙ sym noted

-- The core is made of what it was, and may have as many events.
setup_more : (e : Option Event) (core : CoreView) → (grown_by e core).setup ≡ core.setup
setup_more None core = refl
setup_more (Some e) core = refl

limit_more : (e : Option Event) (core : CoreView) → (grown_by e core).limit ≡ core.limit
limit_more None core = refl
limit_more (Some e) core = refl

pub setup_still : (k : ℕ) (a : Ask) (old : CoreView) (s : Said) (new : CoreView) → Replied k a old s new
    → new.setup ≡ old.setup
setup_still k a old s new r = ap (λ core. core.setup) (reply_grows k a old s new r) ∙ setup_more (event_in s) old

pub limit_still : (k : ℕ) (a : Ask) (old : CoreView) (s : Said) (new : CoreView) → Replied k a old s new
    → new.limit ≡ old.limit
limit_still k a old s new r = ap (λ core. core.limit) (reply_grows k a old s new r) ∙ limit_more (event_in s) old
