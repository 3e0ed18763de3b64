-- What a script asks of a core, what the core replies, and the lines that are printed of it.
use Rattle.std.specs.Prelude.{◌≡◌, ℕ, List, [], ◌∷◌, ◌++◌, Option, Some, None, codes, flat_map}
use Rattle.std.specs.Prelude.{replicate, slice_index_or, slice_set}
use Rattle.numbers.specs.Sizes.{most_actors}
use Rattle.events.specs.{declared.event.Event.Event, declared.event.Event.TheVariants.Fetch}
use Rattle.event_text.specs.Line.{line_of}
use Rattle.exec_units.specs.Job.{JobView, DoneView}
use Rattle.text_fields.specs.Printing.{Prints}
use Rattle.core_state.specs.View.{CoreView}
use Rattle.smt_core.specs.Answers.{IsGuess}
use Rattle.core_lock.specs.{declared.ask.Ask.Ask, declared.ask.Said.Said, Asks.Replied, Passes.idle_after}
use Rattle.core_lock.specs.declared.ask.Ask.TheVariants as ask
use Rattle.core_lock.specs.declared.ask.Said.TheVariants as said
use Rattle.scripts.specs.{declared.actions.Action.Action, declared.actions.ScriptWord.ScriptWord}
use Rattle.scripts.specs.Script.{IsScript}
use Rattle.scripts.specs.declared.actions.Action.TheVariants as action

-- What each actor holds: a job that it has worked and not handed back.
abbrev pub Holding : Type 0
Holding = List (Option DoneView)

-- No actor holds anything.
abbrev pub nobody : Holding
nobody = replicate most_actors None

-- ---- The lines

-- The line of a reply, and that of an actor that has nothing to hand back.
abbrev pub done_line : Event → List ℕ
done_line e = codes "done " ++ (line_of e ++ 10 ∷ [])

abbrev pub reply_line : Said → List ℕ
reply_line (said.Event e) = done_line e
reply_line (said.Job job e) = done_line e
reply_line said.Idle = codes "idle" ++ 10 ∷ []
reply_line said.Stranger = codes "stranger" ++ 10 ∷ []
reply_line said.Full = codes "full" ++ 10 ∷ []

abbrev pub none_line : List ℕ
none_line = codes "none" ++ 10 ∷ []

-- ---- One ask

-- What asks lead from and to is a state: a core, or one with more beside it. `Asks` says which answer
-- leads from which state to which.

-- An actor makes this ask, this is the reply, and this its line.
pub record IsAsked {S : Type 0} (Asks : ℕ → Ask → S → Said → S → Type 0) (actor : ℕ) (ask : Ask)
    (said : Said) (old new : S) (text : List ℕ) : Type 0 where
  pub replied : Asks actor ask old said new
  pub line : text ≡ reply_line said

abbrev pub HasAsked : {S : Type 0} → (ℕ → Ask → S → Said → S → Type 0) → ℕ → Ask → S → S → List ℕ
    → Type 0
HasAsked Asks actor ask old new text = (said : Said) × IsAsked Asks actor ask said old new text

-- The job that came with a reply. It is worked at once, and what was done is held.
abbrev pub job_in : Said → Option JobView
job_in (said.Job job e) = Some job
job_in (said.Event e) = None
job_in said.Idle = None
job_in said.Stranger = None
job_in said.Full = None

abbrev pub Holds : ℕ → Option JobView → Holding → Holding → Type 0
Holds actor None held now = now ≡ held
Holds actor (Some job) held now =
    (done : DoneView) × (done.job ≡ job) × (now ≡ slice_set held actor (Some done))

-- An actor issues.
pub record IsIssue {S : Type 0} (Asks : ℕ → Ask → S → Said → S → Type 0) (actor : ℕ) (said : Said)
    (held now : Holding) (old new : S) (text : List ℕ) : Type 0 where
  pub asked : IsAsked Asks actor ask.Issue said old new text
  pub holds : Holds actor (job_in said) held now

-- It hands back what it holds; where it holds nothing, no ask is made.
abbrev pub HandsOver : {S : Type 0} → (ℕ → Ask → S → Said → S → Type 0) → ℕ → Option DoneView → S → S
    → List ℕ → Type 0
HandsOver Asks actor None old new text = (new ≡ old) × (text ≡ none_line)
HandsOver Asks actor (Some done) old new text = HasAsked Asks actor (ask.Complete done) old new text

pub record HandsBack {S : Type 0} (Asks : ℕ → Ask → S → Said → S → Type 0) (actor : ℕ)
    (held now : Holding) (old new : S) (text : List ℕ) : Type 0 where
  pub over : HandsOver Asks actor (slice_index_or held actor None) old new text
  pub empty : now ≡ slice_set held actor None

-- Behind an issue: the actor hands back where a job came, and else does nothing.
abbrev pub HandsBackWhere : {S : Type 0} → (ℕ → Ask → S → Said → S → Type 0) → Option JobView → ℕ
    → Holding → Holding → S → S → List ℕ → Type 0
HandsBackWhere Asks None actor held now old new text = (now ≡ held) × (new ≡ old) × (text ≡ [])
HandsBackWhere Asks (Some job) actor held now old new text = HandsBack Asks actor held now old new text

-- It issues and, where a job came, hands it back.
pub record IsUnit {S : Type 0} (Asks : ℕ → Ask → S → Said → S → Type 0) (actor : ℕ)
    (held now : Holding) (old new : S) (text : List ℕ) : Type 0 where
  pub said : Said
  pub between : Holding
  pub mid : S
  pub first : List ℕ
  pub second : List ℕ
  pub issue : IsIssue Asks actor said held between old mid first
  pub back : HandsBackWhere Asks (job_in said) actor between now mid new second
  pub both : text ≡ first ++ second

-- ---- The asks of a script

-- What an action asks, from what the actors hold and a state to what they hold then and that state,
-- and its lines.
abbrev pub Acts : {S : Type 0} → (ℕ → Ask → S → Said → S → Type 0) → Action → Holding → Holding → S → S
    → List ℕ → Type 0
Acts Asks (action.Fetch actor) held now old new text =
    (now ≡ held) × HasAsked Asks actor ask.Fetch old new text
Acts Asks (action.Decode actor hart) held now old new text =
    (now ≡ held) × HasAsked Asks actor (ask.Decode hart) old new text
Acts Asks (action.Rename actor hart) held now old new text =
    (now ≡ held) × HasAsked Asks actor (ask.Rename hart) old new text
Acts Asks (action.Retire actor hart) held now old new text =
    (now ≡ held) × HasAsked Asks actor (ask.Retire hart) old new text
Acts Asks (action.Issue actor) held now old new text =
    (said : Said) × IsIssue Asks actor said held now old new text
Acts Asks (action.Complete actor) held now old new text = HandsBack Asks actor held now old new text
Acts Asks (action.Unit actor) held now old new text = IsUnit Asks actor held now old new text

-- Each of these actions asks, one after another.
abbrev pub AllAct : {S : Type 0} → (ℕ → Ask → S → Said → S → Type 0) → List Action → Holding → Holding
    → S → S → List ℕ → Type 0
AllAct Asks [] held now old new text = (now ≡ held) × (new ≡ old) × (text ≡ [])
AllAct {S} Asks (a ∷ others) held now old new text =
    (between : Holding) × (mid : S) × (first : List ℕ) × (second : List ℕ)
    × Acts Asks a held between old mid first × AllAct Asks others between now mid new second
    × (text ≡ first ++ second)

-- The actions of words, each as often as its word says.
abbrev pub repeated : ScriptWord → List Action
repeated word = replicate word.repeat word.action

abbrev pub actions_of : List ScriptWord → List Action
actions_of words = flat_map repeated words

-- These words were asked, one after another and by actors that held nothing: the state has become this
-- one, and these are their lines.
abbrev pub HaveActed : {S : Type 0} → (ℕ → Ask → S → Said → S → Type 0) → List ScriptWord → S → S
    → List ℕ → Type 0
HaveActed Asks words old new text = (held : Holding) × AllAct Asks (actions_of words) nobody held old new text

-- Of a core: each reply is its own.
abbrev pub HaveAsked : List ScriptWord → CoreView → CoreView → List ℕ → Type 0
HaveAsked words old new text = HaveActed Replied words old new text

-- ---- How many asks were answered idle

-- A core, and how many asks of each actor it has answered idle.
pub record Counted : Type 0 where
  pub core : CoreView
  pub idle : List ℕ

-- The reply is the core's own, and counted.
pub record HasReplied (actor : ℕ) (ask : Ask) (old : Counted) (said : Said) (new : Counted) : Type 0 where
  pub replied : Replied actor ask old.core said new.core
  pub counted : new.idle ≡ idle_after actor said old.idle

-- A core of which nothing was counted yet.
abbrev pub uncounted : CoreView → Counted
uncounted core = record { core = core; idle = replicate most_actors 0 }

-- These words were asked of a core, and so many of each actor's asks were answered idle.
abbrev pub HaveCounted : List ScriptWord → CoreView → CoreView → List ℕ → List ℕ → Type 0
HaveCounted words old new idle text =
    HaveActed HasReplied words (uncounted old) (record { core = new; idle = idle }) text

-- The core as it was before its first event.
abbrev pub unasked : CoreView → CoreView
unasked core = record core { past = [] }

-- These are the lines of all that this script asks for, and of nothing else: a core without a
-- history has replied to these asks, one after another, and has become this one.
pub record AreAsked (script : List ℕ) (core : CoreView) (text : List ℕ) : Type 0 where
  pub words : List ScriptWord
  pub is_script : IsScript script words
  pub asked : HaveAsked words (unasked core) core text

-- The same, and of each actor's asks so many were answered idle.
pub record AreCounted (script : List ℕ) (core : CoreView) (idle : List ℕ) (text : List ℕ) : Type 0 where
  pub words : List ScriptWord
  pub is_script : IsScript script words
  pub asked : HaveCounted words (unasked core) core idle text

-- ---- What was predicted

-- A fetch goes on where this predictor has guessed; for no other event is it asked.
abbrev pub IsGuessed : {P : Type 0} → (P → ℕ → ℕ → ℕ → ℕ → P → Type 0) → Event → P → P → Type 0
IsGuessed predicts (Fetch actor hart seq pc word predicted) before after =
    IsGuess predicts before hart pc word predicted after
IsGuessed predicts _ before after = after ≡ before

-- So do all fetches of these events, which have the newest first.
abbrev pub AreGuessed : {P : Type 0} → (P → ℕ → ℕ → ℕ → ℕ → P → Type 0) → List Event → P → P → Type 0
AreGuessed predicts [] before after = after ≡ before
AreGuessed {P} predicts (e ∷ past) before after =
    (between : P) × AreGuessed predicts past before between × IsGuessed predicts e between after

-- So do all fetches of the events by which a history has grown.
pub record HasGuessed {P : Type 0} (predicts : P → ℕ → ℕ → ℕ → ℕ → P → Type 0)
    (old new : List Event) (before after : P) : Type 0 where
  pub events : List Event
  pub grown : new ≡ events ++ old
  pub guessed : AreGuessed predicts events before after

-- The lines of all that this script asks for; and each fetch went on where the predictor guessed.
pub record AreAskedWith {P : Type 0} (predicts : P → ℕ → ℕ → ℕ → ℕ → P → Type 0) (before after : P)
    (script : List ℕ) (core : CoreView) (text : List ℕ) : Type 0 where
  pub asked : AreAsked script core text
  pub guessed : AreGuessed predicts core.past before after

-- A text was printed of which this holds, while a history grew by what this predictor guessed.
pub record PrintsGuessed {P : Type 0} (predicts : P → ℕ → ℕ → ℕ → ℕ → P → Type 0) (old new : CoreView)
    (before after : P) (was now : Option (List ℕ)) (Holds : List ℕ → Type 0) : Type 0 where
  pub printed : Prints was now Holds
  pub guessed : HasGuessed predicts old.past new.past before after
