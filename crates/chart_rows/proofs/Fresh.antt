-- Of an instruction that isn't fetched yet a history says nothing; and an event is of one that is.
use Rattle.std.specs.Prelude.{◌≡◌, ℕ, ◌<◌, ◌≤◌, Bool, true, false, ◌==◌, ◌&&◌, nat_lt, nat_le, List, [], ◌∷◌, Option}
use Rattle.std.specs.Prelude.{Some, None}
use Rattle.std.proofs.Common.{refl, ◌∙◌, arith}
use Rattle.std.proofs.{Math.Bool.and-false, lemmas.Bool.Decides.nat_tests}
use Rattle.events.specs.{Event.seq_of, declared.event.Event.Event, declared.kind.EventKind.EventKind}
use Rattle.events.specs.declared.event.Event.TheVariants.{Fetch, Decode, Rename, Issue, Complete}
use Rattle.events.specs.declared.event.Event.TheVariants.{Drop, Retire, Refetch}
use Rattle.smt_model.specs.{Basics.holds_of, Setup.Setup, Rules.is_legal, Rules.refused}
use Rattle.smt_model.specs.Fates.{Fetched, fetching, fetches, same_hart, is_of, mispredicts}
use Rattle.smt_model.specs.Fates.{squashes_at_retirement, completion}
use Rattle.smt_model.proofs.Fates.{Sound.sound, Numbers.known_below, Numbers.fetching-none}
use Rattle.smt_model.proofs.Fates.Moves.{fetch_number, decode_was, rename_was, issue_was, complete_was, drop_was}
use Rattle.smt_model.proofs.Fates.Moves.{retire_was, refetch_was}
use Rattle.chart_rows.specs.Rows.{place, squash, squash_of, looked_twice}
use Rattle.chart_rows.proofs.Keeping.{kept}
use Rattle.chart_rows.proofs.Moving.{FetchesNone}

pub under : (setup : Setup) (past : List Event) → is_legal setup past → (e : Event) → refused setup past e ≡ None
    → FetchesNone e → seq_of e < fetches past
under setup past legal (Fetch actor hart seq pc word predicted) ok none = absurd none
under setup past legal (Decode actor seq) ok none =
    let was = decode_was setup past actor seq ok in known_below setup past legal seq (omega arith)
under setup past legal (Rename actor seq phys) ok none =
    let was = rename_was setup past actor seq phys ok in known_below setup past legal seq (omega arith)
under setup past legal (Issue actor seq) ok none =
    let was = issue_was setup past actor seq ok in known_below setup past legal seq (omega arith)
under setup past legal (Complete actor seq outcome) ok none =
    let was = complete_was setup past (sound setup past legal) actor seq outcome ok in
    known_below setup past legal seq (omega arith)
under setup past legal (Drop actor seq) ok none =
    let was = drop_was setup past actor seq ok in known_below setup past legal seq (omega arith)
under setup past legal (Retire actor seq effect) ok none =
    let was = retire_was setup past actor seq effect ok in known_below setup past legal seq (omega arith)
under setup past legal (Refetch actor seq) ok none =
    let was = refetch_was setup past actor seq ok in known_below setup past legal seq (omega arith)

-- The number of an event is below those that aren't given behind it.
seq_below : (setup : Setup) (past : List Event) → is_legal setup past → (e : Event) → refused setup past e ≡ None
    → (s : ℕ) → fetches (e ∷ past) ≤ s → (seq_of e == s) ≡ false
seq_below setup past legal (Fetch actor hart seq pc word predicted) ok s above =
    let given = fetch_number setup past actor hart seq pc word predicted ok in grind (arith, nat_tests)
seq_below setup past legal (Decode actor seq) ok s above =
    let less = under setup past legal (Decode actor seq) ok tt in grind (arith, nat_tests)
seq_below setup past legal (Rename actor seq phys) ok s above =
    let less = under setup past legal (Rename actor seq phys) ok tt in grind (arith, nat_tests)
seq_below setup past legal (Issue actor seq) ok s above =
    let less = under setup past legal (Issue actor seq) ok tt in grind (arith, nat_tests)
seq_below setup past legal (Complete actor seq outcome) ok s above =
    let less = under setup past legal (Complete actor seq outcome) ok tt in grind (arith, nat_tests)
seq_below setup past legal (Drop actor seq) ok s above =
    let less = under setup past legal (Drop actor seq) ok tt in grind (arith, nat_tests)
seq_below setup past legal (Retire actor seq effect) ok s above =
    let less = under setup past legal (Retire actor seq effect) ok tt in grind (arith, nat_tests)
seq_below setup past legal (Refetch actor seq) ok s above =
    let less = under setup past legal (Refetch actor seq) ok tt in grind (arith, nat_tests)

fetches_rise : (e : Event) (past : List Event) → fetches past ≤ fetches (e ∷ past)
fetches_rise (Fetch actor hart seq pc word predicted) past = omega arith
fetches_rise (Decode actor seq) past = omega arith
fetches_rise (Rename actor seq phys) past = omega arith
fetches_rise (Issue actor seq) past = omega arith
fetches_rise (Complete actor seq outcome) past = omega arith
fetches_rise (Drop actor seq) past = omega arith
fetches_rise (Retire actor seq effect) past = omega arith
fetches_rise (Refetch actor seq) past = omega arith

of_none : (past : List Event) (o : Option Fetched) (t : ℕ) → fetching past t ≡ None
    → holds_of (λ (f : Fetched). is_of past f.hart t) o ≡ false
of_none past None t none = refl
of_none past (Some f) t none = rw none refl

hartless : (past : List Event) (s t : ℕ) → fetching past t ≡ None → same_hart past s t ≡ false
unfolding same_hart
hartless past s t none = of_none past (fetching past s) t none

spared : (m : Bool) (b : Bool) (h : Bool) → h ≡ false → (m && (b && h)) ≡ false
spared m b h off = rw (off, and-false b) (and-false m)

unsquashed : (e : Event) (past : List Event) (s : ℕ) → fetching past s ≡ None → squash_of e past s ≡ None
unsquashed (Fetch actor hart seq pc word predicted) past s none = refl
unsquashed (Decode actor seq) past s none = refl
unsquashed (Rename actor seq phys) past s none = refl
unsquashed (Issue actor seq) past s none = refl
unsquashed (Complete actor seq outcome) past s none =
    rw (spared (mispredicts past seq outcome.next) (nat_lt seq s) (same_hart past seq s) (hartless past seq s none)) refl
unsquashed (Drop actor seq) past s none = refl
unsquashed (Retire actor seq effect) past s none =
    rw (spared (squashes_at_retirement past seq effect) (nat_lt seq s) (same_hart past seq s)
    (hartless past seq s none)) refl
unsquashed (Refetch actor seq) past s none =
    rw (spared true (nat_le seq s) (same_hart past seq s) (hartless past seq s none)) refl

pub record IsFresh (past : List Event) (s : ℕ) : Type 0 where
  pub places : (kind : EventKind) → place kind past s ≡ None
  pub squashed : squash past s ≡ None
  pub completion : completion past s ≡ None
  pub replayed : looked_twice past s ≡ false

pub fresh : (setup : Setup) (past : List Event) → is_legal setup past → (s : ℕ) → fetches past ≤ s → IsFresh past s
fresh setup [] legal s above =
    record { places = λ kind. refl; squashed = refl; completion = refl; replayed = refl }
fresh setup (e ∷ past) legal s above =
    let rise = fetches_rise e past in
    let less : fetches past ≤ s = omega arith in
    let was = fresh setup past legal.1 s less in
    let same = kept e past s (seq_below setup past legal.1 e legal.0 s above) in
    let spares = unsquashed e past s (fetching-none setup past legal.1 s less) in
    record {
      places = λ kind. same.places kind ∙ was.places kind;
      squashed = rw (was.squashed, spares) refl;
      completion = same.completion ∙ was.completion;
      replayed = same.replayed ∙ was.replayed;
    }
