-- By a closed table all that comes up is known, so each needed way is one by its numbers.
use Rattle.std.specs.Prelude.{◌≡◌, ℕ, List, Contains, None, slice_get}
use Rattle.std.proofs.lemmas.List.Elements.{All-contains}
use Rattle.litmus_tests.specs.declared.{test.LitmusTest.LitmusTest, test.Thread.Thread}
use Rattle.litmus_runs.specs.declared.{hart.Hart.Hart, known.Held.Held, runs.HartRuns.HartRuns}
use Rattle.litmus_runs.specs.Turns.{has_conditionals}
use Rattle.litmus_runs.specs.AllWays.{LeadsTo, here, by_step, IsFollowed, IsListed, AreAllListed, AreAllLearnt, HasInitial}
use Rattle.litmus_runs.specs.Needed.{IsOnNeededWay, needed_start, needed_step, ComesUp, there_initially, written_there, AreNeededListed}
use Rattle.litmus_runs.specs.Rounds.{IsNext, AreAllClosed}
use Rattle.litmus_runs.proofs.Gathering.{zip_weaker}

mutual
  -- What a needed way leads to by the known numbers is on a way by them.
  followed : (test : LitmusTest) (known : List Held) → HasInitial test known → IsNext test known known
      → (thread : Thread) (trail : List Hart) (hart : Hart) → IsOnNeededWay test thread trail hart → (last : Hart)
      → LeadsTo (has_conditionals test) thread known trail hart last
      → IsFollowed (has_conditionals test) thread known last
  followed test known initial closed thread trail hart (needed_start thread' hart' starts size) last leads =
      record { start = hart; starts = starts; size = size; way = leads }
  followed test known initial closed thread trail hart
      (needed_step thread' trail' before after step found way there needed finds may plain taken size) last leads =
      followed test known initial closed thread trail' before way last
      (by_step trail' before hart last step found
      (record {
        there = there;
        needed = needed;
        may = record {
          finds = finds;
          number = λ location reads at. known_number test known initial closed location found.number
              (may location reads at);
        };
        plain = plain;
        taken = taken;
        size = size;
      }) leads)

  -- What comes up is known.
  known_number : (test : LitmusTest) (known : List Held) → HasInitial test known → IsNext test known known
      → (location number : ℕ) → ComesUp test location number
      → Contains known (record { location = location; number = number })
  known_number test known initial closed location number (there_initially location' number' there) =
      initial location number there
  known_number test known initial closed location number
      (written_there thread trail hart access number' inside way made writes) =
      All-contains (λ thread. AreAllLearnt (has_conditionals test) thread known known) test.threads.items thread
      closed.written inside hart
      (followed test known initial closed thread trail hart way hart (here trail hart)) access number made writes

pub needed_listed : (test : LitmusTest) (harts : List HartRuns) → AreAllClosed test harts → AreNeededListed test harts
needed_listed test harts all = zip_weaker
    (λ (thread : Thread) (hart : HartRuns). AreAllListed (has_conditionals test) thread all.known hart.runs.items)
    (λ (thread : Thread) (hart : HartRuns). (trail : List Hart) (last : Hart) → IsOnNeededWay test thread trail last
    → slice_get thread.steps.items last.next ≡ None → IsListed hart.runs.items last)
    (λ thread hart listed trail last way over. listed last
    (followed test all.known all.initial all.closed thread trail last way last (here trail last)) over)
    test.threads.items harts all.listed
