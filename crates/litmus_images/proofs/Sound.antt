-- What is well-formed for the locations of a test is so for the most that there may be.
use Rattle.std.proofs.Common.{ℕ, ◌≤◌, length, All, arith}
use Rattle.std.proofs.lemmas.List.Elements.{All-weaker}
use Rattle.litmus_tests.specs.declared.value.Value.{Value}
use Rattle.litmus_tests.specs.declared.value.Value.TheVariants.{Number, Address}
use Rattle.litmus_tests.specs.declared.test.{LitmusTest.LitmusTest, RegisterStart.RegisterStart, Thread.Thread}
use Rattle.litmus_tests.specs.WellFormed.{IsValue, IsStart, IsThread, IsWellFormed}

pub value_sound : (words : ℕ) → words ≤ 64 → (value : Value) → IsValue words value → IsValue 64 value
value_sound words few (Number number) sound = tt
value_sound words few (Address byte) sound = omega arith

start_sound : (locations : ℕ) → locations ≤ 64 → (start : RegisterStart) → IsStart locations start → IsStart 64 start
start_sound locations few start sound = (sound.0, sound.1, value_sound locations few start.value sound.2)

thread_sound : (locations : ℕ) → locations ≤ 64 → (thread : Thread) → IsThread locations thread → IsThread 64 thread
thread_sound locations few thread sound = record {
  starts = All-weaker (IsStart locations) (IsStart 64) (start_sound locations few) thread.starts.items sound.starts;
  few = sound.few;
  steps = sound.steps;
  short = sound.short;
}

pub threads_sound : (test : LitmusTest) → IsWellFormed test → All (IsThread 64) test.threads.items
threads_sound test sound =
    let words = length test.words.items in
    All-weaker (IsThread words) (IsThread 64) (thread_sound words sound.words) test.threads.items
    sound.threads

pub initials_sound : (test : LitmusTest) → IsWellFormed test → All (IsValue 64) test.words.items
initials_sound test sound =
    let words = length test.words.items in
    All-weaker (IsValue words) (IsValue 64) (value_sound words sound.words) test.words.items sound.initials
