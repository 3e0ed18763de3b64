-- What a source of tests gives. (This project's own choice.)
use Rattle.std.specs.Prelude.{ℕ, List, Option, Some, None, Result, Ok, Err, Vec}
use Rattle.litmus_suites.specs.declared.no_test.NoTest.{NoTest}
use Rattle.litmus_suites.specs.declared.no_test.NoTest.TheVariants as no_test

-- The text of a test, or why a name comes to none.
abbrev pub GivenTest : Type 0
GivenTest = Result (List ℕ) NoTest

abbrev pub text_of : {A : Type 0} → Result (Vec ℕ A) NoTest → GivenTest
text_of (Ok text) = Ok text.items
text_of (Err why) = Err why

abbrev pub given_of : {A : Type 0} → Option (Result (Vec ℕ A) NoTest) → Option GivenTest
given_of None = None
given_of (Some given) = Some (text_of given)

-- The exit status of a name that comes to no test.
abbrev pub no_test_status : NoTest → ℕ
no_test_status no_test.File = 5
no_test_status no_test.Memory = 5
no_test_status no_test.Empty = 2
no_test_status (no_test.List line fault) = 2
