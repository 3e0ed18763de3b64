-- What stands behind a story that is written into a file.
use Rattle.std.proofs.Common.{◌≡◌, ◌∙◌, ℕ, ◌+◌, ◌<◌, List, [], ◌++◌, Option, Some, None, flat_map, reverse, refl, sym, ap}
use Rattle.std.proofs.Common.{subst}
use Rattle.std.specs.Io.KnownBytes.{Appends}
use Rattle.report_lines.proofs.Appending.{below_step}
use Rattle.elf_image.specs.Image.{ProgramImage}
use Rattle.smt_model.specs.{Basics.below, Setup.Setup, Plain.Run, Plain.run, Plain.start}
use Rattle.sc_machine.specs.{Machine.Machine, Machine.InEachState, Steps.IsNew, Steps.Runs}
use Rattle.sc_machine.proofs.Running.{from_start}
use Rattle.plain_run.specs.Orders.{OfEachSetup}
use Rattle.symbols.specs.Tables.{Table}
use Rattle.stuck_harts.specs.Lines.{waiting_text}
use Rattle.plain_commands.specs.WrittenOrders.{HasCome, waiting_behind, waits_text}

-- The machine behind an order that it has made.
pub came : (image : ProgramImage) (harts room : ℕ) (order : List ℕ) (first m : Machine) → IsNew image harts room first
    → Runs (reverse order) first m → OfEachSetup image harts (λ setup. HasCome setup order m)
came image harts room order first m is_new ran setup of_image of_harts =
    let begun : Run = record { records = []; state = start setup } in
    let has = ran setup begun (is_new.agrees setup of_image of_harts) in
    record {
      ran = has.after;
      runs = sym (from_start setup (reverse order)) ∙ has.runs;
      agrees = has.agrees;
    }

-- What one hart waits for.
pub waited : (names : Table) (image : ProgramImage) (harts h : ℕ) (order : List ℕ) (m : Machine)
    (old new : List ℕ) → h < harts → OfEachSetup image harts (λ setup. HasCome setup order m)
    → InEachState m (λ setup s. h < setup.harts → new ≡ old ++ waiting_text names setup h s)
    → OfEachSetup image harts (λ setup. new ≡ old ++ waiting_behind names setup (run setup (reverse order)) h)
waited names image harts h order m old new inside come told setup of_image of_harts =
    let at = come setup of_image of_harts in
    let line = told setup at.ran.state at.agrees (subst (λ n. h < n) (sym of_harts) inside) in
    subst (λ ran. new ≡ old ++ waiting_behind names setup ran h) (sym at.runs) line

-- What the harts so far wait for.
abbrev pub waits_below : Table → Setup → List ℕ → ℕ → List ℕ
waits_below names setup order h = flat_map (waiting_behind names setup (run setup (reverse order))) (below h)

pub one_waited : (names : Table) (image : ProgramImage) (harts h : ℕ) (order : List ℕ) (old mid new : List ℕ)
    → OfEachSetup image harts (λ setup. mid ≡ old ++ waits_below names setup order h)
    → OfEachSetup image harts (λ setup. new ≡ mid ++ waiting_behind names setup (run setup (reverse order)) h)
    → OfEachSetup image harts (λ setup. new ≡ old ++ waits_below names setup order (h + 1))
one_waited names image harts h order old mid new so one setup of_image of_harts =
    below_step (waiting_behind names setup (run setup (reverse order))) (Some old) (Some mid) (Some new) h
    (so setup of_image of_harts) (one setup of_image of_harts)

pub all_waited : (names : Table) (image : ProgramImage) (harts h : ℕ) (order : List ℕ) (old new : List ℕ) → h ≡ harts
    → OfEachSetup image harts (λ setup. new ≡ old ++ waits_below names setup order h)
    → OfEachSetup image harts (λ setup. new ≡ old ++ waits_text names setup order)
all_waited names image harts h order old new all so setup of_image of_harts =
    subst (λ n. new ≡ old ++ waits_below names setup order n) (all ∙ sym of_harts) (so setup of_image of_harts)

-- The story, and what stands behind it.
pub joined : (mid new story closing : List ℕ) → Appends (Some []) (Some mid) story → new ≡ mid ++ closing
    → new ≡ story ++ closing
joined mid new story closing first then = then ∙ ap (λ text. text ++ closing) first
