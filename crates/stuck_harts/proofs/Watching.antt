-- What a hart shows in the turns, one more at a time, and its line.
use Rattle.std.proofs.Common.{◌≡◌, ◌∙◌, ℕ, ◌+◌, ◌<◌, Bool, true, false, List, [], Option, sym, ap, subst}
use Rattle.std.specs.Io.KnownBytes.{Appends}
use Rattle.smt_model.specs.{Setup.Setup, Plain.Plain}
use Rattle.sc_machine.specs.{Machine.Machine, Machine.Agrees, Machine.InEachState}
use Rattle.symbols.specs.Tables.{Table}
use Rattle.stuck_harts.specs.Lines.{spin_line, waiting_text}
use Rattle.stuck_harts.specs.Spins.{kept, settled, shown_in, spins, spins_in, turns_before}
use Rattle.stuck_harts.specs.Turns.{goes, turn, turns}
use Rattle.stuck_harts.specs.declared.spins.Spin.{Spin}
use Rattle.stuck_harts.proofs.Turning.{spins_more, spins_none, turns_more, turns_none}

-- In so many turns behind those in which nobody looks, this was shown, and the machine stands behind them.
pub record HasWatched (setup : Setup) (s : Plain) (h n : ℕ) (shown : List Spin) (m : Machine) : Type 0 where
  pub shown_is : shown ≡ spins_in setup h n (turns setup turns_before s)
  pub agrees : Agrees setup (turns setup n (turns setup turns_before s)) m

pub none_watched : (setup : Setup) (s : Plain) (h : ℕ) (shown : List Spin) (m : Machine) → shown ≡ []
    → Agrees setup (turns setup turns_before s) m → HasWatched setup s h 0 shown m
none_watched setup s h shown m none agrees = record {
  shown_is = none ∙ sym (spins_none setup h (turns setup turns_before s));
  agrees = subst (λ s. Agrees setup s m) (sym (turns_none setup (turns setup turns_before s))) agrees;
}

pub one_watched : (setup : Setup) (s : Plain) (h n : ℕ) (shown now : List Spin) (spin : Option Spin) (m new : Machine)
    → h < setup.harts → HasWatched setup s h n shown m → InEachState m (λ setup s. spin ≡ shown_in setup h s)
    → InEachState m (λ setup s. h < setup.harts → Agrees setup (turn setup s) new) → now ≡ kept shown spin
    → HasWatched setup s h (n + 1) now new
one_watched setup s h n shown now spin m new inside has seen turned is =
    let first = turns setup turns_before s in
    let at = turns setup n first in
    record {
      shown_is = is ∙ ap (λ past. kept past spin) has.shown_is
          ∙ ap (kept (spins_in setup h n first)) (seen setup at has.agrees) ∙ sym (spins_more setup h n first);
      agrees = subst (λ s. Agrees setup s new) (sym (turns_more setup n first)) (turned setup at has.agrees inside);
    }

-- The line of a hart that still goes; nothing of one that doesn't.
pub no_line : (names : Table) (setup : Setup) (h : ℕ) (s : Plain) (old new : Option (List ℕ))
    → goes setup (settled setup s) h ≡ false → Appends old new [] → Appends old new (waiting_text names setup h s)
no_line names setup h s old new none nothing = rw none nothing

pub a_line : (names : Table) (setup : Setup) (h : ℕ) (s : Plain) (shown : List Spin) (old new : Option (List ℕ))
    → goes setup (settled setup s) h ≡ true → shown ≡ spins setup h s → Appends old new (spin_line names h shown)
    → Appends old new (waiting_text names setup h s)
a_line names setup h s shown old new on is line =
    rw on (subst (λ shown. Appends old new (spin_line names h shown)) is line)
