use Rattle.core_lock.specs.Seats.{name_of}
use Rattle.actors.proofs.running.run_actors.Given as goal

-- the ledger, the core behind the lock and the board of the seats are those of this run
abbrev pub ghosts-run_core-N-Ledger : goal.ghosts-run_core-N-Ledger
ghosts-run_core-N-Ledger g a = record { name = a.blank.name; parts = a.blank.parts }

abbrev pub ghosts-run_core-N-Origin : goal.ghosts-run_core-N-Origin
ghosts-run_core-N-Origin g a = record { setup = a.core.setup; limit = a.core.limit }

abbrev pub ghosts-run_core-N-Naming : goal.ghosts-run_core-N-Naming
ghosts-run_core-N-Naming g a = record { board = name_of a.board }
