-- A refetch: its instruction leaves and leaves no record, its hart goes back to its pc, then all younger ones are
-- squashed.
use Rattle.std.specs.Prelude.{◌≡◌, ℕ, ◌≤◌, true, false, ◌==◌, List, ◌∷◌, Option, Some, None}
use Rattle.std.proofs.Common.{refl}
use Rattle.numbers.specs.Sizes.{most_registers}
use Rattle.events.specs.{declared.event.Event.Event, declared.event.Event.TheVariants.Refetch}
use Rattle.smt_model.specs.{Setup.Setup, Setup.registers_of, Rules.refused, Rules.is_legal, Picture.picture}
use Rattle.smt_model.specs.{Basics.holds_of, Fetching.fetch_pc, Fetching.refetch_pc, Memory.status, Steps.IsRefetch}
use Rattle.smt_model.specs.Fates.{Completed, Fetched, fate, fetching, is_of}
use Rattle.smt_model.proofs.Fates.Moves.{fate_at, refetch_was}
use Rattle.smt_laws.proofs.{Staying.another, Registers.Committing.committer-Refetch}
use Rattle.smt_laws.proofs.{Registers.Committing.committed-kept, Events.Emptying.emptying-Refetch}
use Rattle.smt_laws.proofs.Steps.Leaving.{IsLeaving, leave_middle, leaves, squashes_rest}

-- ---- Where its hart, and where the others fetch

pc-own : (setup : Setup) (past : List Event) (actor n h : ℕ) (f : Fetched) → fetching past n ≡ Some f
    → is_of past h n ≡ true → fetch_pc setup (Refetch actor n ∷ past) h ≡ f.pc
pc-own setup past actor n h f at of_n =
    let mine : (f.hart == h) ≡ true = rw at at of_n in
    rw (at, mine) refl

pc_elsewhere : (o : Option Fetched) (g before : ℕ) → holds_of (λ f. f.hart == g) o ≡ false
    → refetch_pc o g before ≡ before
pc_elsewhere None g before away = refl
pc_elsewhere (Some f) g before away = rw away refl

-- ---- The step

leaving-Refetch : (setup : Setup) (past : List Event) → is_legal setup past → (actor n : ℕ)
    → refused setup past (Refetch actor n) ≡ None → (h : ℕ) → is_of past h n ≡ true
    → IsLeaving setup past (Refetch actor n) h
leaving-Refetch setup past legal actor n ok h of_n = record {
  empties = emptying-Refetch setup past legal actor n ok h of_n;
  was = fate_at (fate past n) Completed (refetch_was setup past actor n ok);
  names = λ s. refl;
  completed = λ s. refl;
  commits = λ g r.
      committed-kept setup past legal (Refetch actor n) ok g r (committer-Refetch setup past legal actor n ok g r);
  unread = λ y apart. refl;
  elsewhere_pc = λ g other.
      pc_elsewhere (fetching past n) g (fetch_pc setup past g) (another past h g n of_n other);
  elsewhere_status = λ g other. refl;
  jobs = λ k. refl;
  fetches = record { fetched = λ s. refl; fetches = refl; last_fetched = refl };
  puts_out = refl;
  memory = record { byte = λ addr. refl; reserved = λ g. refl; touched = λ s. refl; looks = refl };
}

pub steps-Refetch : (setup : Setup) (past : List Event) → is_legal setup past → (actor n : ℕ)
    → refused setup past (Refetch actor n) ≡ None → registers_of setup ≤ most_registers
    → (h : ℕ) → is_of past h n ≡ true → (f : Fetched) → fetching past n ≡ Some f
    → IsRefetch (picture setup past) (picture setup (Refetch actor n ∷ past)) h n f.pc
steps-Refetch setup past legal actor n ok fit h of_n f at =
    let e = Refetch actor n in
    let leaving = leaving-Refetch setup past legal actor n ok h of_n in
    record {
      middle = leave_middle setup past h n (e ∷ past);
      leave = leaves setup past legal fit e h leaving (status past h) refl f.pc (pc-own setup past actor n h f at of_n);
      records = refl;
      squash = squashes_rest setup past legal fit e ok h leaving;
    }
