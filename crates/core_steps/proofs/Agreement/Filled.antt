-- A number given to a register and to the entries that wait for it: the queue agrees with a picture in which they woke.
use Rattle.std.specs.Prelude.{◌≡◌, ℕ, ◌==◌, true, List, [], ◌∷◌, map, Option, Some, None}
use Rattle.std.specs.List.{AllByRecursion}
use Rattle.std.proofs.Common.{◌∙◌, refl, sym, ap, inl, inr}
use Rattle.std.proofs.lemmas.Bool.{cases_Bool}
use Rattle.issue_queue.specs.{Queue.Queue, declared.entry.Entry.Entry, declared.entry.Source.Source}
use Rattle.rv_instr.specs.declared.op.Op.{Op}
use Rattle.smt_model.specs.{Kinds.first_source, Kinds.second_source, Fates.is, Fates.Renamed, Picture.Picture}
use Rattle.smt_model.specs.{Steps.KeepsFetched, Steps.WakesReadings, Steps.woken_reading}
use Rattle.core_parts.specs.Agree.{IsEntry, QueueAgrees, source_of, source_at}
use Rattle.core_steps.specs.Filled.{filled_source, filled_entry}

source_filled : (register filled : Option ℕ) (reads : Option ℕ) (seen : ℕ)
    → filled_source register filled (source_of reads seen) ≡ source_of (woken_reading register filled seen reads) seen
source_filled None filled reads seen = refl
source_filled (Some x) None reads seen = refl
source_filled (Some x) (Some v) None seen = elim (cases_Bool (seen == x)) [ inl t ↦ rw t refl | inr f ↦ rw f refl ]
source_filled (Some x) (Some v) (Some w) seen = refl

-- Where nothing is given, an entry stays as it is.
map_same : (f : Source → Source) → ((s : Source) → f s ≡ s) → (xs : List Source) → map f xs ≡ xs
map_same f same [] = refl
map_same f same (x ∷ xs) = rw (same x, map_same f same xs) refl

entries_same : (f : Source → Source) → ((s : Source) → f s ≡ s) → (es : List Entry)
    → map {A = Entry} {B = Entry} (λ e. record e { sources = map f e.sources }) es ≡ es
entries_same f same [] = refl
entries_same f same (e ∷ es) = rw (map_same f same e.sources, entries_same f same es) refl

pub filled_none : (filled : Option ℕ) (es : List Entry) → es ≡ map (filled_entry None filled) es
filled_none filled es = sym (entries_same (filled_source None filled) (λ s. refl) es)

pub filled_empty : (x : ℕ) (es : List Entry) → es ≡ map (filled_entry (Some x) None) es
filled_empty x es = sym (entries_same (filled_source (Some x) None) (λ s. refl) es)

abbrev pub WakesBoth : Picture → Picture → Option ℕ → Option ℕ → Type 0
WakesBoth p q register filled = (s : ℕ) → is (p.fate s) Renamed ≡ true
    → WakesReadings p q register filled first_source s × WakesReadings p q register filled second_source s

module _ (p q : Picture) (register filled : Option ℕ) (kept : KeepsFetched p q)
    (waits : (s : ℕ) → p.fate s ≡ Renamed → q.fate s ≡ Renamed) (wakes : WakesBoth p q register filled) where
  one_source : (which : Op → ℕ) (s : ℕ) → WakesReadings p q register filled which s
      → filled_source register filled (source_at p which s) ≡ source_at q which s
  one_source which s woke =
      source_filled register filled (p.reads which s) (p.seen which s)
      ∙ ap (source_of (woken_reading register filled (p.seen which s) (p.reads which s))) (sym woke.0)
      ∙ ap (λ r. source_of r (q.seen which s)) (sym woke.1)

  entry_filled : (e : Entry) → IsEntry p e → IsEntry q (filled_entry register filled e)
  entry_filled e entry =
      let woke = wakes e.seq (rw entry.waits refl) in
      record {
        instruction = entry.instruction;
        fetched = kept e.seq entry.instruction entry.fetched;
        hart = entry.hart;
        pc = entry.pc;
        op = entry.op;
        waits = waits e.seq entry.waits;
        sources = rw (entry.sources, one_source first_source e.seq woke.0, one_source second_source e.seq woke.1) refl;
      }

  entries_filled : (es : List Entry) → AllByRecursion (IsEntry p) es
      → AllByRecursion (IsEntry q) (map (filled_entry register filled) es)
  entries_filled [] all = tt
  entries_filled (e ∷ es) all = (entry_filled e all.0, entries_filled es all.1)

  numbers_filled : (es : List Entry) → map (λ e. e.seq) (map (filled_entry register filled) es) ≡ map (λ e. e.seq) es
  numbers_filled [] = refl
  numbers_filled (e ∷ es) = ap (λ xs. e.seq ∷ xs) (numbers_filled es)

  pub queue_filled : (old new : Queue) → QueueAgrees p old → q.queue ≡ p.queue
      → new ≡ record old { entries = map (filled_entry register filled) old.entries } → QueueAgrees q new
  queue_filled old new agrees same is = record {
    numbers = rw is (numbers_filled old.entries ∙ agrees.numbers ∙ sym same);
    entries = rw is (entries_filled old.entries agrees.entries);
  }
