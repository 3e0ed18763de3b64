-- An event that empties its hart and commits nothing, as two steps of pictures: its instruction leaves the flight and
-- gives its register back, then all younger ones are squashed. The picture in between is of no history.
use Rattle.std.specs.Prelude.{◌≡◌, ◌≢◌, ℕ, ◌≤◌, Bool, true, false, not, ◌==◌, ◌||◌, nat_le}
use Rattle.std.specs.Prelude.{if◌then◌else◌, List, [], ◌∷◌, Option, Some, None}
use Rattle.std.specs.List.{filter, list_any}
use Rattle.std.proofs.Common.{◌∙◌, refl, sym, ap, subst, arith}
use Rattle.std.proofs.{lemmas.Bool.false_from_ne_true, lemmas.Bool.Decides.nat_tests}
use Rattle.numbers.specs.Sizes.{most_registers}
use Rattle.rv_instr.specs.declared.op.Op.{Op}
use Rattle.events.specs.{declared.event.Event.Event, Event.seq_of}
use Rattle.smt_model.specs.{Basics.how_many, Basics.same_number, Setup.Setup, Setup.registers_of, Kinds.first_source}
use Rattle.smt_model.specs.{Kinds.second_source, Flights.flight, Flights.icount, Rules.refused, Rules.is_legal}
use Rattle.smt_model.specs.Picture.{Picture, picture, is_free, source_register_in}
use Rattle.smt_model.specs.{declared.config.Status.Status, Fetching.fetch_pc, Memory.status, Memory.output}
use Rattle.smt_model.specs.{Account.records, Jobs.job, Frames.FetchesNothing, Frames.KeepsMemory}
use Rattle.smt_model.specs.Fates.{Fate, Renamed, Completed, Squashed, fate, fetching, completion, is, is_in_flight}
use Rattle.smt_model.specs.Fates.{is_of}
use Rattle.smt_model.specs.Registers.{phys, committed, value}
use Rattle.smt_model.specs.Steps.{IsSameHart, IsSameInstruction, IsLeave, IsSquash, ReadsTheSame, up_to, beyond}
use Rattle.smt_model.specs.Steps.{youngest, has_register, AreOwn}
use Rattle.smt_model.proofs.Lists.{member, Rises-filter, member-filter}
use Rattle.smt_model.proofs.Fates.Moves.{same_number-is, same_number-self}
use Rattle.smt_laws.proofs.{Registers.Counts.flights-once, Registers.Below.first_source-below}
use Rattle.smt_laws.proofs.{Registers.Below.second_source-below, Registers.Operands.IsSourceName}
use Rattle.smt_laws.proofs.Events.{Calm.keeps_jobs, Freeing.is_flying, Freeing.renamed_flies, Freeing.reads-same}
use Rattle.smt_laws.proofs.{Events.FreedRegisters.free-given, Steps.Misprediction.at_own}
use Rattle.smt_laws.proofs.{Steps.Misprediction.at_other, Steps.Misprediction.spared_upto}
use Rattle.smt_laws.proofs.Events.Squash.{squash_other, in_decode-squash, in_rename-squash, icount-squash}
use Rattle.smt_laws.proofs.Events.Squash.{queue-squash, mapped-squash, apart}
use Rattle.smt_laws.proofs.Events.SquashedRegisters.{are_own, in_the_flight, flight-rises, flight-owns}
use Rattle.smt_laws.proofs.Events.Emptying.{IsEmptying, first_and_rest, others_empty, beyond_rest, flight-emptied}
use Rattle.smt_laws.proofs.Events.Emptying.{leaves-flight, not_read}

-- Event e empties hart h, and says nothing but where the hart fetches and how it stands, and a record.
pub record IsLeaving (setup : Setup) (past : List Event) (e : Event) (h : ℕ) : Type 0 where
  pub empties : IsEmptying past e h
  pub was : fate past (seq_of e) ≡ Completed
  pub names : (s : ℕ) → phys (e ∷ past) s ≡ phys past s
  pub completed : (s : ℕ) → completion (e ∷ past) s ≡ completion past s
  pub commits : (g r : ℕ) → committed (e ∷ past) g r ≡ committed past g r
  pub unread : (y : ℕ) → phys past (seq_of e) ≢ Some y → value setup (e ∷ past) y ≡ value setup past y
  pub elsewhere_pc : (g : ℕ) → g ≢ h → fetch_pc setup (e ∷ past) g ≡ fetch_pc setup past g
  pub elsewhere_status : (g : ℕ) → g ≢ h → status (e ∷ past) g ≡ status past g
  pub jobs : (k : ℕ) → job (e ∷ past) k ≡ job past k
  pub fetches : FetchesNothing (picture setup past) (picture setup (e ∷ past))
  pub puts_out : output (e ∷ past) ≡ output past
  pub memory : KeepsMemory (picture setup past) (picture setup (e ∷ past))

-- ---- The picture in between

-- Its instruction n isn't in flight any more; where the hart goes on, and the records, are those of the history `now`.
abbrev pub leave_middle : Setup → List Event → ℕ → ℕ → List Event → Picture
leave_middle setup past h n now = record (picture setup past) {
  fate = λ s. if s == n then Squashed else fate past s;
  flight = λ g. if g == h then filter (λ s. not (s == n)) (flight past h) else flight past g;
  fetch_pc = fetch_pc setup now;
  status = status now;
  free = λ y. is_free setup past y || same_number (phys past n) (Some y);
  records = records now;
}

pub leaves : (setup : Setup) (past : List Event) → is_legal setup past → registers_of setup ≤ most_registers
    → (e : Event) → (h : ℕ) → IsLeaving setup past e h
    → (standing : Status) → status (e ∷ past) h ≡ standing → (pc : ℕ) → fetch_pc setup (e ∷ past) h ≡ pc
    → IsLeave (picture setup past) (leave_middle setup past h (seq_of e) (e ∷ past)) h (seq_of e) standing pc
leaves setup past legal fit e h leaving standing stands_so pc goes_on =
    let n = seq_of e in
    let rest = filter (λ s. not (s == n)) (flight past h) in
    record {
      of_hart = leaving.empties.squashing.of_hart;
      own =
          let owns = flight-owns setup past legal fit h in
          are_own (picture setup past) (flight past h) (flight-rises setup past legal h)
          (record { range = owns.range; claimed = owns.claimed; once = owns.once });
      flight =
          first_and_rest (flight past h) n (flight-rises setup past legal h) leaving.empties.front
          ∙ ap (λ xs. n ∷ xs) (sym (at_own h rest (flight past h)));
      status = stands_so;
      fetch_pc = goes_on;
      free = λ y. refl;
      flights = λ t flies other.
          record { fate = at_other t n Squashed (fate past t) other; phys = refl; completion = refl };
      stays = record {
        hart = record {
          in_decode = refl;
          in_rename = refl;
          flight = tt;
          icount = refl;
          mapped = tt;
          committed = λ r low high. refl;
          fetch_pc = tt;
          status = tt;
        };
        others = λ g other. record {
          in_decode = refl;
          in_rename = refl;
          flight = at_other g h rest (flight past g) other;
          icount = refl;
          mapped = λ r low high. refl;
          committed = λ r low high. refl;
          fetch_pc = leaving.elsewhere_pc g other;
          status = leaving.elsewhere_status g other;
        };
        shared = record {
          kept = λ s f at. at;
          operands = λ k s before now. (refl, refl);
          queue = refl;
          free = tt;
          values = λ y claimed. refl;
          readings = λ s waits still. (record { seen = refl; reads = refl }, record { seen = refl; reads = refl });
          job = λ j. refl;
          fetches = record { fetched = λ s. refl; fetches = refl; last_fetched = refl };
          records = tt;
          output = refl;
          memory = record { byte = λ addr. refl; reserved = λ g. refl; touched = λ s. refl; looks = refl };
        };
      };
    }

-- ---- Free registers

or_assoc : (a b c : Bool) → (a || (b || c)) ≡ ((a || b) || c)
or_assoc true b c = refl
or_assoc false b c = refl

free-leaving : (setup : Setup) (past : List Event) → is_legal setup past → (e : Event)
    → (ok : refused setup past e ≡ None) → (h : ℕ) → IsLeaving setup past e h
    → (y : ℕ) → is_free setup (e ∷ past) y
    ≡ ((is_free setup past y || same_number (phys past (seq_of e)) (Some y))
    || list_any (has_register (picture setup past) y) (filter (λ s. not (s == seq_of e)) (flight past h)))
free-leaving setup past legal e ok h leaving y =
    let n = seq_of e in
    let split = first_and_rest (flight past h) n (flight-rises setup past legal h) leaving.empties.front in
    free-given setup past legal e ok (flight past h)
    (leaves-flight setup past legal e ok h leaving.empties leaving.names leaving.commits) y
    ∙ (ap (λ xs. is_free setup past y || list_any (has_register (picture setup past) y) xs) split
    ∙ or_assoc (is_free setup past y) (same_number (phys past n) (Some y))
    (list_any (has_register (picture setup past) y) (filter (λ s. not (s == n)) (flight past h))))

or_gone : (a b : Bool) → a ≡ false → b ≡ false → (a || b) ≡ false
or_gone a b one two = rw (one, two) refl

own_rest : (setup : Setup) (past : List Event) → is_legal setup past → registers_of setup ≤ most_registers
    → (e : Event) → (h : ℕ) → IsLeaving setup past e h
    → AreOwn (leave_middle setup past h (seq_of e) (e ∷ past)) (filter (λ s. not (s == seq_of e)) (flight past h))
own_rest setup past legal fit e h leaving =
    let n = seq_of e in
    let owns = flight-owns setup past legal fit h in
    let rest = filter (λ s. not (s == n)) (flight past h) in
    let inside : (s : ℕ) → member s rest ≡ true → member s (flight past h) ≡ true =
    λ s m. (member-filter (λ z. not (z == n)) s (flight past h) m).0 in
    are_own (leave_middle setup past h n (e ∷ past)) rest
    (Rises-filter (λ s. not (s == n)) (flight past h) (flight-rises setup past legal h))
    (record {
      range = λ s y m. owns.range s y (inside s m);
      claimed = λ s y m at.
          or_gone (is_free setup past y) (same_number (phys past n) (Some y)) (owns.claimed s y (inside s m) at)
          (false_from_ne_true (same_number (phys past n) (Some y)) (λ also.
          let same = flights-once setup past legal s n y (in_the_flight setup past legal h s (inside s m)).1
          leaving.empties.squashing.flew at (same_number-is (phys past n) (Some y) also) in
          let passes = (member-filter (λ z. not (z == n)) s (flight past h) m).1 in
          absurd (grind (arith, nat_tests))));
      once = λ s t y m o. owns.once s t y (inside s m) (inside t o);
    })

not_held : (o : Option ℕ) (y : ℕ) (a c : Bool) → ((a || same_number o (Some y)) || c) ≡ false → o ≢ Some y
not_held o y a c none same =
    let is_true : same_number o (Some y) ≡ true = ap (λ z. same_number z (Some y)) same ∙ same_number-self (Some y) in
    absurd (grind arith)

-- ---- What the others of the flight read, and how many are counted

waits_flies : (s n : ℕ) (f : Fate) → is (if s == n then Squashed else f) Renamed ≡ true → is_in_flight f ≡ true
waits_flies s n f waits = grind (arith, nat_tests)

squashed_not : (s n : ℕ) (f : Fate) → is_in_flight (if s == n then Squashed else f) ≡ true → s ≢ n
squashed_not s n f flies same = grind (arith, nat_tests)

reads-leaving : (setup : Setup) (past : List Event) → is_legal setup past → (e : Event)
    → (ok : refused setup past e ≡ None) → (h : ℕ) → IsLeaving setup past e h → (which : Op → ℕ) → IsSourceName which
    → (s : ℕ) → is_in_flight (fate past s) ≡ true → is_in_flight (fate (e ∷ past) s) ≡ true
    → ReadsTheSame (leave_middle setup past h (seq_of e) (e ∷ past)) (picture setup (e ∷ past)) which s
reads-leaving setup past legal e ok h leaving which names s was still =
    let flying = is_flying setup past legal e ok s was still in
    let same = reads-same setup past legal e ok which s flying (λ some.
    leaving.unread (source_register_in past which s (fetching past s))
    (not_read setup past legal e ok h leaving.empties.squashing which names s flying some)) in
    record { seen = same.seen; reads = same.reads }

only_own : (waits : ℕ → Bool) (n : ℕ) (rest : List ℕ) → waits n ≡ false → up_to n rest ≡ []
    → how_many waits (up_to n (n ∷ rest)) ≡ 0
only_own waits n rest own none =
    let here : nat_le n n ≡ true = grind (arith, nat_tests) in
    rw (here, none, own) refl

none_counted : (setup : Setup) (past : List Event) → is_legal setup past → (e : Event)
    → (ok : refused setup past e ≡ None) → (h : ℕ) → IsLeaving setup past e h → icount (e ∷ past) h ≡ 0
none_counted setup past legal e ok h leaving =
    let n = seq_of e in
    let split = first_and_rest (flight past h) n (flight-rises setup past legal h) leaving.empties.front in
    let waits : ℕ → Bool = λ s. is (if s == n then Squashed else fate past s) Renamed in
    let own : waits n ≡ false = ap (λ f. is f Renamed) (at_own n Squashed (fate past n)) in
    icount-squash setup past legal e ok h leaving.empties.squashing waits
    (λ s under. ap (λ f. is f Renamed) (at_other s n Squashed (fate past s) (λ same. absurd (omega arith)))) own
    ∙ (ap (λ xs. how_many waits (up_to n xs)) split
    ∙ only_own waits n (filter (λ s. not (s == n)) (flight past h)) own
    (others_empty setup past legal h n leaving.empties.front))

-- ---- The second half

others-leaving : (setup : Setup) (past : List Event) → is_legal setup past → (e : Event)
    → (ok : refused setup past e ≡ None) → (h g : ℕ) → IsLeaving setup past e h → g ≢ h
    → IsSameHart (leave_middle setup past h (seq_of e) (e ∷ past)) (picture setup (e ∷ past)) g
others-leaving setup past legal e ok h g leaving other =
    let n = seq_of e in
    let same = apart setup past legal e ok h g leaving.empties.squashing other leaving.fetches.fetched leaving.names
    (leaving.commits g) (leaving.elsewhere_pc g other) (leaving.elsewhere_status g other) in
    record {
      in_decode = same.in_decode;
      in_rename = same.in_rename;
      flight = same.flight ∙ sym (at_other g h (filter (λ s. not (s == n)) (flight past h)) (flight past g) other);
      icount = same.icount;
      mapped = same.mapped;
      committed = same.committed;
      fetch_pc = refl;
      status = refl;
    }

same_again : (setup : Setup) (past : List Event) (e : Event) (h : ℕ) → IsLeaving setup past e h
    → (t : ℕ) → t ≢ seq_of e → (is_of past h t ≡ true → t ≤ seq_of e)
    → IsSameInstruction (leave_middle setup past h (seq_of e) (e ∷ past)) (picture setup (e ∷ past)) t
same_again setup past e h leaving t other upto = record {
  fate =
      squash_other past e h leaving.empties.squashing t (λ same. other (sym same))
      (spared_upto (seq_of e) t (is_of past h t) upto)
      ∙ sym (at_other t (seq_of e) Squashed (fate past t) other);
  phys = leaving.names t;
  completion = leaving.completed t;
}

pub squashes_rest : (setup : Setup) (past : List Event) → is_legal setup past → registers_of setup ≤ most_registers
    → (e : Event) → (ok : refused setup past e ≡ None) → (h : ℕ) → IsLeaving setup past e h
    → IsSquash (leave_middle setup past h (seq_of e) (e ∷ past)) (picture setup (e ∷ past)) h (seq_of e)
squashes_rest setup past legal fit e ok h leaving =
    let n = seq_of e in
    let m = leave_middle setup past h n (e ∷ past) in
    let squashing = leaving.empties.squashing in
    let rest = filter (λ s. not (s == n)) (flight past h) in
    let in_middle : (if h == h then rest else flight past h) ≡ rest = at_own h rest (flight past h) in
    let none_left : up_to n (if h == h then rest else flight past h) ≡ [] =
    ap (up_to n) in_middle ∙ others_empty setup past legal h n leaving.empties.front in
    let emptied_too = flight-emptied setup past legal e ok h leaving.empties in
    let free_is = free-leaving setup past legal e ok h leaving in
    record {
      own = subst (AreOwn m) (sym in_middle) (own_rest setup past legal fit e h leaving);
      in_decode = in_decode-squash setup past legal e ok h squashing;
      in_rename = in_rename-squash setup past legal e ok h squashing;
      flight = emptied_too ∙ sym none_left;
      icount = none_counted setup past legal e ok h leaving
          ∙ sym (ap (how_many (λ s. is (m.fate s) Renamed)) none_left);
      mapped = λ r low high.
          mapped-squash setup past legal e ok h r low [] emptied_too (leaving.commits h r)
          ∙ sym (ap (λ xs. youngest m r xs (committed past h r)) none_left);
      queue = queue-squash setup past legal e ok h squashing (ap (λ f. is f Renamed) leaving.was);
      free = λ y.
          free_is y
          ∙ sym (ap (λ xs. (is_free setup past y || same_number (phys past n) (Some y))
          || list_any (has_register m y) xs)
          (ap (beyond n) in_middle ∙ beyond_rest setup past legal h n leaving.empties.front));
      flights = λ t flies upto. same_again setup past e h leaving t (squashed_not t n (fate past t) flies) upto;
      stays = record {
        hart = record {
          in_decode = tt;
          in_rename = tt;
          flight = tt;
          icount = tt;
          mapped = tt;
          committed = λ r low high. leaving.commits h r;
          fetch_pc = refl;
          status = refl;
        };
        others = λ g other. others-leaving setup past legal e ok h g leaving other;
        shared = record {
          kept = λ s f at. leaving.fetches.fetched s ∙ at;
          operands = λ k s before now. keeps_jobs setup past legal e ok k s before now;
          queue = tt;
          free = tt;
          values = λ y claimed.
              leaving.unread y
              (not_held (phys past n) y (is_free setup past y) (list_any (has_register (picture setup past) y) rest)
              (sym (free_is y) ∙ claimed));
          readings = λ s waits still. (
            reads-leaving setup past legal e ok h leaving first_source first_source-below s
                (waits_flies s n (fate past s) waits) (renamed_flies (e ∷ past) s still),
            reads-leaving setup past legal e ok h leaving second_source second_source-below s
                (waits_flies s n (fate past s) waits) (renamed_flies (e ∷ past) s still),
          );
          job = leaving.jobs;
          fetches = record {
            fetched = leaving.fetches.fetched;
            fetches = leaving.fetches.fetches;
            last_fetched = leaving.fetches.last_fetched;
          };
          records = refl;
          output = leaving.puts_out;
          memory = record {
            byte = leaving.memory.byte;
            reserved = leaving.memory.reserved;
            touched = leaving.memory.touched;
            looks = leaving.memory.looks;
          };
        };
      };
    }
