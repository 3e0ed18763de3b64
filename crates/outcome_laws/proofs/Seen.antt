-- What memory shows all the way is shown by what was visited: local steps write nothing that is seen.
use Rattle.std.specs.Prelude.{◌≡◌, ℕ, Bool, true, false, not, ◌&&◌, ◌||◌, List, [], ◌∷◌}
use Rattle.std.specs.List.{list_all}
use Rattle.std.proofs.Common.{◌∙◌, refl, sym, ap, inl, inr}
use Rattle.smt_model.specs.{Setup.Setup, Plain.Plain, Basics.below, Kinds.kind_of, Bytes.read}
use Rattle.smt_model.specs.Reservations.{word_of_address, holds_word}
use Rattle.smt_model.specs.Plain.{op_at_pc, computes, effect_at}
use Rattle.outcome_laws.specs.Paths.{stepped}
use Rattle.outcome_laws.specs.Tables.{Tables, is_conditional}
use Rattle.outcome_laws.specs.Local.{Use, accesses, fetches, fits, apart_from, is_apart, lacks_reservation, is_local}
use Rattle.outcome_laws.specs.Search.{IsLocalPath, EachMemoryIsVisited}
use Rattle.outcome_laws.proofs.Uses.{is_written, written_is_used}
use Rattle.outcome_laws.proofs.Facts.{first_of_both, second_of_both, all_weaker, is_false, not_true, one_of_two}
use Rattle.outcome_laws.proofs.{Local.fails_write, Local.unwritten, Known.spared_byte}
use Rattle.outcome_laws.proofs.Settling.{each_settles}

-- What is used is no writing of what is seen.
abbrev hides : Tables → Use → Bool
hides tables u = not (u.writes && tables.seen u.what)

hidden : (setup : Setup) (tables : Tables) (h : ℕ) (s : Plain) (word : ℕ) → is_local setup tables h s ≡ true
    → tables.seen word ≡ true → is_written (effect_at setup s h).write word ≡ false
hidden setup tables h s word local seen =
    let op = op_at_pc setup s h in
    let c = computes setup s h in
    let now = read op s.bytes c.addr in
    let held = holds_word (s.reserved h) c.addr in
    let fetched = list_all (is_apart setup tables h s) (fetches setup.image tables (s.pcs h)) in
    let accessed = list_all (is_apart setup tables h s) (accesses op c) in
    let rest = second_of_both (fits setup tables h s) (fetched && (accessed || lacks_reservation setup h s)) local in
    elim (one_of_two accessed (lacks_reservation setup h s)
    (second_of_both fetched (accessed || lacks_reservation setup h s) rest)) [
      | inl all ↦
          let each : list_all (hides tables) (accesses op c) ≡ true =
          all_weaker (is_apart setup tables h s) (hides tables) (accesses op c)
          (λ u is. first_of_both (hides tables u)
          (list_all (λ g. apart_from tables h s g u) (below setup.harts)) is) all in
          is_false (is_written (effect_at setup s h).write word) (not (true && tables.seen word))
          (written_is_used op c now held (hides tables) word each) (rw seen refl)
      | inr lacks ↦
          unwritten (effect_at setup s h).write word
          (fails_write op c now held (first_of_both (is_conditional (kind_of op)) (not held) lacks)
          (not_true held (second_of_both (is_conditional (kind_of op)) (not held) lacks)))
    ]

seen_stays : (setup : Setup) (tables : Tables) (order : List ℕ) (s t : Plain) → IsLocalPath setup tables order s t
    → (a : ℕ) → tables.seen (word_of_address a) ≡ true → s.bytes a ≡ t.bytes a
seen_stays setup tables [] s t same a seen = ap (λ (z : Plain). z.bytes a) same
seen_stays setup tables (h ∷ order) s t way a seen =
    sym (spared_byte setup h s a (hidden setup tables h s (word_of_address a) way.1 seen))
    ∙ seen_stays setup tables order (stepped setup h s) t way.2 a seen

pub each_memory_is_visited : EachMemoryIsVisited
each_memory_is_visited setup watched tables good visited enough from s holds begins order u leads =
    let there = (each_settles setup watched tables good visited enough from s holds begins order u leads).0 in
    let way = there.settles in
    record {
      state = there.state;
      reached = there.reached;
      bytes = λ a seen. seen_stays setup tables way.order u way.there way.local a seen ∙ way.alike.bytes a;
    }
