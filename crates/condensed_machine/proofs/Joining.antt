-- Local steps that lead from one state to another, and on from there, though what is kept is alike alone.
use Rattle.std.proofs.Common.{◌≡◌, ℕ, List, [], ◌++◌, refl, sym, ap₂, subst}
use Rattle.smt_model.specs.{Setup.Setup, Plain.Plain}
use Rattle.outcome_laws.specs.{Paths.HasItsCode, Tables.IsTables}
use Rattle.outcome_laws.proofs.Known.{holds_as_coded}
use Rattle.outcome_laws.proofs.Search.{flip, goes_alike, join, self_alike}
use Rattle.outcome_laws.proofs.Holding.{has_alike, has_local}
use Rattle.condensed_machine.specs.Machine.{Program, IsSound, tables_of}
use Rattle.condensed_machine.specs.{Resting.is_watched, Steps.SettlesBy}
use Rattle.condensed_machine.proofs.Following.{paths_join}

pub settles_nowhere : (setup : Setup) (p : Program) (s : Plain) → SettlesBy setup p [] s s
settles_nowhere setup p s = record {
  settles = record { order = []; there = s; local = refl; alike = self_alike (is_watched p.watched) (tables_of p) s };
  by = refl;
}

-- Code that may not be written is what it was.
pub settled_code : (setup : Setup) (p : Program) (order : List ℕ) (s t : Plain) → HasItsCode setup s
    → SettlesBy setup p order s t → HasItsCode setup t
settled_code setup p order s t holds by =
    let one = by.settles in
    has_alike setup (is_watched p.watched) (tables_of p) one.there t one.alike
    (has_local setup (tables_of p) one.order s one.there holds one.local)

-- The first local steps have come to a state that is alike to the one from which the others lead.
pub settles_on : (setup : Setup) (p : Program) (one two : List ℕ) (s t u : Plain) → IsSound p
    → setup.image ≡ p.image → HasItsCode setup t → SettlesBy setup p one s t → SettlesBy setup p two t u
    → SettlesBy setup p (one ++ two) s u
settles_on setup p one two s t u sound image holds first second =
    let watched = is_watched p.watched in
    let tables = tables_of p in
    let a = first.settles in
    let b = second.settles in
    let good : IsTables setup.image tables = subst (λ i. IsTables i tables) (sym image) sound.tables in
    let same = goes_alike setup watched tables good b.order t a.there b.there
    (holds_as_coded setup tables t (λ pc. refl) holds) (flip watched tables a.there t a.alike) b.local in
    record {
      settles = record {
        order = a.order ++ b.order;
        there = same.there;
        local = paths_join setup tables a.order b.order s a.there same.there a.local same.local;
        alike = join watched tables same.there b.there u (flip watched tables b.there same.there same.alike) b.alike;
      };
      by = ap₂ ◌++◌ first.by second.by;
    }
