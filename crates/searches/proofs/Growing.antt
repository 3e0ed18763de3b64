-- What was shown of a machine holds of what it has become.
use Rattle.std.proofs.Common.{ℕ, ◌+◌, Option, None, Some}
use Rattle.std.specs.Prelude.{IfSome}
use Rattle.searches.specs.declared.step.Step.{Step}
use Rattle.searches.specs.Found.{Found, edge_at, IsEdge}
use Rattle.searches.specs.Sweeps.{AreListed, IsSwept}

module _ {S W : Type 0} (Knows Knows' : S → Type 0) (Steps Steps' : S → ℕ → Option (Step S W) → Type 0)
    (know : (s : S) → Knows s → Knows' s)
    (hold : (s : S) (h : ℕ) (next : Option (Step S W)) → Knows s → IfSome next (λ step. Knows step.state)
    → Steps s h next → Steps' s h next)
    (place hart : ℕ) (found : Found S W) (swept : IsSwept Knows Steps place hart found) where
  abbrev listed : AreListed Knows Steps place hart found
  listed = swept.listed

  edge_grown : (s : S) (h : ℕ) (edge : Option ℕ) → Knows s → IsEdge Steps found s h edge → IsEdge Steps' found s h edge
  edge_grown s h None known is = hold s h None known tt is
  edge_grown s h (Some q) known is =
      (is.0, is.1, is.2, hold s h (Some (record { state = is.0; way = is.1 })) known (listed.known q is.0 is.2) is.3)

  pub grown : IsSwept Knows' Steps' place hart found
  grown = record {
    listed = record {
      paired = listed.paired;
      filled = listed.filled;
      known = λ k t e. know t (listed.known k t e);
      different = listed.different;
      stepped = λ k t o e from.
          let f = listed.stepped k t o e from in (
            f.0,
            f.1,
            f.2,
            f.3,
            hold f.0 o.hart (Some (record { state = t; way = o.way }))
                (listed.known o.parent f.0 f.3) (listed.known (k + 1) t e) f.4,
          );
      ordered = listed.ordered;
      latest = listed.latest;
      along = λ k h s at below within. edge_grown s h (edge_at found k h) (listed.known k s at)
          (listed.along k h s at below within);
      inside = listed.inside;
      near = listed.near;
      end = listed.end;
      ends_before = listed.ends_before;
      rising = listed.rising;
    };
    told = swept.told;
  }
