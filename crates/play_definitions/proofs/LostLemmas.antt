-- What is lost where memory is refused.
use Rattle.play_definitions.proofs.Words.{[], ◌++◌, ◌∙◌, ◌≡◌, Event, HasLost, List, Standing, WorldRefused, append-nil}
use Rattle.play_definitions.proofs.Words.{append_assoc, arith, outside_of, refl}

-- nothing but what the world lost
pub lost-none : {State : Type 0} {a b : Standing State} → b.terms ≡ a.terms → b.progress ≡ a.progress
    → WorldRefused (outside_of a.world) (outside_of b.world) → HasLost [] a a b
lost-none {a = a} same kept left = record {
  same = same;
  noted = [];
  missed = [];
  few = omega arith;
  parts = refl;
  added = rw (kept, append-nil) refl;
  refused = left;
}

-- what was lost in the second of two parts, of both
pub lost-then : {State : Type 0} {made : List Event} {a b last c : Standing State} (first : List Event)
    → b.terms ≡ a.terms → b.progress.shown ≡ a.progress.shown ++ first → HasLost made b last c
    → HasLost (first ++ made) a last c
lost-then {a = a} first same added x = record {
  same = x.same ∙ same;
  noted = first ++ x.noted;
  missed = x.missed;
  few = x.few;
  parts = rw (x.parts, append_assoc) refl;
  added = rw (x.added, added, append_assoc) refl;
  refused = x.refused;
}
