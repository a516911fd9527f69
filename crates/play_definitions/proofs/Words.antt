-- The words of which the proofs speak, each brought in once.
pub use Rattle.std.proofs.Common.{append_assoc, arith, refl, subst, ◌∙◌}
pub use Rattle.std.proofs.lemmas.List.{append-nil}
pub use Rattle.std.specs.Prelude.{List, [], ℕ, ◌++◌, ◌+◌, ◌≡◌, ◌≤◌}
pub use Rattle.play_definitions.specs.Fetched.{HasLost}
pub use Rattle.play_definitions.specs.Standings.{Keeps, Standing, terms_of}
pub use Rattle.play_definitions.specs.Worlds.{KeepsPass, WorldRefused, outside_of}
pub use Rattle.script_events.specs.declared.events.Event.{Event}
