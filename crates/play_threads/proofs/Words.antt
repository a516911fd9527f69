-- The words of which the proofs speak, each brought in once.
pub use Rattle.std.proofs.Common.{ap, arith, drop, get_or, inl, inr, refl, subst, suc, sym, take, zero, ◌∙◌}
pub use Rattle.std.proofs.lemmas.List.{append-nil, get_or-map, length-map, take_all}
pub use Rattle.std.proofs.lemmas.Result.{IfOk-weaker}
pub use Rattle.std.specs.List.{All, range_with_len}
pub use Rattle.std.specs.Prelude.{List, Some, [], length, map, slice_get, vec_capacity, vec_len, ℕ, ◌++◌, ◌+◌, ◌<◌}
pub use Rattle.std.specs.Prelude.{◌∷◌, ◌≡◌, ◌≤◌}
pub use Rattle.std.specs.Vec.Iter.{into_iter_len}
pub use Rattle.fetch_wire.specs.Exchanges.{Answering}
pub use Rattle.play_definitions.specs.Seats.{AreSeated, DocumentCameTo, Seat, seat_of}
pub use Rattle.play_definitions.specs.Worlds.{most_calls}
pub use Rattle.play_threads.specs.Private.Rows.{CanPlay, RowCameTo, seatings_of, transcripts_of}
pub use Rattle.script_events.specs.declared.events.Transcript.{Transcript}
pub use Rattle.script_runs.specs.Documents.{EachDocument}
pub use Rattle.script_scenarios.specs.declared.document.Document.{Document}
