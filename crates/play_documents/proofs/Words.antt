-- The words of which the proofs speak, each brought in once.
pub use Rattle.std.proofs.Common.{add-one, ap, append_assoc, arith, drop, drop-cons, false, get_or, max, refl, rules}
pub use Rattle.std.proofs.Common.{subst, suc, sym, true, zero, ◌-◌, ◌∙◌}
pub use Rattle.std.proofs.lemmas.List.{append-nil, drop_all}
pub use Rattle.std.proofs.lemmas.Result.{MatchResult-from_err}
pub use Rattle.std.specs.Prelude.{Err, IfOk, List, None, Ok, Option, Result, Some, [], is_some, length, ℕ, ◌*◌, ◌++◌}
pub use Rattle.std.specs.Prelude.{◌+◌, ◌<◌, ◌∷◌, ◌≡◌, ◌≢◌, ◌≤◌}
pub use Rattle.std.specs.Result.{IsErr}
pub use Rattle.fetch_acts.specs.Process.{Process}
pub use Rattle.fetch_wire.specs.Exchanges.{Answering, IsIdle}
pub use Rattle.fetch_wire.specs.Wires.{over_link, window_of}
pub use Rattle.link_traits.specs.Sources.{IsAtEnd}
pub use Rattle.play_definitions.specs.Fetched.{FetchCut, FetchReached}
pub use Rattle.play_definitions.specs.Playing.{PlaysOn}
pub use Rattle.play_definitions.specs.Standings.{HasSpent, Keeps, MayGoOn, Standing, Terms, lent_setting, standing}
pub use Rattle.play_definitions.specs.Worlds.{IsHungUp, Outside, Settles, World, WorldAnswers, outside, outside_of}
pub use Rattle.play_documents.specs.Private.Parts.{LeadsTo, PartCut, PartReached, Rule, RuleCameTo, RuleCut}
pub use Rattle.play_documents.specs.Private.Parts.{RulePlayed}
pub use Rattle.script_scenarios.specs.Commands.{step_of, steps_of}
pub use Rattle.script_scenarios.specs.Depth.{step_size, steps_size}
pub use Rattle.script_scenarios.specs.Scripts.{Steps}
pub use Rattle.script_events.specs.declared.events.Ending.{Ending}
pub use Rattle.script_events.specs.declared.events.Ending.TheVariants.{Memory}
pub use Rattle.script_events.specs.declared.events.Event.{Event}
pub use Rattle.script_filling.specs.Filled.{filled_init, filled_load}
pub use Rattle.script_filling.specs.Results.{holds, lent_result}
pub use Rattle.script_runs.proofs.PlayLemmas.{play-append, play-run}
pub use Rattle.script_runs.specs.Play.{Play, PlayRun, over}
pub use Rattle.script_runs.specs.Runs.{Next, Progress, after_events, asked, beginning, command_started}
pub use Rattle.script_runs.specs.Runs.{document_client, document_run, embed, fault_event, fetch_started, fetched}
pub use Rattle.script_runs.specs.Runs.{finished, limit_before, outcome_event, repeated, script_run, setting, showing}
pub use Rattle.script_runs.specs.Runs.{start_event, started, unless_limit}
pub use Rattle.script_scenarios.specs.declared.document.Document.{Document}
pub use Rattle.value_bytes.specs.declared.memory.OutOfMemory.{OutOfMemory}
pub use Rattle.value_requests.specs.declared.fault.TypeFault.{TypeFault}
pub use Rattle.value_requests.specs.declared.request.Request.{Request}
pub use Rattle.value_requests.specs.declared.response.Outcome.{Outcome}
