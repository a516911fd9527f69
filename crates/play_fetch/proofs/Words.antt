-- The words of which the proofs speak, each brought in once.
pub use Rattle.std.proofs.Common.{ap, append_assoc, arith, refl, rules, subst, sym, ◌-◌, ◌∙◌}
pub use Rattle.std.proofs.lemmas.List.{append-nil}
pub use Rattle.std.proofs.lemmas.Result.{MatchResult-from_err, on_err_weaker}
pub use Rattle.std.specs.Prelude.{IsTrue, List, [], length, ℕ, ◌++◌, ◌+◌, ◌<◌, ◌^◌, ◌∷◌, ◌≡◌, ◌≤◌}
pub use Rattle.fetch_definitions.specs.Fetch.{fetch}
pub use Rattle.fetch_definitions.specs.Then.{Context, context_of}
pub use Rattle.fetch_acts.specs.Process.{Process, act, ended, fits}
pub use Rattle.fetch_acts.specs.Within.{Anything, Within, acts, asks, price_of}
pub use Rattle.fetch_acts.specs.declared.act.Act.{Act}
pub use Rattle.fetch_acts.specs.declared.act.Act.TheVariants.{Ask, Send, Tell}
pub use Rattle.fetch_acts.specs.declared.act.Input.{Input}
pub use Rattle.fetch_laws.specs.Laws.{most_asks}
pub use Rattle.fetch_laws.specs.Prices.{fetch_price, level_price, levels}
pub use Rattle.link_traits.proofs.ReceivedLemmas.{received-none}
pub use Rattle.fetch_wire.specs.Exchanges.{Answering, IsIdle}
pub use Rattle.fetch_wire.specs.Wires.{over_link, window_of}
pub use Rattle.play_definitions.specs.Driving.{DriveCut, FetchPlayed, LeadsOn}
pub use Rattle.play_definitions.specs.Fetched.{FetchCut, FetchReached}
pub use Rattle.play_definitions.specs.Standings.{Keeps, Standing, Terms, lent_setting, standing}
pub use Rattle.play_definitions.specs.Worlds.{Outside, World, WorldAnswers, WorldRefused, outside_of}
pub use Rattle.script_events.specs.declared.events.Event.{Event}
pub use Rattle.script_runs.specs.Play.{events_of}
pub use Rattle.script_runs.specs.Runs.{Progress, after_events, at_time}
pub use Rattle.value_requests.specs.declared.request.Request.{Request}
pub use Rattle.value_requests.specs.declared.response.Outcome.{Outcome}
