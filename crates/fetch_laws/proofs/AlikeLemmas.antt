-- A whole fetch over what a document may learn of its answers.
use Rattle.std.proofs.Common.{None}
use Rattle.fetch_acts.specs.Readings.{showing}
use Rattle.fetch_definitions.specs.Fetch.{fetch}
use Rattle.fetch_laws.specs.Views.{GoesByViews, RunsAlike, RunsApart, ShowsAlike}
use Rattle.fetch_laws.proofs.ApartLemmas.{read-same, run-apart, run-same, shows-blind}
use Rattle.fetch_laws.proofs.BlindLemmas.{blind-fetch}

pub goes-by_views : GoesByViews
goes-by_views context request plain = blind-fetch context request None plain

pub runs-apart : RunsApart
runs-apart context request tape plain =
    run-apart None (fetch context request) tape (blind-fetch context request None plain)

pub runs-alike : RunsAlike
runs-alike context request tape other plain alike =
    run-same None (fetch context request) tape other (blind-fetch context request None plain) alike.replies alike.views

pub shows-alike : {Event : Type 0} → ShowsAlike Event
shows-alike events_of none context request tape other plain alike =
    read-same (showing events_of) (shows-blind events_of none) None (fetch context request) tape other
    (blind-fetch context request None plain) alike.replies alike.views
