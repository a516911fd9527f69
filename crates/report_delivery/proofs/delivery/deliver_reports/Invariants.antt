use Rattle.std.proofs.Common.{◌≡◌, ◌*◌, length}
use Rattle.play_definitions.specs.Words.{most_asks}
use Rattle.link_traits.specs.Sources.{IsAtEnd}
use Rattle.play_definitions.specs.Worlds.{KeepsPass, outside}
use Rattle.script_runs.specs.Runs.{beginning, finished, setting}
use Rattle.fetch_wire.specs.Wires.{over_link}
use Rattle.report_delivery.specs.Private.Paths.{HasReached}
use Rattle.report_delivery.specs.Private.Queues.{reports_left}
use Rattle.report_delivery.specs.Reporting.{reports_played}
use Rattle.report_delivery.specs.Reports.{report_requests}
use Rattle.report_delivery.proofs.delivery.deliver_reports.Given as goal

-- the reports that are left follow what was shown; the pass is as so many fetches leave it
abbrev pub invariant-loop-log : goal.invariant-loop-log
invariant-loop-log g l =
    let lent = setting l.fn.client l.fn.policies l.fn.scenario.cookies in
    record {
      reached : HasReached (over_link g.L.Link.serves) l.fn.scenario.body_limit
          (g.S.Share.account l.fn.pass).document (reports_played lent (report_requests l.fn.document
          l.fn.transcript.events) finished (beginning l.fn.transcript.clock))
          (outside g.S.Share.account g.L.Link.told l.fn.pass l.fn.link) l.log.shown
          (reports_played lent (reports_left l.queue) finished l.log)
          (outside g.S.Share.account g.L.Link.told l.pass l.link);
      pass : KeepsPass g.S.Share.account (g.S.Share.belongs l.fn.share) (l.log.fetches * most_asks) l.fn.pass l.pass;
      clock : l.log.clock ≡ l.fn.transcript.clock;
      rests : IsAtEnd (g.L.Link.told l.fn.link).left → IsAtEnd (g.L.Link.told l.link).left;
    }

abbrev pub decreases-loop-log : goal.decreases-loop-log
decreases-loop-log g l = length (reports_left l.queue)
