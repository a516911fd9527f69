use Rattle.std.proofs.Common.{◌≡◌, ℕ, ◌+◌, ◌∙◌, arith, length, subst, sym}
use Rattle.book_calls.specs.declared.book.Book.{Book}
use Rattle.play_definitions.specs.Plays.{by_rules}
use Rattle.play_seats.proofs.ServerLemmas.{by_bytes, sim_told}
use Rattle.report_play.proofs.ReportedLemmas.{can-report-played, many-transcripts, reported-in-order}
use Rattle.report_play.specs.Private.Delivered.{AreDelivered}
use Rattle.report_play.proofs.in_turn.report_in_turn.Goals as goal

pub deliver_all-requires-clause-report : goal.deliver_all-requires-clause-report
deliver_all-requires-clause-report c =
    let scenario = c.args.scenario.now in
    let left = c.in_ok-left.left in
    can-report-played by_rules scenario left.played.history c.in_ok-left.ensures.played.runs c.requires.now
    c.requires.documents (zero_before (length scenario.documents))
  where
    zero_before : (n : ℕ) → 0 + n ≡ n
    zero_before n = omega arith

pub deliver_all-requires-clause-many : goal.deliver_all-requires-clause-many
deliver_all-requires-clause-many c =
    c.in_ok-links.ensures.count ∙ sym (many-transcripts c.in_ok-left.ensures.played.runs)

pub deliver_all-requires-clause-turns : goal.deliver_all-requires-clause-turns
deliver_all-requires-clause-turns c = c.in_ok-left.ensures.played.turns

pub returns : goal.returns
returns c =
    let scenario = c.args.scenario.now in
    let left = c.in_ok-left.left in
    let is = c.in_ok-left.ensures in
    let all = c.in_ok-all.all in
    let links = c.in_ok-links.links.items in
    let played = left.played in
    reported-in-order scenario links played.transcripts all.reports played.history all.history is.played is.in_order
    c.in_ok-links.ensures.servers
    (subst (λ (b : Book). AreDelivered by_bytes sim_told scenario b played.history played.transcripts links all.reports
    all.history) is.book c.in_ok-all.ensures)
