use Rattle.std.proofs.Common.{◌≡◌, ◌+◌, ◌++◌, length, take, vec_len}
use Rattle.std.specs.Vec.Iter.{into_iter_items, into_iter_len}
use Rattle.book_calls.specs.Entries.{HasTurnsFrom}
use Rattle.fetch_wire.specs.Wires.{over_link}
use Rattle.report_play.specs.Private.Delivered.{EachDelivered, IsDelivered}
use Rattle.report_play.proofs.deliveries.deliver_all.Given as goal

-- the reports of the documents so far were delivered
abbrev pub invariant-loop-link : goal.invariant-loop-link
invariant-loop-link g l = record {
  delivered : EachDelivered (IsDelivered (over_link g.L.Link.serves) g.L.Link.told l.scenario) l.fn.book l.fn.history
      (take l.number l.transcripts) l.yielded l.reports l.book l.history;
  turns : HasTurnsFrom 0 l.history;
  number : l.number ≡ length l.yielded;
  left : length l.yielded + into_iter_len l.link-iterator ≡ vec_len l.fn.links;
  all : l.yielded ++ into_iter_items l.link-iterator ≡ l.fn.links.items;
}
