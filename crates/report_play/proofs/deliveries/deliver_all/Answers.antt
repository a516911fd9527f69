use Rattle.std.proofs.Common.{List, [], ◌∷◌, ◌++◌, ◌∙◌, ap, append_assoc, arith, length-append, refl, sym}
use Rattle.std.specs.Vec.Iter.{into_iter_items}
use Rattle.report_play.specs.Private.Delivered.{CanReport}
use Rattle.report_play.proofs.DeliveryLemmas.{all-at, delivered-all, delivered-more, delivered-none}
use Rattle.report_play.proofs.deliveries.deliver_all.Goals as goal

pub loop-link-init : goal.loop-link-init
loop-link-init g c =
    let gives = c.into_iter-link-iterator.ensures.into_iter_gives in
    record {
      delivered = delivered-none c.args.book c.args.history c.new-reports.result c.new-reports.ensures;
      turns = c.requires.turns;
      number = refl;
      left = omega (arith, gives.1);
      all = gives.0;
    }

pub deliver_over-requires-clause-report : goal.deliver_over-requires-clause-report
deliver_over-requires-clause-report g c =
    all-at (CanReport c.args.scenario.now) c.args.transcripts.now c.loop-link.number c.at-transcript.result.now
    c.requires.report c.at-transcript.ensures

pub loop-link-preserved : goal.loop-link-preserved
loop-link-preserved g c =
    let i = c.loop-link.invariant in
    let one = c.in_ok-one.one in
    let is = c.in_ok-one.ensures in
    let yielded = c.loop-link.yielded in
    let link = c.in-Some.link in
    let steps = c.in-Some.ensures.steps in
    record {
      delivered = rw (c.in_ok-push.ensures.ok)
          (delivered-more c.args.book c.loop-link.book one.book c.args.history c.loop-link.history one.history
          c.args.transcripts.now c.loop-link.number yielded c.loop-link.reports c.at-transcript.result.now link
          one.delivered c.at-transcript.ensures i.delivered is);
      turns = is.turns;
      number = omega (arith, i.number, length-append yielded (link ∷ []));
      left = omega (arith, i.left, steps.1, length-append yielded (link ∷ []));
      all = append_assoc yielded (link ∷ []) (into_iter_items c.next.new.self)
          ∙ ap (λ (l : List _). yielded ++ l) (sym steps.0) ∙ i.all;
    }

pub returns : goal.returns
returns g c =
    let i = c.loop-link.invariant in
    let it = c.loop-link.link-iterator in (
      c.loop-link.book,
      delivered-all c.args.book c.loop-link.book c.args.history c.loop-link.history c.args.transcripts.now
          c.loop-link.number c.args.links.items c.loop-link.yielded (into_iter_items it) c.loop-link.reports
          i.delivered i.all (sym it.rest.ok.0 ∙ c.in-None.ensures.steps.0) i.number
          (omega (arith, c.requires.many, c.args.links.ok.0)),
    )
