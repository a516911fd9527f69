use Rattle.std.proofs.Common.{◌≡◌, ◌++◌, ◌∙◌, ℕ, List, ap, subst}
use Rattle.book_calls.specs.declared.book.Book.{Book}
use Rattle.book_calls.specs.declared.entry.Entry.{Entry}
use Rattle.book_calls.specs.Entries.{Legal, book_after}
use Rattle.book_calls.specs.Solo.{AreOf, Solo}
use Rattle.fetch_wire.specs.Wires.{over_link}
use Rattle.play_seats.specs.Links.{way_of}
use Rattle.report_delivery.specs.Reporting.{ending_of, reporting}
use Rattle.report_play.proofs.DeliveryLemmas.{solo-runs}
use Rattle.report_play.proofs.deliveries.deliver_over.Goals as goal

pub returns : goal.returns
returns g c =
    let told = g.L.Link.told in
    let scenario = c.args.scenario.now in
    let transcript = c.args.transcript.now in
    let delivered = c.in_ok-delivered.delivered in
    let begun = c.resumed-share.ensures.pass in
    let first = c.resumed-share.result.1 in
    let last = c.deliver.new.pass in
    let kept = c.in_ok-delivered.ensures.pass in
    let of : last.document ≡ transcript.document = kept.document ∙ ap (λ (p : Solo). p.document) begun in
    record {
      number_is = c.in_ok-delivered.ensures.number;
      entries = last.entries;
      whole_is = c.close-book.ensures.grown
          ∙ ap (λ (l : List Entry). l ++ last.entries) (kept.belongs_to ∙ c.resumed-share.ensures.share);
      last_is = c.close-book.ensures.book
          ∙ ap (λ (b : Book). book_after b last.entries) (kept.opening ∙ ap (λ (p : Solo). p.opening) begun);
      legal = subst (λ (b : Book). Legal b last.entries) (kept.opening ∙ ap (λ (p : Solo). p.opening) begun)
          c.close-book.ensures.legal;
      of_document = subst (λ (n : ℕ). AreOf n last.entries) of c.close-book.ensures.of_document;
      turns = c.close-book.ensures.turns;
      left = c.deliver.new.link;
      came = λ one at. solo-runs (over_link g.L.Link.serves) scenario.body_limit transcript.document
          (way_of told c.args.link.now) (way_of told c.deliver.new.link) first last _
          (reporting scenario.cookies one transcript.clock transcript.events) delivered.events
          (ending_of delivered.ending) transcript.clock (ap (λ (p : Solo). p.entries) begun)
          (ap (λ (p : Solo). p.document) begun) (c.in_ok-delivered.ensures.came one at);
    }
