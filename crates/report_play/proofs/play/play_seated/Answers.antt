use Rattle.std.proofs.Common.{◌≡◌, ℕ, ◌+◌, ◌∙◌, List, ◌++◌, ap, arith, length, refl, subst, sym}
use Rattle.std.proofs.lemmas.List.{length-map}
use Rattle.book_calls.specs.declared.book.Book.{Book}
use Rattle.play_definitions.specs.Plays.{opening_book}
use Rattle.fetch_wire.specs.Wires.{over_link}
use Rattle.play_links.proofs.PlayLemmas.{closed-play}
use Rattle.play_seats.specs.Seated.{passes_in}
use Rattle.play_seats.proofs.ClosedLemmas.{whole-passes}
use Rattle.play_seats.proofs.SeatedLemmas.{as-many, belong-at, belong-passes, documents-in, ready-seats}
use Rattle.report_play.proofs.ReportedLemmas.{can-report, closed-book, many-transcripts}
use Rattle.report_play.specs.Private.Delivered.{AreDelivered}
use Rattle.book_turns.specs.Passes.{HasEveryPass, IsOneHistory}
use Rattle.book_turns.specs.declared.pass.TurnPass.{TurnPass}
use Rattle.report_play.proofs.play.play_seated.Goals as goal

pub play_all-requires-clause-seats : goal.play_all-requires-clause-seats
play_all-requires-clause-seats g c κs within =
    let seats = c.args.seats.items in
    ready-seats g.L.Link.told c.args.book.table.shared.table_id c.args.scenario.now (passes_in seats) seats
    c.requires.ready.made.new c.requires.ready.made.documents refl

pub play_all-requires-clause-belong : goal.play_all-requires-clause-belong
play_all-requires-clause-belong g c κs within =
    let seats = c.args.seats.items in
    belong-at c.args.book.table.shared.table_id c.args.scenario.now (passes_in seats) seats c.requires.ready.made.new
    refl

pub close-book-requires : goal.close-book-requires
close-book-requires g c =
    let id = c.args.book.table.shared.table_id in
    let scenario = c.args.scenario.now in
    let count = length scenario.documents in
    let ready = c.requires.ready in
    let back = c.play_all.new.seats.items in
    let same = c.in_ok-links.ensures.passes ∙ ap (λ (l : List TurnPass). l ++ passes_in back) ready.alone in
    subst (HasEveryPass id) (sym same)
    (whole-passes id (opening_book scenario) count ready.first (passes_in c.args.seats.items) (passes_in back)
    ready.made c.requires.valid.few_documents (belong-passes id back c.play_all.ensures.belong)
    (documents-in back count c.play_all.ensures.documents))

pub deliver_all-requires-clause-report : goal.deliver_all-requires-clause-report
deliver_all-requires-clause-report g c =
    let scenario = c.args.scenario.now in
    can-report (over_link g.L.Link.serves) scenario c.in_ok-transcripts.ensures.played
    (c.has_text.ensures.0 c.if-not-has_text.false) c.requires.valid.now
    c.requires.valid.documents (zero_before (length scenario.documents))
  where
    zero_before : (n : ℕ) → 0 + n ≡ n
    zero_before n = omega arith

pub deliver_all-requires-clause-many : goal.deliver_all-requires-clause-many
deliver_all-requires-clause-many g c =
    let back = c.play_all.new.seats.items in
    omega (
      arith,
      c.in_ok-links.links.ok.0,
      ap length c.in_ok-links.ensures.links,
      length-map back (λ s. s.link),
      as-many (λ s. s.pass.document) back (length c.args.scenario.now.documents) c.play_all.ensures.documents,
      many-transcripts c.in_ok-transcripts.ensures.played,
    )

pub deliver_all-requires-clause-turns : goal.deliver_all-requires-clause-turns
deliver_all-requires-clause-turns g c =
    let id = c.args.book.table.shared.table_id in
    let scenario = c.args.scenario.now in
    let ready = c.requires.ready in
    let made = c.args.seats.items in
    let back = c.play_all.new.seats.items in
    let book = c.close-book.result.book in
    let scripts = c.close-book.result.history in
    let closed = subst (λ (l : List TurnPass). IsOneHistory l book scripts)
    (c.in_ok-links.ensures.passes ∙ ap (λ (l : List TurnPass). l ++ passes_in back) ready.alone) c.close-book.ensures
    in
    (closed-play (over_link g.L.Link.serves) g.L.Link.told scenario scenario.now id ready.first made back book scripts
    ready.made (documents-in back (length scenario.documents) c.play_all.ensures.documents) closed
    c.in_ok-transcripts.transcripts c.in_ok-transcripts.ensures.played
    (c.has_text.ensures.0 c.if-not-has_text.false)).turns

pub returns : goal.returns
returns g c =
    let id = c.args.book.table.shared.table_id in
    let scenario = c.args.scenario.now in
    let count = length scenario.documents in
    let by = over_link g.L.Link.serves in
    let told = g.L.Link.told in
    let ready = c.requires.ready in
    let made = c.args.seats.items in
    let back = c.play_all.new.seats.items in
    let book = c.close-book.result.book in
    let scripts = c.close-book.result.history in
    let transcripts = c.in_ok-transcripts.transcripts in
    let closed = subst (λ (l : List TurnPass). IsOneHistory l book scripts)
    (c.in_ok-links.ensures.passes ∙ ap (λ (l : List TurnPass). l ++ passes_in back) ready.alone) c.close-book.ensures
    in
    let all = c.in_ok-all.all in
    record {
      scripts = scripts;
      links = c.in_ok-links.links.items;
      play = rw (c.in_ok-links.ensures.links)
          (closed-play by told scenario scenario.now id ready.first made back book scripts ready.made
          (documents-in back count c.play_all.ensures.documents) closed transcripts
          c.in_ok-transcripts.ensures.played (c.has_text.ensures.0 c.if-not-has_text.false));
      delivered = subst (λ (b : Book). AreDelivered by told scenario b scripts transcripts
          c.in_ok-links.links.items all.reports all.history)
          (closed-book id (opening_book scenario) count ready.first made back book scripts ready.made closed)
          c.in_ok-all.ensures;
    }
