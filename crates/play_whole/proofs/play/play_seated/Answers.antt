use Rattle.std.proofs.Common.{◌∙◌, List, ◌++◌, ap, length, refl, subst, sym}
use Rattle.book_turns.specs.Passes.{HasEveryPass, IsOneHistory}
use Rattle.book_turns.specs.declared.pass.TurnPass.{TurnPass}
use Rattle.play_definitions.proofs.WorldLemmas.{on-err}
use Rattle.play_definitions.specs.Plays.{opening_book}
use Rattle.fetch_wire.specs.Wires.{over_link}
use Rattle.play_seats.specs.Seated.{links_in, passes_in}
use Rattle.play_seats.proofs.ClosedLemmas.{whole-passes}
use Rattle.play_links.proofs.PlayLemmas.{closed-play, closed-played, closed-refused}
use Rattle.play_seats.proofs.SeatedLemmas.{belong-at, belong-passes, documents-in, many-links, ready-seats}
use Rattle.play_whole.proofs.play.play_seated.Goals as goal

pub play_all-played-requires-clause-seats : goal.play_all-played-requires-clause-seats
play_all-played-requires-clause-seats g c κs within =
    let seats = c.args.seats.items in
    ready-seats g.N.Link.Link.told c.args.book.table.shared.table_id c.args.scenario.now
    (passes_in seats) seats c.requires.ready.made.new c.requires.ready.made.documents refl

pub play_all-played-requires-clause-belong : goal.play_all-played-requires-clause-belong
play_all-played-requires-clause-belong g c κs within =
    let seats = c.args.seats.items in
    belong-at c.args.book.table.shared.table_id c.args.scenario.now (passes_in seats) seats c.requires.ready.made.new
    refl

pub close-history-requires : goal.close-history-requires
close-history-requires g c =
    let id = c.args.book.table.shared.table_id in
    let scenario = c.args.scenario.now in
    let ready = c.requires.ready in
    let back = c.play_all-played.new.seats.items in
    subst (HasEveryPass id)
    (sym (c.unseat.ensures.passes ∙ ap (λ (l : List TurnPass). l ++ passes_in back) ready.alone))
    (whole-passes id (opening_book scenario) (length scenario.documents) ready.first (passes_in c.args.seats.items)
    (passes_in back) ready.made c.requires.valid.few_documents (belong-passes id back c.play_all-played.ensures.belong)
    (documents-in back (length scenario.documents) c.play_all-played.ensures.documents))

pub returns-in_err-transcripts-clause-refused : goal.returns-in_err-transcripts-clause-refused
returns-in_err-transcripts-clause-refused g c =
    let id = c.args.book.table.shared.table_id in
    let scenario = c.args.scenario.now in
    let ready = c.requires.ready in
    let made = c.args.seats.items in
    let back = c.play_all-played.new.seats.items in
    let book = c.close-history.result.book in
    let history = c.close-history.result.history in
    let same = c.unseat.ensures.passes ∙ ap (λ (l : List TurnPass). l ++ passes_in back) ready.alone in
    on-err c.from_residual.result (record {
      back = links_in back;
      many = many-links made back (length scenario.documents) ready.made.documents c.play_all-played.ensures.documents;
      taken = c.unseat.ensures.back;
      counted = c.unseat.ensures.faults;
      are_so = closed-refused (over_link g.N.Link.Link.serves) g.N.Link.Link.told
          scenario c.args.base id ready.first made back book history ready.made
          (documents-in back (length scenario.documents) c.play_all-played.ensures.documents)
          (subst (λ (l : List TurnPass). IsOneHistory l book history) same c.close-history.ensures)
          c.in_err-transcripts.ensures.refused;
    })

pub returns-then-has_text-clause-played : goal.returns-then-has_text-clause-played
returns-then-has_text-clause-played g c =
    let id = c.args.book.table.shared.table_id in
    let scenario = c.args.scenario.now in
    let ready = c.requires.ready in
    let made = c.args.seats.items in
    let back = c.play_all-played.new.seats.items in
    let book = c.close-history.result.book in
    let history = c.close-history.result.history in
    let same = c.unseat.ensures.passes ∙ ap (λ (l : List TurnPass). l ++ passes_in back) ready.alone in
    record {
      back = links_in back;
      many = many-links made back (length scenario.documents) ready.made.documents c.play_all-played.ensures.documents;
      taken = c.unseat.ensures.back;
      counted = c.unseat.ensures.faults;
      are_so = closed-play (over_link g.N.Link.Link.serves) g.N.Link.Link.told
          scenario c.args.base id ready.first made back book history ready.made
          (documents-in back (length scenario.documents) c.play_all-played.ensures.documents)
          (subst (λ (l : List TurnPass). IsOneHistory l book history) same c.close-history.ensures)
          c.in_ok-transcripts.transcripts c.in_ok-transcripts.ensures.played (c.has_text.ensures.0 c.if-has_text.true);
    }

pub returns-else-has_text-clause-refused : goal.returns-else-has_text-clause-refused
returns-else-has_text-clause-refused g c =
    let id = c.args.book.table.shared.table_id in
    let scenario = c.args.scenario.now in
    let ready = c.requires.ready in
    let made = c.args.seats.items in
    let back = c.play_all-played.new.seats.items in
    let book = c.close-history.result.book in
    let history = c.close-history.result.history in
    let same = c.unseat.ensures.passes ∙ ap (λ (l : List TurnPass). l ++ passes_in back) ready.alone in
    record {
      back = links_in back;
      many = many-links made back (length scenario.documents) ready.made.documents c.play_all-played.ensures.documents;
      taken = c.unseat.ensures.back;
      counted = c.unseat.ensures.faults;
      are_so = closed-played (over_link g.N.Link.Link.serves) g.N.Link.Link.told
          scenario c.args.base id ready.first made back book history ready.made
          (documents-in back (length scenario.documents) c.play_all-played.ensures.documents)
          (subst (λ (l : List TurnPass). IsOneHistory l book history) same c.close-history.ensures)
          c.in_ok-transcripts.transcripts c.in_ok-transcripts.ensures.played;
    }
