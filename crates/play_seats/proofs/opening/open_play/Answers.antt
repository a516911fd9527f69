use Rattle.std.proofs.Common.{◌≤◌, ℕ, ◌∙◌, List, [], ◌∷◌, ◌++◌, ap, arith, length, subst, sym}
use Rattle.book_calls.specs.declared.book.Book.{Book}
use Rattle.book_calls.specs.Book.{empty}
use Rattle.play_definitions.proofs.WorldLemmas.{on-err}
use Rattle.play_definitions.specs.Plays.{opening_book, with_hosts}
use Rattle.script_scenarios.specs.declared.hosts.KnownHost.{KnownHost}
use Rattle.book_turns.specs.Passes.{opening_of}
use Rattle.book_turns.specs.declared.pass.TurnPass.{TurnPass}
use Rattle.play_seats.specs.Makers.{maker_of}
use Rattle.play_seats.specs.Passes.{ArePasses}
use Rattle.play_seats.proofs.LinkLemmas.{none-back, seats-back, seats-made}
use Rattle.play_seats.proofs.SeatedLemmas.{as-many}
use Rattle.play_seats.proofs.opening.open_play.Goals as goal

pub returns-in_err-opening-clause-refused : goal.returns-in_err-opening-clause-refused
returns-in_err-opening-clause-refused g c = on-err c.from_residual.result (none-back g.N.Link.Link.told
    (maker_of g.N.Links.opening g.N.Links.lent g.N.Links.faults c.args.links.now) c.args.scenario.now)

pub returns-in_err-book-clause-refused : goal.returns-in_err-book-clause-refused
returns-in_err-book-clause-refused g c = on-err c.from_residual-in_err-book.result (none-back g.N.Link.Link.told
    (maker_of g.N.Links.opening g.N.Links.lent g.N.Links.faults c.args.links.now) c.args.scenario.now)

pub returns-in_err-made-clause-refused : goal.returns-in_err-made-clause-refused
returns-in_err-made-clause-refused g c = on-err c.from_residual-in_err-made.result (none-back g.N.Link.Link.told
    (maker_of g.N.Links.opening g.N.Links.lent g.N.Links.faults c.args.links.now) c.args.scenario.now)

pub returns-in_err-seats-clause-refused : goal.returns-in_err-seats-clause-refused
returns-in_err-seats-clause-refused g c = on-err c.from_residual-in_err-seats.result (none-back g.N.Link.Link.told
    (maker_of g.N.Links.opening g.N.Links.lent g.N.Links.faults c.args.links.now) c.args.scenario.now)

pub returns-in_err-passes-clause-refused : goal.returns-in_err-passes-clause-refused
returns-in_err-passes-clause-refused g c = on-err c.from_residual-in_err-passes.result (none-back g.N.Link.Link.told
    (maker_of g.N.Links.opening g.N.Links.lent g.N.Links.faults c.args.links.now) c.args.scenario.now)

-- as many passes as documents
pub seat_all-requires-clause-room : goal.seat_all-requires-clause-room
seat_all-requires-clause-room g c κs within =
    omega (
      arith,
      as-many (λ (p : TurnPass). p.document) c.in_ok-made.made.items c.len-count.result
          c.in_ok-made.ensures.passes.documents,
      c.in_ok-made.made.ok.0,
      c.in_ok-seats.ensures.capacity,
    )

pub seat_all-requires-clause-few : goal.seat_all-requires-clause-few
seat_all-requires-clause-few g c κs within =
    omega (
      arith,
      as-many (λ (p : TurnPass). p.document) c.in_ok-made.made.items c.len-count.result
          c.in_ok-made.ensures.passes.documents,
      c.in_ok-made.made.ok.0,
      c.len-count.ensures,
      c.requires.few_documents,
    )

pub unseat-requires-clause-room : goal.unseat-requires-clause-room
unseat-requires-clause-room g c κs within =
    omega (
      arith,
      as-many (λ (p : TurnPass). p.document) c.in_ok-made.made.items c.len-count.result
          c.in_ok-made.ensures.passes.documents,
      c.in_ok-made.made.ok.0,
      c.seat_all.new.seats.ok.0,
      c.in-Err.ensures.few,
      c.in_ok-passes.ensures.capacity,
      c.in_ok-passes.ensures.len,
      c.push_reserved.ensures.capacity,
      c.push_reserved.ensures.len,
    )

-- the seats are ready
pub returns-in-Ok-clause-ready : goal.returns-in-Ok-clause-ready
returns-in-Ok-clause-ready g c =
    let id = c.in_ok-book.book.table.shared.table_id in
    let scenario = c.args.scenario.now in
    let first = c.passes_of.new.first in
    let made = c.in_ok-made.made.items in
    let opens = c.in_ok-book.ensures.first.1 ∙ c.in_ok-opening.ensures ∙ ap
    (λ (hosts : List KnownHost). with_hosts hosts empty) c.as_slice.ensures in
    let counted = subst (λ (n : ℕ). ArePasses id (opening_of c.in_ok-book.first) n first made) c.len-count.ensures
    c.in_ok-made.ensures.passes in
    let are = subst (λ (b : Book). ArePasses id b (length scenario.documents) first made) opens counted in
    record {
      first = first;
      alone = c.push_reserved.ensures.items ∙ ap (λ (l : List TurnPass). l ++ first ∷ []) c.in_ok-passes.ensures.items;
      made = subst (ArePasses id (opening_book scenario) (length scenario.documents) first) (sym c.in-Ok.ensures.passes)
          are;
    }

pub returns-in-Ok-clause-room : goal.returns-in-Ok-clause-room
returns-in-Ok-clause-room g c =
    omega (
      arith,
      as-many (λ (p : TurnPass). p.document) c.in_ok-made.made.items c.len-count.result
          c.in_ok-made.ensures.passes.documents,
      c.in_ok-made.made.ok.0,
      c.seat_all.new.seats.ok.0,
      c.in-Ok.ensures.few,
      c.in_ok-passes.ensures.capacity,
      c.in_ok-passes.ensures.len,
      c.push_reserved.ensures.capacity,
      c.push_reserved.ensures.len,
    )

pub returns-in-Ok-clause-made : goal.returns-in-Ok-clause-made
returns-in-Ok-clause-made g c =
    let scenario = c.args.scenario.now in
    let told = maker_of g.N.Links.opening g.N.Links.lent g.N.Links.faults in
    let few : length c.seat_all.new.seats.items ≤ length scenario.documents =
    omega (
      arith,
      as-many (λ (p : TurnPass). p.document) c.in_ok-made.made.items c.len-count.result
          c.in_ok-made.ensures.passes.documents,
      c.in_ok-made.made.ok.0,
      c.len-count.ensures,
      c.in-Ok.ensures.few,
    ) in
    seats-made (told c.args.links.now) (told c.seat_all.new.links) scenario c.seat_all.new.seats.items
    c.in-Ok.ensures.opened few c.in-Ok.ensures.out c.in-Ok.ensures.faults

pub returns-in-Err-clause-refused : goal.returns-in-Err-clause-refused
returns-in-Err-clause-refused g c =
    let scenario = c.args.scenario.now in
    let told = maker_of g.N.Links.opening g.N.Links.lent g.N.Links.faults in
    let few : length c.seat_all.new.seats.items ≤ length scenario.documents =
    omega (
      arith,
      as-many (λ (p : TurnPass). p.document) c.in_ok-made.made.items c.len-count.result
          c.in_ok-made.ensures.passes.documents,
      c.in_ok-made.made.ok.0,
      c.len-count.ensures,
      c.in-Err.ensures.few,
    ) in
    seats-back (told c.args.links.now) (told c.seat_all.new.links) scenario c.seat_all.new.seats.items
    c.in-Err.ensures.opened few c.in-Err.ensures.out c.in-Err.ensures.faults g.N.Link.Link.told
    (told c.unseat.new.links) c.unseat.ensures.back c.unseat.ensures.faults
