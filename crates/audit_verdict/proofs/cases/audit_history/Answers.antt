use Rattle.std.proofs.Common.{◌≡◌, ◌∙◌, ℕ, List, ap, subst, sym}
use Rattle.std.specs.List.{All}
use Rattle.book_calls.specs.declared.book.Book.{Book}
use Rattle.book_calls.specs.declared.entry.Entry.{Entry}
use Rattle.book_calls.specs.Book.{empty}
use Rattle.book_calls.specs.Ops.{InRange}
use Rattle.play_definitions.specs.Plays.{opening_book, with_hosts}
use Rattle.script_scenarios.specs.declared.hosts.KnownHost.{KnownHost}
use Rattle.audit_replay.specs.Legality.{AreRight, IsIllegalAt, IsJudged, first_stranger}
use Rattle.audit_verdict.proofs.VerdictLemmas.{held-in-range, illegal-verdict, stranger-verdict}
use Rattle.audit_verdict.proofs.cases.audit_history.Goals as goal

pub first_illegal-requires : goal.first_illegal-requires
first_illegal-requires c =
    subst (All (λ (e : Entry). InRange e.op)) (sym c.as_slice-2.ensures)
    (held-in-range c.args.play.now c.args.history.now c.requires.holds)

pub returns-in-Some : goal.returns-in-Some
returns-in-Some c =
    let scenario = c.args.scenario.now in
    let history = c.args.history.now in
    let book = c.in_ok-book.book in
    let opens : book ≡ opening_book scenario =
    c.in_ok-book.ensures ∙ ap (λ (h : List KnownHost). with_hosts h empty) c.as_slice.ensures in
    illegal-verdict scenario c.args.play.now history c.requires.holds c.in-Some.index
    (subst (λ (b : Book). IsIllegalAt b history c.in-Some.index) opens
    (subst (λ (h : List Entry). IsIllegalAt book h c.in-Some.index) c.as_slice-2.ensures
    (subst (IsJudged book c.as_slice-2.result.now) c.in-Some.is c.in_ok-index.ensures)))

pub returns-in-Some-first_stranger : goal.returns-in-Some-first_stranger
returns-in-Some-first_stranger c =
    let scenario = c.args.scenario.now in
    let history = c.args.history.now in
    let book = c.in_ok-book.book in
    let opens : book ≡ opening_book scenario =
    c.in_ok-book.ensures ∙ ap (λ (h : List KnownHost). with_hosts h empty) c.as_slice.ensures in
    stranger-verdict scenario c.args.play.now history c.requires.holds
    (subst (λ (b : Book). AreRight b 0 history) opens
    (subst (AreRight book 0) c.as_slice-2.ensures
    (subst (IsJudged book c.as_slice-2.result.now) c.in_default.is c.in_ok-index.ensures)))
    c.in-Some-first_stranger.index
    (ap (λ (n : ℕ). first_stranger n history) (sym c.len.ensures)
    ∙ ap (first_stranger c.len.result) (sym c.as_slice-3.ensures) ∙ sym c.in-Some-first_stranger.ensures)
