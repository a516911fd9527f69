use Rattle.play_threads.proofs.Words.{◌∙◌, ◌≡◌, IfOk-weaker, ap, inl, inr, length, map, refl, seat_of, seatings_of}
use Rattle.play_threads.proofs.Words.{sym}
use Rattle.play_threads.proofs.Words.{transcripts_of}
use Rattle.play_definitions.proofs.WorldLemmas.{on-err}
use Rattle.play_threads.proofs.SeatLemmas.{belong-back, documents-after, documents-before, played-back, ready}
use Rattle.play_threads.proofs.SeatLemmas.{written}
use Rattle.play_threads.proofs.threads.play_all.Goals as goal

pub returns-in_err-transcripts-clause-documents : goal.returns-in_err-transcripts-clause-documents
returns-in_err-transcripts-clause-documents g c = documents-before (seat_of g.S.Share.account g.L.Link.told)
    c.args.scenario.now c.args.seats.now.items c.requires.seats

pub returns-in_err-rows-clause-documents : goal.returns-in_err-rows-clause-documents
returns-in_err-rows-clause-documents g c =
    rw c.in_err-rows.ensures.err (documents-before (seat_of g.S.Share.account g.L.Link.told)
    c.args.scenario.now c.args.seats.now.items c.requires.seats)

pub play_rows-requires-clause-rows : goal.play_rows-requires-clause-rows
play_rows-requires-clause-rows g c κs within =
    let same = c.in_ok-rows.ensures.ok.0 in
    rw c.as_mut_slice.ensures.value (ready _ (seat_of g.S.Share.account g.L.Link.told) c.args.scenario.now
    c.in_ok-rows.rows.items (rw same c.requires.seats)
    (rw same c.requires.belong))

pub returns : goal.returns
returns g c =
    let seen = seat_of g.S.Share.account g.L.Link.told in
    let olds = c.in_ok-rows.rows.items in
    let news = c.play_rows.new.rows in
    let w = c.as_mut_slice.ensures in
    let kept : length news ≡ length olds = c.play_rows.auto.rows ∙ ap length w.value in
    let same = written c.in_ok-rows.rows.len news olds kept (ap length (sym w.value) ∙ w.len) in
    let seats = c.from_rows.ensures.seats ∙ ap seatings_of same in
    let each = rw w.value at c.play_rows.ensures in
    let played = rw (← seats, c.in_ok-rows.ensures.ok.0, ← c.from_rows.ensures.transcripts ∙ ap transcripts_of same) at
    (played-back _ seen olds news kept (rw c.in_ok-rows.ensures.ok.0 c.requires.seats) each) in
    record {
      played = IfOk-weaker c.listed.result _ _ (λ list is. rw is played) c.listed.ensures;
      refused = on-err c.listed.result (inr (record { transcripts = _; played = played }));
      belong = rw seats (belong-back _ seen olds news kept each);
      documents = documents-after seen c.from_rows.new.seats.items played;
    }

pub returns-in_err-rows-clause-refused : goal.returns-in_err-rows-clause-refused
returns-in_err-rows-clause-refused g c = on-err c.from_residual-in_err-rows.result
    (inl (ap (map (seat_of g.S.Share.account g.L.Link.told)) c.in_err-rows.ensures.err))

pub returns-in_err-transcripts-clause-refused : goal.returns-in_err-transcripts-clause-refused
returns-in_err-transcripts-clause-refused g c = on-err c.from_residual.result (inl refl)
