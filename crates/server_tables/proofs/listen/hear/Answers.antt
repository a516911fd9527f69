use Rattle.std.proofs.Common.{◌∙◌, ap, length, not, sym, subst, true≢false, List, ℕ}
use Rattle.std.specs.Prelude.{IfErr, IfOk}
use Rattle.link_http1.specs.RequestHeads.{IsRead}
use Rattle.server_tables.specs.Private.Coming.{HasHeard, Stopped}
use Rattle.server_tables.specs.Serving.{peer_told}
use Rattle.server_tables.proofs.ListenLemmas.{heard-later, heard-now, none-read, short-at_once, short-come}
use Rattle.server_tables.proofs.ListenLemmas.{unheard-after}
use Rattle.server_tables.proofs.listen.hear.Goals as goal
use Rattle.server_tables.proofs.listen.hear.Goals.{in-Ok-read_rest, in-Err}
use Rattle.server_tables.proofs.listen.hear.Goals.{else-found-via-then-found+else-is_none, else-found-via-else-found}

pub returns-in_default-clause-stopped : goal.returns-in_default-clause-stopped
returns-in_default-clause-stopped g c = λ _.
    short-at_once (peer_told g.P.Source.gives g.P.Sink.takes c.args.peer.now)

pub returns-in_default-read_request-clause-stopped : goal.returns-in_default-read_request-clause-stopped
returns-in_default-read_request-clause-stopped g c = λ _.
    short-come
    (peer_told g.P.Source.gives g.P.Sink.takes c.args.peer.now)
    (peer_told g.P.Source.gives g.P.Sink.takes c.read_block.new.peer)
    c.read_block.new.bytes.items c.in_ok-found.found c.in_ok-found.ensures.came

pub returns-then-is_none-clause-heard : goal.returns-then-is_none-clause-heard
returns-then-is_none-clause-heard g c =
    let first = peer_told g.P.Source.gives g.P.Sink.takes
    c.args.peer.now in
    let mid = peer_told g.P.Source.gives g.P.Sink.takes
    c.read_block.new.peer in
    let last = peer_told g.P.Source.gives g.P.Sink.takes
    c.read_rest.new.peer in
    elim c.match-read_rest.branch [
      | in-Ok-read_rest w ↦
          subst (λ r. IfOk r (HasHeard first last)) (sym w.result-is)
          (heard-later first mid last c.read_block.new.bytes.items c.in_ok-found.found
          (length c.as_slice-then-is_none.result.now)
          c.in_ok-found.ensures.came c.if-found.true
          (none-read c.read_block.new.bytes.items c.in-Ok-read_request.asked
          (subst (λ (l : List ℕ). IsRead l c.in-Ok-read_request.asked) c.as_slice.ensures.value
          c.in-Ok-read_request.ensures) (c.is_none.ensures ∙ ap not c.if-is_none.true))
          (ap length c.as_slice-then-is_none.ensures.value) w.in-Ok-read_rest.ensures.ended)
      | in-Err w ↦ subst (λ r. IfOk r (HasHeard first last)) (sym w.result-is) tt
    ]

pub returns-then-is_none-clause-stopped : goal.returns-then-is_none-clause-stopped
returns-then-is_none-clause-stopped g c =
    let first = peer_told g.P.Source.gives g.P.Sink.takes
    c.args.peer.now in
    let mid = peer_told g.P.Source.gives g.P.Sink.takes
    c.read_block.new.peer in
    let last = peer_told g.P.Source.gives g.P.Sink.takes
    c.read_rest.new.peer in
    elim c.match-read_rest.branch [
      | in-Ok-read_rest w ↦ subst (λ r. IfErr r (Stopped first last)) (sym w.result-is) tt
      | in-Err w ↦
          subst (λ r. IfErr r (Stopped first last)) (sym w.result-is)
          (λ _. unheard-after first mid last c.read_block.new.bytes.items c.in_ok-found.found
          (length c.as_slice-then-is_none.result.now)
          c.in_ok-found.ensures.came c.if-found.true
          (none-read c.read_block.new.bytes.items c.in-Ok-read_request.asked
          (subst (λ (l : List ℕ). IsRead l c.in-Ok-read_request.asked) c.as_slice.ensures.value
          c.in-Ok-read_request.ensures) (c.is_none.ensures ∙ ap not c.if-is_none.true))
          (ap length c.as_slice-then-is_none.ensures.value)
          w.in-Err.ensures.failed)
    ]

pub returns-clause-heard : goal.returns-clause-heard
returns-clause-heard g c =
    heard-now
    (peer_told g.P.Source.gives g.P.Sink.takes c.args.peer.now)
    (peer_told g.P.Source.gives g.P.Sink.takes c.read_block.new.peer)
    c.read_block.new.bytes.items c.in_ok-found.found c.in-Ok-read_request.asked c.in_ok-found.ensures.came
    (subst (λ (l : List ℕ). IsRead l c.in-Ok-read_request.asked) c.as_slice.ensures.value
    c.in-Ok-read_request.ensures)
    (λ found. elim c.else-found.branch [
      | else-found-via-then-found+else-is_none w ↦ w.is_none.ensures ∙ ap not w.if-is_none.false
      | else-found-via-else-found w ↦ absurd (true≢false (sym found ∙ w.if-found.false))
    ])
