use Rattle.std.proofs.Common.{◌∙◌, ◌++◌, ◌≤◌, ap, sym, refl, subst, arith, take, length, true≢false, List, None, [], ℕ}
use Rattle.std.proofs.lemmas.List.{length-take}
use Rattle.server_tables.specs.Private.Coming.{Gives, HasBlock, IsSearched}
use Rattle.link_http1.specs.RequestHeads.{IsRead}
use Rattle.server_tables.specs.Serving.{AskedOn, most_read, peer_told}
use Rattle.server_tables.proofs.ListenLemmas.{asked-all, asked-more, grown, none-yet, nothing-yet, unread}
use Rattle.server_tables.proofs.ListenLemmas.{unsearched}
use Rattle.server_tables.proofs.listen.read_block.Goals as goal

pub returns-in_default-clause-stopped : goal.returns-in_default-clause-stopped
returns-in_default-clause-stopped g c =
    let is = c.loop-buffer.invariant in
    let bytes : List ℕ = c.loop-buffer.bytes.items in
    let grew = grown g.P.Source.gives g.P.Sink.takes g.P.Source.beside
    g.met.P.Peer.reads_beside c.args.peer.now c.loop-buffer.peer c.read.new.self bytes c.read.new.buf c.in-Ok.count
    is.gives c.in-Ok.ensures.gave c.in-Ok.ensures.beside (omega (
      arith,
      c.read.auto.buf,
      length-take c.min-room.result c.loop-buffer.buffer,
      c.min-room.ensures,
      c.len-in-loop-buffer.ensures,
      is.few,
    )) in
    λ _. record {
      bytes = bytes ++ take c.in-Ok.count c.read.new.buf;
      gave = grew.0.gave;
      few = grew.1;
      asked_on = asked-more bytes (take c.in-Ok.count c.read.new.buf) is.none (omega (
        arith,
        length-take c.in-Ok.count c.read.new.buf,
        c.read.auto.buf,
        length-take c.min-room.result c.loop-buffer.buffer,
        c.min-room.ensures,
      ));
      quiet = c.in-Ok.ensures.cause.quiet ∙ is.quiet;
      sink = grew.0.sink;
    }

pub returns-then-finds_block-clause-came : goal.returns-then-finds_block-clause-came
returns-then-finds_block-clause-came g c =
    let is = c.loop-buffer.invariant in
    let bytes : List ℕ = c.loop-buffer.bytes.items in
    let grew = grown g.P.Source.gives g.P.Sink.takes g.P.Source.beside
    g.met.P.Peer.reads_beside c.args.peer.now c.loop-buffer.peer c.read.new.self bytes c.read.new.buf c.in-Ok.count
    is.gives c.in-Ok.ensures.gave c.in-Ok.ensures.beside (omega (
      arith,
      c.read.auto.buf,
      length-take c.min-room.result c.loop-buffer.buffer,
      c.min-room.ensures,
      c.len-in-loop-buffer.ensures,
      is.few,
    )) in
    record {
      gives = subst (λ (l : List ℕ). Gives
          (peer_told g.P.Source.gives g.P.Sink.takes c.args.peer.now)
          (peer_told g.P.Source.gives g.P.Sink.takes c.read.new.self) l)
          (sym c.in-Ok-extend_from_slice.ensures.items) grew.0;
      few = subst (λ (l : List ℕ). length l ≤ most_read) (sym c.in-Ok-extend_from_slice.ensures.items) grew.1;
      quiet = c.in-Ok.ensures.cause.quiet ∙ is.quiet;
      block = λ _. subst HasBlock c.as_slice.ensures.value (c.if-finds_block.ensures.found refl);
      over = λ no. absurd (true≢false no);
      asked_on = subst AskedOn (sym c.in-Ok-extend_from_slice.ensures.items)
          (asked-more bytes (take c.in-Ok.count c.read.new.buf) is.none (omega (
            arith,
            length-take c.in-Ok.count c.read.new.buf,
            c.read.auto.buf,
            length-take c.min-room.result c.loop-buffer.buffer,
            c.min-room.ensures,
          )));
    }

pub loop-buffer-preserved : goal.loop-buffer-preserved
loop-buffer-preserved g c =
    let is = c.loop-buffer.invariant in
    let bytes : List ℕ = c.loop-buffer.bytes.items in
    let grew = grown g.P.Source.gives g.P.Sink.takes g.P.Source.beside
    g.met.P.Peer.reads_beside c.args.peer.now c.loop-buffer.peer c.read.new.self bytes c.read.new.buf c.in-Ok.count
    is.gives c.in-Ok.ensures.gave c.in-Ok.ensures.beside (omega (
      arith,
      c.read.auto.buf,
      length-take c.min-room.result c.loop-buffer.buffer,
      c.min-room.ensures,
      c.len-in-loop-buffer.ensures,
      is.few,
    )) in
    let searched = c.if-finds_block.ensures.searched refl in
    let all = c.if-finds_block.ensures.all refl in
    let none : IsRead c.extend_from_slice.new.self.items None =
    subst (λ (l : List ℕ). IsRead l None) c.as_slice.ensures.value
    (unread c.finds_block.new.self c.as_slice.result.now searched all) in
    record {
      gives = subst (λ (l : List ℕ). Gives
          (peer_told g.P.Source.gives g.P.Sink.takes c.args.peer.now)
          (peer_told g.P.Source.gives g.P.Sink.takes c.read.new.self) l)
          (sym c.in-Ok-extend_from_slice.ensures.items) grew.0;
      few = subst (λ (l : List ℕ). length l ≤ most_read) (sym c.in-Ok-extend_from_slice.ensures.items) grew.1;
      searched = subst (λ (l : List ℕ). IsSearched c.finds_block.new.self l) c.as_slice.ensures.value
          (c.if-finds_block.ensures.searched refl);
      quiet = c.in-Ok.ensures.cause.quiet ∙ is.quiet;
      all = c.if-finds_block.ensures.all refl ∙ ap length c.as_slice.ensures.value;
      none = none;
      asked_on = asked-all c.extend_from_slice.new.self.items none;
    }

pub loop-buffer-init : goal.loop-buffer-init
loop-buffer-init g c = rw c.requires (record {
  gives = nothing-yet (peer_told g.P.Source.gives g.P.Sink.takes c.args.peer.now);
  few = omega arith;
  searched = unsearched;
  quiet = refl;
  all = refl;
  none = none-yet;
  asked_on = asked-all [] none-yet;
})
