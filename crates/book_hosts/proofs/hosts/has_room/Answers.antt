use Rattle.std.proofs.Common.{is_some, lt-ltb, ap, sym, ◌∙◌, arith}
use Rattle.book_hosts.proofs.NotedLemmas.{room-few, room-full}
use Rattle.book_hosts.proofs.hosts.has_room.Goals as goal

pub returns-then-len-lt-MOST_HOSTS : goal.returns-then-len-lt-MOST_HOSTS
returns-then-len-lt-MOST_HOSTS c =
    lt-ltb c.len.result 4096 c.if-len-lt-MOST_HOSTS.true
    ∙ sym (room-few c.args.host.now c.args.index.now (omega (arith, c.len.ensures.len)))

pub returns-else-len-lt-MOST_HOSTS : goal.returns-else-len-lt-MOST_HOSTS
returns-else-len-lt-MOST_HOSTS c =
    c.is_some.ensures ∙ ap (λ found. is_some found) c.term_of.ensures.term
    ∙ room-full c.args.host.now c.args.index.now c.requires (omega (arith, c.len.ensures.len))
