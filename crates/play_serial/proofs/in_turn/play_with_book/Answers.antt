use Rattle.std.proofs.Common.{List, ap, rules, ◌∙◌}
use Rattle.book_calls.specs.Book.{empty}
use Rattle.play_definitions.specs.Plays.{with_hosts}
use Rattle.play_serial.proofs.SoFarLemmas.{all-came, none-came}
use Rattle.play_serial.proofs.in_turn.play_with_book.Goals as goal
use Rattle.script_scenarios.specs.declared.hosts.KnownHost.{KnownHost}

pub loop-number-init : goal.loop-number-init
loop-number-init c =
    none-came c.args.scenario.now
    (record { book = c.in_ok-book.book; history = c.new-history.result; transcripts = c.new-transcripts.result })
    (c.in_ok-book.ensures ∙ ap (λ (h : List KnownHost). with_hosts h empty) c.as_slice.ensures) c.new-history.ensures
    c.new-transcripts.ensures

pub returns-clause-played : goal.returns-clause-played
returns-clause-played c =
    all-came c.args.scenario.now c.loop-number.number c.loop-number.so_far c.loop-number.invariant (search rules)
