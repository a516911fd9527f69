-- What the first pass is once it has taken in others.
use Rattle.std.specs.Prelude.{List, ◌++◌, map}
use Rattle.book_turns.specs.Private.Steps.{ending}
use Rattle.book_turns.specs.declared.pass.TurnPass.{TurnPass}
use Rattle.book_turns.specs.declared.view.Ended.{Ended}
use Rattle.book_turns.specs.declared.view.View.{View}

-- what is kept of these passes
abbrev pub endings : List TurnPass → List Ended
endings passes = map (λ p. ending p.seat.me.0) passes

-- the first view, once it has taken in these passes
abbrev pub taken_in : View → List TurnPass → View
taken_in v passes = record v { ended = endings passes ++ v.ended }
