use Rattle.book_turns.proofs.Ends.{opens}
use Rattle.book_turns.proofs.book.TurnBook.new.Goals as goal

pub new-requires-2 : goal.new-requires-2
new-requires-2 c = rw (
  c.push_reserved.ensures.items,
  c.in_ok-slots.ensures.items,
  c.new.ensures,
  c.of-key.ensures,
) (opens c.args.book)
