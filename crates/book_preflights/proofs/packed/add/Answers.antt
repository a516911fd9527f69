use Rattle.std.proofs.Common.{length, length-append}
use Rattle.book_preflights.proofs.PackLemmas.{ends-more, texts-more}
use Rattle.book_preflights.proofs.packed.add.Goals as goal

pub returns-clause-ends : goal.returns-clause-ends
returns-clause-ends c =
    rw (
      c.in_ok-push.ensures.items,
      c.in_ok-extend_from_slice.ensures.items,
      length-append,
      c.in_ok-end.ensures,
      c.as_slice.ensures.value,
    ) (ends-more 0 (length c.args.bytes.now.items) (length c.args.text.now) c.args.ends.now.items c.requires)

pub returns-clause-texts : goal.returns-clause-texts
returns-clause-texts c =
    rw (
      c.in_ok-push.ensures.items,
      c.in_ok-extend_from_slice.ensures.items,
      c.in_ok-end.ensures,
      c.as_slice.ensures.value,
    ) (texts-more c.args.bytes.now.items c.args.text.now 0 c.args.ends.now.items c.requires)
