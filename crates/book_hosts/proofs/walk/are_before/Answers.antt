use Rattle.std.proofs.Common.{◌∙◌, ap}
use Rattle.std.specs.Ordering.{is_lt}
use Rattle.value_text.specs.Orders.{text_cmp}
use Rattle.book_hosts.proofs.NameLemmas.{bytes_of}
use Rattle.book_hosts.proofs.WalkLemmas.{last-decides}
use Rattle.book_hosts.proofs.walk.are_before.Goals as goal

pub returns-in-Some : goal.returns-in-Some
returns-in-Some c =
    c.is_lt.ensures ∙ ap is_lt c.cmp.ensures
    ∙ ap (λ text. is_lt (text_cmp text c.args.host.now)) c.as_slice.ensures.value
    ∙ last-decides bytes_of c.args.host.now c.in-Some.last.now c.in-Some.field-0-1.now c.args.terms.now.entries _
    c.in-Some.ensures.last c.in-Some.ensures.all_up_to
