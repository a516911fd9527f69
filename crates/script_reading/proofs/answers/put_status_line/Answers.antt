use Rattle.std.proofs.Common.{codes}
use Rattle.value_lemmas.proofs.Lists.{append-three}
use Rattle.script_reading.proofs.answers.put_status_line.Goals as goal

pub returns : goal.returns
returns c =
    append-three c.args.text.now.items (codes "HTTP/1.1 ") c.args.status.now (codes " Scripted\r\n")
    c.extend_from_slice.new.self.items c.extend_from_slice-2.new.self.items c.extend_from_slice-3.new.self.items
    c.in_ok-extend_from_slice.ensures.items c.in_ok-extend_from_slice-2.ensures.items
    c.in_ok-extend_from_slice-3.ensures.items
