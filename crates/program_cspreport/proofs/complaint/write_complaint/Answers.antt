use Rattle.std.proofs.Common.{List, Some, codes, subst, ℕ}
use Rattle.program_shell.specs.Complaints.{IsComplained}
use Rattle.program_shell.specs.Statuses.{line}
use Rattle.program_cspreport.proofs.complaint.write_complaint.Goals as goal

pub returns-in-Refused : goal.returns-in-Refused
returns-in-Refused g c = rw c.in-Refused.is
    (subst (λ (text : List ℕ). IsComplained (Some (line (codes "cspreport: fault 2 at ") text))
    (g.E.Sink.takes c.args.complaints.now) (g.E.Sink.takes c.complain-in-Refused.new.complaints)
    c.complain-in-Refused.result) c.as_slice.ensures c.complain-in-Refused.ensures)

pub returns-in-ReadFault : goal.returns-in-ReadFault
returns-in-ReadFault g c = rw c.in-ReadFault.is c.complain-in-ReadFault.ensures

pub returns-in-WriteFault : goal.returns-in-WriteFault
returns-in-WriteFault g c = rw c.in-WriteFault.is c.complain-in-WriteFault.ensures

pub returns-in-OutOfMemory : goal.returns-in-OutOfMemory
returns-in-OutOfMemory g c = rw c.in-OutOfMemory.is c.complain-in-OutOfMemory.ensures

pub returns-in-InputTooLong : goal.returns-in-InputTooLong
returns-in-InputTooLong g c = rw c.in-InputTooLong.is c.complain-in-InputTooLong.ensures
