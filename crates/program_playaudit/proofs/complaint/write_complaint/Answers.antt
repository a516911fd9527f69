use Rattle.program_playaudit.proofs.complaint.write_complaint.Goals as goal

pub returns-in-ReadFault : goal.returns-in-ReadFault
returns-in-ReadFault g c = rw c.in-ReadFault.is c.complain-in-ReadFault.ensures

pub returns-in-WriteFault : goal.returns-in-WriteFault
returns-in-WriteFault g c = rw c.in-WriteFault.is c.complain-in-WriteFault.ensures

pub returns-in-OutOfMemory : goal.returns-in-OutOfMemory
returns-in-OutOfMemory g c = rw c.in-OutOfMemory.is c.complain-in-OutOfMemory.ensures

pub returns-in-InputTooLong : goal.returns-in-InputTooLong
returns-in-InputTooLong g c = rw c.in-InputTooLong.is c.complain-in-InputTooLong.ensures

pub returns-in-OwnFault : goal.returns-in-OwnFault
returns-in-OwnFault g c = rw c.in-OwnFault.is c.complain-in-OwnFault.ensures
