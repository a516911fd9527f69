use Rattle.server_tables.proofs.serving.serve.Goals as goal

pub returns-in-Err : goal.returns-in-Err
returns-in-Err g c = c.in-Err.ensures.stopped c.args.table.now
