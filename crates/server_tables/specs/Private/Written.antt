-- An answer as the code holds it.
use Rattle.server_tables.specs.Served.{Reply, reply_bytes}
use Rattle.server_tables.specs.declared.replies.Reply as declared

-- its status and its bytes
abbrev pub written : Reply → declared.Reply
written reply = record { status = reply.status; bytes = reply_bytes reply }
