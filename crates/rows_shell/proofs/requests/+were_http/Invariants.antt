use Rattle.std.proofs.Common.{length}
use Rattle.rows_shell.proofs.requests.+were_http.Given as goal

abbrev pub decreases-were_http : goal.decreases-were_http
decreases-were_http l = length l.urls.now
