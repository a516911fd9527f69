use Rattle.std.proofs.Common.{◌≡◌, ◌++◌, drop}
use Rattle.c_fetch.proofs.settings.cookies_copy.Given as goal

abbrev pub invariant-loop-cookie : goal.invariant-loop-cookie
invariant-loop-cookie l = l.copy ++ drop l.cookie-index l.cookies ≡ l.cookies
