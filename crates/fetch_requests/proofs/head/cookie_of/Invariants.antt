use Rattle.std.proofs.Common.{◌≡◌, drop}
use Rattle.fetch_requests.specs.Heads.{cookie_of}
use Rattle.fetch_requests.proofs.head.cookie_of.Given as goal

abbrev pub invariant-loop-cookie : goal.invariant-loop-cookie
invariant-loop-cookie l = cookie_of l.origin l.cookies ≡ cookie_of l.origin (drop l.cookie-index l.cookies)
