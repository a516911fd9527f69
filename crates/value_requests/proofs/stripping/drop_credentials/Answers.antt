use Rattle.std.proofs.Common.{[], rules}
use Rattle.value_requests.proofs.StripLemmas.{username-dropped, password-dropped}
use Rattle.value_requests.proofs.stripping.drop_credentials.Goals as goal

pub returns : goal.returns
returns c =
    let name = username-dropped c.args.url.now c.requires in
    let word = password-dropped (record c.args.url.now { username = [] }) c.requires in
    search rules
