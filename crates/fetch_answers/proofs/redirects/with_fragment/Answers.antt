use Rattle.fetch_answers.proofs.FragmentLemmas.{fragment_set}
use Rattle.fetch_answers.proofs.redirects.with_fragment.Goals as goal

pub returns-in-Ok : goal.returns-in-Ok
returns-in-Ok c =
    let same = fragment_set c.args.url c.args.fragment.now c.requires.valid c.requires.kept in
    let set = c.in-Ok.ensures in
    cc (set.0, same)
