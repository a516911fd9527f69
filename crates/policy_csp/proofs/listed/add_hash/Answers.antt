use Rattle.std.proofs.Common.{◌||◌, ap, sym, ◌∙◌}
use Rattle.policy_csp.proofs.HashLemmas.{added-hash}
use Rattle.policy_csp.specs.Private.Hashes.{is_in}
use Rattle.policy_csp.specs.SourceLists.{is_hash}
use Rattle.policy_csp.proofs.listed.add_hash.Goals as goal

pub returns-in_ok-insert-in-Hash : goal.returns-in_ok-insert-in-Hash
returns-in_ok-insert-in-Hash c = λ hash.
    added-hash c.args.hashes.now.keys c.insert.new.self.keys c.in-Hash.algorithm c.as_slice.result
    c.in-Hash.value c.as_slice.ensures c.in_ok-insert-in-Hash.ensures.updates.0 hash
    ∙ ap (λ source. is_hash hash source || is_in hash c.args.hashes.now.keys) (sym c.in-Hash.is)
