use Rattle.std.proofs.Common.{◌≡◌, false, ap, sym, ◌∙◌}
use Rattle.policy_csp.proofs.HashLemmas.{passes-by-url}
use Rattle.policy_csp.specs.SourceLists.{integrity_matches, nonce_matches}
use Rattle.policy_integrity.specs.Metadata.{metadata_of}
use Rattle.policy_csp.proofs.listed.script_passes.Goals as goal

pub returns : goal.returns
returns c =
    let nonce : nonce_matches c.args.request.now.nonce c.args.sources.now ≡ false =
    sym (ap (λ value. nonce_matches value c.args.sources.now) c.as_slice.ensures) ∙ sym c.nonce_matches.ensures
    ∙ c.if-nonce_matches.false in
    let integrity : integrity_matches (metadata_of c.args.request.now.integrity) c.args.sources.now ≡ false =
    sym (ap (λ metadata. integrity_matches metadata c.args.sources.now) c.requires.metadata)
    ∙ sym c.in_ok-integrity_matches.ensures ∙ c.if-branch.false in
    passes-by-url (nonce_matches c.args.request.now.nonce c.args.sources.now)
    (integrity_matches (metadata_of c.args.request.now.integrity) c.args.sources.now) _ _ nonce integrity
    c.script_passes_by_url.ensures
