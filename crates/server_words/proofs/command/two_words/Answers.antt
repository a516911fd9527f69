use Rattle.std.proofs.Common.{◌≡◌, ◌∙◌, codes, ap, subst, sym, inl, inr, []}
use Rattle.clap.specs.Faults.{fault_of, is_simple_and_free}
use Rattle.clap.specs.Kinds.{IsAmong}
use Rattle.clap.specs.Matches.{found_of}
use Rattle.clap.specs.Simple.{App, app_of, is_simple, matches_of}
use Rattle.clap.specs.Values.{kind_of}
use Rattle.clap.specs.Walk.{first_of}
use Rattle.clap.proofs.WalkLemmas.{first_value-rows}
use Rattle.server_words.specs.Private.Command.{two_texts}
use Rattle.server_words.specs.Words.{texts}
use Rattle.server_words.proofs.CommandLemmas.{both-now, read, refused}
use Rattle.server_words.proofs.command.two_words.Goals as goal

pub returns-in-Ok : goal.returns-in-Ok
returns-in-Ok c =
    let words = texts c.args.words.now in
    let is : app_of c.in_ok-command.command ≡ two_texts = c.in_ok-command.ensures in
    let passes : fault_of two_texts words ≡ [] =
    ap (λ (app : App). fault_of app words) (sym is) ∙ c.in-Ok.ensures.kinds (ap is_simple_and_free is) in
    let rows = (c.in-Ok.ensures.matches (ap is_simple is)).0 ∙ ap (λ (app : App). matches_of app words) is in
    let found = found_of c.in-Ok.matches in
    ap both-now c.zip.ensures
    ∙ read words c.get_str.result c.get_str-in-Ok.result c.requires passes
    (c.get_str.ensures ∙ first_value-rows found (codes "address") ∙ ap (first_of (codes "address")) rows)
    (c.get_str-in-Ok.ensures ∙ first_value-rows found (codes "number") ∙ ap (first_of (codes "number")) rows)

pub returns : goal.returns
returns c =
    let words = texts c.args.words.now in
    let is : app_of c.in_ok-command.command ≡ two_texts = c.in_ok-command.ensures in
    let kind = kind_of c.in-Err.error in
    elim (c.in-Err.ensures.kinds (ap is_simple_and_free is)) [
      | inl memory ↦ absurd (c.in_default.not-OutOfMemory (c.kind.ensures ∙ memory))
      | inr fault ↦ refused words kind c.requires (subst (λ (app : App). IsAmong kind (fault_of app words)) is fault)
    ]
