use Rattle.std.proofs.Common.{◌≡◌, ◌∙◌, rules, ap, ap₂, codes, true}
use Rattle.std.proofs.lemmas.Result.{IfOk-weaker}
use Rattle.clap.specs.Simple.{Shape, app_of, app_of_fields, new_app, on_top, with_rule}
use Rattle.clap.specs.Walk.{rule_of}
use Rattle.server_words.specs.Private.Command.{bare, required_text}
use Rattle.server_words.proofs.command.two_texts.Goals as goal

pub returns : goal.returns
returns c =
    let address : rule_of c.action-address.result ≡ required_text (codes "address") = search rules in
    let number : rule_of c.action-number.result ≡ required_text (codes "number") = search rules in
    let unnamed : app_of c.no_binary_name.result
    ≡ on_top (λ top. record top { no_binary_name = true }) (new_app (codes "corsserve")) =
    ap app_of_fields c.no_binary_name.ensures
    ∙ ap (on_top (λ (top : Shape). record top { no_binary_name = true })) c.new-3.ensures.app in
    let bare_is : app_of c.disable_help_subcommand.result ≡ bare (codes "corsserve") =
    ap app_of_fields c.disable_help_subcommand.ensures
    ∙ ap (on_top (λ (top : Shape). record top { disable_help_subcommand = true }))
    (ap app_of_fields c.disable_version_flag.ensures
    ∙ ap (on_top (λ (top : Shape). record top { disable_version_flag = true }))
    (ap app_of_fields c.disable_help_flag.ensures
    ∙ ap (on_top (λ (top : Shape). record top { disable_help_flag = true })) unnamed)) in
    IfOk-weaker c.arg-2.result _ _
    (λ command added. added.shape (search rules)
    ∙ ap₂ with_rule (c.in_ok-arg.ensures.shape (search rules) ∙ ap₂ with_rule bare_is address) number) c.arg-2.ensures
