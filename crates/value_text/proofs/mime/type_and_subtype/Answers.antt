use Rattle.std.proofs.Common.{◌∙◌, sym}
use Rattle.value_text.proofs.MimeLemmas.{essence-within, type_and_subtype-Some}
use Rattle.value_text.proofs.mime.type_and_subtype.Goals as goal

pub split_at-requires : goal.split_at-requires
split_at-requires c =
    let subtype = rw c.subtype_of-subtype.ensures at (sym c.is_token-then-is_token.ensures ∙ c.if-is_token-2.true) in
    rw (c.type_of-kind.ensures, c.subtype_of-subtype.ensures) (essence-within c.args.text.now subtype)

pub returns-then-is_token-2 : goal.returns-then-is_token-2
returns-then-is_token-2 c =
    let kind = rw c.type_of-kind.ensures at (sym c.is_token.ensures ∙ c.if-is_token.true) in
    let subtype = rw c.subtype_of-subtype.ensures at (sym c.is_token-then-is_token.ensures ∙ c.if-is_token-2.true) in
    type_and_subtype-Some c.args.text.now c.split_at.result.0.now kind subtype
    (rw (c.type_of-kind.ensures, c.subtype_of-subtype.ensures) at c.split_at.ensures.front)
