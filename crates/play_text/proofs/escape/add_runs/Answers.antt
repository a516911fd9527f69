use Rattle.std.proofs.Common.{◌++◌, ◌∙◌, sym, ap, length, refl}
use Rattle.std.proofs.lemmas.List.Sums.{prefix_len-le-length}
use Rattle.script_lines.specs.Escapes as spec
use Rattle.play_text.proofs.AppendLemmas.{one_added}
use Rattle.play_text.proofs.EscapeLemmas.{escaped_run, escaped_plain}
use Rattle.play_text.proofs.escape.add_runs.Goals as goal

pub split_at-requires : goal.split_at-requires
split_at-requires c = rw c.plain_len.ensures (prefix_len-le-length spec.is_plain c.loop-byte.rest.now)

pub returns-in_default : goal.returns-in_default
returns-in_default c =
    c.in_ok-append.ensures
    ∙ ap (λ l. c.loop-byte.text ++ l)
    (sym (escaped_plain c.loop-byte.rest.now _ c.plain_len.result c.plain_len.ensures c.split_at.ensures.front
    (ap length (sym c.split_at.ensures.back) ∙ c.in_default.ensures.cases))) ∙ c.loop-byte.invariant

pub loop-byte-preserved : goal.loop-byte-preserved
loop-byte-preserved c =
    let run = escaped_run c.loop-byte.rest.now _ c.in-Some.after.now c.in-Some.byte.now c.plain_len.result
    c.plain_len.ensures c.split_at.ensures.front
    (sym c.split_at.ensures.back ∙ c.in-Some.ensures.cases.0) in
    let added = one_added _ _ _ _ _ _ c.loop-byte.invariant run c.in_ok-append.ensures in
    one_added _ _ _ _ _ _ added refl (rw c.hex_escape.ensures at c.in_ok-append-2.ensures)
