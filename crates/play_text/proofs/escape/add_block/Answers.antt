use Rattle.std.proofs.Common.{◌≡◌, true, sym, ◌∙◌}
use Rattle.std.specs.List.{list_all}
use Rattle.script_lines.specs.Escapes as spec
use Rattle.play_text.proofs.EscapeLemmas.{escaped-all_plain}
use Rattle.play_text.proofs.escape.add_block.Goals as goal

pub returns-then-are_plain : goal.returns-then-are_plain
returns-then-are_plain c =
    let plain : list_all spec.is_plain c.args.block.now ≡ true = sym c.are_plain.ensures ∙ c.if-are_plain.true in
    rw (escaped-all_plain c.args.block.now plain) c.append.ensures
