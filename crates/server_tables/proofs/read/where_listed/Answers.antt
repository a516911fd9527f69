use Rattle.std.proofs.Common.{◌∙◌, ap, sym, map, List, ℕ, Some, Option}
use Rattle.server_tables.specs.Reading.{may_be_listed}
use Rattle.server_tables.proofs.LineLemmas.{where-no, where-yes}
use Rattle.server_tables.proofs.ReplyLemmas.{all-mapped}
use Rattle.server_tables.proofs.read.where_listed.Goals as goal

pub returns-in_ok-copies : goal.returns-in_ok-copies
returns-in_ok-copies c =
    ap (λ (l : List (List ℕ)). let list : Option (List (List ℕ)) = Some l in list) c.in_ok-copies.ensures
    ∙ sym (where-yes (map (λ text. text.now) c.args.texts.now)
    (all-mapped may_be_listed (λ text. text.now) c.args.texts.now ∙ sym c.if-may_all_be_listed.ensures))

pub returns-else-may_all_be_listed : goal.returns-else-may_all_be_listed
returns-else-may_all_be_listed c =
    sym (where-no (map (λ text. text.now) c.args.texts.now)
    (all-mapped may_be_listed (λ text. text.now) c.args.texts.now ∙ sym c.if-may_all_be_listed.ensures))
