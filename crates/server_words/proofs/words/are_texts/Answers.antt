use Rattle.std.proofs.Common.{◌∙◌, rules, tests, string_bytes, sym}
use Rattle.std.proofs.lemmas.Iterator.{YieldsList-from_slice}
use Rattle.std.proofs.lemmas.Iterator.Search.{all_from_yields_List}
use Rattle.std.proofs.lemmas.List.Folds.{list_all-map}
use Rattle.server_words.specs.Words.{is_text}
use Rattle.server_words.proofs.words.are_texts.Goals as goal

pub returns : goal.returns
returns c = all_from_yields_List (λ word. is_text (string_bytes word)) _ _ _ c.all.ensures.ran
    (YieldsList-from_slice c.args.words.now cc) (λ x b q k. search (rules, tests))
    ∙ sym (list_all-map is_text string_bytes c.args.words.now)
