-- How the asks of a link in memory are kept: their bytes one after another, and how many each has.
use Rattle.std.specs.Prelude.{ℕ, ◌+◌, List, [], ◌∷◌, take, drop}
use Rattle.value_text.specs.Texts.{Text}
use Rattle.link_traits.specs.declared.kept_asks.AskSize.{AskSize}
use Rattle.link_traits.specs.declared.target.Ask.{Ask}

-- the asks of these sizes, whose bytes follow one another in a text
abbrev pub asks_in : List AskSize → Text → List Ask
asks_in [] text = []
asks_in (size ∷ sizes) text =
    let behind = drop size.origin text in
    record { origin = take size.origin text; request = take size.request behind }
    ∷ asks_in sizes (drop size.request behind)

-- how many bytes they have together
abbrev pub bytes_of : List AskSize → ℕ
bytes_of [] = 0
bytes_of (size ∷ sizes) = size.origin + (size.request + bytes_of sizes)
