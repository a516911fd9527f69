-- What is kept of a header value while it is filled (private contracts).
use Rattle.std.specs.Prelude.{◌≡◌, ◌==◌, ◌++◌, ◌∷◌, [], Bool, not, nat_lt, length, take, drop, if◌then◌else◌}
use Rattle.std.specs.List.{list_all}
use Rattle.value_text.specs.Texts.{Text}
use Rattle.value_text.specs.Trims.{http_whitespace, trimmed, trimmed_end, trimmed_start}
use Rattle.value_text.specs.Values.{is_nul_or_newline}
use Rattle.script_filling.specs.Filling.{cut_value}

-- there is neither NUL nor CR nor LF
abbrev pub all_fit : Text → Bool
all_fit text = list_all (λ byte. not (is_nul_or_newline byte)) text

-- what stands for bytes that are not kept: a letter where not all of them are blank, and a line end where there is one
-- among the blanks at their end; NUL where another byte among them is none that a header value has
abbrev pub stand_in : Text → Text
stand_in rest =
    if length (trimmed_end http_whitespace rest) == 0 then (if all_fit rest then [] else 10 ∷ [])
    else if not (all_fit (trimmed_end http_whitespace rest)) then 0 ∷ []
    else if all_fit rest then 97 ∷ [] else 97 ∷ 10 ∷ []

-- a text without blanks at its start, and of what is behind its first 16,384 bytes what stands for it
abbrev pub squeezed_start : Text → Text
squeezed_start begun =
    if nat_lt 16384 (length begun) then take 16384 begun ++ stand_in (drop 16384 begun) else begun

abbrev pub squeezed : Text → Text
squeezed text = squeezed_start (trimmed_start http_whitespace text)

-- whatever follows, the two texts are cut to the same
abbrev pub CutAlike : Text → Text → Type 0
CutAlike one other =
    (more : Text)
    → cut_value (trimmed http_whitespace (one ++ more)) ≡ cut_value (trimmed http_whitespace (other ++ more))
