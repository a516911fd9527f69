-- The input of an audit: a scenario and a play in one text (this project's own).
use Rattle.std.specs.Prelude.{◌≡◌, ℕ, ◌≤◌, ◌++◌, length, codes, decimal}
use Rattle.value_text.specs.Texts.{Text}

-- the longest scenario, in bytes
abbrev pub most_scenario : ℕ
most_scenario = 4194304

-- The text is the decimal length of the scenario, an LF, the scenario and the play.
pub record IsFramed (input scenario play : Text) : Type 0 where
  pub short : length scenario ≤ most_scenario
  pub input_is : input ≡ decimal (length scenario) ++ (codes "\n" ++ (scenario ++ play))
