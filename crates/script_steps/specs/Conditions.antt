-- The conditions of an `if`: a list of a word, and of what is compared with it where the word has such a part.
use Rattle.std.specs.Prelude.{List, [], ◌∷◌, codes, decimal, Option, Some, None, option_and_then, Ok, Err}
use Rattle.serde_json.specs.Data.{Data, Items, no_items, item}
use Rattle.serde_json.specs.Find.{as_array}
use Rattle.value_text.specs.Texts.{Text}
use Rattle.script_scenarios.specs.declared.command.Test.{Test}
use Rattle.script_scenarios.specs.declared.command.Test.TheVariants.{IsOk, IsError, TypeIs, StatusIs, BodyIs}
use Rattle.value_json.specs.Reading.{Read, ◌>>=◌, under, present, number_of, text_that, any, word_of}
use Rattle.script_steps.specs.declared.conditions.Subject.{Subject}
use Rattle.script_steps.specs.declared.conditions.Subject.TheVariants as subject

-- what a condition is about, by its word
abbrev pub subjects : List (Text × Subject)
subjects =
    (codes "ok", subject.Success) ∷ (codes "error", subject.Error) ∷ (codes "type", subject.Type)
    ∷ (codes "status", subject.Status) ∷ (codes "body", subject.Body) ∷ []

-- the first part of a list of one or two, and the second, where there is one
abbrev pub parts_of : Items → Option (Data × Option Data)
parts_of (item first no_items) = Some (first, None)
parts_of (item first (item second no_items)) = Some (first, Some second)
parts_of items = None

-- a condition that has no second part
abbrev pub alone : Test → Option Data → Read Test
alone test None = Ok test
alone test (Some second) = Err []

-- the second part of a condition that has one
abbrev pub second_part : {A : Type 0} → (Data → Read A) → Option Data → Read A
second_part read None = Err []
second_part read (Some second) = under (decimal 1) (read second)

-- a condition of what it is compared with
abbrev pub compared : {A : Type 0} → (A → Test) → Read A → Read Test
compared test part = do
  x ← part
  Ok (test x)

-- the condition of a word and a second part: a text, or a status from 0 to 999
abbrev pub test_about : Subject → Option Data → Read Test
test_about subject.Success second = alone IsOk second
test_about subject.Error second = alone IsError second
test_about subject.Type second = compared TypeIs (second_part (text_that any) second)
test_about subject.Status second = compared StatusIs (second_part (number_of 0 999) second)
test_about subject.Body second = compared BodyIs (second_part (text_that any) second)

-- a condition: its parts are counted, then its word is read, and then what goes with that
abbrev pub test_of : Data → Read Test
test_of tree = do
  parts ← present (option_and_then parts_of (as_array tree))
  about ← under (decimal 0) (word_of subjects parts.0)
  test_about about parts.1
