-- Scripts: the tables of commands, and how deep they may be inside each other.
use Rattle.std.specs.Prelude.{ℕ, zero, suc, List, [], ◌∷◌, codes, Option, Some, None, option_map, Ok, Err}
use Rattle.std.specs.Prelude.{if◌then◌else◌}
use Rattle.serde_json.specs.Data.{Data, Items}
use Rattle.serde_json.specs.Find.{as_array}
use Rattle.script_scenarios.specs.Scripts.{Step, fetch, load, wait, repeat, choose, Steps, no_steps, step}
use Rattle.value_json.specs.Reading.{Read, ◌>>=◌, under, present, number_of, has_key, only_keys, required}
use Rattle.value_json.specs.Reading.{optional}
use Rattle.value_json.specs.Reading.{each_from}
use Rattle.script_steps.specs.Conditions.{test_of}
use Rattle.script_steps.specs.Fetches.{fetch_of}
use Rattle.script_steps.specs.Loads.{load_of}

-- a call of `fetch`
abbrev pub fetch_command_of : Data → Read Step
fetch_command_of tree = do
  known ← only_keys (codes "fetch" ∷ []) tree
  init ← required (codes "fetch") fetch_of tree
  Ok (fetch init)

-- a load by an element
abbrev pub load_command_of : Data → Read Step
load_command_of tree = do
  known ← only_keys (codes "load" ∷ []) tree
  init ← required (codes "load") load_of tree
  Ok (load init)

-- a number of seconds that pass
abbrev pub wait_command_of : Data → Read Step
wait_command_of tree = do
  known ← only_keys (codes "wait" ∷ []) tree
  seconds ← required (codes "wait") (number_of 0 4294967295) tree
  Ok (wait seconds)

-- A script that is repeated, with what reads the script. Where no `repeat` may be here it is refused at its key, and
-- nothing of it is read.
abbrev pub repeat_command_of : Option (Data → Read Steps) → Data → Read Step
repeat_command_of inside tree = do
  known ← only_keys (codes "repeat" ∷ codes "do" ∷ []) tree
  deeper ← under (codes "repeat") (present inside)
  times ← required (codes "repeat") (number_of 0 1000) tree
  script ← required (codes "do") deeper tree
  Ok (repeat times script)

-- One of two scripts, with what reads them; the second is empty where there is no `else`. Where no `if` may be here it
-- is refused at its key, and nothing of it is read.
abbrev pub if_command_of : Option (Data → Read Steps) → Data → Read Step
if_command_of inside tree = do
  known ← only_keys (codes "if" ∷ codes "then" ∷ codes "else" ∷ []) tree
  deeper ← under (codes "if") (present inside)
  test ← required (codes "if") test_of tree
  script ← required (codes "then") deeper tree
  other ← optional (codes "else") no_steps deeper tree
  Ok (choose test script other)

-- A command, told by the first of these keys that it has, with what reads the scripts inside a `repeat` and inside an
-- `if`. One without such a key is refused at its own place.
abbrev pub command_of : Option (Data → Read Steps) → Option (Data → Read Steps) → Data → Read Step
command_of inside_repeat inside_if tree =
    if has_key (codes "fetch") tree then fetch_command_of tree
    else if has_key (codes "load") tree then load_command_of tree
    else if has_key (codes "wait") tree then wait_command_of tree
    else if has_key (codes "repeat") tree then repeat_command_of inside_repeat tree
    else if has_key (codes "if") tree then if_command_of inside_if tree
    else Err []

-- steps in order, as a script
abbrev pub in_order : List Step → Steps
in_order [] = no_steps
in_order (one ∷ steps) = step one (in_order steps)

-- the steps of items, in order
abbrev pub steps_in : (Data → Read Step) → Items → Read Steps
steps_in read items = do
  steps ← each_from read 0 items
  Ok (in_order steps)

-- a list of commands
abbrev pub commands_of : (Data → Read Step) → Data → Read Steps
commands_of read tree = do
  items ← present (as_array tree)
  steps_in read items

-- a script, with what reads the one inside a `repeat`, and how many `if` may be inside each other
abbrev pub script_with : Option (ℕ → Data → Read Steps) → ℕ → Data → Read Steps
script_with deeper zero tree = commands_of (command_of (option_map (λ read. read zero) deeper) None) tree
script_with deeper (suc ifs) tree =
    commands_of (command_of (option_map (λ read. read (suc ifs)) deeper) (Some (script_with deeper ifs))) tree

-- a script, by how many `repeat` and how many `if` may be inside each other
abbrev pub script_of : ℕ → ℕ → Data → Read Steps
script_of zero = script_with None
script_of (suc repeats) = script_with (Some (script_of repeats))

-- what reads the script inside a `repeat`, where there may be a `repeat`
abbrev pub inside_repeat : ℕ → ℕ → Option (Data → Read Steps)
inside_repeat zero ifs = None
inside_repeat (suc repeats) ifs = Some (script_of repeats ifs)

-- what reads the scripts inside an `if`, where there may be an `if`
abbrev pub inside_if : ℕ → ℕ → Option (Data → Read Steps)
inside_if repeats zero = None
inside_if repeats (suc ifs) = Some (script_of repeats ifs)

-- a command, by how many `repeat` and how many `if` may be inside each other
abbrev pub command_in : ℕ → ℕ → Data → Read Step
command_in repeats ifs tree = command_of (inside_repeat repeats ifs) (inside_if repeats ifs) tree

-- the script of a document: eight `repeat` and 16 `if` at most are inside each other
abbrev pub document_script_of : Data → Read Steps
document_script_of tree = script_of 8 16 tree
