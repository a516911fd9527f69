-- What each command that is read keeps: the bounds and the forms of its values.
use Rattle.std.specs.Prelude.{◌≢◌, ◌≤◌, ◌<◌, ◌^◌, ℕ, ◌+◌, max, length, IfSome, IsTrue}
use Rattle.std.specs.List.{All}
use Rattle.value_requests.specs.declared.init.Init.{Init}
use Rattle.value_requests.specs.declared.init.LoadInit.{LoadInit}
use Rattle.value_requests.specs.declared.init.Pair.{Pair}
use Rattle.value_requests.specs.declared.policy.Destination.TheVariants as destination
use Rattle.script_scenarios.specs.declared.command.Test.{Test}
use Rattle.script_scenarios.specs.declared.command.Test.TheVariants.{StatusIs}
use Rattle.script_scenarios.specs.Scripts.{Step, fetch, load, wait, repeat, choose, Steps, no_steps, step}
use Rattle.script_scenarios.specs.Templates.{is_template}

-- the value is a template
abbrev pub IsTemplatePair : Pair → Type 0
IsTemplatePair pair = IsTrue (is_template pair.value)

-- a fetch: its URL, its body and the values of its headers are templates, and it has at most 64 headers
pub record IsValidInit (init : Init) : Type 0 where
  pub url : IsTrue (is_template init.url)
  pub few : length init.headers ≤ 64
  pub headers : All IsTemplatePair init.headers
  pub body : IfSome init.body (λ body. IsTrue (is_template body))

-- a load: its kind is another than that of `fetch`, and its URL is a template
pub record IsValidLoad (init : LoadInit) : Type 0 where
  pub kind : init.kind ≢ destination.Fetch
  pub url : IsTrue (is_template init.url)

-- a status is at most 999
abbrev pub IsValidTest : Test → Type 0
IsValidTest (StatusIs status) = status ≤ 999
IsValidTest _ = Unit {0}

-- what is asked for may be asked, a wait is less than 2^32 seconds long, and a script is repeated 1,000 times at most
abbrev mutual
  pub IsValidStep : Step → Type 0
  IsValidStep (fetch init) = IsValidInit init
  IsValidStep (load init) = IsValidLoad init
  IsValidStep (wait seconds) = seconds < 2 ^ 32
  IsValidStep (repeat times script) = (times ≤ 1000) × AreValid script
  IsValidStep (choose test script other) = IsValidTest test × (AreValid script × AreValid other)

  pub AreValid : Steps → Type 0
  AreValid no_steps = Unit {0}
  AreValid (step one more) = IsValidStep one × AreValid more

-- ---- how deep

-- how many `repeat` are inside each other at most
abbrev mutual
  pub step_repeats : Step → ℕ
  step_repeats (fetch init) = 0
  step_repeats (load init) = 0
  step_repeats (wait seconds) = 0
  step_repeats (repeat times script) = repeats script + 1
  step_repeats (choose test script other) = max (repeats script) (repeats other)

  pub repeats : Steps → ℕ
  repeats no_steps = 0
  repeats (step one more) = max (step_repeats one) (repeats more)

-- how many `if` are inside each other at most
abbrev mutual
  pub step_choices : Step → ℕ
  step_choices (fetch init) = 0
  step_choices (load init) = 0
  step_choices (wait seconds) = 0
  step_choices (repeat times script) = choices script
  step_choices (choose test script other) = max (choices script) (choices other) + 1

  pub choices : Steps → ℕ
  choices no_steps = 0
  choices (step one more) = max (step_choices one) (choices more)

-- a script as a document has one: its commands are valid, and at most eight `repeat` and 16 `if` are inside each other
pub record IsValidScript (script : Steps) : Type 0 where
  pub valid : AreValid script
  pub few_repeats : repeats script ≤ 8
  pub few_choices : choices script ≤ 16
