-- The choices of a request by their numbers, and its texts.
use Rattle.std.specs.Prelude.{ℕ, ◌==◌, Bool, true, false, Option, Some, None, option_map, if◌then◌else◌}
use Rattle.value_requests.specs.declared.init.CrossOrigin.TheVariants as crossorigin
use Rattle.value_requests.specs.declared.mode.Credentials.TheVariants as credentials
use Rattle.value_requests.specs.declared.mode.Mode.TheVariants as mode
use Rattle.value_requests.specs.declared.mode.RedirectMode.TheVariants as redirect
use Rattle.value_requests.specs.declared.policy.Destination.TheVariants as destination
use Rattle.c_fetch.specs.declared.asked.Choice.TheVariants as choice
use Rattle.c_fetch.specs.declared.asked.Words.TheVariants as words
use Rattle.c_calls.specs.Terms.{Choice, Credentials, CrossOrigin, Destination, Mode, RedirectMode, Words}
use Rattle.c_calls.specs.Referrers.{policy_numbered}

-- the mode of a number
abbrev pub mode_numbered : ℕ → Option Mode
mode_numbered number =
    if number == 0 then Some mode.SameOrigin
    else if number == 1 then Some mode.NoCors
    else if number == 2 then Some mode.Cors
    else if number == 3 then Some mode.Navigate
    else None

-- the credentials mode of a number
abbrev pub credentials_numbered : ℕ → Option Credentials
credentials_numbered number =
    if number == 0 then Some credentials.Omit
    else if number == 1 then Some credentials.SameOrigin
    else if number == 2 then Some credentials.Include
    else None

-- the redirect mode of a number
abbrev pub redirect_numbered : ℕ → Option RedirectMode
redirect_numbered number =
    if number == 0 then Some redirect.Follow
    else if number == 1 then Some redirect.Error
    else if number == 2 then Some redirect.Manual
    else None

-- the CORS settings of a number
abbrev pub crossorigin_numbered : ℕ → Option CrossOrigin
crossorigin_numbered number =
    if number == 0 then Some crossorigin.Absent
    else if number == 1 then Some crossorigin.Anonymous
    else if number == 2 then Some crossorigin.UseCredentials
    else None

-- the test of a number
abbrev pub test_numbered : ℕ → Option Bool
test_numbered number =
    if number == 0 then Some false
    else if number == 1 then Some true
    else None

-- the choice of two numbers
abbrev pub choice_numbered : ℕ → ℕ → Option Choice
choice_numbered which number =
    if which == 0 then option_map choice.Mode (mode_numbered number)
    else if which == 1 then option_map choice.Credentials (credentials_numbered number)
    else if which == 2 then option_map choice.Redirect (redirect_numbered number)
    else if which == 3 then option_map choice.ClientReferrer (test_numbered number)
    else if which == 4 then option_map choice.Policy (policy_numbered number)
    else if which == 5 then option_map choice.Upload (test_numbered number)
    else if which == 6 then option_map choice.CrossOrigin (crossorigin_numbered number)
    else if which == 7 then option_map choice.Parser (test_numbered number)
    else None

-- what an element loads, by a number
abbrev pub load_numbered : ℕ → Option Destination
load_numbered number =
    if number == 1 then Some destination.Image
    else if number == 2 then Some destination.Audio
    else if number == 3 then Some destination.Video
    else if number == 4 then Some destination.Style
    else if number == 5 then Some destination.Script
    else if number == 6 then Some destination.Font
    else if number == 7 then Some destination.Manifest
    else None

-- the text of a number
abbrev pub words_numbered : ℕ → Option Words
words_numbered number =
    if number == 0 then Some words.Body
    else if number == 1 then Some words.Integrity
    else if number == 2 then Some words.Nonce
    else None
