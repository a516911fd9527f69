-- Which mode, credentials mode, redirect mode and response tainting a request has (Fetch, section 2.2.5).
use Rattle.std.specs.Prelude.{Bool, true, false}
use Rattle.value_requests.specs.declared.mode.Credentials.{Credentials}
use Rattle.value_requests.specs.declared.mode.Credentials.TheVariants as credentials
use Rattle.value_requests.specs.declared.mode.Mode.{Mode}
use Rattle.value_requests.specs.declared.mode.Mode.TheVariants as mode
use Rattle.value_requests.specs.declared.mode.RedirectMode.{RedirectMode}
use Rattle.value_requests.specs.declared.mode.RedirectMode.TheVariants as redirect
use Rattle.value_requests.specs.declared.mode.Tainting.{Tainting}
use Rattle.value_requests.specs.declared.mode.Tainting.TheVariants as tainting

-- the mode is cors
abbrev pub is_cors_mode : Mode → Bool
is_cors_mode mode.Cors = true
is_cors_mode _ = false

-- the credentials mode is include
abbrev pub is_include : Credentials → Bool
is_include credentials.Include = true
is_include _ = false

-- the redirect mode is follow
abbrev pub is_follow : RedirectMode → Bool
is_follow redirect.Follow = true
is_follow _ = false

-- the redirect mode is manual
abbrev pub is_manual_mode : RedirectMode → Bool
is_manual_mode redirect.Manual = true
is_manual_mode _ = false

-- the redirect mode is error
abbrev pub is_error_mode : RedirectMode → Bool
is_error_mode redirect.Error = true
is_error_mode _ = false

-- the tainting is cors
abbrev pub is_cors_tainted : Tainting → Bool
is_cors_tainted tainting.Cors = true
is_cors_tainted _ = false
