-- The table of what a call of `fetch` asks for (Fetch, sections 5.4 and 5.6).
use Rattle.std.specs.Prelude.{Bool, true, false, List, [], ◌∷◌, codes, Option, None, Ok}
use Rattle.serde_json.specs.Data.{Data}
use Rattle.value_text.specs.Texts.{Text}
use Rattle.value_requests.specs.declared.init.Init.{Init}
use Rattle.value_requests.specs.declared.init.Pair.{Pair}
use Rattle.value_requests.specs.declared.mode.Credentials.{Credentials}
use Rattle.value_requests.specs.declared.mode.Credentials.TheVariants as credentials
use Rattle.value_requests.specs.declared.mode.Mode.{Mode}
use Rattle.value_requests.specs.declared.mode.Mode.TheVariants as mode
use Rattle.value_requests.specs.declared.mode.RedirectMode.{RedirectMode}
use Rattle.value_requests.specs.declared.mode.RedirectMode.TheVariants as redirect
use Rattle.value_requests.specs.declared.mode.ReferrerPolicy.{ReferrerPolicy}
use Rattle.script_scenarios.specs.Templates.{is_template}
use Rattle.value_json.specs.Reading.{Read, ◌>>=◌, truth_of, text_that, any, word_of, some_of}
use Rattle.value_json.specs.Reading.{only_keys, required, optional, list_of, pair_of}
use Rattle.script_steps.specs.Referring.{policy_of}

abbrev pub modes : List (Text × Mode)
modes =
    (codes "cors", mode.Cors) ∷ (codes "no-cors", mode.NoCors) ∷ (codes "same-origin", mode.SameOrigin)
    ∷ (codes "navigate", mode.Navigate) ∷ []

abbrev pub credentials_modes : List (Text × Credentials)
credentials_modes =
    (codes "omit", credentials.Omit) ∷ (codes "same-origin", credentials.SameOrigin)
    ∷ (codes "include", credentials.Include) ∷ []

abbrev pub redirect_modes : List (Text × RedirectMode)
redirect_modes =
    (codes "follow", redirect.Follow) ∷ (codes "error", redirect.Error) ∷ (codes "manual", redirect.Manual) ∷ []

-- whether the referrer is the client
abbrev pub referrers : List (Text × Bool)
referrers = (codes "client", true) ∷ (codes "none", false) ∷ []

-- a name and a value, which need not be a header; the value is a template
abbrev pub header_of : Data → Read Pair
header_of tree = do
  pair ← pair_of (text_that any) (text_that is_template) tree
  Ok (record { name = pair.0; value = pair.1 })

-- how the request is made: its mode, its credentials mode and its redirect mode
abbrev pub manner_of : Data → Read (Mode × Credentials × RedirectMode)
manner_of tree = do
  mode ← optional (codes "mode") mode.Cors (word_of modes) tree
  sent ← optional (codes "credentials") credentials.SameOrigin (word_of credentials_modes) tree
  redirects ← optional (codes "redirect") redirect.Follow (word_of redirect_modes) tree
  Ok (mode, sent, redirects)

-- what is sent: headers, and a body
abbrev pub content_of : Data → Read (List Pair × Option Text)
content_of tree = do
  headers ← optional (codes "headers") [] (list_of 64 header_of) tree
  body ← optional (codes "body") None (some_of (text_that is_template)) tree
  Ok (headers, body)

-- whether its referrer is the client, and its referrer policy
abbrev pub referring_of : Data → Read (Bool × ReferrerPolicy)
referring_of tree = do
  client ← optional (codes "referrer") true (word_of referrers) tree
  named ← policy_of tree
  Ok (client, named)

abbrev pub fetch_keys : List Text
fetch_keys =
    codes "url" ∷ codes "method" ∷ codes "mode" ∷ codes "credentials" ∷ codes "redirect" ∷ codes "headers"
    ∷ codes "body" ∷ codes "referrer" ∷ codes "referrer_policy" ∷ codes "integrity" ∷ codes "upload" ∷ []

-- what a fetch asks for; what no key says is as `fetch` has it by itself
abbrev pub fetch_of : Data → Read Init
fetch_of tree = do
  known ← only_keys fetch_keys tree
  url ← required (codes "url") (text_that is_template) tree
  method ← optional (codes "method") (codes "GET") (text_that any) tree
  manner ← manner_of tree
  content ← content_of tree
  referring ← referring_of tree
  integrity ← optional (codes "integrity") [] (text_that any) tree
  upload ← optional (codes "upload") false truth_of tree
  Ok (record {
    url = url;
    method = method;
    mode = manner.0;
    credentials = manner.1;
    redirect = manner.2;
    headers = content.0;
    body = content.1;
    client_referrer = referring.0;
    referrer_policy = referring.1;
    integrity = integrity;
    upload = upload;
  })
