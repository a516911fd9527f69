-- What is asked for, of texts and choices.
use Rattle.std.specs.Prelude.{Bool, true, false, [], ◌∷◌, ◌++◌, Option, Some, None, option_map}
use Rattle.value_requests.specs.declared.policy.Destination.TheVariants as destination
use Rattle.c_fetch.specs.Terms.{Absent, Cors, Destination, Empty, Follow, Init, LoadInit, SameOrigin, Text}
use Rattle.c_fetch.specs.Terms.{http_whitespace, trimmed}
use Rattle.c_fetch.specs.declared.asked.Asked.{Asked}
use Rattle.c_fetch.specs.declared.asked.Asked.TheVariants.{Fetch, Load}
use Rattle.c_fetch.specs.declared.asked.Choice.{Choice}
use Rattle.c_fetch.specs.declared.asked.Choice.TheVariants as choice
use Rattle.c_fetch.specs.declared.asked.Words.{Words}
use Rattle.c_fetch.specs.declared.asked.Words.TheVariants as words

-- ---- as it is asked for at first

-- a `fetch` of a URL by a method
abbrev pub init_of : Text → Text → Init
init_of method url = record {
  url = url;
  method = method;
  mode = Cors;
  credentials = SameOrigin;
  redirect = Follow;
  headers = [];
  body = None;
  client_referrer = true;
  referrer_policy = Empty;
  integrity = [];
  upload = false;
}

abbrev pub fetch_of : Text → Text → Asked
fetch_of method url = Fetch (init_of method url)

-- a load of a URL by an element of a kind
abbrev pub load_as : Destination → Text → LoadInit
load_as kind url = record {
  kind = kind;
  url = url;
  crossorigin = Absent;
  nonce = [];
  integrity = [];
  parser = false;
  referrer_policy = Empty;
}

-- a `fetch` is none
abbrev pub load_init_of : Destination → Text → Option LoadInit
load_init_of destination.Fetch url = None
load_init_of destination.Image url = Some (load_as destination.Image url)
load_init_of destination.Audio url = Some (load_as destination.Audio url)
load_init_of destination.Video url = Some (load_as destination.Video url)
load_init_of destination.Style url = Some (load_as destination.Style url)
load_init_of destination.Script url = Some (load_as destination.Script url)
load_init_of destination.Font url = Some (load_as destination.Font url)
load_init_of destination.Manifest url = Some (load_as destination.Manifest url)

abbrev pub load_of : Destination → Text → Option Asked
load_of kind url = option_map Load (load_init_of kind url)

-- ---- what it is for

-- "destination"
abbrev pub destination_of : Asked → Destination
destination_of (Fetch init) = destination.Fetch
destination_of (Load init) = init.kind

-- ---- changes

-- A change that was made or not, and what there is after it.
pub record Change (X : Type 0) : Type 0 where
  pub made : Bool
  pub now : X

abbrev pub changed : {X : Type 0} → Bool → X → Change X
changed made now = record { made = made; now = now }

-- what is asked for after a change of its init
abbrev pub changed_to : {X : Type 0} → (X → Asked) → Change X → Change Asked
changed_to asked change = changed change.made (asked change.now)

-- one more header, its value normalised
abbrev pub with_header : Text → Text → Init → Init
with_header name value init = record init {
  headers = init.headers ++ (record { name = name; value = trimmed http_whitespace value }) ∷ [];
}

abbrev pub header_added : Text → Text → Asked → Change Asked
header_added name value (Fetch init) = changed true (Fetch (with_header name value init))
header_added name value (Load init) = changed false (Load init)

-- a text of the kind
abbrev pub init_text : Words → Text → Init → Change Init
init_text words.Body text init = changed true (record init { body = Some text })
init_text words.Integrity text init = changed true (record init { integrity = text })
init_text words.Nonce text init = changed false init

abbrev pub load_text : Words → Text → LoadInit → Change LoadInit
load_text words.Body text init = changed false init
load_text words.Integrity text init = changed true (record init { integrity = text })
load_text words.Nonce text init = changed true (record init { nonce = text })

abbrev pub text_set : Words → Text → Asked → Change Asked
text_set which text (Fetch init) = changed_to Fetch (init_text which text init)
text_set which text (Load init) = changed_to Load (load_text which text init)

-- a choice of a `fetch`
abbrev pub init_chosen : Choice → Init → Change Init
init_chosen (choice.Mode mode) init = changed true (record init { mode = mode })
init_chosen (choice.Credentials credentials) init = changed true (record init { credentials = credentials })
init_chosen (choice.Redirect redirect) init = changed true (record init { redirect = redirect })
init_chosen (choice.ClientReferrer client) init = changed true (record init { client_referrer = client })
init_chosen (choice.Policy policy) init = changed true (record init { referrer_policy = policy })
init_chosen (choice.Upload upload) init = changed true (record init { upload = upload })
init_chosen _ init = changed false init

-- a choice of a load
abbrev pub load_chosen : Choice → LoadInit → Change LoadInit
load_chosen (choice.CrossOrigin crossorigin) init = changed true (record init { crossorigin = crossorigin })
load_chosen (choice.Parser parser) init = changed true (record init { parser = parser })
load_chosen (choice.Policy policy) init = changed true (record init { referrer_policy = policy })
load_chosen _ init = changed false init

-- a choice of what is asked for
abbrev pub chosen : Choice → Asked → Change Asked
chosen choice (Fetch init) = changed_to Fetch (init_chosen choice init)
chosen choice (Load init) = changed_to Load (load_chosen choice init)
