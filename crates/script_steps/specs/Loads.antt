-- The table of what an element asks for that loads a resource (HTML, section 2.5.1).
use Rattle.std.specs.Prelude.{true, List, [], ◌∷◌, codes, Ok}
use Rattle.serde_json.specs.Data.{Data}
use Rattle.value_text.specs.Texts.{Text}
use Rattle.value_requests.specs.declared.init.CrossOrigin.{CrossOrigin}
use Rattle.value_requests.specs.declared.init.CrossOrigin.TheVariants as crossorigin
use Rattle.value_requests.specs.declared.init.LoadInit.{LoadInit}
use Rattle.value_requests.specs.declared.policy.Destination.{Destination}
use Rattle.value_requests.specs.declared.policy.Destination.TheVariants as destination
use Rattle.script_scenarios.specs.Templates.{is_template}
use Rattle.value_json.specs.Reading.{Read, ◌>>=◌, truth_of, text_that, any, word_of, only_keys, required}
use Rattle.value_json.specs.Reading.{optional}
use Rattle.script_steps.specs.Referring.{policy_of}

-- the kinds of resources by their names
abbrev pub kinds : List (Text × Destination)
kinds =
    (codes "image", destination.Image) ∷ (codes "audio", destination.Audio) ∷ (codes "video", destination.Video)
    ∷ (codes "style", destination.Style) ∷ (codes "script", destination.Script) ∷ (codes "font", destination.Font)
    ∷ (codes "manifest", destination.Manifest) ∷ []

-- the keywords of a CORS settings attribute that is there
abbrev pub settings : List (Text × CrossOrigin)
settings = (codes "anonymous", crossorigin.Anonymous) ∷ (codes "use-credentials", crossorigin.UseCredentials) ∷ []

abbrev pub load_keys : List Text
load_keys =
    codes "kind" ∷ codes "url" ∷ codes "crossorigin" ∷ codes "nonce" ∷ codes "integrity" ∷ codes "parser"
    ∷ codes "referrer_policy" ∷ []

-- what an element asks for; a parser inserted it where no key says otherwise
abbrev pub load_of : Data → Read LoadInit
load_of tree = do
  known ← only_keys load_keys tree
  kind ← required (codes "kind") (word_of kinds) tree
  url ← required (codes "url") (text_that is_template) tree
  attribute ← optional (codes "crossorigin") crossorigin.Absent (word_of settings) tree
  nonce ← optional (codes "nonce") [] (text_that any) tree
  integrity ← optional (codes "integrity") [] (text_that any) tree
  parser ← optional (codes "parser") true truth_of tree
  named ← policy_of tree
  Ok (record {
    kind = kind;
    url = url;
    crossorigin = attribute;
    nonce = nonce;
    integrity = integrity;
    parser = parser;
    referrer_policy = named;
  })
