-- JavaScript MIME types (MIME Sniffing, section 4.6).
use Rattle.std.specs.Prelude.{Bool, List, [], ◌∷◌, codes, bytes_eq}
use Rattle.std.specs.List.{list_any}
use Rattle.value_text.specs.Texts.{Text}

-- the essences of the JavaScript MIME types
abbrev pub javascript_types : List Text
javascript_types =
    codes "application/ecmascript" ∷ codes "application/javascript" ∷ codes "application/x-ecmascript"
    ∷ codes "application/x-javascript" ∷ codes "text/ecmascript" ∷ codes "text/javascript"
    ∷ codes "text/javascript1.0" ∷ codes "text/javascript1.1" ∷ codes "text/javascript1.2"
    ∷ codes "text/javascript1.3" ∷ codes "text/javascript1.4" ∷ codes "text/javascript1.5"
    ∷ codes "text/jscript" ∷ codes "text/livescript" ∷ codes "text/x-ecmascript"
    ∷ codes "text/x-javascript" ∷ []

-- the essence is one of these
abbrev pub is_javascript : Text → Bool
is_javascript essence = list_any (λ kind. bytes_eq kind essence) javascript_types
