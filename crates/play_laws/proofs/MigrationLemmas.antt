-- A scenario of the first format is read alike as one of the second.
use Rattle.std.proofs.Common.{◌≡◌, ℕ, Bool, true, List, [], ◌∷◌, arith}
use Rattle.std.proofs.Common.{Option, Some, None, Result, Ok, Err, refl, ap, sym, ◌∙◌}
use Rattle.std.specs.Prelude.{codes, bytes_eq, false, nat_le, option_and_then, IsTrue}
use Rattle.std.proofs.lemmas.Bool.{leb-true, le-leb}
use Rattle.serde_json.proofs.Views.{get_member-put, get_member-put_other}
use Rattle.serde_json.specs.Data.{Data, number, unsigned, object, Members, put}
use Rattle.serde_json.specs.Find.{get, as_array, as_object}
use Rattle.url.specs.Parts.{Parts}
use Rattle.value_json.specs.Reading.{Read, present, given, under, found_or, number_of, required, optional, count}
use Rattle.value_json.specs.Reading.{each_from, items_of, list_of, has_keys}
use Rattle.play_laws.proofs.FollowsLemmas.{Follows, follows-same, follows-then, follows-past, follows-required}
use Rattle.play_laws.proofs.FollowsLemmas.{follows-optional, follows-list, follows-only_keys, apart, get-unknown}
use Rattle.play_laws.proofs.FollowsLemmas.{has_keys-more, known-put}
use Rattle.script_reading.specs.declared.format.Format.{Format}
use Rattle.script_reading.specs.declared.format.Format.TheVariants.{First, Second}
use Rattle.script_scenarios.specs.declared.scenario.Scenario.{Scenario}
use Rattle.script_reading.specs.declared.place.Place.{Place}
use Rattle.script_reading.specs.Formats.{format_numbered, whole_number, format_of, later_keys, root_keys, body_limit_of}
use Rattle.script_reading.specs.Formats.{most_documents, document_keys, top_of}
use Rattle.play_laws.specs.Migration.{migrated, IsMigratedAlike}
use Rattle.script_reading.specs.Scenarios.{host_of, cookie_of, route_of, server_of, document_of, scenario_as}
use Rattle.script_reading.specs.Scenarios.{scenario_in}
use Rattle.script_reading.specs.Scenarios.{told}
use Rattle.script_reading.specs.Urls.{document_url_of}

-- ---- documents

-- a document of the first format has no `top`
no_top : (tree : Data) (url : Parts) → get (codes "top") tree ≡ None → top_of Second url tree ≡ Ok url
no_top tree url none =
    ap (λ (found : Option Data). under (codes "top") (found_or (Ok url) document_url_of found)) none

follows-document : (tree : Data) → Follows (document_of First tree) (document_of Second tree)
follows-document tree =
    follows-only_keys (document_keys First) (document_keys Second) tree tree _ _ (λ all. (
      has_keys-more (codes "url") (codes "top") (codes "headers" ∷ codes "script" ∷ []) (as_object tree) all,
      follows-then (required (codes "url") document_url_of tree) (required (codes "url") document_url_of tree) _ _
          (follows-same _ _ refl) (λ url.
          follows-then (top_of First url tree) (top_of Second url tree) _ _
          (follows-same _ _ (no_top tree url (get-unknown (document_keys First) tree (codes "top") all refl))) (λ top.
          follows-same _ _ refl)),
    ))

-- at most 64 is at most 128
few-more : (n : ℕ) → IsTrue (nat_le n 64) → IsTrue (nat_le n 128)
few-more n few = le-leb n 128 (omega (arith, leb-true n 64 few))

-- a value that passes its test passes another one
follows-test : {A : Type 0} (passes other : Bool) (x : A) → (IsTrue passes → IsTrue other)
    → Follows (given passes x) (given other x)
follows-test {A} true other x each = follows-same (Ok x) (given other x) (ap (λ (b : Bool). given b x) (each refl))
follows-test false other x each = record { same = λ y is. let never : ⊥ = cc is in absurd never }

-- a list of at most 64 items has at most 128
follows-longer : {A : Type 0} (read : Data → Read A) (tree : Data)
    → Follows (list_of 64 read tree) (list_of 128 read tree)
follows-longer read tree =
    follows-then (present (as_array tree)) (present (as_array tree)) _ _ (follows-same _ _ refl) (λ items.
    follows-then (given (nat_le (count items) 64) items) (given (nat_le (count items) 128) items) _ _
    (follows-test (nat_le (count items) 64) (nat_le (count items) 128) items (λ few. few-more (count items) few))
    (λ all. follows-same (each_from read 0 all) (each_from read 0 all) refl))

-- the documents of the first format are read alike in the second
follows-documents : (tree : Data)
    → Follows (list_of (most_documents First) (document_of First) tree)
    (list_of (most_documents Second) (document_of Second) tree)
follows-documents tree = record {
  same = λ documents is.
      (follows-longer (document_of Second) tree).same documents
      ((follows-list 64 (document_of First) (document_of Second) follows-document tree).same documents is);
}

-- ---- the root

-- another key has the same value
same : (name : List ℕ) → bytes_eq name (codes "format") ≡ false → bytes_eq name (codes "body_limit") ≡ false
    → (rest : Members) → get name (object (migrated rest)) ≡ get name (object rest)
same name one other rest =
    let inside = put (codes "format") (number (unsigned 2)) rest in
    get_member-put_other name (codes "body_limit") (number (unsigned 262144)) inside
    (apart name (codes "body_limit") other)
    ∙ get_member-put_other name (codes "format") (number (unsigned 2)) rest (apart name (codes "format") one)

format-migrated : (rest : Members) → get (codes "format") (object (migrated rest)) ≡ Some (number (unsigned 2))
format-migrated rest =
    let inside = put (codes "format") (number (unsigned 2)) rest in
    get_member-put_other (codes "format") (codes "body_limit") (number (unsigned 262144)) inside
    (apart (codes "format") (codes "body_limit") refl)
    ∙ get_member-put (codes "format") (number (unsigned 2)) rest

limit-migrated : (rest : Members)
    → get (codes "body_limit") (object (migrated rest)) ≡ Some (number (unsigned 262144))
limit-migrated rest =
    get_member-put (codes "body_limit") (number (unsigned 262144)) (put (codes "format") (number (unsigned 2)) rest)

keys-migrated : (rest : Members) → IsTrue (has_keys (root_keys First) (Some rest))
    → IsTrue (has_keys (root_keys Second) (Some (migrated rest)))
keys-migrated rest all =
    known-put (root_keys Second) (codes "body_limit") (number (unsigned 262144))
    (put (codes "format") (number (unsigned 2)) rest) refl
    (known-put (root_keys Second) (codes "format") (number (unsigned 2)) rest refl
    (has_keys-more (codes "format") (codes "body_limit") later_keys (Some rest) all))

follows-scenario : (rest : Members)
    → Follows (scenario_as First (object rest)) (scenario_as Second (object (migrated rest)))
follows-scenario rest =
    let old = object rest in
    let new = object (migrated rest) in
    let version : required (codes "format") (number_of 2 2) new ≡ Ok 2 =
    ap (λ (found : Option Data). under (codes "format") (found_or (Err []) (number_of 2 2) found))
    (format-migrated rest) in
    let limit : body_limit_of Second new ≡ Ok 262144 =
    ap (λ (found : Option Data). under (codes "body_limit") (found_or (Ok 1048576) (number_of 1 1048576) found))
    (limit-migrated rest) in
    follows-only_keys (root_keys First) (root_keys Second) old new _ _ (λ all. (
      keys-migrated rest all,
      follows-past (required (codes "format") (number_of 1 1) old) (required (codes "format") (number_of 2 2) new) 2 _ _
          version (λ _.
          follows-then (body_limit_of First old) (body_limit_of Second new) _ _ (follows-same _ _ limit) (λ most.
          follows-then (optional (codes "now") 0 (number_of 0 1099511627776) old)
          (optional (codes "now") 0 (number_of 0 1099511627776) new) _ _
          (follows-optional (codes "now") 0 (number_of 0 1099511627776) old new (same (codes "now") refl refl rest))
          (λ now.
          follows-then (optional (codes "hsts") [] (list_of 4096 host_of) old)
          (optional (codes "hsts") [] (list_of 4096 host_of) new) _ _
          (follows-optional (codes "hsts") [] (list_of 4096 host_of) old new (same (codes "hsts") refl refl rest))
          (λ hosts.
          follows-then (optional (codes "cookies") [] (items_of cookie_of) old)
          (optional (codes "cookies") [] (items_of cookie_of) new) _ _
          (follows-optional (codes "cookies") [] (items_of cookie_of) old new (same (codes "cookies") refl refl rest))
          (λ cookies.
          follows-then (optional (codes "servers") [] (items_of server_of) old)
          (optional (codes "servers") [] (items_of server_of) new) _ _
          (follows-optional (codes "servers") [] (items_of server_of) old new (same (codes "servers") refl refl rest))
          (λ servers.
          follows-then (optional (codes "routes") [] (items_of route_of) old)
          (optional (codes "routes") [] (items_of route_of) new) _ _
          (follows-optional (codes "routes") [] (items_of route_of) old new (same (codes "routes") refl refl rest))
          (λ routes.
          follows-then (optional (codes "piece") 4096 (number_of 1 65536) old)
          (optional (codes "piece") 4096 (number_of 1 65536) new) _ _
          (follows-optional (codes "piece") 4096 (number_of 1 65536) old new (same (codes "piece") refl refl rest))
          (λ piece.
          follows-then (required (codes "documents") (list_of (most_documents First) (document_of First)) old)
          (required (codes "documents") (list_of (most_documents Second) (document_of Second)) new) _ _
          (follows-required (codes "documents") (list_of (most_documents First) (document_of First))
          (list_of (most_documents Second) (document_of Second)) old new (same (codes "documents") refl refl rest)
          follows-documents) (λ documents.
          follows-same _ _ refl))))))))),
    ))

-- ---- the whole

-- a scenario that is told, or nothing
abbrev read_back : Result Scenario Place → Read Scenario
read_back (Ok scenario) = Ok scenario
read_back (Err place) = Err []

told-Ok : (read : Read Scenario) (scenario : Scenario) → told read ≡ Ok scenario → read ≡ Ok scenario
told-Ok (Ok x) scenario is = ap read_back is
told-Ok (Err place) scenario is = let never : ⊥ = cc is in absurd never

second : (rest : Members) → format_of (object (migrated rest)) ≡ Second
second rest =
    ap (λ (found : Option Data). format_numbered (option_and_then whole_number found)) (format-migrated rest)

pub migrated-alike : (rest : Members) (scenario : Scenario) → IsMigratedAlike rest scenario
migrated-alike rest scenario first is =
    let in_first : scenario_as First (object rest) ≡ Ok scenario =
    ap (λ (format : Format). scenario_as format (object rest)) (sym first)
    ∙ told-Ok (scenario_in (object rest)) scenario is in
    let in_second : scenario_as Second (object (migrated rest)) ≡ Ok scenario =
    (follows-scenario rest).same scenario in_first in
    ap told (ap (λ (format : Format). scenario_as format (object (migrated rest))) (second rest) ∙ in_second)
