-- The bytes of answers, part by part as they are written.
use Rattle.std.proofs.Common.{◌≡◌, ◌∙◌, ap, sym, refl, ℕ, Bool, true, false, List, [], ◌∷◌, ◌++◌, append_assoc}
use Rattle.std.proofs.Common.{codes}
use Rattle.std.proofs.Common.{if◌then◌else◌}
use Rattle.std.specs.Fmt.{digits}
use Rattle.std.specs.List.{flat_map, list_all}
use Rattle.std.specs.Prelude.{map}
use Rattle.value_lemmas.proofs.Lists.{append-three}
use Rattle.value_headers.specs.declared.headers.Header.{Header}
use Rattle.link_http1.specs.Requests.{header_line}
use Rattle.link_http1.specs.declared.request_head.Asked.{Asked}
use Rattle.server_tables.specs.Served.{allowed, bad, body_for, by_row, content_length, granted, is_preflight}
use Rattle.server_tables.specs.Served.{list_header}
use Rattle.server_tables.specs.Served.{refused, reply_bytes, served}
use Rattle.server_tables.specs.Tables.{lists}
use Rattle.server_tables.specs.declared.table.Row.{Row}

-- ---- lists

flat-both : (f : Header → List ℕ) (xs ys : List Header) → flat_map f (xs ++ ys) ≡ flat_map f xs ++ flat_map f ys
flat-both f [] ys = refl
flat-both f (x ∷ xs) ys =
    ap (λ (l : List ℕ). f x ++ l) (flat-both f xs ys) ∙ sym (append_assoc (f x) (flat_map f xs) (flat_map f ys))

pub all-mapped : {X Y : Type 0} (test : Y → Bool) (f : X → Y) (xs : List X)
    → list_all test (map f xs) ≡ list_all (λ x. test (f x)) xs
all-mapped test f [] = refl
all-mapped test f (x ∷ xs) = rw (all-mapped test f xs) refl

pub in-four : (start a b c d s t u w : List ℕ) → s ≡ start ++ a → t ≡ s ++ b → u ≡ t ++ c → w ≡ u ++ d
    → w ≡ start ++ (a ++ (b ++ (c ++ d)))
in-four start a b c d s t u w one two three four =
    four ∙ ap (λ (l : List ℕ). l ++ d) (append-three start a b c s t u one two three)
    ∙ append_assoc start (a ++ (b ++ c)) d
    ∙ ap (λ (l : List ℕ). start ++ l) (append_assoc a (b ++ c) d ∙ ap (λ (l : List ℕ). a ++ l) (append_assoc b c d))

pub in-five : (start a b c d e s t u v w : List ℕ) → s ≡ start ++ a → t ≡ s ++ b → u ≡ t ++ c → v ≡ u ++ d
    → w ≡ v ++ e → w ≡ start ++ (a ++ (b ++ (c ++ (d ++ e))))
in-five start a b c d e s t u v w one two three four five =
    five ∙ ap (λ (l : List ℕ). l ++ e) (in-four start a b c d s t u v one two three four)
    ∙ append_assoc start (a ++ (b ++ (c ++ d))) e
    ∙ ap (λ (l : List ℕ). start ++ l) (append_assoc a (b ++ (c ++ d)) e
    ∙ ap (λ (l : List ℕ). a ++ l) (append_assoc b (c ++ d) e ∙ ap (λ (l : List ℕ). b ++ l) (append_assoc c d e)))

-- ---- headers

abbrev pub credentials_bytes : Bool → List ℕ
credentials_bytes true = codes "Access-Control-Allow-Credentials: true\r\n"
credentials_bytes false = []

pub granted-bytes : (origin : List ℕ) (methods names : List (List ℕ)) (credentials : Bool)
    → flat_map header_line
    (granted (record { origin = origin; methods = methods; names = names; credentials = credentials }))
    ≡ codes "Vary: Origin\r\nAccess-Control-Allow-Origin: "
    ++ (origin ++ (codes "\r\n" ++ credentials_bytes credentials))
granted-bytes origin methods names true =
    ap (λ (l : List ℕ). codes "Vary: Origin\r\nAccess-Control-Allow-Origin: " ++ l)
    (append_assoc origin (codes "\r\n") (codes "Access-Control-Allow-Credentials: true\r\n"))
granted-bytes origin methods names false =
    ap (λ (l : List ℕ). codes "Vary: Origin\r\nAccess-Control-Allow-Origin: " ++ l)
    (append_assoc origin (codes "\r\n") [])

-- ---- answers

pub bad-bytes : codes "HTTP/1.1 400 Bad\r\nContent-Length: 0\r\n\r\n" ≡ reply_bytes bad
unfolding digits
bad-bytes = refl

pub refused-bytes : codes "HTTP/1.1 403 Refused\r\nVary: Origin\r\nContent-Length: 0\r\n\r\n" ≡ reply_bytes refused
unfolding digits
refused-bytes = refl

pub served-bytes : (row : Row) (method : List ℕ) → reply_bytes (served row method)
    ≡ codes "HTTP/1.1 200 Served\r\n"
    ++ (flat_map header_line (granted row) ++ (codes "Content-Length: 2\r\n\r\n" ++ body_for method))
unfolding digits
served-bytes row method =
    ap (λ (l : List ℕ). codes "HTTP/1.1 200 Served\r\n" ++ (l ++ (codes "\r\n" ++ body_for method)))
    (flat-both header_line (granted row) (content_length (codes "2") ∷ []))
    ∙ ap (λ (l : List ℕ). codes "HTTP/1.1 200 Served\r\n" ++ l)
    (append_assoc (flat_map header_line (granted row)) (codes "Content-Length: 2\r\n")
    (codes "\r\n" ++ body_for method))

abbrev pub methods_header : Row → List Header
methods_header row = list_header (codes "Access-Control-Allow-Methods") row.methods

abbrev pub names_header : Row → List Header
names_header row = list_header (codes "Access-Control-Allow-Headers") row.names

pub allowed-bytes : (row : Row) → reply_bytes (allowed row)
    ≡ codes "HTTP/1.1 204 Allowed\r\n"
    ++ (flat_map header_line (granted row)
    ++ (flat_map header_line (methods_header row) ++ (flat_map header_line (names_header row) ++ codes "\r\n")))
unfolding digits
allowed-bytes row =
    let g : List ℕ = flat_map header_line (granted row) in
    let m : List ℕ = flat_map header_line (methods_header row) in
    let n : List ℕ = flat_map header_line (names_header row) in
    ap (λ (l : List ℕ). codes "HTTP/1.1 204 Allowed\r\n" ++ (l ++ codes "\r\n"))
    (flat-both header_line (granted row) (methods_header row ++ names_header row)
    ∙ ap (λ (l : List ℕ). g ++ l) (flat-both header_line (methods_header row) (names_header row)))
    ∙ ap (λ (l : List ℕ). codes "HTTP/1.1 204 Allowed\r\n" ++ l)
    (append_assoc g (m ++ n) (codes "\r\n") ∙ ap (λ (l : List ℕ). g ++ l) (append_assoc m n (codes "\r\n")))

-- ---- which

pub by-listed : (row : Row) (asked : Asked) → is_preflight asked ≡ false → lists row.methods asked.method ≡ true
    → by_row row asked ≡ served row asked.method
by-listed row asked other listed =
    ap (λ (b : Bool). if b then allowed row
    else if lists row.methods asked.method then served row asked.method else refused) other
    ∙ ap (λ (b : Bool). if b then served row asked.method else refused) listed

pub by-unlisted : (row : Row) (asked : Asked) → is_preflight asked ≡ false → lists row.methods asked.method ≡ false
    → by_row row asked ≡ refused
by-unlisted row asked other unlisted =
    ap (λ (b : Bool). if b then allowed row
    else if lists row.methods asked.method then served row asked.method else refused) other
    ∙ ap (λ (b : Bool). if b then served row asked.method else refused) unlisted
