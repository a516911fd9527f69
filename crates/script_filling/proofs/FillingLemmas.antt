-- Texts without placeholders, and URLs, header values and bodies that are cut.
use Rattle.std.proofs.Common.{◌≡◌, ℕ, ◌+◌, ◌≤◌, ◌<◌, Bool, true, false, cond, List, [], ◌∷◌, ◌++◌, length, take}
use Rattle.std.proofs.Common.{Option, Some, None, Result, Ok, Err, refl, ap, sym, subst, inl, inr, ◌∙◌, arith, take_all}
use Rattle.std.proofs.lemmas.Bool.{or_parts}
use Rattle.std.proofs.lemmas.List.{append-nil, length-take, take-append-le}
use Rattle.std.proofs.lemmas.List.Sums.{sum_by-cons}
use Rattle.std.specs.Prelude.{◌==◌, ◌&&◌, ◌||◌, ◌⊎◌, not, nat_lt, min, map, is_some, option_map, sum_by}
use Rattle.std.specs.List.{flat_map}
use Rattle.value_requests.specs.declared.client.Client.{Client}
use Rattle.value_requests.specs.declared.fault.TypeFault.{TypeFault}
use Rattle.value_requests.specs.declared.fault.TypeFault.TheVariants.{UrlCredentials, BadMethod, ForbiddenMethod}
use Rattle.value_requests.specs.declared.fault.TypeFault.TheVariants.{BodyWithGet}
use Rattle.value_requests.specs.declared.fault.TypeFault.TheVariants.{NoCorsMethod, BadHeader, LongUrl, NavigateMode, TooLong}
use Rattle.value_requests.specs.declared.init.Init.{Init}
use Rattle.value_requests.specs.declared.init.LoadInit.{LoadInit}
use Rattle.value_requests.specs.declared.init.Pair.{Pair}
use Rattle.value_requests.specs.declared.request.Request.{Request}
use Rattle.value_requests.specs.Methods.{is_safelisted_method, is_get_or_head, normalized}
use Rattle.policy_safelist.specs.Forbidden.{is_forbidden_method}
use Rattle.value_text.specs.Tokens.{is_token}
use Rattle.value_text.specs.Values.{is_header_value}
use Rattle.url.specs.Parts.{Parts, has_credentials}
use Rattle.fetch_requests.specs.Making.{fault_or, faults, first_fault, is_long_body, made, new_request, request_for}
use Rattle.fetch_requests.specs.Loading.{load_for, new_load}
use Rattle.std.specs.Bool.{then_some}
use Rattle.value_requests.specs.Urls.{unless_long, url_against}
use Rattle.fetch_requests.specs.Making.{first_bad, given_size, is_navigate, is_no_cors, is_too_long, pair_size}
use Rattle.fetch_requests.specs.Making.{or_bad_url, url_given}
use Rattle.script_scenarios.specs.Pieces.{pieces_behind}
use Rattle.script_scenarios.specs.Templates.{filled, opens, pieces, placed}
use Rattle.value_text.specs.Pieces.{with_front}
use Rattle.script_events.specs.declared.events.Event.{Event}
use Rattle.script_filling.proofs.CutLemmas.{cut-length, cut-value, uncut-value}
use Rattle.script_filling.specs.Filling.{cut_body, cut_pair, cut_url, is_plain, lacks_dollar, lacks_dollar_in}
use Rattle.script_filling.specs.Filling.{with_all_cuts, with_cuts, with_url_cut}
use Rattle.script_filling.specs.Results.{value_of}
use Rattle.script_filling.specs.Filled.{filled_init, filled_load, filled_pair}

-- how long what is left is, with one byte more where there is some
abbrev pub size_of : Option (List ℕ) → ℕ
size_of None = 0
size_of (Some rest) = length rest + 1

-- ---- nothing to fill

-- a text without a `$` is one piece
one-piece : (text : List ℕ) → lacks_dollar text ≡ true → pieces text ≡ text ∷ []
one-piece [] lacks = refl
one-piece (byte ∷ []) lacks = refl
one-piece (byte ∷ next ∷ text) lacks =
    let rest : pieces (next ∷ text) ≡ (next ∷ text) ∷ [] = one-piece (next ∷ text) (grind (arith, lacks)) in
    let closed : opens byte next ≡ false = grind (arith, lacks) in
    ap (λ (b : Bool). cond b ([] ∷ pieces text) (with_front byte (pieces (next ∷ text)))) closed
    ∙ ap (with_front byte) rest

pub filled-same : (value : List ℕ → List ℕ) (text : List ℕ) → lacks_dollar text ≡ true → filled value text ≡ text
filled-same value text lacks = rw (one-piece text lacks) (append-nil text)

body-same : (value : List ℕ → List ℕ) (body : Option (List ℕ)) → lacks_dollar_in body ≡ true
    → option_map (filled value) body ≡ body
body-same value None lacks = refl
body-same value (Some text) lacks =
    ap (λ (t : List ℕ). let o : Option (List ℕ) = Some t in o) (filled-same value text lacks)

-- no headers
nothing : (pairs : List Pair) → (length pairs == 0) ≡ true → pairs ≡ []
nothing [] none = refl
nothing (pair ∷ pairs) none = absurd (grind (arith, none))

three : (a b c : Bool) → (a && b && c) ≡ true → (a ≡ true) × ((b ≡ true) × (c ≡ true))
three true true true all = (refl, (refl, refl))
three true true false all = absurd (cc)
three true false c all = absurd (cc)
three false b c all = absurd (cc)

-- what is asked for stays as it is
pub plain-filled : (last : Option Event) (init : Init) → is_plain init ≡ true → filled_init last init ≡ init
plain-filled last init plain =
    let all = three (length init.headers == 0) (lacks_dollar init.url) (lacks_dollar_in init.body) plain in
    let none : init.headers ≡ [] = nothing init.headers all.0 in
    let headers : map (filled_pair last) init.headers ≡ init.headers =
    ap (λ (l : List Pair). map (filled_pair last) l) none ∙ sym none in
    rw (filled-same (value_of last) init.url all.1.0, headers, body-same (value_of last) init.body all.1.1) refl

-- a load stays as it is, the same
pub plain-load-filled : (last : Option Event) (init : LoadInit) → lacks_dollar init.url ≡ true
    → filled_load last init ≡ init
plain-load-filled last init plain = rw (filled-same (value_of last) init.url plain) refl

-- ---- headers and a body that are cut

-- there is a fault
abbrev HasFault : List (Option TypeFault) → Type 0
HasFault [] = ⊥
HasFault (None ∷ rest) = HasFault rest
HasFault (Some fault ∷ rest) = Unit {0}

later : (first : Option TypeFault) (rest : List (Option TypeFault)) → HasFault rest → HasFault (first ∷ rest)
later None rest has = has
later (Some fault) rest has = tt

-- then the request doesn't matter
same-fault : (all : List (Option TypeFault)) (x y : Request) → HasFault all
    → fault_or (first_fault all) x ≡ fault_or (first_fault all) y
same-fault [] x y has = absurd has
same-fault (None ∷ rest) x y has = same-fault rest x y has
same-fault (Some fault ∷ rest) x y has = refl

-- the faults, by whether there is a body, which header is bad, and whether it is too long
faults_by : Init → Parts → Bool → Option ℕ → Bool → List (Option TypeFault)
faults_by init url some bad long =
    then_some (has_credentials url) UrlCredentials
    ∷ then_some (not (is_token init.method)) BadMethod
    ∷ then_some (is_forbidden_method init.method) ForbiddenMethod
    ∷ then_some (some && is_get_or_head (normalized init.method)) BodyWithGet
    ∷ then_some (is_no_cors init.mode && not (is_safelisted_method (normalized init.method))) NoCorsMethod
    ∷ option_map BadHeader bad
    ∷ then_some (is_navigate init.mode) NavigateMode
    ∷ then_some long TooLong
    ∷ []

faults-of : (init : Init) (url : Parts)
    → faults init url ≡ faults_by init url (is_some init.body) (first_bad 0 init.headers) (is_too_long init)
unfolding faults_by
faults-of init url = refl

faults-of-cut : (init : Init) (url : Parts) → faults (with_cuts init) url
    ≡ faults_by init url (is_some (option_map cut_body init.body)) (first_bad 0 (map cut_pair init.headers))
    (is_too_long (with_cuts init))
unfolding faults_by
faults-of-cut init url = refl

has-fault : (init : Init) (url : Parts) (some : Bool) (bad : Option ℕ) → HasFault (faults_by init url some bad true)
unfolding faults_by
has-fault init url some bad =
    later (then_some (has_credentials url) UrlCredentials) _
    (later (then_some (not (is_token init.method)) BadMethod) _
    (later (then_some (is_forbidden_method init.method) ForbiddenMethod) _
    (later (then_some (some && is_get_or_head (normalized init.method)) BodyWithGet) _
    (later (then_some (is_no_cors init.mode && not (is_safelisted_method (normalized init.method))) NoCorsMethod) _
    (later (option_map BadHeader bad) _
    (later (then_some (is_navigate init.mode) NavigateMode) _ tt))))))

-- whether there is a body
some-same : (body : Option (List ℕ)) → is_some (option_map cut_body body) ≡ is_some body
some-same None = refl
some-same (Some body) = refl

-- which header is bad
bad-same : (i : ℕ) (pairs : List Pair) → first_bad i (map cut_pair pairs) ≡ first_bad i pairs
bad-same i [] = refl
bad-same i (pair ∷ pairs) =
    ap (λ (b : Bool). cond (not (is_token pair.name && b)) (Some i) (first_bad (i + 1) (map cut_pair pairs)))
    (cut-value pair.value)
    ∙ ap (λ (o : Option ℕ). cond (not (is_token pair.name && is_header_value pair.value)) (Some i) o)
    (bad-same (i + 1) pairs)

-- the numbers are equal, or both are too much
abbrev Alike : ℕ → ℕ → Type 0
Alike a b = (a ≡ b) ⊎ ((16384 < a) × (16384 < b))

alike-both : (a b c d : ℕ) → Alike a b → Alike c d → Alike (a + c) (b + d)
alike-both a b c d (inl e) (inl f) = inl (ap (λ (n : ℕ). n + c) e ∙ ap (λ (n : ℕ). b + n) f)
alike-both a b c d (inl e) (inr g) = inr (omega (arith, g.0), omega (arith, g.1))
alike-both a b c d (inr g) other = inr (omega (arith, g.0), omega (arith, g.1))

size-by : (pair : Pair) (long : Bool) → nat_lt 16384 (length pair.value) ≡ long
    → Alike (pair_size (cut_pair pair)) (pair_size pair)
size-by pair false short = inl (ap (λ (v : List ℕ). length pair.name + length v) (uncut-value pair.value short))
size-by pair true long =
    let more : 16384 < length pair.value = grind (arith, long) in
    inr (omega (arith, cut-length pair.value more), omega (arith, more))

size-all : (pairs : List Pair) → Alike (sum_by pair_size (map cut_pair pairs)) (sum_by pair_size pairs)
size-all [] = inl refl
size-all (pair ∷ pairs) =
    rw (sum_by-cons pair_size (cut_pair pair) (map cut_pair pairs), sum_by-cons pair_size pair pairs)
    (alike-both (pair_size (cut_pair pair)) (pair_size pair) (sum_by pair_size (map cut_pair pairs))
    (sum_by pair_size pairs) (size-by pair (nat_lt 16384 (length pair.value)) refl) (size-all pairs))

above : (n : ℕ) → 16384 < n → nat_lt 16384 n ≡ true
above n more = grind (arith, more)

too-much : (m a b : ℕ) → Alike a b → nat_lt 16384 (m + a) ≡ nat_lt 16384 (m + b)
too-much m a b (inl e) = ap (λ (n : ℕ). nat_lt 16384 (m + n)) e
too-much m a b (inr g) = above (m + a) (omega (arith, g.0)) ∙ sym (above (m + b) (omega (arith, g.1)))

over : (n : ℕ) → 65536 < n → nat_lt 65536 n ≡ true
over n more = grind (arith, more)

is-over : (n : ℕ) → nat_lt 65536 n ≡ true → 65536 < n
is-over n more = grind (arith, more)

is-under : (n : ℕ) → nat_lt 65536 n ≡ false → n ≤ 65537
is-under n less = grind (arith, less)

body-by : (body : List ℕ) (long : Bool) → nat_lt 65536 (length body) ≡ long
    → nat_lt 65536 (length (take 65537 body)) ≡ long
body-by body true long =
    let cut : length (take 65537 body) ≡ min 65537 (length body) = length-take 65537 body in
    over (length (take 65537 body)) (omega (arith, cut, is-over (length body) long))
body-by body false short =
    ap (λ (b : List ℕ). nat_lt 65536 (length b)) (take_all 65537 body (is-under (length body) short)) ∙ short

long-body : (body : Option (List ℕ)) → is_long_body (option_map cut_body body) ≡ is_long_body body
long-body None = refl
long-body (Some body) = body-by body (nat_lt 65536 (length body)) refl

long-same : (init : Init) → is_too_long (with_cuts init) ≡ is_too_long init
long-same init =
    ap (λ (b : Bool). b || is_long_body (option_map cut_body init.body))
    (too-much (length init.method) (sum_by pair_size (map cut_pair init.headers)) (sum_by pair_size init.headers)
    (size-all init.headers))
    ∙ ap (λ (b : Bool). nat_lt 16384 (given_size init) || b) (long-body init.body)

-- so the faults are the same
faults-same : (init : Init) (url : Parts) → faults (with_cuts init) url ≡ faults init url
faults-same init url =
    faults-of-cut init url
    ∙ ap (λ (b : Bool). faults_by init url b (first_bad 0 (map cut_pair init.headers)) (is_too_long (with_cuts init)))
    (some-same init.body)
    ∙ ap (λ (o : Option ℕ). faults_by init url (is_some init.body) o (is_too_long (with_cuts init)))
    (bad-same 0 init.headers)
    ∙ ap (faults_by init url (is_some init.body) (first_bad 0 init.headers)) (long-same init)
    ∙ sym (faults-of init url)

-- ---- what is not cut

pair-uncut : (pair : Pair) → length pair.value ≤ 16384 → cut_pair pair ≡ pair
pair-uncut pair short =
    ap (λ (v : List ℕ). let p : Pair = record { name = pair.name; value = v } in p)
    (uncut-value pair.value (grind (arith, short)))

pairs-uncut : (pairs : List Pair) → sum_by pair_size pairs ≤ 16384 → map cut_pair pairs ≡ pairs
pairs-uncut [] short = refl
pairs-uncut (pair ∷ pairs) short =
    let sum = sum_by-cons pair_size pair pairs in
    ap (λ (p : Pair). p ∷ map cut_pair pairs) (pair-uncut pair (omega (arith, sum, short)))
    ∙ ap (λ (ps : List Pair). pair ∷ ps) (pairs-uncut pairs (omega (arith, sum, short)))

body-uncut : (body : Option (List ℕ)) → is_long_body body ≡ false → option_map cut_body body ≡ body
body-uncut None short = refl
body-uncut (Some body) short =
    ap (λ (b : List ℕ). let o : Option (List ℕ) = Some b in o) (take_all 65537 body (is-under (length body) short))

uncut : (init : Init) → is_too_long init ≡ false → with_cuts init ≡ init
uncut init short =
    let both = or_parts (nat_lt 16384 (given_size init)) (is_long_body init.body) short in
    let size : given_size init ≤ 16384 = grind (arith, both.0) in
    ap (λ (hs : List Pair). let r : Init = record init { headers = hs; body = option_map cut_body init.body } in r)
    (pairs-uncut init.headers (omega (arith, size)))
    ∙ ap (λ (b : Option (List ℕ)). let r : Init = record init { headers = init.headers; body = b } in r)
    (body-uncut init.body both.1)

-- ---- the request of what is cut

made-by : (client : Client) (init : Init) (url : Parts) (long : Bool) → is_too_long init ≡ long
    → fault_or (first_fault (faults (with_cuts init) url)) (made client (with_cuts init) url)
    ≡ fault_or (first_fault (faults init url)) (made client init url)
made-by client init url true long =
    let there : HasFault (faults init url) =
    subst HasFault (sym (faults-of init url ∙ ap (faults_by init url (is_some init.body) (first_bad 0 init.headers))
    long))
    (has-fault init url (is_some init.body) (first_bad 0 init.headers)) in
    ap (λ (l : List (Option TypeFault)). fault_or (first_fault l) (made client (with_cuts init) url))
    (faults-same init url)
    ∙ same-fault (faults init url) (made client (with_cuts init) url) (made client init url) there
made-by client init url false short =
    ap (λ (i : Init). fault_or (first_fault (faults i url)) (made client i url)) (uncut init short)

by-url : (client : Client) (init : Init) (url : Result Parts TypeFault)
    → request_for client (with_cuts init) url ≡ request_for client init url
by-url client init (Err fault) = refl
by-url client init (Ok url) = made-by client init url (is_too_long init) refl

-- the request, or its fault, is the same where headers and body are cut
cuts-same : (client : Client) (init : Init) → new_request client (with_cuts init) ≡ new_request client init
cuts-same client init = by-url client init (url_given client init.url)

-- ---- a URL that is cut

long-url : (n : ℕ) → nat_lt 786432 n ≡ true → 786432 < n
long-url n more = grind (arith, more)

short-url : (n : ℕ) → nat_lt 786432 n ≡ false → n ≤ 786433
short-url n less = grind (arith, less)

too-long-url : (n : ℕ) → 786432 < n → nat_lt 786432 n ≡ true
too-long-url n more = grind (arith, more)

url-by : (client : Client) (text : List ℕ) (long : Bool) → nat_lt 786432 (length text) ≡ long
    → url_given client (cut_url text) ≡ url_given client text
url-by client text false short = ap (url_given client) (take_all 786433 text (short-url (length text) short))
url-by client text true long =
    let cut : length (take 786433 text) ≡ min 786433 (length text) = length-take 786433 text in
    let still : nat_lt 786432 (length (take 786433 text)) ≡ true =
    too-long-url (length (take 786433 text)) (omega (arith, cut, long-url (length text) long)) in
    ap (λ (b : Bool). cond b (Err LongUrl) (or_bad_url (unless_long (url_against client.url (take 786433 text))))) still
    ∙ sym (ap (λ (b : Bool). cond b (Err LongUrl) (or_bad_url (unless_long (url_against client.url text)))) long)

url-same : (client : Client) (text : List ℕ) → url_given client (cut_url text) ≡ url_given client text
url-same client text = url-by client text (nat_lt 786432 (length text)) refl

-- the text of the URL counts for nothing else
url-aside : (client : Client) (init : Init) (text : List ℕ) (url : Result Parts TypeFault)
    → request_for client (record init { url = text }) url ≡ request_for client init url
url-aside client init text (Err fault) = refl
url-aside client init text (Ok url) = refl

-- the request, or its fault, is the same where URL, headers and body are cut
pub cut-same : (client : Client) (init : Init) → new_request client (with_all_cuts init) ≡ new_request client init
cut-same client init =
    url-aside client (with_cuts init) (cut_url init.url) (url_given client (cut_url init.url))
    ∙ ap (request_for client (with_cuts init)) (url-same client init.url)
    ∙ cuts-same client init

load-aside : (client : Client) (init : LoadInit) (text : List ℕ) (url : Result Parts TypeFault)
    → load_for client (record init { url = text }) url ≡ load_for client init url
load-aside client init text (Err fault) = refl
load-aside client init text (Ok url) = refl

pub load-same : (client : Client) (init : LoadInit) → new_load client (with_url_cut init) ≡ new_load client init
load-same client init =
    load-aside client init (cut_url init.url) (url_given client (cut_url init.url))
    ∙ ap (load_for client init) (url-same client init.url)

-- ---- a text of which no more is wanted

-- it is longer than it may be
pub cut-grown : (most : ℕ) (value : List ℕ → List ℕ) (template text : List ℕ) (rest : Option (List ℕ))
    → filled value template ≡ text ++ flat_map (placed value) (pieces_behind rest) → most ≤ length text
    → take most text ≡ take most (filled value template)
cut-grown most value template text rest so long =
    sym (ap (take most) so ∙ take-append-le most text (flat_map (placed value) (pieces_behind rest)) long)

-- or all of it is there
pub cut-whole : (most : ℕ) (value : List ℕ → List ℕ) (template text : List ℕ) (rest : Option (List ℕ))
    → filled value template ≡ text ++ flat_map (placed value) (pieces_behind rest) → rest ≡ None
    → take most text ≡ take most (filled value template)
cut-whole most value template text rest so none =
    sym (ap (take most) (so ∙ ap (λ (r : Option (List ℕ)). text ++ flat_map (placed value) (pieces_behind r)) none
    ∙ append-nil text))
