-- What a fetch asks of the shared book has words, and what is printed of it as it is has no LF: rule by rule.
use Rattle.std.proofs.Common.{◌≡◌, ◌==◌, ◌+◌, ℕ, Bool, true, not, ◌&&◌, cond, List, [], ◌∷◌, length}
use Rattle.std.proofs.Common.{refl, arith, codes, Option, Some, None}
use Rattle.std.specs.Prelude.{IfSome, IsTrue, option_and_then, option_map}
use Rattle.std.specs.List.{AllByRecursion, list_all}
use Rattle.std.proofs.lemmas.Bool.{and_from, and_parts, cond_both}
use Rattle.std.proofs.lemmas.Bool.Decides.{nat_tests}
use Rattle.std.proofs.lemmas.Grind.{common_steps}
use Rattle.std.proofs.lemmas.List.Sums.{list_all-from_AllPass}
use Rattle.url.specs.Parts.{Parts, serialize}
use Rattle.value_headers.specs.Headers.{values_of}
use Rattle.value_lemmas.proofs.Lists.{list_all-weaker}
use Rattle.value_lists.specs.declared.extract.Extracted.{Extracted}
use Rattle.value_lists.specs.declared.extract.Extracted.TheVariants.{Absent, Failure, Items}
use Rattle.value_lists.specs.declared.extract.Rule.TheVariants.{Digits, Tokens}
use Rattle.value_lists.specs.Extract.{extracted}
use Rattle.value_origins.specs.declared.origin.Origin.{Origin}
use Rattle.value_requests.specs.declared.client.Client.{Client}
use Rattle.value_requests.specs.declared.error.NetError.TheVariants as error
use Rattle.value_requests.specs.declared.hop.Head.{Head}
use Rattle.value_requests.specs.declared.policy.Violation.{Violation}
use Rattle.value_requests.specs.declared.request.Request.{Request}
use Rattle.value_requests.specs.Methods.{is_safelisted_method}
use Rattle.value_requests.specs.Modes.{is_include}
use Rattle.value_requests.specs.Requests.{current_url, is_http_url}
use Rattle.value_requests.specs.Statuses.{is_ok_status}
use Rattle.value_requests.specs.Urls.{stripped}
use Rattle.value_text.specs.Tokens.{is_tchar, is_token}
use Rattle.value_text.specs.Wildcards.{authorization}
use Rattle.book_calls.specs.declared.op.Op.{Op}
use Rattle.book_calls.specs.declared.op.Op.TheVariants.{Match, Note}
use Rattle.book_hosts.specs.declared.sts.Sts.{Sts}
use Rattle.policy_checks.specs.CorsCheck.{passes_cors_check}
use Rattle.policy_csp.specs.declared.compiled.CompiledPolicy.{CompiledPolicy}
use Rattle.policy_csp.specs.Violations.{first_url, is_asked, is_violated, stripped_for_report, violation}
use Rattle.policy_csp.specs.Violations.{violations_from}
use Rattle.policy_preflight.specs.declared.answer.Checked.{Checked}
use Rattle.policy_preflight.specs.declared.answer.Checked.TheVariants.{Pass, Refused}
use Rattle.policy_preflight.specs.Verdict.{age_of, allows_authorization, allows_method, first_refused, methods_of}
use Rattle.policy_preflight.specs.Verdict.{allows_name, names_of, unless_refused, verdict, verdict_by, verdict_of}
use Rattle.policy_preflight.specs.Verdict.{verdict_where}
use Rattle.fetch_rules.specs.KnownHosts.{host_to_match, host_to_note, match_of, note_of, sts_of}
use Rattle.fetch_rules.specs.Questions.{asked_method, clear_of, covers_of, learn_of}
use Rattle.play_text.specs.Plain.{IsLine, IsPlainError}
use Rattle.play_text.specs.Words.{has_words, is_method, is_visible}
use Rattle.play_words.proofs.NameWordLemmas.{AreTokens, HasTokens, extracted-tokens, found-token, unsafe-tokens}
use Rattle.play_words.proofs.PathWordLemmas.{AreVisible}
use Rattle.play_words.proofs.RequestWordLemmas.{IsWordRequest, request-origin}
use Rattle.play_words.proofs.TextWordLemmas.{IsWord, name-word, stripped-word, url-word}
use Rattle.play_words.proofs.UrlWordLemmas.{IsWordUrl}

-- ---- texts on one line

visible-line : (byte : ℕ) → is_visible byte ≡ true → not (byte == 10) ≡ true
visible-line byte is = grind (arith, nat_tests)

pub word-line : (text : List ℕ) → IsWord text → IsLine text
word-line text is =
    list_all-weaker is_visible (λ byte. not (byte == 10)) visible-line text
    (and_parts (not (length text == 0)) (list_all is_visible text) is).1

line-visible : (text : List ℕ) → AreVisible text → IsLine text
line-visible text are =
    list_all-weaker is_visible (λ byte. not (byte == 10)) visible-line text
    (list_all-from_AllPass is_visible text are)

tchar-line : (byte : ℕ) → is_tchar byte ≡ true → not (byte == 10) ≡ true
tchar-line byte is = grind (arith, common_steps)

token-line : (text : List ℕ) → IsTrue (is_token text) → IsLine text
token-line text is =
    list_all-weaker is_tchar (λ byte. not (byte == 10)) tchar-line text
    (and_parts (not (length text == 0)) (list_all is_tchar text) is).1

-- ---- ops

-- an op that is there has words
abbrev AskWords : Option Op → Type 0
AskWords op = IfSome op (λ asked. IsTrue (has_words asked))

match-by : (now : ℕ) (host : Option (List ℕ)) → IfSome host IsWord → AskWords (option_map (λ name. Match name now) host)
match-by now None is = tt
match-by now (Some name) is = is

pub match-words : (now : ℕ) (request : Request) → IsWordRequest request → AskWords (match_of now request)
match-words now request is =
    match-by now (host_to_match request) (name-word (codes "http") (current_url request) is.current)

note-by : (now : ℕ) (said : Option Sts) (host : Option (List ℕ)) → IfSome host IsWord
    → AskWords (option_and_then (λ name. option_map (λ sts. Note name sts now) said) host)
note-by now said None is = tt
note-by now None (Some name) is = tt
note-by now (Some sts) (Some name) is = is

pub note-words : (now : ℕ) (request : Request) (head : Head) → IsWordRequest request
    → AskWords (note_of now request head)
note-words now request head is =
    note-by now (sts_of head) (host_to_note request) (name-word (codes "https") (current_url request) is.current)

asked-token : (request : Request) → IsWordRequest request → IsTrue (is_method (asked_method request))
asked-token request is =
    cond_both (is_safelisted_method request.method && not request.use_preflight) None (Some request.method)
    (λ o. IsTrue (is_method o)) (λ _. refl) (λ _. is.method)

module _ (client : Client) (key : IsWord client.key) (request : Request) (is : IsWordRequest request) (now : ℕ) where
  pub covers-words : IsTrue (has_words (covers_of client request now))
  covers-words = rw (
    key,
    request-origin request is,
    asked-token request is,
    unsafe-tokens request.headers is.headers,
    url-word (current_url request) is.current,
  ) refl

  pub learn-words : (age : ℕ) (methods names : List (List ℕ)) → AreTokens methods → AreTokens names
      → IsTrue (has_words (learn_of client request age methods names now))
  learn-words age methods names some others = rw (
    key,
    request-origin request is,
    some,
    others,
    url-word (current_url request) is.current,
  ) refl

  pub clear-words : IsTrue (has_words (clear_of client request now))
  clear-words = rw (key, request-origin request is, url-word (current_url request) is.current) refl

-- ---- the verdict on a preflight's answer

-- an error is plain, and what is learnt is of tokens
abbrev pub IsWordChecked : Checked → Type 0
IsWordChecked (Pass age methods names) = AreTokens methods × AreTokens names
IsWordChecked (Refused reason) = IsPlainError reason

refused-word : (refused : Option (List ℕ)) (age : ℕ) (methods names : List (List ℕ))
    → IfSome refused (λ name. IsTrue (is_token name)) → AreTokens methods → AreTokens names
    → IsWordChecked (unless_refused refused (Pass age methods names))
refused-word None age methods names is some others = (some, others)
refused-word (Some name) age methods names is some others = token-line name is

by-word : (request : Request) (unsafe : List (List ℕ)) (age : ℕ) (methods names : List (List ℕ)) → AreTokens unsafe
    → AreTokens methods → AreTokens names → IsWordChecked (verdict_by request unsafe age methods names)
by-word request unsafe age methods names all some others =
    let refused = first_refused request.credentials names unsafe in
    let last = unless_refused refused (Pass age methods names) in
    let second = cond (not (allows_authorization request names)) (Refused (error.PreflightHeader authorization)) last in
    cond_both (not (allows_method request methods)) (Refused error.PreflightMethod) second IsWordChecked (λ _. tt)
    (λ _. cond_both (not (allows_authorization request names)) (Refused (error.PreflightHeader authorization)) last
    IsWordChecked (λ _. refl)
    (λ _. refused-word refused age methods names
    (found-token (λ name. not (allows_name request.credentials names name)) unsafe all) some others))

-- lists that are there are of tokens
abbrev InTokens : Option (List (List ℕ)) → Type 0
InTokens texts = IfSome texts AreTokens

where-word : (request : Request) (unsafe : List (List ℕ)) (age : ℕ) (methods names : Option (List (List ℕ)))
    → AreTokens unsafe → InTokens methods → InTokens names
    → IsWordChecked (verdict_where request unsafe age methods names)
where-word request unsafe age None names all some others = tt
where-word request unsafe age (Some methods) None all some others = tt
where-word request unsafe age (Some methods) (Some names) all some others =
    by-word request unsafe age methods names all some others

methods-tokens : (request : Request) (texts : Extracted) → IsWordRequest request → HasTokens texts
    → InTokens (methods_of request texts)
methods-tokens request Failure is has = tt
methods-tokens request Absent is has =
    cond_both request.use_preflight (request.method ∷ []) [] AreTokens (λ _. and_from (is_token request.method) true
    is.method refl) (λ _. refl)
methods-tokens request (Items methods) is has = has

names-tokens : (texts : Extracted) → HasTokens texts → InTokens (names_of texts)
names-tokens Failure has = tt
names-tokens Absent has = refl
names-tokens (Items names) has = has

pub verdict-word : (request : Request) (origin : List ℕ) (unsafe : List (List ℕ)) (head : Head)
    → IsWordRequest request → AreTokens unsafe → IsWordChecked (verdict request origin unsafe head)
verdict-word request origin unsafe head is all =
    let methods = codes "Access-Control-Allow-Methods" in
    let names = codes "Access-Control-Allow-Headers" in
    let last = verdict_of request unsafe head.headers in
    let second = cond (not (is_ok_status head.status)) (Refused error.PreflightStatus) last in
    cond_both (not (passes_cors_check origin (is_include request.credentials) head.headers))
    (Refused error.PreflightCors) second IsWordChecked (λ _. tt)
    (λ _. cond_both (not (is_ok_status head.status)) (Refused error.PreflightStatus) last IsWordChecked (λ _. tt)
    (λ _. where-word request unsafe (age_of (extracted Digits (codes "Access-Control-Max-Age") head.headers))
    (methods_of request (extracted Tokens methods head.headers)) (names_of (extracted Tokens names head.headers)) all
    (methods-tokens request (extracted Tokens methods head.headers) is (extracted-tokens (values_of methods head.headers)))
    (names-tokens (extracted Tokens names head.headers) (extracted-tokens (values_of names head.headers)))))

-- ---- violations

abbrev pub IsPlainViolation : Violation → Type 0
IsPlainViolation told = IsLine told.url

pub report-line : (url : Parts) → IsWordUrl url → IsLine (stripped_for_report url)
report-line url is =
    cond_both (is_http_url url) (serialize (stripped url)) url.scheme IsLine
    (λ _. word-line (serialize (stripped url)) (stripped-word url is)) (λ _. line-visible url.scheme is.scheme)

pub violations-plain : (number : ℕ) (asked : Option Bool) (policies : List CompiledPolicy) (request : Request)
    (document : Origin) → IsWordUrl (first_url request.urls)
    → AllByRecursion IsPlainViolation (violations_from number asked policies request document)
violations-plain number asked [] request document is = tt
violations-plain number asked (policy ∷ policies) request document is =
    let rest = violations_from (number + 1) asked policies request document in
    let all = violations-plain (number + 1) asked policies request document is in
    cond_both (is_asked asked policy && is_violated policy request document) (violation number policy request ∷ rest)
    rest (AllByRecursion IsPlainViolation) (λ _. (report-line (first_url request.urls) is, all)) (λ _. all)
