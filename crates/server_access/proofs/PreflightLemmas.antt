-- HTTP fetch with a CORS-preflight, over an empty book and over heads of which what counts is given.
use Rattle.std.proofs.Common.{◌≡◌, ℕ, Bool, true, false, not, ◌&&◌, ◌||◌, ◌==◌, List, [], ◌∷◌, length}
use Rattle.std.proofs.Common.{Option, Some, None, refl, ap, sym, ◌∙◌, true≢false, if◌then◌else◌}
use Rattle.std.specs.List.{list_all}
use Rattle.value_headers.specs.Headers.{values_of}
use Rattle.book_preflights.specs.declared.entry.Allowed.TheVariants.{HeaderName}
use Rattle.book_preflights.specs.declared.question.Question.{Question}
use Rattle.book_preflights.specs.Entries.{has_match, has_method_match}
use Rattle.value_requests.specs.declared.client.Client.{Client}
use Rattle.value_requests.specs.declared.hop.Head.{Head}
use Rattle.value_requests.specs.declared.request.Request.{Request}
use Rattle.value_requests.specs.Modes.{is_include}
use Rattle.value_requests.specs.Methods.{is_safelisted_method}
use Rattle.policy_checks.specs.RequestOrigins.{serialized_request_origin}
use Rattle.book_calls.specs.declared.op.Op.{Op}
use Rattle.book_calls.specs.declared.op.Reply.TheVariants.{No}
use Rattle.book_calls.specs.Book.{empty, reply, yes_or_no}
use Rattle.policy_safelist.specs.UnsafeNames.{unsafe_names}
use Rattle.policy_preflight.specs.declared.answer.Checked.{Checked}
use Rattle.policy_preflight.specs.Verdict.{verdict}
use Rattle.fetch_acts.specs.declared.act.Input.TheVariants.{HeadIs}
use Rattle.fetch_rules.specs.Questions.{asked_method, covers_of, url_text}
use Rattle.fetch_rules.specs.Switch.{needs_preflight}
use Rattle.fetch_definitions.specs.PreflightFetch.{after_preflight_head, names_of, preflight_judged}
use Rattle.fetch_definitions.specs.Then.{Context, Onward, Then, then_ask_where}
use Rattle.server_access.proofs.HttpLemmas.{no-note, sts}

-- ---- the question

-- no entry matches a method that is asked for, nor a name
uncovered : (question : Question) (now : ℕ) (flag safe unsafe : Bool) (method : List ℕ) (names : List (List ℕ))
    → (flag || (unsafe && (not safe || not (length names == 0)))) ≡ true
    → (has_method_match question now [] (if safe && not flag then None else Some method)
    && list_all (λ name. has_match question now [] (HeaderName name)) names) ≡ false
uncovered question now true true unsafe method names is = refl
uncovered question now true false unsafe method names is = refl
uncovered question now false false unsafe method names is = refl
uncovered question now false true true method [] is = absurd (true≢false (sym is))
uncovered question now false true false method [] is = absurd (true≢false (sym is))
uncovered question now false true unsafe method (name ∷ names) is = refl

-- what the book is asked
abbrev question_of : Client → Request → Question
question_of client request = record {
  key = client.key;
  origin = serialized_request_origin request;
  url = url_text request;
  include = is_include request.credentials;
  method = asked_method request;
  names = unsafe_names request.headers;
}

-- an empty book does not cover a request that needs a preflight
pub covers-not : (client : Client) (request : Request) (now : ℕ) → needs_preflight request ≡ true
    → reply empty (covers_of client request now) ≡ No
covers-not client request now needs =
    ap yes_or_no (uncovered (question_of client request) now request.use_preflight
    (is_safelisted_method request.method) request.unsafe_request request.method (unsafe_names request.headers) needs)

-- ---- the answer

-- a head without the field that known hosts are noted by is judged
pub preflight-judged : (onward : Onward) (context : Context) (next : Then) (request : Request) (head : Head)
    (checked : Checked) → values_of sts head.headers ≡ []
    → verdict request (serialized_request_origin request) (names_of request) head ≡ checked
    → after_preflight_head onward context next request (HeadIs head)
    ≡ preflight_judged onward context next request checked
preflight-judged onward context next request head checked silent is =
    ap (λ (op : Option Op). then_ask_where request op (preflight_judged onward context next request
    (verdict request (serialized_request_origin request) (names_of request) head)))
    (no-note context.now request head silent)
    ∙ ap (preflight_judged onward context next request) is
