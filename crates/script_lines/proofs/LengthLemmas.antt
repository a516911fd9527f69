-- How long each part of the lines of an event is.
use Rattle.std.proofs.Common.{◌≡◌, ℕ, ◌+◌, Bool, true, false, List, [], ◌∷◌, ◌++◌, codes, cond, length, refl, arith}
use Rattle.std.proofs.Common.{Option, Some, None, length-append, ◌∙◌}
use Rattle.std.proofs.lemmas.List.Sums.{sum_by-append}
use Rattle.std.specs.Prelude.{sum_by, decimal}
use Rattle.std.specs.List.{flat_map}
use Rattle.book_calls.specs.declared.op.Op.{Op}
use Rattle.book_calls.specs.declared.op.Op.TheVariants.{Match, Note, Covers, Learn, Clear}
use Rattle.book_calls.specs.declared.op.Reply.{Reply}
use Rattle.book_calls.specs.declared.op.Reply.TheVariants.{Yes, No, Done}
use Rattle.value_headers.specs.declared.headers.Header.{Header}
use Rattle.value_requests.specs.declared.error.NetError.{NetError}
use Rattle.value_requests.specs.declared.error.NetError.TheVariants.{PreflightHeader}
use Rattle.value_requests.specs.declared.fault.TypeFault.{TypeFault}
use Rattle.value_requests.specs.declared.fault.TypeFault.TheVariants.{BadHeader}
use Rattle.value_requests.specs.declared.hop.Hop.{Hop}
use Rattle.value_requests.specs.declared.policy.Violation.{Violation}
use Rattle.value_requests.specs.declared.response.BodyEnd.{BodyEnd}
use Rattle.value_requests.specs.declared.response.BodyEnd.TheVariants as body
use Rattle.value_requests.specs.declared.response.Outcome.{Outcome}
use Rattle.value_requests.specs.declared.response.Outcome.TheVariants as outcome
use Rattle.value_requests.specs.declared.response.Response.{Response}
use Rattle.script_lines.specs.Calls as text
use Rattle.script_events.specs.declared.events.Event.{Event}
use Rattle.script_events.specs.declared.events.Event.TheVariants as event
use Rattle.script_lines.specs.Escapes.{escaped, escaped_byte, hex_escape, is_plain}
use Rattle.script_lines.specs.Lengths as lengths
use Rattle.script_lines.specs.Lines as line

-- texts that are joined are as long as all of them
joined : {X : Type 0} (f : X → List ℕ) (g : X → ℕ) → ((x : X) → length (f x) ≡ g x) → (xs : List X)
    → length (flat_map f xs) ≡ sum_by g xs
joined f g each [] = refl
joined f g each (x ∷ xs) =
    omega (arith, length-append (f x) (flat_map f xs), each x, joined f g each xs, sum_by-append g (x ∷ []) xs)

-- ---- numbers and texts

of-byte : (byte : ℕ) → length (escaped_byte byte) ≡ cond (is_plain byte) 1 4
of-byte byte = split (is_plain byte)
  where
    split : (v : Bool) → length (cond v (byte ∷ []) (hex_escape byte)) ≡ cond v 1 4
    split true = refl
    split false = refl

of-escaped : (t : List ℕ) → length (escaped t) ≡ lengths.escaped_length t
of-escaped t = joined escaped_byte (λ byte. cond (is_plain byte) 1 4) of-byte t

of-commas : (ts : List (List ℕ)) → length (text.comma_texts ts) ≡ sum_by (λ (t : List ℕ). 1 + length t) ts
of-commas ts = joined (λ (t : List ℕ). codes "," ++ t) (λ (t : List ℕ). 1 + length t) (λ t. omega arith) ts

of-list : (ts : List (List ℕ)) → length (text.list_text ts) ≡ lengths.list_length ts
of-list [] = refl
of-list (t ∷ ts) = omega (arith, length-append t (text.comma_texts ts), of-commas ts)

of-method : (method : Option (List ℕ)) → length (text.method_text method) ≡ lengths.optional_length method
of-method None = refl
of-method (Some t) = refl

of-url : (url : Option (List ℕ)) → length (line.url_text url) ≡ lengths.optional_length url
of-url None = refl
of-url (Some t) = refl

-- ---- calls of the shared book

of-reply : (reply : Reply) → length (text.reply_text reply) ≡ lengths.reply_length reply
of-reply Yes = refl
of-reply No = refl
of-reply Done = refl

of-credentials : (include : Bool) → length (text.credentials_text include) ≡ lengths.credentials_length include
of-credentials true = refl
of-credentials false = refl

of-subdomains : (v : Bool) → length (text.subdomains_text v) ≡ cond v 3 5
of-subdomains true = refl
of-subdomains false = refl

of-op : (op : Op) → length (text.op_text op) ≡ lengths.op_length op
of-op (Match host now) = simp length-append (omega arith)
of-op (Note host sts now) = simp length-append (omega (arith, of-subdomains sts.subdomains))
of-op (Covers question now) =
    simp length-append
    (omega (arith, of-credentials question.include, of-method question.method, of-list question.names))
of-op (Learn lesson now) =
    simp length-append
    (omega (arith, of-credentials lesson.include, of-list lesson.methods, of-list lesson.names))
of-op (Clear key origin url now) = simp length-append (omega arith)

of-call : (op : Op) (reply : Reply) → length (text.call_text op reply) ≡ lengths.call_length op reply
of-call op reply =
    length-append (text.op_text op ++ codes ": ") (text.reply_text reply)
    ∙ omega (arith, length-append (text.op_text op) (codes ": "), of-op op, of-reply reply)

-- ---- lines

of-line : (t : List ℕ) → length (line.line t) ≡ length t + 1
of-line t = length-append t (codes "\n")

both-escaped : (x y : List ℕ) → lengths.escaped_length (x ++ y) ≡ lengths.escaped_length x + lengths.escaped_length y
both-escaped x y = sum_by-append (λ byte. cond (is_plain byte) 1 4) x y

of-escaped_line : (t : List ℕ) → length (line.escaped_line t) ≡ 3 + lengths.escaped_length t
of-escaped_line t = omega (arith, of-line (codes "  " ++ escaped t), of-escaped t)

of-header : (header : Header) → length (line.escaped_line (line.header_line header)) ≡ lengths.header_length header
of-header header = of-pair header.name header.value
  where
    of-pair : (name value : List ℕ) → length (line.escaped_line (name ++ codes ": " ++ value))
        ≡ 5 + lengths.escaped_length name + lengths.escaped_length value
    of-pair name value =
        omega (
          arith,
          of-escaped_line (name ++ codes ": " ++ value),
          both-escaped (name ++ codes ": ") value,
          both-escaped name (codes ": "),
        )

of-headers : (headers : List Header) → length (line.header_lines headers) ≡ lengths.headers_length headers
of-headers headers =
    joined (λ (header : Header). line.escaped_line (line.header_line header)) lengths.header_length of-header headers

of-body : (bytes : List ℕ) → length (line.body_text bytes) ≡ lengths.body_length bytes
of-body bytes = simp length-append (omega (arith, of-escaped bytes))

of-request_body : (b : Option (List ℕ)) → length (line.request_body_lines b) ≡ lengths.request_body_length b
of-request_body None = refl
of-request_body (Some bytes) = omega (arith, of-line (codes "  body " ++ line.body_text bytes), of-body bytes)

of-request : (method url : List ℕ) → length (escaped (method ++ codes " " ++ url ++ codes " HTTP/1.1"))
    ≡ 10 + lengths.escaped_length method + lengths.escaped_length url
of-request method url =
    omega (
      arith,
      of-escaped (method ++ codes " " ++ url ++ codes " HTTP/1.1"),
      both-escaped (method ++ codes " " ++ url) (codes " HTTP/1.1"),
      both-escaped (method ++ codes " ") url,
      both-escaped method (codes " "),
    )

of-hop : (hop : Hop) → length (line.hop_lines hop) ≡ lengths.hop_length hop
of-hop hop =
    simp length-append
    (omega (arith, of-request hop.method hop.url, of-headers hop.headers, of-request_body hop.body))

of-disposition : (enforced : Bool) → length (line.disposition_name enforced) ≡ cond enforced 7 6
of-disposition true = refl
of-disposition false = refl

of-violation : (v : Violation) → length (line.violation_line v) ≡ lengths.violation_length v
of-violation v = simp length-append (omega (arith, of-disposition v.enforced))

of-body_end : (end : BodyEnd) → length (line.body_line end) ≡ lengths.body_end_length end
of-body_end body.Null = refl
of-body_end (body.Whole bytes) = omega (arith, of-line (codes "  body whole " ++ line.body_text bytes), of-body bytes)
of-body_end (body.Cut count) = omega (arith, of-line (codes "  body cut " ++ decimal count))
of-body_end (body.Fault count) = omega (arith, of-line (codes "  body fault " ++ decimal count))
of-body_end body.TooBig = refl

of-response : (r : Response) → length (line.response_lines r) ≡ lengths.response_length r
of-response r = simp length-append (omega (arith, of-url r.url, of-headers r.headers, of-body_end r.body))

of-error : (error : NetError) → length (line.error_text error) ≡ lengths.error_length error
of-error error = simp length-append (omega (arith, named error))
  where
    named : (error : NetError) → length (line.named_header error) ≡ lengths.named_header_length error
    named (PreflightHeader name) = omega arith
    named _ = refl

of-fault : (fault : TypeFault) → length (line.fault_text fault) ≡ lengths.fault_length fault
of-fault fault = simp length-append (omega (arith, named fault))
  where
    named : (fault : TypeFault) → length (line.named_index fault) ≡ lengths.named_index_length fault
    named (BadHeader index) = omega arith
    named _ = refl

of-outcome : (o : Outcome) → length (line.outcome_lines o) ≡ lengths.outcome_length o
of-outcome (outcome.Answer response) = of-response response
of-outcome outcome.Loaded = refl
of-outcome (outcome.Error error) = omega (arith, of-line (codes "result error " ++ line.error_text error), of-error error)

-- the lines of an event
pub of_event : (e : Event) → length (line.event_text e) ≡ lengths.event_length e
of_event (event.Fetch number) = omega (arith, of-line (codes "fetch " ++ decimal number))
of_event (event.Load number destination) = simp length-append (omega arith)
of_event (event.Call op reply) =
    omega (arith, of-line (codes "call " ++ text.call_text op reply), of-call op reply)
of_event (event.Sent hop) = of-hop hop
of_event (event.Told violation) = of-violation violation
of_event (event.Result outcome) = of-outcome outcome
of_event (event.LoadFailed error) =
    omega (arith, of-line (codes "result failed " ++ line.error_text error), of-error error)
of_event (event.TypeError fault) =
    omega (arith, of-line (codes "result type-error " ++ line.fault_text fault), of-fault fault)
of_event (event.LoadError fault) =
    omega (arith, of-line (codes "result failed type-error " ++ line.fault_text fault), of-fault fault)
