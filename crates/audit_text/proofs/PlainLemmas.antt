-- The lines of what is printed of a plain transcript, of which none is the heading of a history.
use Rattle.std.proofs.Common.{◌≡◌, ◌≢◌, ◌==◌, ◌/◌, ◌%◌, ℕ, zero, suc, Bool, true, false, not, List, [], ◌∷◌, ◌++◌, length}
use Rattle.std.proofs.Common.{ap, codes, get_or, refl, sym, ◌∙◌, arith, Option, Some, None, append-nil}
use Rattle.std.specs.Prelude.{IfSome, IsTrue, decimal}
use Rattle.std.specs.List.{All, AllByRecursion, flat_map, list_all}
use Rattle.std.specs.Char.{digit_char}
use Rattle.std.specs.Fmt.{digit_glyph, digits, digits_onto}
use Rattle.std.proofs.lemmas.Bool.{and_from, and_parts, cond_both}
use Rattle.std.proofs.lemmas.Bool.Decides.{nat_tests}
use Rattle.std.proofs.lemmas.List.Concat.{flat_map-append}
use Rattle.std.proofs.lemmas.List.Elements.{All-append, All-cons, All-nil}
use Rattle.value_lemmas.proofs.Lists.{list_all-weaker}
use Rattle.value_text.specs.Tokens.{is_token}
use Rattle.value_headers.specs.declared.headers.Header.{Header}
use Rattle.value_requests.specs.declared.error.NetError.{NetError}
use Rattle.value_requests.specs.declared.error.NetError.TheVariants as error
use Rattle.value_requests.specs.declared.fault.TypeFault.{TypeFault}
use Rattle.value_requests.specs.declared.fault.TypeFault.TheVariants as fault
use Rattle.value_requests.specs.declared.hop.Hop.{Hop}
use Rattle.value_requests.specs.declared.policy.Destination.{Destination}
use Rattle.value_requests.specs.declared.policy.Destination.TheVariants as destination
use Rattle.value_requests.specs.declared.policy.Directive.{Directive}
use Rattle.value_requests.specs.declared.policy.Directive.TheVariants as directive
use Rattle.value_requests.specs.declared.response.BodyEnd.{BodyEnd}
use Rattle.value_requests.specs.declared.response.BodyEnd.TheVariants as body
use Rattle.value_requests.specs.declared.response.Outcome.{Outcome}
use Rattle.value_requests.specs.declared.response.Outcome.TheVariants as outcome
use Rattle.value_requests.specs.declared.response.Response.{Response}
use Rattle.value_requests.specs.declared.response.ResponseKind.{ResponseKind}
use Rattle.value_requests.specs.declared.response.ResponseKind.TheVariants as kind
use Rattle.value_requests.specs.Errors.{error_name, error_number, fault_name, fault_number}
use Rattle.value_requests.specs.Names.{destination_name, directive_name, kind_name}
use Rattle.book_calls.specs.declared.op.Op.{Op}
use Rattle.book_calls.specs.declared.op.Op.TheVariants.{Match, Note, Covers, Learn, Clear}
use Rattle.book_calls.specs.declared.op.Reply.{Reply}
use Rattle.book_calls.specs.declared.op.Reply.TheVariants.{Yes, No, Done}
use Rattle.book_hosts.specs.declared.sts.Sts.{Sts}
use Rattle.script_lines.specs.Calls.{call_text, comma_texts, credentials_text, list_text, lesson_text, method_text, op_text}
use Rattle.script_lines.specs.Calls.{question_text, reply_text, sts_text, subdomains_text, time_text}
use Rattle.script_events.specs.declared.events.Ending.{Ending}
use Rattle.script_events.specs.declared.events.Ending.TheVariants as ending
use Rattle.script_events.specs.declared.events.Event.{Event}
use Rattle.script_events.specs.declared.events.Event.TheVariants as event
use Rattle.script_events.specs.declared.events.Transcript.{Transcript}
use Rattle.script_lines.specs.Escapes.{escaped, escaped_byte, hex_escape, is_plain}
use Rattle.script_lines.specs.Lines.{body_line, body_text, disposition_name, error_text, escaped_line, event_text}
use Rattle.script_lines.specs.Lines.{fault_text, header_line, header_lines, hop_lines, line, named_header, named_index}
use Rattle.script_lines.specs.Lines.{outcome_lines, request_body_lines, request_line, response_lines, url_text}
use Rattle.play_text.specs.Plain.{IsLine, IsPlainError, IsPlainEvent, IsPlainOutcome, IsPlainTranscript}
use Rattle.play_text.specs.Text.{ending_line, transcript_text}
use Rattle.play_text.specs.Words.{has_words, is_method, is_visible, is_word}
use Rattle.audit_text.specs.Histories.{heading, lined}
use Rattle.audit_text.specs.Private.Cuts.{IsOther}
use Rattle.audit_text.proofs.CallLemmas.{five, three}
use Rattle.audit_text.proofs.ListLemmas.{token-lacks}

-- ---- texts on one line

both-line : (one other : List ℕ) → IsLine one → IsLine other → IsLine (one ++ other)
both-line [] other is too = too
both-line (byte ∷ one) other is too =
    let parts = and_parts (not (byte == 10)) _ is in
    and_from (not (byte == 10)) _ parts.0 (both-line one other parts.1 too)

-- a text and more of them, one after the other
abbrev joined : List ℕ → List (List ℕ) → List ℕ
joined text [] = text
joined text (piece ∷ pieces) = joined (text ++ piece) pieces

pub joined-line : (text : List ℕ) (pieces : List (List ℕ)) → IsLine text → AllByRecursion IsLine pieces
    → IsLine (joined text pieces)
joined-line text [] is are = is
joined-line text (piece ∷ pieces) is are = joined-line (text ++ piece) pieces (both-line text piece is are.0) are.1

flat-line : {X : Type 0} (f : X → List ℕ) (xs : List X) → AllByRecursion (λ x. IsLine (f x)) xs
    → IsLine (flat_map f xs)
flat-line f [] are = refl
flat-line f (x ∷ xs) are = both-line (f x) (flat_map f xs) are.0 (flat-line f xs are.1)

glyph-line : (digit : ℕ) → not (digit_glyph false digit == 10) ≡ true
glyph-line digit = grind (arith, nat_tests)

onto-line : (most n : ℕ) (text : List ℕ) → IsLine text → IsLine (digits_onto most 10 false n text)
onto-line zero n text is = is
onto-line (suc most) n text is =
    let glyph = digit_glyph false (n % 10) in
    let more : IsLine (glyph ∷ text) = and_from (not (glyph == 10)) _ (glyph-line (n % 10)) is in
    cond_both (n / 10 == 0) (glyph ∷ text) (digits_onto most 10 false (n / 10) (glyph ∷ text)) IsLine (λ _. more)
    (λ _. onto-line most (n / 10) (glyph ∷ text) more)

pub number-line : (n : ℕ) → IsLine (decimal n)
unfolding digits
number-line n = onto-line 64 n [] refl

char-line : (digit : ℕ) → not (digit_char digit == 10) ≡ true
char-line digit = grind (arith, nat_tests)

byte-line : (byte : ℕ) → IsLine (escaped_byte byte)
byte-line byte =
    cond_both (is_plain byte) (byte ∷ []) (hex_escape byte) IsLine
    (λ plain. grind (arith, nat_tests))
    (λ _. and_from (not (digit_char (byte / 16) == 10)) _ (char-line (byte / 16))
    (and_from (not (digit_char (byte % 16) == 10)) true (char-line (byte % 16)) refl))

escaped-line : (text : List ℕ) → IsLine (escaped text)
escaped-line [] = refl
escaped-line (byte ∷ text) = both-line (escaped_byte byte) (escaped text) (byte-line byte) (escaped-line text)

visible-line : (byte : ℕ) → is_visible byte ≡ true → not (byte == 10) ≡ true
visible-line byte is = grind (arith, nat_tests)

word-line : (text : List ℕ) → IsTrue (is_word text) → IsLine text
word-line text is =
    list_all-weaker is_visible (λ byte. not (byte == 10)) visible-line text
    (and_parts (not (length text == 0)) (list_all is_visible text) is).1

token-line : (text : List ℕ) → IsTrue (is_token text) → IsLine text
token-line text is = token-lacks 10 refl text is

-- ---- calls

method-line : (method : Option (List ℕ)) → IsTrue (is_method method) → IsLine (method_text method)
method-line None is = refl
method-line (Some method) is = token-line method is

commas-line : (texts : List (List ℕ)) → IsTrue (list_all is_token texts) → IsLine (comma_texts texts)
commas-line [] are = refl
commas-line (text ∷ texts) are =
    let parts = and_parts (is_token text) (list_all is_token texts) are in
    both-line (codes "," ++ text) (comma_texts texts) (both-line (codes ",") text refl (token-line text parts.0))
    (commas-line texts parts.1)

list-line : (texts : List (List ℕ)) → IsTrue (list_all is_token texts) → IsLine (list_text texts)
list-line [] are = refl
list-line (text ∷ texts) are =
    let parts = and_parts (is_token text) (list_all is_token texts) are in
    both-line text (comma_texts texts) (token-line text parts.0) (commas-line texts parts.1)

credentials-line : (include : Bool) → IsLine (credentials_text include)
credentials-line true = refl
credentials-line false = refl

subdomains-line : (subdomains : Bool) → IsLine (subdomains_text subdomains)
subdomains-line true = refl
subdomains-line false = refl

time-line : (now : ℕ) → IsLine (time_text now)
time-line now = joined-line (codes " at ") (decimal now ∷ []) refl (number-line now, tt)

sts-line : (sts : Sts) → IsLine (sts_text sts)
sts-line sts =
    joined-line (decimal sts.age) (codes " " ∷ subdomains_text sts.subdomains ∷ []) (number-line sts.age)
    (refl, (subdomains-line sts.subdomains, tt))

op-line : (op : Op) → IsTrue (has_words op) → IsLine (op_text op)
op-line (Match host now) is =
    joined-line (codes "match ") (host ∷ time_text now ∷ []) refl (word-line host is, (time-line now, tt))
op-line (Note host sts now) is =
    joined-line (codes "note ") (host ∷ codes " " ∷ sts_text sts ∷ time_text now ∷ []) refl
    (word-line host is, (refl, (sts-line sts, (time-line now, tt))))
op-line (Covers question now) is =
    let words = five (is_word question.key) (is_word question.origin) (is_method question.method)
    (list_all is_token question.names) (is_word question.url) is in
    let asked = joined-line question.key (codes " " ∷ question.origin ∷ codes " " ∷ credentials_text question.include
    ∷ codes " " ∷ method_text question.method ∷ codes " " ∷ list_text question.names ∷ codes " " ∷ question.url ∷ [])
    (word-line question.key words.0) (
      refl,
      (
        word-line question.origin words.1,
        (
          refl,
          (
            credentials-line question.include,
            (
              refl,
              (
                method-line question.method words.2,
                (
                  refl,
                  (
                    list-line question.names words.3,
                    (
                      refl,
                      (
                        word-line question.url words.4,
                        tt,
                      ),
                    ),
                  ),
                ),
              ),
            ),
          ),
        ),
      ),
    ) in
    joined-line (codes "covers ") (question_text question ∷ time_text now ∷ []) refl (asked, (time-line now, tt))
op-line (Learn lesson now) is =
    let words = five (is_word lesson.key) (is_word lesson.origin) (list_all is_token lesson.methods)
    (list_all is_token lesson.names) (is_word lesson.url) is in
    let taught = joined-line lesson.key (codes " " ∷ lesson.origin ∷ codes " " ∷ credentials_text lesson.include
    ∷ codes " " ∷ decimal lesson.age ∷ codes " " ∷ list_text lesson.methods ∷ codes " " ∷ list_text lesson.names
    ∷ codes " " ∷ lesson.url ∷ [])
    (word-line lesson.key words.0) (
      refl,
      (
        word-line lesson.origin words.1,
        (
          refl,
          (
            credentials-line lesson.include,
            (
              refl,
              (
                number-line lesson.age,
                (
                  refl,
                  (
                    list-line lesson.methods words.2,
                    (
                      refl,
                      (
                        list-line lesson.names words.3,
                        (
                          refl,
                          (
                            word-line lesson.url words.4,
                            tt,
                          ),
                        ),
                      ),
                    ),
                  ),
                ),
              ),
            ),
          ),
        ),
      ),
    ) in
    joined-line (codes "learn ") (lesson_text lesson ∷ time_text now ∷ []) refl (taught, (time-line now, tt))
op-line (Clear key origin url now) is =
    let words = three (is_word key) (is_word origin) (is_word url) is in
    joined-line (codes "clear ") (key ∷ codes " " ∷ origin ∷ codes " " ∷ url ∷ time_text now ∷ []) refl
    (word-line key words.0, (refl, (word-line origin words.1, (refl, (word-line url words.2, (time-line now, tt))))))

reply-line : (reply : Reply) → IsLine (reply_text reply)
reply-line Yes = refl
reply-line No = refl
reply-line Done = refl

pub call-line : (op : Op) (reply : Reply) → IsTrue (has_words op) → IsLine (call_text op reply)
call-line op reply is =
    joined-line (op_text op) (codes ": " ∷ reply_text reply ∷ []) (op-line op is) (refl, (reply-line reply, tt))

-- ---- lines of which none is the heading

-- The text is such lines.
pub record OtherLines (text : List ℕ) : Type 0 where
  pub lines : List (List ℕ)
  pub are : All IsOther lines
  pub text_is : text ≡ lined lines

no-lines : OtherLines []
no-lines = record { lines = []; are = All-nil IsOther; text_is = refl }

-- one whose first byte is no `h`
other-line : (text : List ℕ) → (get_or text 0 0 == 104) ≡ false → IsLine text → OtherLines (line text)
other-line text first is = record {
  lines = text ∷ [];
  are = All-cons IsOther text [] (record { is_line = is; other = other }) (All-nil IsOther);
  text_is = sym (append-nil (line text));
}
  where
    other : text ≢ heading
    other same =
        let no : false ≡ true = sym first ∙ ap (λ (l : List ℕ). get_or l 0 0 == 104) same in cc

pub both-lines : (one other : List ℕ) → OtherLines one → OtherLines other → OtherLines (one ++ other)
both-lines one other are too = record {
  lines = are.lines ++ too.lines;
  are = All-append IsOther are.lines too.lines are.are too.are;
  text_is = ap (λ (l : List ℕ). l ++ other) are.text_is ∙ ap (λ (l : List ℕ). lined are.lines ++ l) too.text_is
      ∙ sym (flat_map-append line are.lines too.lines);
}

pub flat-lines : {X : Type 0} (f : X → List ℕ) (xs : List X) → AllByRecursion (λ x. OtherLines (f x)) xs
    → OtherLines (flat_map f xs)
flat-lines f [] are = no-lines
flat-lines f (x ∷ xs) are = both-lines (f x) (flat_map f xs) are.0 (flat-lines f xs are.1)

-- ---- events

escaped-lines : (text : List ℕ) → OtherLines (escaped_line text)
escaped-lines text =
    other-line (codes "  " ++ escaped text) refl (both-line (codes "  ") (escaped text) refl (escaped-line text))

headers-lines : (headers : List Header) → OtherLines (header_lines headers)
headers-lines [] = no-lines
headers-lines (header ∷ headers) =
    both-lines (escaped_line (header_line header)) (header_lines headers) (escaped-lines (header_line header))
    (headers-lines headers)

body-line : (bytes : List ℕ) → IsLine (body_text bytes)
body-line bytes =
    joined-line (decimal (length bytes)) (codes ": " ∷ escaped bytes ∷ []) (number-line (length bytes))
    (refl, (escaped-line bytes, tt))

request-lines : (bytes : Option (List ℕ)) → OtherLines (request_body_lines bytes)
request-lines None = no-lines
request-lines (Some bytes) =
    other-line (codes "  body " ++ body_text bytes) refl
    (both-line (codes "  body ") (body_text bytes) refl (body-line bytes))

hop-plain : (hop : Hop) → IsLine hop.origin → OtherLines (hop_lines hop)
hop-plain hop is =
    let sent = line (codes "send " ++ hop.origin) in
    let asked = escaped_line (request_line hop) in
    both-lines (sent ++ asked ++ header_lines hop.headers) (request_body_lines hop.body)
    (both-lines (sent ++ asked) (header_lines hop.headers)
    (both-lines sent asked
    (other-line (codes "send " ++ hop.origin) refl (both-line (codes "send ") hop.origin refl is))
    (escaped-lines (request_line hop))) (headers-lines hop.headers))
    (request-lines hop.body)

directive-line : (one : Directive) → IsLine (directive_name one)
directive-line directive.ConnectSrc = refl
directive-line one = refl

destination-line : (one : Destination) → IsLine (destination_name one)
destination-line destination.Fetch = refl
destination-line one = refl

kind-line : (one : ResponseKind) → IsLine (kind_name one)
kind-line kind.Basic = refl
kind-line one = refl

enforced-line : (enforced : Bool) → IsLine (disposition_name enforced)
enforced-line true = refl
enforced-line false = refl

url-line : (url : Option (List ℕ)) → IfSome url IsLine → IsLine (url_text url)
url-line None is = refl
url-line (Some url) is = is

end-lines : (end : BodyEnd) → OtherLines (body_line end)
end-lines body.Null = other-line (codes "  body none") refl refl
end-lines (body.Whole bytes) =
    other-line (codes "  body whole " ++ body_text bytes) refl
    (both-line (codes "  body whole ") (body_text bytes) refl (body-line bytes))
end-lines (body.Cut count) =
    other-line (codes "  body cut " ++ decimal count) refl
    (both-line (codes "  body cut ") (decimal count) refl (number-line count))
end-lines (body.Fault count) =
    other-line (codes "  body fault " ++ decimal count) refl
    (both-line (codes "  body fault ") (decimal count) refl (number-line count))
end-lines body.TooBig = other-line (codes "  body toobig") refl refl

response-plain : (response : Response) → IfSome response.url IsLine → OtherLines (response_lines response)
response-plain response is =
    let pieces = kind_name response.kind ∷ codes " " ∷ decimal response.status ∷ codes " " ∷ url_text response.url
    ∷ [] in
    let first = joined (codes "result ") pieces in
    both-lines (line first ++ header_lines response.headers) (body_line response.body)
    (both-lines (line first) (header_lines response.headers)
    (other-line first refl (joined-line (codes "result ") pieces refl
    (kind-line response.kind, (refl, (number-line response.status, (refl, (url-line response.url is, tt)))))))
    (headers-lines response.headers)) (end-lines response.body)

error-line : (one : NetError) → IsPlainError one → IsLine (error_text one)
error-line one is =
    joined-line (decimal (error_number one)) (codes " " ∷ error_name one ∷ named_header one ∷ [])
    (number-line (error_number one)) (refl, (name one, (header one is, tt)))
  where
    name : (one : NetError) → IsLine (error_name one)
    name error.Scheme = refl
    name one = refl

    header : (one : NetError) → IsPlainError one → IsLine (named_header one)
    header (error.PreflightHeader name) is = both-line (codes " ") name refl is
    header one is = refl

fault-line : (one : TypeFault) → IsLine (fault_text one)
fault-line one =
    joined-line (decimal (fault_number one)) (codes " " ∷ fault_name one ∷ named_index one ∷ [])
    (number-line (fault_number one)) (refl, (name one, (place one, tt)))
  where
    name : (one : TypeFault) → IsLine (fault_name one)
    name fault.BadUrl = refl
    name one = refl

    place : (one : TypeFault) → IsLine (named_index one)
    place (fault.BadHeader index) = both-line (codes " ") (decimal index) refl (number-line index)
    place one = refl

outcome-plain : (came : Outcome) → IsPlainOutcome came → OtherLines (outcome_lines came)
outcome-plain (outcome.Answer response) is = response-plain response is
outcome-plain outcome.Loaded is = other-line (codes "result loaded") refl refl
outcome-plain (outcome.Error reason) is =
    other-line (codes "result error " ++ error_text reason) refl
    (both-line (codes "result error ") (error_text reason) refl (error-line reason is))

event-plain : (shown : Event) → IsPlainEvent shown → OtherLines (event_text shown)
event-plain (event.Fetch number) is =
    other-line (codes "fetch " ++ decimal number) refl
    (both-line (codes "fetch ") (decimal number) refl (number-line number))
event-plain (event.Load number kind) is =
    let pieces = decimal number ∷ codes " " ∷ destination_name kind ∷ [] in
    other-line (joined (codes "load ") pieces) refl
    (joined-line (codes "load ") pieces refl (number-line number, (refl, (destination-line kind, tt))))
event-plain (event.Call op reply) is =
    other-line (codes "call " ++ call_text op reply) refl
    (both-line (codes "call ") (call_text op reply) refl (call-line op reply is))
event-plain (event.Sent hop) is = hop-plain hop is
event-plain (event.Told told) is =
    let pieces = decimal told.policy ∷ codes " " ∷ disposition_name told.enforced ∷ codes " "
    ∷ directive_name told.directive ∷ codes " " ∷ told.url ∷ [] in
    other-line (joined (codes "violation ") pieces) refl
    (joined-line (codes "violation ") pieces refl (
      number-line told.policy,
      (
        refl,
        (
          enforced-line told.enforced,
          (
            refl,
            (
              directive-line told.directive,
              (
                refl,
                (
                  is,
                  tt,
                ),
              ),
            ),
          ),
        ),
      ),
    ))
event-plain (event.Result came) is = outcome-plain came is
event-plain (event.LoadFailed reason) is =
    other-line (codes "result failed " ++ error_text reason) refl
    (both-line (codes "result failed ") (error_text reason) refl (error-line reason is))
event-plain (event.TypeError reason) is =
    other-line (codes "result type-error " ++ fault_text reason) refl
    (both-line (codes "result type-error ") (fault_text reason) refl (fault-line reason))
event-plain (event.LoadError reason) is =
    other-line (codes "result failed type-error " ++ fault_text reason) refl
    (both-line (codes "result failed type-error ") (fault_text reason) refl (fault-line reason))

-- ---- transcripts

events-plain : (events : List Event) → AllByRecursion IsPlainEvent events → OtherLines (flat_map event_text events)
events-plain [] are = no-lines
events-plain (shown ∷ events) are =
    both-lines (event_text shown) (flat_map event_text events) (event-plain shown are.0) (events-plain events are.1)

ending-lines : (end : Ending) → OtherLines (ending_line end)
ending-lines ending.Finished = other-line (codes "end finished") refl refl
ending-lines ending.Fetches = other-line (codes "end limit fetches") refl refl
ending-lines ending.Commands = other-line (codes "end limit commands") refl refl
ending-lines ending.Text = other-line (codes "end limit text") refl refl
ending-lines ending.Memory = no-lines

transcript-lines : (transcript : Transcript) → IsPlainTranscript transcript → OtherLines (transcript_text transcript)
transcript-lines transcript is =
    let pieces = decimal transcript.document ∷ codes " " ∷ transcript.key ∷ [] in
    let first = joined (codes "document ") pieces in
    both-lines (line first ++ flat_map event_text transcript.events) (ending_line transcript.ending)
    (both-lines (line first) (flat_map event_text transcript.events)
    (other-line first refl (joined-line (codes "document ") pieces refl
    (number-line transcript.document, (refl, (is.key, tt)))))
    (events-plain transcript.events is.events)) (ending-lines transcript.ending)

pub transcripts-lines : (transcripts : List Transcript) → AllByRecursion IsPlainTranscript transcripts
    → OtherLines (flat_map transcript_text transcripts)
transcripts-lines [] are = no-lines
transcripts-lines (transcript ∷ transcripts) are =
    both-lines (transcript_text transcript) (flat_map transcript_text transcripts)
    (transcript-lines transcript are.0) (transcripts-lines transcripts are.1)

-- the line before all
pub first-line : OtherLines (line (codes "fetchplay 1"))
first-line = other-line (codes "fetchplay 1") refl refl
