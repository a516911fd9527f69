-- The definition of the printed text, computed on plays that were written down by hand.
use Rattle.std.proofs.Common.{◌≡◌, ℕ, Bool, List, [], ◌∷◌, ◌++◌, codes, Some, None, false, true, refl}
use Rattle.std.specs.Fmt.{digits}
use Rattle.book_calls.specs.declared.entry.Entry.{Entry}
use Rattle.book_calls.specs.declared.op.Op.TheVariants.{Match, Note, Covers, Learn, Clear}
use Rattle.book_calls.specs.declared.op.Reply.TheVariants.{Yes, No, Done}
use Rattle.value_headers.specs.declared.headers.Header.{Header}
use Rattle.book_hosts.specs.declared.sts.Sts.{Sts}
use Rattle.book_preflights.specs.declared.question.Lesson.{Lesson}
use Rattle.book_preflights.specs.declared.question.Question.{Question}
use Rattle.value_requests.specs.declared.error.NetError.TheVariants.{CorsCheck, Mime, PreflightHeader}
use Rattle.value_requests.specs.declared.fault.TypeFault.TheVariants.{BadHeader, BadUrl, ForbiddenMethod}
use Rattle.value_requests.specs.declared.hop.Hop.{Hop}
use Rattle.value_requests.specs.declared.policy.Destination.TheVariants.{Image}
use Rattle.value_requests.specs.declared.policy.Directive.TheVariants.{ConnectSrc, ImgSrc}
use Rattle.value_requests.specs.declared.response.BodyEnd.TheVariants.{Whole, Cut, Null}
use Rattle.value_requests.specs.declared.response.Outcome.TheVariants.{Answer, Error, Loaded}
use Rattle.value_requests.specs.declared.response.Response.{Response}
use Rattle.value_requests.specs.declared.response.ResponseKind.TheVariants.{Basic, Cors, Opaque}
use Rattle.script_events.specs.declared.events.Ending.TheVariants.{Finished, Fetches, Text}
use Rattle.script_events.specs.declared.events.Event.TheVariants as event
use Rattle.script_events.specs.declared.events.Transcript.{Transcript}
use Rattle.script_lines.specs.Calls.{call_text}
use Rattle.script_lines.specs.Escapes.{escaped}
use Rattle.play_text.specs.Summary.{summary_text}
use Rattle.play_text.specs.Text.{play_text, transcript_text}

abbrev header : List ℕ → List ℕ → Header
header name value = record { name = name; value = value }

-- a GET of the document's own server
abbrev hop : Hop
hop = record {
  preflight = false;
  origin = codes "https://a.test";
  url = codes "/";
  method = codes "GET";
  headers = header (codes "Host") (codes "a.test") ∷ header (codes "Accept") (codes "*/*")
      ∷ header (codes "User-Agent") (codes "fetchplay/1") ∷ header (codes "Accept-Encoding") (codes "identity")
      ∷ header (codes "Connection") (codes "close") ∷ [];
  body = None;
}

-- and its answer
abbrev response : Response
response = record {
  kind = Basic;
  status = 200;
  url = Some (codes "https://a.test/");
  headers = [];
  body = Whole (codes "hi");
}

abbrev transcript : Transcript
transcript = record {
  document = 0;
  key = codes "https://a.test";
  events = event.Fetch 0 ∷ event.Sent hop ∷ event.Result (Answer response) ∷ [];
  ending = Finished;
  clock = 0;
}

-- a play of one document that fetches once
own_fetch : play_text (transcript ∷ []) []
    ≡ codes "fetchplay 1\ndocument 0 https://a.test\nfetch 0\nsend https://a.test\n  GET / HTTP/1.1\n"
    ++ codes "  Host: a.test\n  Accept: */*\n  User-Agent: fetchplay/1\n  Accept-Encoding: identity\n"
    ++ codes "  Connection: close\nresult basic 200 https://a.test/\n  body whole 2: hi\nend finished\n"
    ++ codes "history\ndone\n"
unfolding digits
own_fetch = refl

-- requests with bodies, their answers, and what policies told
abbrev other_answers : Transcript
other_answers = record {
  document = 1;
  key = codes "https://shop.test";
  events =
      event.Sent (record hop {
        origin = codes "https://api.test";
        url = codes "/v1/cart";
        method = codes "POST";
        headers = header (codes "Host") (codes "api.test") ∷ header (codes "Content-Length") (codes "7") ∷ [];
        body = Some (codes "{\"q\":1}");
      })
      ∷ event.Result (Answer (record response {
        kind = Cors;
        url = Some (codes "https://api.test/v1/cart");
        headers = header (codes "Content-Type") (codes "application/json") ∷ [];
        body = Whole (codes "{\"ok\":true}");
      }))
      ∷ event.Sent (record hop {
        origin = codes "http://b.test";
        url = codes "/?\\";
        method = codes "PUT";
        headers = [];
        body = Some (97 ∷ 92 ∷ 98 ∷ 127 ∷ 10 ∷ 126 ∷ 195 ∷ 169 ∷ []);
      })
      ∷ event.Result (Answer (record response {
        kind = Cors;
        url = Some (codes "http://b.test/?\\");
        body = Cut 2;
      }))
      ∷ event.Result (Answer (record response { kind = Opaque; status = 0; url = None; body = Null }))
      ∷ event.Told (record {
        policy = 0;
        enforced = true;
        directive = ConnectSrc;
        url = codes "https://h.test/";
      })
      ∷ event.Told (record {
        policy = 0;
        enforced = false;
        directive = ImgSrc;
        url = codes "http://b.test/i.png";
      })
      ∷ [];
  ending = Fetches;
  clock = 0;
}

other_answers_printed : transcript_text other_answers
    ≡ codes "document 1 https://shop.test\nsend https://api.test\n  POST /v1/cart HTTP/1.1\n"
    ++ codes "  Host: api.test\n  Content-Length: 7\n  body 7: {\"q\":1}\n"
    ++ codes "result cors 200 https://api.test/v1/cart\n  Content-Type: application/json\n"
    ++ codes "  body whole 11: {\"ok\":true}\nsend http://b.test\n  PUT /?\\x5c HTTP/1.1\n"
    ++ codes "  body 8: a\\x5cb\\x7f\\x0a~\\xc3\\xa9\nresult cors 200 http://b.test/?\\\n"
    ++ codes "  body cut 2\nresult opaque 0 ()\n  body none\n"
    ++ codes "violation 0 enforce connect-src https://h.test/\n"
    ++ codes "violation 0 report img-src http://b.test/i.png\nend limit fetches\n"
unfolding digits
other_answers_printed = refl

-- errors, faults and loads
abbrev other_ends : Transcript
other_ends = record {
  document = 2;
  key = codes "http://a.test";
  events =
      event.Result (Error (PreflightHeader (codes "authorization")))
      ∷ event.Result (Error CorsCheck)
      ∷ event.TypeError ForbiddenMethod
      ∷ event.TypeError (BadHeader 1)
      ∷ event.Load 7 Image
      ∷ event.Result Loaded
      ∷ event.LoadFailed Mime
      ∷ event.LoadError BadUrl
      ∷ [];
  ending = Text;
  clock = 0;
}

other_ends_printed : transcript_text other_ends
    ≡ codes "document 2 http://a.test\nresult error 11 PreflightHeader authorization\n"
    ++ codes "result error 12 CorsCheck\nresult type-error 4 ForbiddenMethod\n"
    ++ codes "result type-error 7 BadHeader 1\nload 7 image\nresult loaded\nresult failed 20 Mime\n"
    ++ codes "result failed type-error 1 BadUrl\nend limit text\n"
unfolding digits
other_ends_printed = refl

-- a request that asks for a method: whether the cache covers it
abbrev method_question : Question
method_question = record {
  key = codes "http://a.test";
  origin = codes "http://a.test";
  url = codes "http://b.test/x";
  include = false;
  method = Some (codes "PUT");
  names = [];
}

-- and one that asks for a header name alone
abbrev name_question : Question
name_question = record method_question {
  url = codes "http://b.test/";
  method = None;
  names = codes "authorization" ∷ [];
}

-- what a preflight taught of a method
abbrev method_lesson : Lesson
method_lesson = record {
  key = codes "http://a.test";
  origin = codes "http://a.test";
  url = codes "http://b.test/x";
  include = false;
  age = 5;
  methods = codes "PUT" ∷ [];
  names = [];
}

-- and of header names
abbrev name_lesson : Lesson
name_lesson = record method_lesson {
  url = codes "http://b.test/?\\";
  include = true;
  age = 600;
  methods = [];
  names = codes "*" ∷ codes "Authorization" ∷ [];
}

abbrev sts : ℕ → Bool → Sts
sts age subdomains = record { age = age; subdomains = subdomains }

-- operations on the book
abbrev calls : Transcript
calls = record {
  document = 3;
  key = codes "http://a.test";
  events =
      event.Call (Match (codes "b.test") 0) No
      ∷ event.Call (Covers method_question 0) No
      ∷ event.Call (Learn method_lesson 0) Done
      ∷ event.Call (Covers method_question 4) Yes
      ∷ event.Call (Covers name_question 0) No
      ∷ event.Call (Clear (codes "http://a.test") (codes "http://a.test") (codes "http://b.test/") 0) Done
      ∷ event.Call (Clear (codes "http://a.test") (codes "null") (codes "http://c.test/y") 0) Done
      ∷ event.Call (Learn name_lesson 0) Done
      ∷ event.Call (Note (codes "b.test") (sts 10 false) 0) Done
      ∷ event.Call (Note (codes "api.test") (sts 31536000 true) 0) Done
      ∷ event.Call (Match (codes "b.test") 0) Yes
      ∷ [];
  ending = Finished;
  clock = 4;
}

calls_printed : transcript_text calls
    ≡ codes "document 3 http://a.test\ncall match b.test at 0: no\n"
    ++ codes "call covers http://a.test http://a.test other PUT () http://b.test/x at 0: no\n"
    ++ codes "call learn http://a.test http://a.test other 5 PUT () http://b.test/x at 0: done\n"
    ++ codes "call covers http://a.test http://a.test other PUT () http://b.test/x at 4: yes\n"
    ++ codes "call covers http://a.test http://a.test other () authorization http://b.test/ at 0: no\n"
    ++ codes "call clear http://a.test http://a.test http://b.test/ at 0: done\n"
    ++ codes "call clear http://a.test null http://c.test/y at 0: done\n"
    ++ codes "call learn http://a.test http://a.test include 600 () *,Authorization http://b.test/?\\ at 0: done\n"
    ++ codes "call note b.test 10 exact at 0: done\ncall note api.test 31536000 sub at 0: done\n"
    ++ codes "call match b.test at 0: yes\nend finished\n"
unfolding digits
calls_printed = refl

-- a history of two entries
abbrev history : List Entry
history =
    record { turn = 0; document = 0; op = Match (codes "a.test") 0; reply = Yes }
    ∷ record { turn = 12; document = 3; op = Learn method_lesson 0; reply = Done } ∷ []

history_printed : play_text [] history
    ≡ codes "fetchplay 1\nhistory\n0 0 match a.test at 0: yes\n"
    ++ codes "12 3 learn http://a.test http://a.test other 5 PUT () http://b.test/x at 0: done\ndone\n"
unfolding digits
history_printed = refl

-- the summary of a play of all these documents
summarized : summary_text 8 (transcript ∷ other_answers ∷ other_ends ∷ calls ∷ []) history
    ≡ codes "gen 8\ndocuments 4\nfetches 1\nrequests 3\ncalls 2\nresponses 4\nerrors 2\n"
unfolding digits
summarized = refl

-- the summary of a play without documents
none_summarized : summary_text 64 [] []
    ≡ codes "gen 64\ndocuments 0\nfetches 0\nrequests 0\ncalls 0\nresponses 0\nerrors 0\n"
unfolding digits
none_summarized = refl

-- a play without documents
no_documents : play_text [] [] ≡ codes "fetchplay 1\nhistory\ndone\n"
no_documents = refl

-- bytes at the edges of what is written as it is
edges : escaped (31 ∷ 32 ∷ 92 ∷ 126 ∷ 127 ∷ 195 ∷ 169 ∷ []) ≡ codes "\\x1f \\x5c~\\x7f\\xc3\\xa9"
edges = refl

-- why the law of histories wants what it wants: a method `()` has the line of none, and a name with a comma that of two
no_method : call_text (Covers (record method_question { method = Some (codes "()") }) 0) No
    ≡ call_text (Covers (record method_question { method = None }) 0) No
unfolding digits
no_method = refl

two_names : call_text (Covers (record method_question { names = codes "a,b" ∷ [] }) 0) No
    ≡ call_text (Covers (record method_question { names = codes "a" ∷ codes "b" ∷ [] }) 0) No
unfolding digits
two_names = refl
