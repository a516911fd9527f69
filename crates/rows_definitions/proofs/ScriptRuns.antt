-- The definitions computed on worked examples: a document that fetches its own root and is answered, a known host, a
-- wait, and the limits of a run.
use Rattle.rows_definitions.proofs.Shared.{get, root}
use Rattle.std.proofs.Common.{◌≡◌, ℕ, refl, false, List, [], ◌∷◌, ◌++◌, codes, Some, None, Err}
use Rattle.url.proofs.OnLiterals.{url_on_literals}
use Rattle.url.specs.declared.host.Host.TheVariants.{Domain}
use Rattle.url.specs.Parts.{Parts}
use Rattle.value_requests.specs.declared.error.NetError.TheVariants.{SameOriginMode}
use Rattle.value_requests.specs.declared.fault.TypeFault.TheVariants.{ForbiddenMethod, NavigateMode}
use Rattle.value_requests.specs.declared.hop.Hop.{Hop}
use Rattle.value_requests.specs.declared.init.Init.{Init}
use Rattle.value_requests.specs.declared.mode.Credentials.TheVariants as credentials
use Rattle.value_requests.specs.declared.mode.Mode.TheVariants as mode
use Rattle.value_requests.specs.declared.mode.RedirectMode.TheVariants as redirect
use Rattle.value_requests.specs.declared.mode.ReferrerPolicy.TheVariants as policy
use Rattle.value_requests.specs.declared.response.BodyEnd.TheVariants.{Whole}
use Rattle.value_requests.specs.declared.response.Outcome.{Outcome}
use Rattle.value_requests.specs.declared.response.Outcome.TheVariants.{Answer, Error}
use Rattle.value_requests.specs.declared.response.ResponseKind.TheVariants.{Basic}
use Rattle.value_requests.specs.Lines.{appended_where, header}
use Rattle.fetch_requests.specs.Making.{new_request}
use Rattle.script_scenarios.specs.Scripts as script
use Rattle.script_scenarios.specs.declared.command.Test.TheVariants.{BodyIs}
use Rattle.script_scenarios.specs.declared.document.Document.{Document}
use Rattle.script_events.specs.declared.events.Ending.TheVariants.{Finished, Fetches, Commands}
use Rattle.script_events.specs.declared.events.Event.{Event}
use Rattle.script_events.specs.declared.events.Event.TheVariants as event
use Rattle.fetch_acts.specs.declared.act.Input.{Input}
use Rattle.fetch_acts.specs.declared.act.Input.TheVariants.{Replied, Sent, HeadIs, BodyIs}
use Rattle.book_calls.specs.declared.op.Op.TheVariants.{Match}
use Rattle.book_calls.specs.declared.op.Reply.TheVariants.{Yes, No}
use Rattle.script_runs.specs.Play.{run_play}
use Rattle.script_runs.specs.Runs.{document_client, document_run, limit_before}

-- a GET of `/` in mode same-origin without a referrer
abbrev pub init : Init
init = get mode.SameOrigin false (codes "/")

-- the root's document, with a script that fetches `/`
abbrev pub document : Document
document = record {
  url = root;
  top = root;
  policy = policy.StrictOriginWhenCrossOrigin;
  policies = [];
  script = script.step (script.fetch init) script.no_steps;
}

-- the answer: status 200 without headers, and the body `hi`
abbrev pub tape : List Input
tape = Sent ∷ HeadIs (record { status = 200; headers = [] }) ∷ BodyIs (Whole (codes "hi")) ∷ []

-- what is sent
abbrev pub hop : Hop
hop = record {
  preflight = false;
  origin = codes "https://a.test";
  url = codes "/";
  method = codes "GET";
  headers =
      header (codes "Host") (codes "a.test")
      ∷ header (codes "Accept") (codes "*/*")
      ∷ header (codes "User-Agent") (codes "fetchplay/1")
      ∷ header (codes "Accept-Encoding") (codes "identity")
      ∷ header (codes "Connection") (codes "close")
      ∷ [];
  body = None;
}

-- what the script sees
abbrev pub answer : Outcome
answer = Answer (record {
  kind = Basic;
  status = 200;
  url = Some (codes "https://a.test/");
  headers = [];
  body = Whole (codes "hi");
})

-- the whole run
pub run_of_example : run_play (document_run [] 0 document) tape
    ≡ record { events = event.Fetch 0 ∷ event.Sent hop ∷ event.Result answer ∷ []; ending = Some (Finished, 0) }
unfolding url_on_literals appended_where
run_of_example = refl

-- a script that asks for a forbidden method, and one that navigates
pub faults_of_examples : (new_request (document_client document) (record init { method = codes "TRACE" })
    ≡ Err ForbiddenMethod)
    × (new_request (document_client document) (record init { mode = mode.Navigate }) ≡ Err NavigateMode)
unfolding url_on_literals
faults_of_examples = (refl, refl)

-- the same document over http, which waits ten seconds between two fetches
abbrev pub plain : Document
plain = record {
  url = record root { scheme = codes "http" };
  top = record root { scheme = codes "http" };
  policy = policy.StrictOriginWhenCrossOrigin;
  policies = [];
  script =
      script.step (script.fetch init) (script.step (script.wait 10) (script.step (script.fetch init) script.no_steps));
}

-- its host is known and then not: first the request is one to another origin, and then it is sent
pub known_and_then_not : run_play (document_run [] 0 plain) (Replied Yes ∷ Replied No ∷ tape)
    ≡ record {
      events =
          event.Fetch 0
          ∷ event.Call (Match (codes "a.test") 0) Yes
          ∷ event.Result (Error SameOriginMode)
          ∷ event.Fetch 1
          ∷ event.Call (Match (codes "a.test") 10) No
          ∷ event.Sent (record hop { origin = codes "http://a.test" })
          ∷ event.Result (Answer (record {
            kind = Basic;
            status = 200;
            url = Some (codes "http://a.test/");
            headers = [];
            body = Whole (codes "hi");
          }))
          ∷ [];
      ending = Some (Finished, 10);
    }
unfolding url_on_literals appended_where
known_and_then_not = refl

-- a script that asks for what it was answered, where that is `7`, and else for nothing more
abbrev pub asking : Document
asking = record document {
  script =
      script.step (script.fetch init)
      (script.step (script.choose (BodyIs (codes "7"))
      (script.step (script.fetch (record init { url = codes "/${body}${status}" })) script.no_steps) script.no_steps)
      script.no_steps);
}

-- the answers to it
abbrev pub answers : List ℕ → List Input
answers body = Sent ∷ HeadIs (record { status = 200; headers = [] }) ∷ BodyIs (Whole body) ∷ []

-- what a run has sent
abbrev pub targets : List Event → List (List ℕ)
targets [] = []
targets (event.Sent hop ∷ events) = hop.url ∷ targets events
targets (shown ∷ events) = targets events

pub asked_again : (targets (run_play (document_run [] 0 asking) (answers (codes "7") ++ answers (codes "8"))).events
    ≡ codes "/" ∷ codes "/7200" ∷ [])
    × (targets (run_play (document_run [] 0 asking) (answers (codes "8") ++ answers (codes "8"))).events
    ≡ codes "/" ∷ [])
unfolding url_on_literals appended_where
asked_again = (refl, refl)

-- the limits before a fetch, that of commands first; a wait has that of commands alone
pub limits : (limit_before (script.fetch init) (record { clock = 0; commands = 16384; fetches = 1024; shown = [] })
    ≡ Some Commands)
    × (limit_before (script.fetch init) (record { clock = 0; commands = 1024; fetches = 1024; shown = [] })
    ≡ Some Fetches)
    × (limit_before (script.fetch init) (record { clock = 0; commands = 1023; fetches = 1023; shown = [] }) ≡ None)
    × (limit_before (script.wait 1) (record { clock = 0; commands = 1024; fetches = 1024; shown = [] }) ≡ None)
    × (limit_before (script.wait 1) (record { clock = 0; commands = 16384; fetches = 0; shown = [] }) ≡ Some Commands)
limits = (refl, refl, refl, refl, refl)
