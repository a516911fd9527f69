-- Scripted servers as what answers a document's requests: by the bytes of a request, as the link has them, and by its
-- method and its target.
use Rattle.std.proofs.Common.{◌≡◌, ℕ, List, refl, ap, sym, ◌∙◌, Option, Some, None}
use Rattle.std.specs.Prelude.{option_map}
use Rattle.fetch_acts.specs.declared.act.Act.{Act}
use Rattle.fetch_acts.specs.declared.act.Act.TheVariants.{Ask, Send, ReadHead, ReadBody, Tell}
use Rattle.fetch_acts.specs.declared.act.Input.{Input}
use Rattle.script_events.specs.declared.events.Ending.{Ending}
use Rattle.script_events.specs.declared.events.Event.{Event}
use Rattle.script_events.specs.declared.events.Event.TheVariants as event
use Rattle.script_runs.specs.Play.{Play}
use Rattle.script_runs.specs.Traces.{PlayTrace, stop, shown, stepped}
use Rattle.script_runs.proofs.PlayLemmas.{play-map}
use Rattle.script_scenarios.specs.declared.servers.Server.{Server}
use Rattle.play_seats.specs.Sim.{SimState, answer_to, fault_count, told_asks, told_counts}
use Rattle.play_seats.proofs.SimLemmas.{answers-by_parts}
use Rattle.fetch_wire.specs.Exchanges.{Answering, Exchange}
use Rattle.fetch_wire.specs.Wires.{over_link}
use Rattle.fetch_wire.proofs.LawLemmas.{exchange-alike}
use Rattle.play_definitions.specs.Playing.{RunPlayed}
use Rattle.play_definitions.specs.Worlds.{Outside, Settles, World, WorldAnswers}
use Rattle.link_traits.specs.Links.{Serves, LinkTold}
use Rattle.play_definitions.specs.Plays.{by_rules}

-- what a link to the servers answers, and what it tells
abbrev pub sim_serves : Serves (List Server)
sim_serves = record { answer = answer_to; next = λ servers _ _. servers }

abbrev pub sim_told : SimState → LinkTold (List Server)
sim_told link = record {
  state = Some link.servers;
  left = Some link.left;
  asks = told_asks;
  received = told_counts;
  faults = fault_count;
}

-- the servers as a link has them
abbrev pub by_bytes : Answering (List Server)
by_bytes = over_link sim_serves

-- what the link answers to a request that has no space in its method and its target the rules answer
answered : (limit document : ℕ) (a : World (List Server)) (first : Act) (input : Input) (b : World (List Server))
    → WorldAnswers by_bytes limit document a first input b → WorldAnswers by_rules limit document a first input b
answered limit document a (Ask op) input b is = is
answered limit document a (Send hop) input b is = (
  is.0,
  record {
    exchanged = exchange-alike by_bytes by_rules limit a.exchange b.exchange (Send hop) input
        (λ servers. (answers-by_parts servers hop is.0, refl)) is.1.exchanged;
    own_is = is.1.own_is;
    left_is = is.1.left_is;
  },
)
answered limit document a ReadHead input b is = record {
  exchanged = exchange-alike by_bytes by_rules limit a.exchange b.exchange ReadHead input tt is.exchanged;
  own_is = is.own_is;
  left_is = is.left_is;
}
answered limit document a ReadBody input b is = record {
  exchanged = exchange-alike by_bytes by_rules limit a.exchange b.exchange ReadBody input tt is.exchanged;
  own_is = is.own_is;
  left_is = is.left_is;
}
answered limit document a (Tell violation) input b is = is

-- a run over the link is one over the rules
pub ran-by-rules : (limit document : ℕ) (whole : Play) (old : Outside (List Server)) (events : List Event)
    (ending : Ending) (clock : ℕ) (new : Outside (List Server))
    → RunPlayed by_bytes limit document whole old events ending clock new
    → RunPlayed by_rules limit document whole old events ending clock new
ran-by-rules limit document whole old events ending clock new x = record {
  first = x.first;
  idle = x.idle;
  from = x.from;
  tape = x.tape;
  last = x.last;
  trace = play-map (WorldAnswers by_bytes limit document) Settles (WorldAnswers by_rules limit document) Settles
      (λ (w : World (List Server)). w) (answered limit document) (λ event a b is. is) x.trace;
  to = x.to;
  runs = x.runs;
}

-- ---- the state

-- the servers are the same after an ask
asked-state : (state : Option (List Server)) → option_map (λ (servers : List Server). servers) state ≡ state
asked-state (Some servers) = refl
asked-state None = refl

act-state : (limit document : ℕ) (a : World (List Server)) (first : Act) (input : Input) (b : World (List Server))
    → WorldAnswers by_bytes limit document a first input b → b.exchange.state ≡ a.exchange.state
act-state limit document a (Ask op) input b is = ap (λ (e : Exchange (List Server)). e.state) is.exchange_is
act-state limit document a (Send hop) input b is = is.1.exchanged.state_is ∙ asked-state a.exchange.state
act-state limit document a ReadHead input b is = is.exchanged.state_is
act-state limit document a ReadBody input b is = is.exchanged.state_is
act-state limit document a (Tell violation) input b is = ap (λ (w : World (List Server)). w.exchange.state) is.1

event-state : (a : World (List Server)) (shown : Event) (b : World (List Server)) → Settles shown a b
    → b.exchange.state ≡ a.exchange.state
event-state a (event.Result outcome) b is = ap (λ (o : Outside (List Server)). o.state) is.outside_is
event-state a (event.Fetch n) b is = ap (λ (w : World (List Server)). w.exchange.state) is
event-state a (event.Load n kind) b is = ap (λ (w : World (List Server)). w.exchange.state) is
event-state a (event.Call op reply) b is = ap (λ (w : World (List Server)). w.exchange.state) is
event-state a (event.Sent hop) b is = ap (λ (w : World (List Server)). w.exchange.state) is
event-state a (event.Told violation) b is = ap (λ (w : World (List Server)). w.exchange.state) is
event-state a (event.LoadFailed error) b is = ap (λ (o : Outside (List Server)). o.state) is.outside_is
event-state a (event.TypeError fault) b is = ap (λ (w : World (List Server)). w.exchange.state) is
event-state a (event.LoadError fault) b is = ap (λ (w : World (List Server)). w.exchange.state) is

-- the servers stay as they are over a run
pub trace-state : (limit document : ℕ) {p q : Play} {a b : World (List Server)} {t : List Input} {e : List Event}
    → PlayTrace (WorldAnswers by_bytes limit document) Settles p a t e q b → b.exchange.state ≡ a.exchange.state
trace-state limit document stop = refl
trace-state limit document {a = a} (shown {mid = mid} one is x) =
    trace-state limit document x ∙ event-state a one mid is
trace-state limit document {a = a} (stepped {mid = mid} request first after input is fit x) =
    trace-state limit document x ∙ act-state limit document a first input mid is

pub ran-state : (limit document : ℕ) (whole : Play) (old : Outside (List Server)) (events : List Event)
    (ending : Ending) (clock : ℕ) (new : Outside (List Server))
    → RunPlayed by_bytes limit document whole old events ending clock new → new.state ≡ old.state
ran-state limit document whole old events ending clock new ran =
    sym (ap (λ (o : Outside (List Server)). o.state) ran.to) ∙ trace-state limit document ran.trace
    ∙ ap (λ (o : Outside (List Server)). o.state) ran.from
