-- The loop of a fetch.
use Rattle.std.proofs.Common.{length-append}
use Rattle.std.proofs.lemmas.Nat.{mul-le}
use Rattle.fetch_acts.specs.Traces.{stop, with_events}
use Rattle.fetch_acts.proofs.TraceLemmas.{trace-append, trace-one, trace-tells}
use Rattle.fetch_acts.proofs.WithinLemmas.{within-more}
use Rattle.fetch_machine.specs.declared.place.Fetching.{Fetching}
use Rattle.fetch_machine.specs.declared.place.Step.{Step}
use Rattle.fetch_machine.specs.declared.place.Step.TheVariants.{Going}
use Rattle.fetch_machine.specs.Machine.{Does, rest}
use Rattle.fetch_laws.specs.Own.{IsOwnAct}
use Rattle.fetch_laws.proofs.OwnLemmas.{asks-at-most, fetch-within}
use Rattle.play_fetch.specs.Private.Going.{PartNoted, WentOn, from_act}
use Rattle.play_fetch.proofs.Words.{[], ℕ, ◌++◌, ◌+◌, ◌-◌, ◌<◌, ◌^◌, ◌∙◌, ◌∷◌, ◌≡◌, ◌≤◌, Act, Answering, Anything}
use Rattle.play_fetch.proofs.Words.{Ask, Context, DriveCut, Event, FetchCut, FetchPlayed, FetchReached, Input}
use Rattle.play_fetch.proofs.Words.{IsIdle, IsTrue, LeadsOn, List, Outcome, Outside, Process, Progress, Request}
use Rattle.play_fetch.proofs.Words.{Send, Standing, Tell, Terms, Within, World, WorldAnswers, WorldRefused, act}
use Rattle.play_fetch.proofs.Words.{acts, after_events, ap, append-nil, append_assoc, arith, asks, at_time, ended}
use Rattle.play_fetch.proofs.Words.{events_of, fetch, fetch_price, fits, length, level_price, levels, most_asks}
use Rattle.play_fetch.proofs.Words.{outside_of, price_of, refl, subst, sym}
use Rattle.play_definitions.proofs.WorldLemmas.{refuses-none, still}
use Rattle.play_definitions.proofs.LostLemmas.{lost-none, lost-then}

-- every act costs one
pub each-one : (first : Act) → price_of acts first ≡ 1
each-one (Ask op) = refl
each-one first = refl

-- an act shows one event at most
events-few : (first : Act) (input : Input) → length (events_of first input) ≤ 1
events-few (Ask op) input = omega arith
events-few first input = omega arith

-- ---- worlds

-- a call of the book costs one call, and nothing else costs any
left-after : {State : Type 0} (by : Answering State) (limit document : ℕ) (old new : World State) (first : Act)
    (input : Input) → WorldAnswers by limit document old first input new → old.left ≤ new.left + price_of asks first
left-after by limit document old new (Ask op) input is = omega (arith, is.asked.left_is)
left-after by limit document old new (Send hop) input is = omega (arith, is.1.left_is)
left-after by limit document old new (Tell violation) input is = omega (arith, ap (λ (w : World _). w.left) is.1)
left-after by limit document old new first input is = omega (arith, is.left_is)

module _ {State : Type 0} {by : Answering State} where
  -- ---- how far a fetch has come

  came-none : {place : Process} {a : Standing State} → FetchReached by place a place a
  came-none {a = a} =
      record { same = refl; tape = []; made = []; added = rw append-nil refl; trace = stop }

  came-then : {whole middle place : Process} {a b c : Standing State} → FetchReached by whole a middle b
      → FetchReached by middle b place c → FetchReached by whole a place c
  came-then {middle = middle} {place = place} {a = a} {b = b} {c = c} x y = record {
    same = y.same ∙ x.same;
    tape = x.tape ++ y.tape;
    made = x.made ++ y.made;
    added = rw (y.added, x.added, append_assoc) refl;
    trace = trace-append (with_events (WorldAnswers by a.terms.limit a.terms.document) events_of) x.trace
        (subst (λ (t : Terms). LeadsOn by t.limit t.document middle b.world y.tape y.made place c.world) x.same
        y.trace);
  }

  -- and then memory was refused
  came-cut : {whole middle : Process} {a b c : Standing State} → FetchReached by whole a middle b
      → FetchCut by middle b c → FetchCut by whole a c
  unfolding came-then
  came-cut {c = c} x y = record {
    place = y.place;
    last = y.last;
    came = came-then x y.came;
    lost = lost-then x.made x.same (ap (λ (p : Progress). p.shown) x.added) y.lost;
    kept = y.kept ∙ ap (λ (p : Progress). let q : Progress = record p { shown = c.progress.shown } in q) x.added;
  }

  -- memory was refused before anything else
  pub cut-unbegun : {whole : Process} {a b : Standing State} → b.terms ≡ a.terms → b.progress ≡ a.progress
      → WorldRefused (outside_of a.world) (outside_of b.world) → FetchCut by whole a b
  unfolding came-none
  cut-unbegun {whole = whole} {a = a} same kept left =
      record { place = whole; last = a; came = came-none; lost = lost-none same kept left; kept = rw kept refl }

  -- ---- one act by itself

  act-came : (context : Context) (fetching : Fetching) (first : Act) (input : Input) {a b : Standing State}
      → b.terms ≡ a.terms → IsTrue (fits first input)
      → WorldAnswers by a.terms.limit a.terms.document a.world first input b.world
      → b.progress ≡ after_events (events_of first input) a.progress
      → FetchReached by (from_act context fetching first) a (rest context fetching input) b
  act-came context fetching first input {a = a} {b = b} same fit came noted = record {
    same = same;
    tape = input ∷ [];
    made = events_of first input;
    added = noted;
    trace = trace-one (with_events (WorldAnswers by a.terms.limit a.terms.document) events_of)
        fetching.level.request.value first (rest context fetching) input a.world b.world (events_of first input)
        (came, refl) fit;
  }

  -- memory was refused for its events, or after them
  pub act-cut : (context : Context) (fetching : Fetching) (first : Act) (input : Input) {a b : Standing State}
      → b.terms ≡ a.terms → IsTrue (fits first input)
      → WorldAnswers by a.terms.limit a.terms.document a.world first input b.world
      → PartNoted first input a.progress b.progress → FetchCut by (from_act context fetching first) a b
  unfolding act-came
  act-cut context fetching first input {a = a} {b = b} same fit came x = record {
    place = rest context fetching input;
    last = record b { progress = after_events (events_of first input) a.progress };
    came = act-came context fetching first input same fit came refl;
    lost = record {
      same = same;
      noted = x.made;
      missed = x.missed;
      few = omega (
        arith,
        events-few first input,
        ap (λ (l : List Event). length l) x.parts,
        length-append x.made x.missed,
      );
      parts = x.parts;
      added = ap (λ (p : Progress). p.shown) x.added;
      refused = refuses-none (outside_of b.world);
    };
    kept = rw x.added refl;
  }

-- ---- the loop

-- After so many acts the fetch has shown what was added to the events, and is at this step.
pub record IsFetching {State : Type 0} (by : Answering State) (context : Context) (request : Request)
    (old : Standing State) (count : ℕ) (now : Standing State) (at : Step) : Type 0 where
  pub lent : at_time old.terms.setting context.now ≡ context
  pub process : Process
  pub does : Does context at process
  pub came : FetchReached by (fetch context request) old process now
  pub acts_left : Within (price_of acts) Anything (IsOwnAct context) (fetch_price acts context request - count) process
  pub calls : ℕ
  pub asks_left : Within (price_of asks) Anything (IsOwnAct context) calls process
  pub enough : calls + old.world.left ≤ now.world.left + most_asks

pub fetching-start : {State : Type 0} {by : Answering State} {context : Context} {request : Request}
    {old : Standing State} {at : Step} → at_time old.terms.setting context.now ≡ context
    → Does context at (fetch context request) → context.now < 2 ^ 48 → IsFetching by context request old 0 old at
fetching-start {context = context} {request = request} lent does timely = record {
  lent = lent;
  process = fetch context request;
  does = does;
  came = came-none;
  acts_left = subst (λ (n : ℕ). Within (price_of acts) Anything (IsOwnAct context) n (fetch context request))
      (omega arith) (fetch-within acts context request timely);
  calls = most_asks;
  asks_left = within-more (price_of asks) Anything (IsOwnAct context) (fetch_price asks context request) most_asks
      (fetch context request) (fetch-within asks context request timely) (asks-at-most context request);
  enough = omega arith;
}

module _ {State : Type 0} {by : Answering State} {context : Context} {request : Request} {old now : Standing State}
    {count : ℕ} {fetching : Fetching} {first : Act}
    (is : IsFetching by context request old count now (Going fetching first)) where
  abbrev here : Process
  here = act fetching.level.request.value first (rest context fetching)

  acts-here : Within (price_of acts) Anything (IsOwnAct context) (fetch_price acts context request - count) here
  acts-here = rw is.does.process at is.acts_left

  asks-here : Within (price_of asks) Anything (IsOwnAct context) is.calls here
  asks-here = rw is.does.process at is.asks_left

  came-here : FetchReached by (fetch context request) old here now
  came-here = rw is.does.process at is.came

  -- the fetch goes by the same as what it is lent now
  same-context : at_time now.terms.setting fetching.now ≡ context
  same-context = rw (is.came.same, is.does.now) is.lent

  -- it may act once more
  pub fetching-room : count < fetch_price acts context request
  unfolding acts-here
  fetching-room = omega (arith, each-one first, acts-here.1.enough)

  -- one act further
  pub fetching-went : {at : Step} {new : Standing State}
      → WentOn by (at_time now.terms.setting fetching.now) fetching first now at new
      → IsFetching by context request old (count + 1) new at
  unfolding acts-here asks-here
  fetching-went {at = at} {new = new} went =
      let x = subst (λ (c : Context). WentOn by c fetching first now at new) same-context went in
      record {
        lent = is.lent;
        process = rest context fetching x.input;
        does = x.does;
        came = came-then came-here (act-came context fetching first x.input x.same x.fit x.came x.noted);
        acts_left = within-more (price_of acts) Anything (IsOwnAct context) acts-here.1.left
            (fetch_price acts context request - (count + 1)) (rest context fetching x.input)
            (acts-here.1.rest x.input tt) (omega (arith, each-one first, acts-here.1.enough));
        calls = asks-here.1.left;
        asks_left = asks-here.1.rest x.input tt;
        enough = omega (
          arith,
          is.enough,
          asks-here.1.enough,
          left-after by now.terms.limit now.terms.document now.world new.world first x.input x.came,
        );
      }

  -- memory was refused at this act
  pub fetching-cut : {new : Standing State}
      → FetchCut by (from_act (at_time now.terms.setting fetching.now) fetching first) now new
      → FetchCut by (fetch context request) old new
  fetching-cut {new = new} x = came-cut came-here
      (subst (λ (c : Context). FetchCut by (from_act c fetching first) now new) same-context x)

-- ---- a fetch by itself

module _ {State : Type 0} {by : Answering State} where
  module _ {whole : Process} {old last : Standing State} {from to : Outside State}
      (begins : outside_of old.world ≡ from) (idle : IsIdle old.world.exchange) where
    -- it came to its outcome
    pub fetch-drove : {events : List Event} {outcome : Outcome} → old.progress.shown ≡ []
        → events ≡ last.progress.shown → FetchReached by whole old (ended outcome) last → to ≡ outside_of last.world
        → FetchPlayed by old.terms.limit old.terms.document whole from events outcome to
    fetch-drove {events = events} {outcome = outcome} none shown x ends =
        let made : x.made ≡ events = sym (shown ∙ ap (λ (p : Progress). p.shown) x.added
        ∙ ap (λ (l : List Event). l ++ x.made) none) in
        let trace = rw made at x.trace in
        record {
          first = old.world;
          idle = idle;
          from = begins;
          last = last.world;
          driven = record {
            tape = x.tape;
            trace = trace;
            shows = trace-tells (with_events (WorldAnswers by old.terms.limit old.terms.document) events_of) events_of
                (λ a f i s b is. is.1) outcome trace;
          };
          to = sym ends;
        }

    -- it was cut off
    pub fetch-begun : FetchCut by whole old last → outside_of last.world ≡ to
        → DriveCut by old.terms.limit old.terms.document whole from to
    fetch-begun x ends = record {
      first = old.world;
      idle = idle;
      from = begins;
      tape = x.came.tape;
      events = x.came.made;
      place = x.place;
      last = x.last.world;
      trace = x.came.trace;
      left = rw (← ends) x.lost.refused;
    }

  -- memory was refused before it began
  pub fetch-unbegun : (limit document : ℕ) (whole : Process) (old new : Outside State) → new ≡ old
      → DriveCut by limit document whole old new
  fetch-unbegun limit document whole old new kept = rw kept (record {
    first = still old;
    idle = record { end = refl; framing_is = refl };
    from = refl;
    tape = [];
    events = [];
    place = whole;
    last = still old;
    trace = stop;
    left = refuses-none old;
  })

-- the acts of a fetch are few for policies that are not too many
pub few-acts : (context : Context) (request : Request) → length context.policies < 2 ^ 64
    → fetch_price acts context request < 2 ^ 100
few-acts context request few =
    let price = level_price acts context in
    omega (arith, few, mul-le (levels request) price 21 price (omega arith) (omega arith))
