-- What a fetch asks of the shared book is in range and of its client's key, and not too much.
use Rattle.std.proofs.Common.{◌≤◌, ◌<◌, ◌^◌, ℕ, List, Option, Some, None, refl, arith}
use Rattle.std.specs.Prelude.{IfSome, option_and_then, option_map}
use Rattle.value_lemmas.proofs.Bytes.{bytes_eq-self}
use Rattle.book_calls.specs.declared.op.Op.{Op}
use Rattle.book_calls.specs.declared.op.Op.TheVariants.{Match, Note}
use Rattle.book_calls.specs.Ops.{InRange}
use Rattle.book_hosts.specs.declared.sts.Sts.{Sts}
use Rattle.fetch_rules.specs.KnownHosts.{host_to_match, host_to_note, match_of, note_of, sts_of}
use Rattle.fetch_rules.proofs.OpLemmas.{match-in-range, note-in-range}
use Rattle.value_requests.specs.declared.request.Request.{Request}
use Rattle.fetch_acts.specs.declared.act.Act.TheVariants.{Ask}
use Rattle.fetch_acts.specs.Within.{Anything, AnyAct, Prices, Within, asks, price_of}
use Rattle.fetch_acts.proofs.WithinLemmas.{all-anything, within-all, within-total}
use Rattle.fetch_definitions.specs.Fetch.{fetch}
use Rattle.fetch_definitions.specs.Then.{Context}
use Rattle.fetch_laws.specs.Own.{IsOwn, IsOwnAct, IsOwnOp}
use Rattle.fetch_laws.specs.Prices.{fetch_price}
use Rattle.fetch_laws.specs.Laws.{AsksFew, AsksOwn, most_asks}
use Rattle.fetch_laws.proofs.RuleLemmas.{Keeps, within-fetch}

-- ---- any act

any-if : (op : Option Op) (request : Request) → IfSome op (λ asked. AnyAct request (Ask asked))
any-if None request = tt
any-if (Some op) request = tt

any-kept : (context : Context) → Keeps context AnyAct
any-kept context = record {
  known = λ request. any-if (match_of context.now request) request;
  covers = λ request. tt;
  note = λ request head. any-if (note_of context.now request head) request;
  learn = λ request age methods names small. tt;
  clear = λ request. tt;
  send = λ request hop. tt;
  head = λ request. tt;
  body = λ request. tt;
  tell = λ request violation. tt;
}

-- a fetch costs at most its price
pub any-within : (prices : Prices) (context : Context) (request : Request)
    → Within (price_of prices) Anything AnyAct (fetch_price prices context request) (fetch context request)
any-within prices context request = within-fetch prices context AnyAct (any-kept context) request

-- ---- its own acts

own-match : (context : Context) (host : Option (List ℕ))
    → IfSome (option_map (λ name. Match name context.now) host) InRange
    → IfSome (option_map (λ name. Match name context.now) host) (IsOwnOp context)
own-match context None fits = tt
own-match context (Some name) fits = (fits, refl)

own-note : (context : Context) (host : Option (List ℕ)) (said : Option Sts)
    → IfSome (option_and_then (λ name. option_map (λ sts. Note name sts context.now) said) host) InRange
    → IfSome (option_and_then (λ name. option_map (λ sts. Note name sts context.now) said) host) (IsOwnOp context)
own-note context None said fits = tt
own-note context (Some name) None fits = tt
own-note context (Some name) (Some sts) fits = (fits, refl)

own-kept : (context : Context) → context.now < 2 ^ 48 → Keeps context (IsOwnAct context)
own-kept context early = record {
  known = λ request. own-match context (host_to_match request) (match-in-range context.now request early);
  covers = λ request. ((early, tt), bytes_eq-self context.client.key);
  note = λ request head.
      own-note context (host_to_note request) (sts_of head) (note-in-range context.now request head early);
  learn = λ request age methods names small. ((early, small), bytes_eq-self context.client.key);
  clear = λ request. ((early, tt), bytes_eq-self context.client.key);
  send = λ request hop. tt;
  head = λ request. tt;
  body = λ request. tt;
  tell = λ request violation. tt;
}

-- each act of a fetch is its client's own, and it costs at most its price
pub fetch-within : (prices : Prices) (context : Context) (request : Request) → context.now < 2 ^ 48
    → Within (price_of prices) Anything (IsOwnAct context) (fetch_price prices context request) (fetch context request)
fetch-within prices context request early =
    within-fetch prices context (IsOwnAct context) (own-kept context early) request

-- ---- runs

-- the ops alone: six in each of at most 21 levels
pub asks-at-most : (context : Context) (request : Request) → fetch_price asks context request ≤ most_asks
asks-at-most context request = omega arith

pub run-asks : AsksFew
run-asks context request tape =
    omega (
      arith,
      asks-at-most context request,
      within-total (price_of asks) Anything AnyAct (fetch_price asks context request) (fetch context request)
          (any-within asks context request) tape (all-anything tape),
    )

pub run-own : AsksOwn
run-own context request tape early =
    within-all (price_of asks) Anything (IsOwnAct context) (IsOwn context) (λ about first is. is)
    (fetch_price asks context request) (fetch context request) (fetch-within asks context request early) tape
    (all-anything tape)
