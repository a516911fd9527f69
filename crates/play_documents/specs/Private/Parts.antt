-- What each part of a document's run, and each rule of its script, comes to in the document's world.
use Rattle.std.specs.Prelude.{◌++◌, ◌≡◌, Err, List, MatchResult, None, Ok, Option, Result, Some}
use Rattle.play_definitions.specs.Fetched.{HasLost}
use Rattle.play_definitions.specs.Playing.{PlaysOn}
use Rattle.play_definitions.specs.Standings.{Standing}
use Rattle.play_documents.specs.Words.{Answering, Ending, Event, Finished, Input, IsAtEnd, Memory, Next, OutOfMemory}
use Rattle.play_documents.specs.Words.{Play, Setting, unless_limit}

-- For some tape of the world's answers, and whatever follows, the part has shown what was added to the events, and
-- goes on as the rest.
pub record PartReached {State N : Type 0} (by : Answering State) (part : N → Play) (old : Standing State)
    (rest : N → Play) (new : Standing State) : Type 0 where
  pub same : new.terms ≡ old.terms
  pub tape : List Input
  pub made : List Event
  pub added : new.progress.shown ≡ old.progress.shown ++ made
  pub trace : (next : N)
      → PlaysOn by old.terms.limit old.terms.document (part next) old.world tape made (rest next) new.world

-- Memory was refused somewhere: the part came to some place.
pub record PartCut {State N : Type 0} (by : Answering State) (part : N → Play) (old new : Standing State)
    : Type 0 where
  pub place : N → Play
  pub last : Standing State
  pub played : PartReached by part old place last
  pub lost : HasLost played.made old last new

-- A rule of the script, by what its fetches have in common: what it does before what follows it.
abbrev pub Rule : Type 0
Rule = Setting → Next → Next

-- the rule was played as far as another, which follows
abbrev pub LeadsTo : {State : Type 0} → Answering State → Rule → Standing State → Rule → Standing State → Type 0
LeadsTo by rule old rest new =
    PartReached by (λ (next : Next). rule old.terms.setting next old.progress) old
    (λ next. rest new.terms.setting next new.progress) new

-- The rule was played: it leads on to what follows, or to an ending of the run. Nothing is to come over the link then.
pub record RulePlayed {State : Type 0} (by : Answering State) (rule : Rule) (old : Standing State)
    (ending : Option Ending) (new : Standing State) : Type 0 where
  pub played : LeadsTo by rule old (λ lent. unless_limit ending) new
  pub rests : IsAtEnd new.world.exchange.left

-- memory was refused in it
abbrev pub RuleCut : {State : Type 0} → Answering State → Rule → Standing State → Standing State → Type 0
RuleCut by rule old new = PartCut by (λ next. rule old.terms.setting next old.progress) old new

-- what the rule came to, with an ending, with none, or for want of memory
abbrev pub RuleCameTo : {State : Type 0} → Answering State → Rule → Standing State → Result (Option Ending) OutOfMemory
    → Standing State → Type 0
RuleCameTo by rule old result new =
    MatchResult result (λ ending. RulePlayed by rule old ending new) (λ refused. RuleCut by rule old new)

-- how a run has ended, whose script has played to its end or to a limit, or was refused memory
abbrev pub ended_by : Result (Option Ending) OutOfMemory → Ending
ended_by (Ok None) = Finished
ended_by (Ok (Some ending)) = ending
ended_by (Err refused) = Memory
