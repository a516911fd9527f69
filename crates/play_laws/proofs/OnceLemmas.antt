-- A document's run over servers that tell their answers and do not fail, and over its entries of a history, is one.
use Rattle.std.proofs.Common.{◌≡◌, ◌≤◌, ℕ, List, [], ◌∷◌, ◌++◌, Some, refl, ap}
use Rattle.std.proofs.Common.{sym, subst, ◌∙◌, arith, append_assoc}
use Rattle.std.proofs.lemmas.List.{append-nil, append_cancel_left}
use Rattle.std.specs.Prelude.{option_map}
use Rattle.book_calls.specs.declared.entry.Entry.{Entry}
use Rattle.book_calls.specs.declared.op.Op.{Op}
use Rattle.link_http1.specs.HeadLaws.{HasOneEnd}
use Rattle.fetch_acts.specs.declared.act.Act.{Act}
use Rattle.fetch_acts.specs.declared.act.Act.TheVariants.{Ask, Send, ReadHead, ReadBody, Tell}
use Rattle.fetch_acts.specs.declared.act.Input.{Input}
use Rattle.fetch_acts.specs.declared.act.Input.TheVariants.{Replied}
use Rattle.script_events.specs.declared.events.Ending.{Ending}
use Rattle.script_events.specs.declared.events.Event.{Event}
use Rattle.script_events.specs.declared.events.Event.TheVariants as event
use Rattle.script_runs.specs.Play.{Play, over}
use Rattle.script_runs.specs.Traces.{PlayTrace, shown, stepped, stop}
use Rattle.fetch_wire.specs.Exchanges.{Answering, Exchange}
use Rattle.play_definitions.specs.Worlds.{IsCalled, Outside, Settles, World, WorldAnswers}
use Rattle.play_isolation.specs.Calls.{PartAtReply}
use Rattle.play_laws.proofs.ExchangeLemmas.{Coming, IsOne, no-fault, one-body, one-head, one-sent}
use Rattle.play_laws.proofs.OrderLemmas.{Can, OrderedPlay, Stage, asking, headed, idle, stage_after}

module _ {State : Type 0} (by : Answering State) (limit document : ℕ) where
  -- ---- what a run adds

  -- Entries were added, and faults were not taken back.
  record Grown (a b : World State) : Type 0 where
    pub more : List Entry
    pub own : b.own ≡ a.own ++ more
    pub later : a.exchange.faults ≤ b.exchange.faults

  grown-none : (a b : World State) → b.own ≡ a.own → a.exchange.faults ≤ b.exchange.faults → Grown a b
  grown-none a b own later = record { more = []; own = own ∙ sym (append-nil a.own); later = later }

  same-faults : (a b : ℕ) → b ≡ a → a ≤ b
  same-faults a b is = omega (arith, is)

  grown-act : (a b : World State) (first : Act) (input : Input) → WorldAnswers by limit document a first input b
      → Grown a b
  grown-act a b (Ask op) input is = record {
    more = is.asked.entry ∷ [];
    own = is.asked.own_is;
    later = same-faults a.exchange.faults b.exchange.faults
        (ap (λ (e : Exchange State). e.faults) is.exchange_is);
  }
  grown-act a b (Send hop) input is = grown-none a b is.1.own_is is.1.exchanged.caused.later
  grown-act a b ReadHead input is = grown-none a b is.own_is is.exchanged.caused.later
  grown-act a b ReadBody input is = grown-none a b is.own_is is.exchanged.caused.later
  grown-act a b (Tell violation) input is = grown-none a b (ap (λ (w : World State). w.own) is.1)
      (same-faults a.exchange.faults b.exchange.faults (ap (λ (w : World State). w.exchange.faults) is.1))

  grown-outside : (a b : World State) → b.own ≡ a.own → b.exchange.faults ≡ a.exchange.faults → Grown a b
  grown-outside a b own faults = grown-none a b own (same-faults a.exchange.faults b.exchange.faults faults)

  -- an event leaves the entries, the state and the faults
  record IsLeft (a b : World State) : Type 0 where
    pub own : b.own ≡ a.own
    pub state : b.exchange.state ≡ a.exchange.state
    pub faults : b.exchange.faults ≡ a.exchange.faults

  left-by : (one : Event) (a b : World State) → Settles one a b → IsLeft a b
  left-by (event.Result outcome) a b is = record {
    own = ap (λ (o : Outside State). o.own) is.outside_is;
    state = ap (λ (o : Outside State). o.state) is.outside_is;
    faults = ap (λ (o : Outside State). o.faults) is.outside_is;
  }
  left-by (event.LoadFailed error) a b is = record {
    own = ap (λ (o : Outside State). o.own) is.outside_is;
    state = ap (λ (o : Outside State). o.state) is.outside_is;
    faults = ap (λ (o : Outside State). o.faults) is.outside_is;
  }
  left-by one a b is = record {
    own = ap (λ (w : World State). w.own) is;
    state = ap (λ (w : World State). w.exchange.state) is;
    faults = ap (λ (w : World State). w.exchange.faults) is;
  }

  grown-then : (a b c : World State) → Grown a b → Grown b c → Grown a c
  grown-then a b c x y = record {
    more = x.more ++ y.more;
    own = y.own ∙ ap (λ (l : List Entry). l ++ y.more) x.own ∙ append_assoc a.own x.more y.more;
    later = omega (arith, x.later, y.later);
  }

  grown : {p q : Play} {a b : World State} {t : List Input} {e : List Event}
      → PlayTrace (WorldAnswers by limit document) Settles p a t e q b → Grown a b
  grown {a = a} stop = grown-outside a a refl refl
  grown {a = a} {b = b} (shown {mid = mid} one is x) =
      let left = left-by one a mid is in
      grown-then a mid b (grown-outside a mid left.own left.faults) (grown x)
  grown {a = a} {b = b} (stepped {mid = mid} request first after input is fit x) =
      grown-then a mid b (grown-act a mid first input is) (grown x)

  -- ---- two worlds of one run

  -- They have the same entries and the same state, which is told, and the same is known of what is to come.
  pub record AreSame (stage : Stage) (a b : World State) : Type 0 where
    pub own : a.own ≡ b.own
    pub state : State
    pub one : a.exchange.state ≡ Some state
    pub two : b.exchange.state ≡ Some state
    pub coming : Coming stage a.exchange b.exchange

  -- where a run begins
  pub opened-same : (state : State) (a b : World State) → a.own ≡ b.own → a.exchange.state ≡ Some state
      → b.exchange.state ≡ Some state → AreSame idle a b
  opened-same state a b own told tells =
      record { own = own; state = state; one = told; two = tells; coming = tt }

  -- an act comes to the same in both
  record GoAlike (stage : Stage) (first : Act) (input other : Input) (a b : World State) : Type 0 where
    pub input_is : input ≡ other
    pub same : AreSame (stage_after stage first input) a b

  -- the first entry of what was added
  first-of : Entry → List Entry → Entry
  first-of none [] = none
  first-of none (e ∷ es) = e

  -- Two worlds come to ends with the same entries, and without faults.
  record EndAlike (a b : World State) : Type 0 where
    pub more : List Entry
    pub others : List Entry
    pub same : a.own ++ more ≡ b.own ++ others
    pub first : a.exchange.faults ≡ 0
    pub second : b.exchange.faults ≡ 0

  one-entry : (own : List Entry) (e f : Entry) (more others : List Entry)
      → (own ++ e ∷ []) ++ more ≡ (own ++ f ∷ []) ++ others → e ≡ f
  unfolding first-of
  one-entry own e f more others is = ap (first-of e) (append_cancel_left own (e ∷ more) (f ∷ others)
      (sym (append_assoc own (e ∷ []) more) ∙ is ∙ append_assoc own (f ∷ []) others))

  -- of a call with one entry in both
  alike-entry : (stage : Stage) (op : Op) (input other : Input) (a b c d : World State) → AreSame stage a b
      → (is : IsCalled document a op input c) → (are : IsCalled document b op other d)
      → is.asked.entry ≡ are.asked.entry → GoAlike stage (Ask op) input other c d
  alike-entry stage op input other a b c d same is are entry = record {
    input_is = is.asked.input_is ∙ ap (λ (e : Entry). Replied e.reply) entry ∙ sym are.asked.input_is;
    same = record {
      own = is.asked.own_is ∙ ap (λ (e : Entry). a.own ++ e ∷ []) entry
          ∙ ap (λ (l : List Entry). l ++ are.asked.entry ∷ []) same.own ∙ sym are.asked.own_is;
      state = same.state;
      one = ap (λ (x : Exchange State). x.state) is.exchange_is ∙ same.one;
      two = ap (λ (x : Exchange State). x.state) are.exchange_is ∙ same.two;
      coming = subst (λ (x : Exchange State). Coming stage x d.exchange) (sym is.exchange_is)
          (subst (λ (x : Exchange State). Coming stage a.exchange x) (sym are.exchange_is) same.coming);
    };
  }

  alike-ask : (stage : Stage) (op : Op) (input other : Input) (a b c d : World State) → AreSame stage a b
      → IsCalled document a op input c → IsCalled document b op other d → EndAlike c d
      → GoAlike stage (Ask op) input other c d
  alike-ask stage op input other a b c d same is are end =
      let own : b.own ++ are.asked.entry ∷ [] ≡ a.own ++ are.asked.entry ∷ [] =
      ap (λ (l : List Entry). l ++ are.asked.entry ∷ []) (sym same.own) in
      let both : (a.own ++ is.asked.entry ∷ []) ++ end.more ≡ (a.own ++ are.asked.entry ∷ []) ++ end.others =
      ap (λ (l : List Entry). l ++ end.more) (sym is.asked.own_is) ∙ end.same
      ∙ ap (λ (l : List Entry). l ++ end.others) (are.asked.own_is ∙ own) in
      alike-entry stage op input other a b c d same is are
      (one-entry a.own is.asked.entry are.asked.entry end.more end.others both)

  -- of an act over the link, by what comes of it
  alike-exchange : (stage : Stage) (first : Act) (input other : Input) (a b c d : World State) (state : State)
      → AreSame stage a b → c.own ≡ a.own → d.own ≡ b.own → c.exchange.state ≡ Some state
      → d.exchange.state ≡ Some state → IsOne stage first input other c.exchange d.exchange
      → GoAlike stage first input other c d
  alike-exchange stage first input other a b c d state same own owns told tells is = record {
    input_is = is.input_is;
    same = record {
      own = own ∙ same.own ∙ sym owns;
      state = state;
      one = told;
      two = tells;
      coming = is.coming;
    };
  }

  alike : HasOneEnd → (stage : Stage) (first : Act) (input other : Input) (a b c d : World State) → Can stage first
      → AreSame stage a b → WorldAnswers by limit document a first input c
      → WorldAnswers by limit document b first other d
      → EndAlike c d → GoAlike stage first input other c d
  alike law stage (Ask op) input other a b c d can same is are end =
      alike-ask stage op input other a b c d same is are end
  alike law stage (Send hop) input other a b c d can same is are end =
      let sent = is.1.exchanged in
      let sends = are.1.exchanged in
      alike-exchange stage (Send hop) input other a b c d (by.next same.state hop) same is.1.own_is are.1.own_is
      (sent.state_is ∙ ap (option_map (λ state. by.next state hop)) same.one)
      (sends.state_is ∙ ap (option_map (λ state. by.next state hop)) same.two)
      (one-sent (λ state. by.answer state hop) same.state stage hop input other a.exchange b.exchange c.exchange
      d.exchange same.one same.two sent.answered sends.answered
      (no-fault input a.exchange.faults c.exchange.faults sent.caused end.first)
      (no-fault other b.exchange.faults d.exchange.faults sends.caused end.second))
  alike law idle ReadHead input other a b c d can same is are end = absurd can
  alike law headed ReadHead input other a b c d can same is are end = absurd can
  alike law asking ReadHead input other a b c d can same is are end =
      let read = is.exchanged in
      let reads = are.exchanged in
      alike-exchange asking ReadHead input other a b c d same.state same is.own_is are.own_is
      (read.state_is ∙ same.one) (reads.state_is ∙ same.two)
      (one-head law input other a.exchange b.exchange c.exchange d.exchange same.coming read.head_is reads.head_is
      (no-fault input a.exchange.faults c.exchange.faults read.caused end.first)
      (no-fault other b.exchange.faults d.exchange.faults reads.caused end.second))
  alike law idle ReadBody input other a b c d can same is are end = absurd can
  alike law asking ReadBody input other a b c d can same is are end = absurd can
  alike law headed ReadBody input other a b c d can same is are end =
      let read = is.exchanged in
      let reads = are.exchanged in
      alike-exchange headed ReadBody input other a b c d same.state same is.own_is are.own_is
      (read.state_is ∙ same.one) (reads.state_is ∙ same.two) (record {
        input_is = one-body limit input other a.exchange b.exchange c.exchange d.exchange same.coming.0 same.coming.1
            read.body_is reads.body_is
            (no-fault input a.exchange.faults c.exchange.faults read.caused end.first)
            (no-fault other b.exchange.faults d.exchange.faults reads.caused end.second);
        coming = tt;
      })
  alike law stage (Tell violation) input other a b c d can same is are end = record {
    input_is = is.0 ∙ sym are.0;
    same = subst (λ (w : World State). AreSame stage w d) (sym is.1)
        (subst (λ (w : World State). AreSame stage a w) (sym are.1) same);
  }

  -- ---- two traces of one run

  no-faults : (a b : World State) → Grown a b → b.exchange.faults ≡ 0 → a.exchange.faults ≡ 0
  no-faults a b grew none = omega (arith, grew.later, none)

  end-alike : (c d b f : World State) → Grown c b → Grown d f → b.own ≡ f.own → b.exchange.faults ≡ 0
      → f.exchange.faults ≡ 0 → EndAlike c d
  end-alike c d b f x y own none nothing = record {
    more = x.more;
    others = y.more;
    same = sym x.own ∙ own ∙ y.own;
    first = no-faults c b x none;
    second = no-faults d f y nothing;
  }

  settled : (one : Event) (stage : Stage) (a b c d : World State) → AreSame stage a b → Settles one a c
      → Settles one b d → AreSame idle c d
  settled one stage a b c d same is are =
      let left = left-by one a c is in
      let leaves = left-by one b d are in
      record {
        own = left.own ∙ same.own ∙ sym leaves.own;
        state = same.state;
        one = left.state ∙ same.one;
        two = leaves.state ∙ same.two;
        coming = tt;
      }

  pub once : HasOneEnd → {p : Play} {a b c d : World State} {t u : List Input} {e f : List Event}
      {ending another : Ending} {clock time : ℕ}
      → PlayTrace (WorldAnswers by limit document) Settles p a t e (over ending clock) c
      → PlayTrace (WorldAnswers by limit document) Settles p b u f (over another time) d → (stage : Stage)
      → OrderedPlay stage p → AreSame stage a b
      → c.own ≡ d.own → c.exchange.faults ≡ 0 → d.exchange.faults ≡ 0 → t ≡ u
  once law stop stop stage ordered same own none nothing = refl
  once law {a = a} {b = b} (shown {mid = mid} one is x) (shown {mid = place} other are y) stage ordered same own none
      nothing = once law x y idle ordered (settled one stage a b mid place same is are) own none nothing
  once law {a = a} {b = b} {c = c} {d = d} {another = another} {time = time}
      (stepped {mid = mid} {tape = tape} request first after input is fit x)
      (stepped {mid = place} {tape = tapes} {events = events} about second behind other are fits_too y) stage ordered
      same own none nothing =
      let goes = alike law stage first input other a b mid place ordered.0 same is are
      (end-alike mid place c d (grown x) (grown y) own none nothing) in
      ap (λ (i : Input). i ∷ tape) goes.input_is
      ∙ ap (λ (l : List Input). other ∷ l)
      (once law x (subst (λ (i : Input). PlayTrace (WorldAnswers by limit document) Settles (after i) place tapes
      events (over another time) d) (sym goes.input_is) y) (stage_after stage first input) (ordered.1 input) goes.same
      own none nothing)

  -- ---- two traces of one run, replied to otherwise somewhere

  -- what was added after an entry
  after-entry : (own : List Entry) (mid last : World State) (e : Entry) (more rest : List Entry)
      → mid.own ≡ own ++ e ∷ [] → last.own ≡ mid.own ++ rest → last.own ≡ own ++ more → more ≡ e ∷ rest
  after-entry own mid last e more rest one all is =
      append_cancel_left own more (e ∷ rest)
      (sym is ∙ all ∙ ap (λ (l : List Entry). l ++ rest) one ∙ append_assoc own (e ∷ []) rest)

  none-added : (own more : List Entry) → own ≡ own ++ more → more ≡ []
  none-added own more is = append_cancel_left own more [] (sym is ∙ sym (append-nil own))

  -- what follows an act in two worlds that are alike after it
  Follows : Stage → Act → Input → Input → World State → World State → World State → World State → Type 0
  Follows stage first input other mid place c d =
      (more others : List Entry) → c.own ≡ mid.own ++ more → d.own ≡ place.own ++ others
      → GoAlike stage first input other mid place → PartAtReply more others

  -- one act, where it is no call
  part-quiet : HasOneEnd → (stage : Stage) (first : Act) (input other : Input) (a b mid place c d : World State)
      → Can stage first → AreSame stage a b → WorldAnswers by limit document a first input mid
      → WorldAnswers by limit document b first other place → mid.own ≡ a.own → place.own ≡ b.own → Grown mid c
      → Grown place d → c.exchange.faults ≡ 0 → d.exchange.faults ≡ 0 → Follows stage first input other mid place c d
      → (more others : List Entry) → c.own ≡ a.own ++ more → d.own ≡ b.own ++ others → PartAtReply more others
  unfolding Follows
  part-quiet law stage first input other a b mid place c d can same is are own owns grew grows none nothing rest more
      others one two =
      rest more others (one ∙ ap (λ (l : List Entry). l ++ more) (sym own))
      (two ∙ ap (λ (l : List Entry). l ++ others) (sym owns))
      (alike law stage first input other a b mid place can same is are (record {
        more = [];
        others = [];
        same = append-nil mid.own ∙ own ∙ same.own ∙ sym (append-nil place.own ∙ owns);
        first = no-faults mid c grew none;
        second = no-faults place d grows nothing;
      }))

  part-act : HasOneEnd → (stage : Stage) (first : Act) (input other : Input) (a b mid place c d : World State)
      → Can stage first → AreSame stage a b → WorldAnswers by limit document a first input mid
      → WorldAnswers by limit document b first other place → Grown mid c → Grown place d → c.exchange.faults ≡ 0
      → d.exchange.faults ≡ 0 → Follows stage first input other mid place c d
      → (more others : List Entry) → c.own ≡ a.own ++ more → d.own ≡ b.own ++ others → PartAtReply more others
  unfolding Follows
  part-act law stage (Ask op) input other a b mid place c d can same is are grew grows none nothing rest more others one
      two =
      let first = is.asked.entry in
      let second = are.asked.entry in
      subst (λ (l : List Entry). PartAtReply l others)
      (sym (after-entry a.own mid c first more grew.more is.asked.own_is grew.own one))
      (subst (PartAtReply (first ∷ grew.more))
      (sym (after-entry b.own place d second others grows.more are.asked.own_is grows.own two)) (
        is.asked.op_is ∙ sym are.asked.op_is,
        λ entry. rest grew.more grows.more grew.own grows.own
            (alike-entry stage op input other a b mid place same is are entry),
      ))
  part-act law stage (Send hop) input other a b mid place c d can same is are grew grows none nothing rest more others
      one two =
      part-quiet law stage (Send hop) input other a b mid place c d can same is are is.1.own_is are.1.own_is grew grows
      none nothing rest more others one two
  part-act law stage ReadHead input other a b mid place c d can same is are grew grows none nothing rest more others one
      two =
      part-quiet law stage ReadHead input other a b mid place c d can same is are is.own_is are.own_is grew grows none
      nothing rest more others one two
  part-act law stage ReadBody input other a b mid place c d can same is are grew grows none nothing rest more others one
      two =
      part-quiet law stage ReadBody input other a b mid place c d can same is are is.own_is are.own_is grew grows none
      nothing rest more others one two
  part-act law stage (Tell violation) input other a b mid place c d can same is are grew grows none nothing rest more
      others one two =
      part-quiet law stage (Tell violation) input other a b mid place c d can same is are
      (ap (λ (w : World State). w.own) is.1) (ap (λ (w : World State). w.own) are.1) grew grows none nothing rest more
      others one two

  pub part : HasOneEnd → {p : Play} {a b c d : World State} {t u : List Input} {e f : List Event}
      {ending another : Ending} {clock time : ℕ}
      → PlayTrace (WorldAnswers by limit document) Settles p a t e (over ending clock) c
      → PlayTrace (WorldAnswers by limit document) Settles p b u f (over another time) d → (stage : Stage)
      → OrderedPlay stage p → AreSame stage a b → c.exchange.faults ≡ 0 → d.exchange.faults ≡ 0
      → (more others : List Entry) → c.own ≡ a.own ++ more → d.own ≡ b.own ++ others → PartAtReply more others
  unfolding Follows
  part law {a = a} {b = b} stop stop stage ordered same none nothing more others one two =
      subst (λ (l : List Entry). PartAtReply l others) (sym (none-added a.own more one))
      (subst (PartAtReply []) (sym (none-added b.own others two)) tt)
  part law {a = a} {b = b} (shown {mid = mid} one_event is x) (shown {mid = place} other are y) stage ordered same none
      nothing more others one two =
      let left = left-by one_event a mid is in
      let leaves = left-by one_event b place are in
      part law x y idle ordered (settled one_event stage a b mid place same is are) none nothing more others
      (one ∙ ap (λ (l : List Entry). l ++ more) (sym left.own))
      (two ∙ ap (λ (l : List Entry). l ++ others) (sym leaves.own))
  part law {a = a} {b = b} {c = c} {d = d} {another = another} {time = time}
      (stepped {mid = mid} request first after input is fit x)
      (stepped {mid = place} {tape = tapes} {events = events} about second behind other are fits_too y) stage ordered
      same none nothing more others one two =
      part-act law stage first input other a b mid place c d ordered.0 same is are (grown x) (grown y) none nothing
      (λ rest others_then own owns goes. part law x
      (subst (λ (i : Input). PlayTrace (WorldAnswers by limit document) Settles (after i) place tapes
      events (over another time) d) (sym goes.input_is) y) (stage_after stage first input) (ordered.1 input) goes.same
      none nothing rest others_then own owns) more others one two
