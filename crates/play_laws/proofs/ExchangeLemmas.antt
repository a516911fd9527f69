-- What comes of an act in a document's world is one thing, where the link tells and does not fail.
use Rattle.std.proofs.Common.{◌≡◌, ℕ, Bool, true, false, List, ◌++◌, take, Option, Some}
use Rattle.std.proofs.Common.{refl, ap}
use Rattle.std.proofs.Common.{sym, subst, ◌∙◌, arith}
use Rattle.std.proofs.lemmas.List.{append_cancel_left}
use Rattle.std.specs.Prelude.{if◌then◌else◌, option_map}
use Rattle.value_requests.specs.declared.hop.Head.{Head}
use Rattle.value_requests.specs.declared.hop.Hop.{Hop}
use Rattle.value_requests.specs.declared.response.BodyEnd.{BodyEnd}
use Rattle.value_requests.specs.declared.response.BodyEnd.TheVariants as body
use Rattle.link_traits.specs.Counts.{one_more}
use Rattle.link_http1.specs.Answers.{HeadEnd, IsHeadEnd, bad, final, long}
use Rattle.link_http1.specs.Bodies.{body_end}
use Rattle.link_http1.specs.Framings.{framing_of}
use Rattle.link_http1.specs.HeadLaws.{HasOneEnd}
use Rattle.link_http1.specs.declared.framing.Framing.{Framing}
use Rattle.fetch_acts.specs.declared.act.Act.{Act}
use Rattle.fetch_acts.specs.declared.act.Act.TheVariants.{Send, ReadHead}
use Rattle.fetch_acts.specs.declared.act.Input.{Input}
use Rattle.fetch_acts.specs.declared.act.Input.TheVariants.{BodyIs, Fault, HeadBad, HeadIs, HeadLong, Sent}
use Rattle.fetch_wire.specs.Exchanges.{EndsBody, Exchange, FindsBody, FindsHead, HasBody, HasHead}
use Rattle.fetch_wire.specs.Exchanges.{HasNoHead, IsAnswered}
use Rattle.fetch_wire.specs.Exchanges.{IsCaused, is_fault}
use Rattle.play_laws.proofs.OrderLemmas.{Stage, asking, headed, idle, stage_after}

-- ---- no faults

risen : (before now : ℕ) → now ≡ one_more before → now ≡ 0 → ⊥
risen before now rose none = omega (arith, rose, none)

-- where the link has not failed no input tells so
no-fault-by : (input : Input) (before now : ℕ) (is : Bool) → is_fault input ≡ is → IsCaused input before now → now ≡ 0
    → is_fault input ≡ false
no-fault-by input before now true is caused none =
    absurd (risen before now (caused.counted ∙ ap (λ (b : Bool). if b then one_more before else before) is) none)
no-fault-by input before now false is caused none = is

pub no-fault : (input : Input) (before now : ℕ) → IsCaused input before now → now ≡ 0 → is_fault input ≡ false
no-fault input before now caused none = no-fault-by input before now (is_fault input) refl caused none

-- ---- what an answer comes to

-- the input that an answer's head comes to
abbrev shown_as : HeadEnd → Input
shown_as (final head n) = HeadIs head
shown_as bad = HeadBad
shown_as long = HeadLong

none-found : (bytes : List ℕ) (end : HeadEnd) → HasNoHead (Some bytes) end → IsHeadEnd bytes end
none-found bytes end has = subst (λ (l : List ℕ). IsHeadEnd l end) has.are_all has.ends

has-body : (how : Framing) (limit : ℕ) (bytes : List ℕ) (end : BodyEnd) → HasBody how limit (Some bytes) end
    → end ≡ body_end how limit bytes
has-body how limit bytes end has = has.ends ∙ ap (body_end how limit) has.are_all

ends-body : (how : Framing) (limit : ℕ) (bytes : List ℕ) (left : Option (List ℕ)) (end : BodyEnd)
    → EndsBody how limit (Some bytes) end left → is_fault (BodyIs end) ≡ false → end ≡ body_end how limit bytes
ends-body how limit bytes left (body.Fault n) is none = absurd (cc)
ends-body how limit bytes left end is none = has-body how limit bytes _ is

module _ {State : Type 0} where
  -- ---- two exchanges, as far as is known of them

  -- the same bytes are to come in both, and are told
  pub record AreComing (a b : Exchange State) : Type 0 where
    pub bytes : List ℕ
    pub one : a.coming ≡ Some bytes
    pub two : b.coming ≡ Some bytes

  abbrev pub Coming : Stage → Exchange State → Exchange State → Type 0
  Coming idle a b = Unit {0}
  Coming asking a b = AreComing a b
  Coming headed a b = AreComing a b × (a.framing ≡ b.framing)

  -- ---- a request

  sent-coming : (answer : State → List ℕ) (state : State) (old new : Exchange State) → old.state ≡ Some state
      → new.coming ≡ option_map answer old.state → new.coming ≡ Some (answer state)
  sent-coming answer state old new told is = is ∙ ap (option_map answer) told

  -- Two inputs are the same, and so is what is known after them.
  pub record IsOne (stage : Stage) (first : Act) (input other : Input) (new different : Exchange State) : Type 0 where
    pub input_is : input ≡ other
    pub coming : Coming (stage_after stage first input) new different

  pub one-sent : (answer : State → List ℕ) (state : State) (stage : Stage) (hop : Hop) (input other : Input)
      (old another new different : Exchange State) → old.state ≡ Some state → another.state ≡ Some state
      → IsAnswered answer old input new → IsAnswered answer another other different → is_fault input ≡ false
      → is_fault other ≡ false → IsOne stage (Send hop) input other new different
  one-sent answer state stage hop Sent Sent old another new different told tells is are none nothing = record {
    input_is = refl;
    coming = record {
      bytes = answer state;
      one = sent-coming answer state old new told is.0;
      two = sent-coming answer state another different tells are.0;
    };
  }
  one-sent answer state stage hop Fault other old another new different told tells is are none nothing = absurd (cc)
  one-sent answer state stage hop Sent Fault old another new different told tells is are none nothing = absurd (cc)
  one-sent answer state stage hop Sent other old another new different told tells is are none nothing = absurd are
  one-sent answer state stage hop input other old another new different told tells is are none nothing = absurd is

  -- ---- a head

  -- What comes after a final head.
  record IsBehind (bytes : List ℕ) (head : Head) (n : ℕ) (new : Exchange State) : Type 0 where
    pub later : List ℕ
    pub coming : new.coming ≡ Some later
    pub all : bytes ≡ take n bytes ++ later
    pub framing : new.framing ≡ framing_of head

  abbrev Behind : List ℕ → HeadEnd → Exchange State → Type 0
  Behind bytes (final head n) new = IsBehind bytes head n new
  Behind bytes end new = Unit {0}

  -- What the head of these bytes came to.
  record HeadEnds (bytes : List ℕ) (input : Input) (new : Exchange State) : Type 0 where
    pub end : HeadEnd
    pub ends : IsHeadEnd bytes end
    pub input_is : input ≡ shown_as end
    pub behind : Behind bytes end new

  found : (bytes : List ℕ) (head : Head) (new : Exchange State) → HasHead (Some bytes) head new.coming
      → new.framing ≡ framing_of head → HeadEnds bytes (HeadIs head) new
  found bytes head new has framed = record {
    end = final head has.n;
    ends = subst (λ (l : List ℕ). IsHeadEnd l (final head has.n)) has.are_all has.ends;
    input_is = refl;
    behind = record {
      later = has.left.0;
      coming = has.left.1;
      all = has.left.2 ∙ ap (λ (l : List ℕ). take has.n l ++ has.left.0) has.are_all;
      framing = framed;
    };
  }

  head-ends : (bytes : List ℕ) (input : Input) (old new : Exchange State) → old.coming ≡ Some bytes
      → FindsHead old input new → is_fault input ≡ false → HeadEnds bytes input new
  head-ends bytes (HeadIs head) old new told is none =
      found bytes head new (subst (λ (c : Option (List ℕ)). HasHead c head new.coming) told is.0) is.1
  head-ends bytes HeadBad old new told is none = record {
    end = bad;
    ends = none-found bytes bad (subst (λ (c : Option (List ℕ)). HasNoHead c bad) told is.0);
    input_is = refl;
    behind = tt;
  }
  head-ends bytes HeadLong old new told is none = record {
    end = long;
    ends = none-found bytes long (subst (λ (c : Option (List ℕ)). HasNoHead c long) told is.0);
    input_is = refl;
    behind = tt;
  }
  head-ends bytes Fault old new told is none = absurd (cc)
  head-ends bytes input old new told is none = absurd is

  behind-coming : (bytes : List ℕ) (end : HeadEnd) (new different : Exchange State) → Behind bytes end new
      → Behind bytes end different → Coming (stage_after asking ReadHead (shown_as end)) new different
  behind-coming bytes (final head n) new different is are = (
    record {
      bytes = is.later;
      one = is.coming;
      two = are.coming
          ∙ ap (λ (l : List ℕ). let o : Option (List ℕ) = Some l in o)
          (append_cancel_left (take n bytes) are.later is.later (sym are.all ∙ is.all));
    },
    is.framing ∙ sym are.framing,
  )
  behind-coming bytes bad new different is are = tt
  behind-coming bytes long new different is are = tt

  pub one-head : HasOneEnd → (input other : Input) (old another new different : Exchange State)
      → AreComing old another → FindsHead old input new → FindsHead another other different
      → is_fault input ≡ false → is_fault other ≡ false → IsOne asking ReadHead input other new different
  one-head law input other old another new different same is are none nothing =
      let x = head-ends same.bytes input old new same.one is none in
      let y = head-ends same.bytes other another different same.two are nothing in
      let ends : x.end ≡ y.end = law same.bytes x.end y.end x.ends y.ends in
      record {
        input_is = x.input_is ∙ ap shown_as ends ∙ sym y.input_is;
        coming = subst (λ (i : Input). Coming (stage_after asking ReadHead i) new different) (sym x.input_is)
            (behind-coming same.bytes x.end new different x.behind
            (subst (λ (end : HeadEnd). Behind same.bytes end different) (sym ends) y.behind));
      }

  -- ---- a body

  body-ends : (limit : ℕ) (bytes : List ℕ) (input : Input) (old new : Exchange State) → old.coming ≡ Some bytes
      → FindsBody limit old input new → is_fault input ≡ false → input ≡ BodyIs (body_end old.framing limit bytes)
  body-ends limit bytes (BodyIs end) old new told is none =
      ap BodyIs (ends-body old.framing limit bytes new.left end
      (subst (λ (c : Option (List ℕ)). EndsBody old.framing limit c end new.left) told is.0) none)
  body-ends limit bytes input old new told is none = absurd is

  pub one-body : (limit : ℕ) (input other : Input) (old another new different : Exchange State)
      → AreComing old another → old.framing ≡ another.framing → FindsBody limit old input new
      → FindsBody limit another other different → is_fault input ≡ false → is_fault other ≡ false → input ≡ other
  one-body limit input other old another new different same framed is are none nothing =
      body-ends limit same.bytes input old new same.one is none
      ∙ ap (λ (how : Framing). BodyIs (body_end how limit same.bytes)) framed
      ∙ sym (body-ends limit same.bytes other another different same.two are nothing)
