-- What a reader of heads that is fed a wire's window finds in the bytes that were to come.
use Rattle.std.proofs.Common.{◌≡◌, ℕ, ◌+◌, ◌-◌, ◌≤◌, List, [], ◌++◌, drop, length, inl, inr, refl, ap, sym}
use Rattle.std.proofs.Common.{subst, ◌∙◌, arith, Option}
use Rattle.std.specs.Prelude.{unwrap_or}
use Rattle.std.proofs.lemmas.List.{append-nil}
use Rattle.value_requests.specs.declared.hop.Head.{Head}
use Rattle.link_traits.specs.Sources.{Gave, IsAtEnd}
use Rattle.link_http1.specs.Answers.{HasBadBlock, IsFinal, IsTooLong, IsUnfinished, most_bytes}
use Rattle.link_http1.specs.Framings.{framing_of}
use Rattle.link_http1.specs.HeadFeeding.{IsFed}
use Rattle.link_http1.specs.declared.head.HeadStep.{HeadStep}
use Rattle.link_http1.specs.declared.head.HeadStep.TheVariants as heads
use Rattle.link_http1.proofs.AnswerLemmas.{bad-more, final-more, long-more}
use Rattle.fetch_acts.specs.declared.act.Input.TheVariants.{HeadIs, HeadLong}
use Rattle.fetch_wire.specs.declared.exchange.Found.{Found}
use Rattle.fetch_wire.specs.declared.exchange.Found.TheVariants as found
use Rattle.fetch_wire.specs.Exchanges.{Exchange, HasHead, IsHeadRead, IsIdle, WaitedFor, most_received}
use Rattle.fetch_wire.specs.Private.Reads.{Finds, GivesAtMost}
use Rattle.fetch_wire.specs.Wires.{onto_left}
use Rattle.fetch_wire.proofs.WireLemmas.{Receives, come-behind, come-first, come-all, nothing-left, receives-more}
use Rattle.fetch_wire.proofs.WireLemmas.{hung-up, receives-read, uncaused, waited-for}

-- what a step came to, of the window that was fed
fed : (read piece now : List ℕ) (step is : HeadStep) → piece ≡ now → step ≡ is → IsFed read piece step
    → IsFed read now is
fed read piece now step is same came feeds =
    subst (λ (s : HeadStep). IsFed read now s) came (subst (λ (p : List ℕ). IsFed read p step) same feeds)

module _ (window : List ℕ) (left : Option (List ℕ)) (read piece now : List ℕ) (left' : Option (List ℕ))
    (step : HeadStep) (same : piece ≡ now) (feeds : IsFed read piece step)
    (so_far : Receives window left read now left') where
  -- the final head was found
  pub finds-head : (head : Head) (n : ℕ) → step ≡ heads.Final head n
      → Finds (onto_left window left) (found.Head head n) now left'
  finds-head head n came =
      let here : (n ≤ length now) × IsFinal (read ++ now) head (length read + n) =
      fed read piece now step (heads.Final head n) same came feeds in (
        here.0,
        record {
          bytes = (read ++ now) ++ unwrap_or left' [];
          are_all = come-all window read now left left' so_far;
          n = length read + n;
          ends = final-more (read ++ now) (unwrap_or left' []) head (length read + n) here.1;
          left = come-behind window read now left left' n here.0 so_far;
        },
      )

  -- a block that is no head was found
  pub finds-bad : step ≡ heads.Bad → Finds (onto_left window left) found.Bad now left'
  finds-bad came =
      let here : HasBadBlock (read ++ now) = fed read piece now step heads.Bad same came feeds in
      record {
        bytes = (read ++ now) ++ unwrap_or left' [];
        are_all = come-all window read now left left' so_far;
        ends = inl (bad-more (read ++ now) (unwrap_or left' []) here);
      }

  -- too long a head was found
  pub finds-long : step ≡ heads.TooBig → Finds (onto_left window left) found.Long now left'
  finds-long came =
      let here : IsTooLong (read ++ now) = fed read piece now step heads.TooBig same came feeds in
      record {
        bytes = (read ++ now) ++ unwrap_or left' [];
        are_all = come-all window read now left left' so_far;
        ends = long-more (read ++ now) (unwrap_or left' []) here;
      }

  -- the window was read and decides nothing
  head-open : (next : List ℕ) → step ≡ heads.More next → (next ≡ read ++ now) × IsUnfinished (read ++ now)
  head-open next came = fed read piece now step (heads.More next) same came feeds

  pub head-read : (next : List ℕ) → step ≡ heads.More next → next ≡ read ++ now
  head-read next came = (head-open next came).0

  -- and more was received
  pub head-goes-on : (next more : List ℕ) (left'' : Option (List ℕ)) → step ≡ heads.More next → Gave left' left'' more
      → Receives window left next more left''
  head-goes-on next more left'' came gave =
      receives-more window left read now next more left' left'' (head-open next came).0 gave so_far

  -- or the answer ended
  pub finds-end : (next more there : List ℕ) (left'' : Option (List ℕ)) → step ≡ heads.More next
      → Gave left' left'' more → more ≡ [] → IsAtEnd left'' → Finds (onto_left window left) found.Bad there left''
  finds-end next more there left'' came gave none end =
      let open_ = head-open next came in
      let all : (next ++ more) ++ unwrap_or left'' [] ≡ read ++ now =
      ap (λ (l : List ℕ). (next ++ more) ++ l) (nothing-left left'' end) ∙ append-nil (next ++ more)
      ∙ ap (λ (l : List ℕ). next ++ l) none ∙ append-nil next ∙ open_.0 in
      record {
        bytes = (next ++ more) ++ unwrap_or left'' [];
        are_all = come-all window next more left left'' (head-goes-on next more left'' came gave);
        ends = inr (subst (λ (l : List ℕ). IsUnfinished l) (sym all) open_.1);
      }

  -- or the link failed
  pub finds-fault : (next there : List ℕ) (left'' : Option (List ℕ)) → step ≡ heads.More next → left'' ≡ left'
      → Finds (onto_left window left) found.Fault there left''
  finds-fault next there left'' came kept =
      let open_ = head-open next came in
      let reads = receives-read window left read now next left' left'' open_.0 kept so_far in
      record {
        bytes = next ++ [];
        came = come-first window next [] left left'' reads;
        waits = subst (λ (l : List ℕ). IsUnfinished l) (sym (append-nil next ∙ open_.0)) open_.1;
      }

  -- and before it was received the head was open
  pub head-waits : (next more : List ℕ) (count : ℕ) → step ≡ heads.More next
      → length window + count ≡ length read + length now → length more ≤ most_received
      → WaitedFor IsUnfinished (onto_left window left) left (count + length more)
  head-waits next more count came whole few =
      waited-for IsUnfinished window left read now left' count (count + length more) whole (omega (arith, few)) so_far
      (head-open next came).1

-- too long a head came, and nothing is to come then
pub read-long : {State : Type 0} (old new : Exchange State) (it : Found) (window : List ℕ) (left : Option (List ℕ))
    → it ≡ found.Long → Finds old.coming it window left
    → GivesAtMost IsUnfinished old.coming old.left left old.received new.received (most_bytes + 1) → IsIdle new
    → new.state ≡ old.state → new.faults ≡ old.faults → IsHeadRead old HeadLong new
read-long old new it window left is finds few idle state same = record {
  head_is = (subst (λ (f : Found). Finds old.coming f window left) is finds, idle);
  count = few.gives.count;
  few = few.few;
  waited = few.gives.waited;
  gives = hung-up IsUnfinished old new HeadLong left refl few.gives;
  state_is = state;
  caused = uncaused HeadLong old.faults new.faults same refl;
}

-- the final head came, and the bytes after it are to come
pub read-final : {State : Type 0} (old new : Exchange State) (it : Found) (window : List ℕ) (head : Head) (n : ℕ)
    → it ≡ found.Head head n → Finds old.coming it window new.left
    → GivesAtMost IsUnfinished old.coming old.left new.left old.received new.received (most_bytes + 1)
    → new.coming ≡ onto_left (drop n window) new.left → new.framing ≡ framing_of head → new.state ≡ old.state
    → new.faults ≡ old.faults → IsHeadRead old (HeadIs head) new
read-final old new it window head n is finds few behind framed state same =
    let here : Finds old.coming (found.Head head n) window new.left =
    subst (λ (f : Found). Finds old.coming f window new.left) is finds in
    record {
      head_is = (subst (λ (c : Option (List ℕ)). HasHead old.coming head c) (sym behind) here.1, framed);
      count = few.gives.count;
      few = few.few;
      waited = few.gives.waited;
      gives = record { counted = few.gives.counted; gone = λ (open_ : _). few.gives.gone };
      state_is = state;
      caused = uncaused (HeadIs head) old.faults new.faults same refl;
    }
