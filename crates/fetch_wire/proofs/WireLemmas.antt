-- What a wire's window and its link have of the bytes that were to come.
use Rattle.std.proofs.Common.{◌≡◌, ℕ, ◌+◌, ◌-◌, ◌≤◌, List, [], ◌++◌, take, drop, length, refl, ap, sym}
use Rattle.std.proofs.Common.{true, false, inl, inr, ◌<◌, subst, ◌∙◌, arith, append_assoc, length-append, Option, Some}
use Rattle.std.proofs.Common.{None}
use Rattle.std.specs.Prelude.{slice_range, unwrap_or}
use Rattle.std.proofs.lemmas.List.{append-nil, drop-append-le, drop-drop, drop-take, length-take, take-append-drop}
use Rattle.std.proofs.lemmas.List.{take-take}
use Rattle.std.proofs.Math.Seq.{drop-append-add}
use Rattle.link_traits.specs.Links.{Received}
use Rattle.link_traits.specs.Sources.{Gave, GaveJust, IsAtEnd}
use Rattle.link_traits.proofs.ReceivedLemmas.{received-none, received-on}
use Rattle.link_traits.proofs.SourceLemmas.{gave-again, gave-nothing}
use Rattle.fetch_acts.specs.declared.act.Input.{Input}
use Rattle.fetch_wire.specs.Exchanges.{AreToCome, Exchange, Gives, IsCaused, ExchangeRefused, Waited, WaitedFor}
use Rattle.fetch_wire.specs.Exchanges.{ends_answer}
use Rattle.fetch_wire.specs.Exchanges.{is_fault, most_received}
use Rattle.fetch_wire.specs.Private.Reads.{Gathers, GivesAtMost, GivesSome}
use Rattle.fetch_wire.specs.Wires.{onto_left}

-- no bytes before what a link has left
pub onto_nothing : (left : Option (List ℕ)) → onto_left [] left ≡ left
onto_nothing None = refl
onto_nothing (Some rest) = refl

-- the window without its first bytes
pub window-behind : (buffer : List ℕ) (from to count : ℕ) → count ≤ length (slice_range buffer from to)
    → slice_range buffer (from + count) to ≡ drop count (slice_range buffer from to)
window-behind buffer from to count within =
    let rest : ℕ = to - (from + count) in
    let parts : to - from ≡ count + rest = omega (arith, within, length-take (to - from) (drop from buffer)) in
    sym (ap (λ (n : ℕ). drop count (take n (drop from buffer))) parts ∙ drop-take count rest (drop from buffer)
    ∙ ap (λ (l : List ℕ). take rest l) (drop-drop count from buffer))

-- an input that is no fault, where the count is as it was
pub uncaused : (input : Input) (before now : ℕ) → now ≡ before → is_fault input ≡ false → IsCaused input before now
uncaused input before now same none = record { later = omega (arith, same); counted = rw none same }

-- ---- what was received

-- What was received since there were a window and what the link had left: it was read, or is in the window now.
pub record Receives (window : List ℕ) (left : Option (List ℕ)) (read now : List ℕ) (left' : Option (List ℕ))
    : Type 0 where
  pub given : List ℕ
  pub gave : Gave left left' given
  pub whole : read ++ now ≡ window ++ given

-- nothing yet
pub receives-none : (window : List ℕ) (left : Option (List ℕ)) → Receives window left [] window left
receives-none window left = record { given = []; gave = gave-nothing left; whole = sym (append-nil window) }

-- the window was read, and more was received
pub receives-more : (window : List ℕ) (left : Option (List ℕ)) (read now next more : List ℕ)
    (left' left'' : Option (List ℕ)) → next ≡ read ++ now → Gave left' left'' more
    → Receives window left read now left' → Receives window left next more left''
receives-more window left read now next more left' left'' is gave so_far = record {
  given = so_far.given ++ more;
  gave = gave-again left left' left'' so_far.given more (so_far.given ++ more) so_far.gave gave refl;
  whole = ap (λ (l : List ℕ). l ++ more) (is ∙ so_far.whole) ∙ append_assoc window so_far.given more;
}

-- it was read, and nothing was received
pub receives-read : (window : List ℕ) (left : Option (List ℕ)) (read now next : List ℕ)
    (left' left'' : Option (List ℕ)) → next ≡ read ++ now → left'' ≡ left'
    → Receives window left read now left' → Receives window left next [] left''
receives-read window left read now next left' left'' is same so_far =
    receives-more window left read now next [] left' left'' is
    (rw same (gave-nothing left')) so_far

-- ---- what was to come

module _ (window read now : List ℕ) where
  -- all that was received, and then what the link has left, is what was to come
  whole_left : (old later given : List ℕ) → read ++ now ≡ window ++ given → old ≡ given ++ later
      → window ++ old ≡ (read ++ now) ++ later
  whole_left old later given whole is =
      ap (λ (l : List ℕ). window ++ l) is ∙ sym (append_assoc window given later)
      ∙ ap (λ (l : List ℕ). l ++ later) (sym whole)

  -- the same where the link tells
  pub come-all : (left left' : Option (List ℕ)) → Receives window left read now left'
      → AreToCome (onto_left window left) ((read ++ now) ++ unwrap_or left' [])
  come-all None left' so_far = tt
  come-all (Some old) None so_far = absurd (no so_far.gave.1)
    where
      no : None ≡ Some so_far.gave.0 → ⊥
      no h = cc
  come-all (Some old) (Some later) so_far =
      let same : later ≡ so_far.gave.0 = cc in
      sym (whole_left old later so_far.given so_far.whole (so_far.gave.2 ∙ ap (λ (l : List ℕ). so_far.given ++ l)
      (sym same)))

  -- all that was received came first
  pub come-first : (left left' : Option (List ℕ)) → Receives window left read now left'
      → Gave (onto_left window left) left' (read ++ now)
  come-first None left' so_far = tt
  come-first (Some old) left' so_far = (
    so_far.gave.0,
    so_far.gave.1,
    whole_left old so_far.gave.0 so_far.given so_far.whole so_far.gave.2,
  )

  -- what was read, and so many bytes of the window, came first; the rest of the window, and what is left, follows
  pub come-behind : (left left' : Option (List ℕ)) (n : ℕ) → n ≤ length now
      → Receives window left read now left'
      → Gave (onto_left window left) (onto_left (drop n now) left')
      (take (length read + n) ((read ++ now) ++ unwrap_or left' []))
  come-behind None left' n within so_far = tt
  come-behind (Some old) None n within so_far = absurd (no so_far.gave.1)
    where
      no : None ≡ Some so_far.gave.0 → ⊥
      no h = cc
  come-behind (Some old) (Some later) n within so_far =
      let same : later ≡ so_far.gave.0 = cc in
      let joined : (read ++ now) ++ later ≡ read ++ (now ++ later) = append_assoc read now later in
      let behind : drop (length read + n) ((read ++ now) ++ later) ≡ drop n now ++ later =
      ap (λ (l : List ℕ). drop (length read + n) l) joined ∙ drop-append-add read (now ++ later) n
      ∙ drop-append-le n now later within in (
        drop n now ++ later,
        refl,
        whole_left old later so_far.given so_far.whole (so_far.gave.2 ∙ ap (λ (l : List ℕ). so_far.given ++ l)
            (sym same)) ∙ sym (take-append-drop (length read + n) ((read ++ now) ++ later))
            ∙ ap (λ (l : List ℕ). take (length read + n) ((read ++ now) ++ later) ++ l) behind,
      )

-- a link at its end has nothing left
pub nothing-left : (left : Option (List ℕ)) → IsAtEnd left → unwrap_or left [] ≡ []
nothing-left None end = refl
nothing-left (Some rest) end = end

-- ---- what is gathered at the front of the buffer

front-is : (buffer : List ℕ) (from to : ℕ) → from ≡ 0 → slice_range buffer from to ≡ take to buffer
front-is buffer from to front =
    let all : to - 0 ≡ to = omega arith in
    ap (λ (n : ℕ). slice_range buffer n to) front ∙ ap (λ (n : ℕ). take n buffer) all

-- more was received after it
gathered-on : (a b c : Option (List ℕ)) (old new : List ℕ) (from to count : ℕ) → from ≡ 0
    → Gave a b (slice_range old from to) → take to new ≡ take to old → Gave b c (take count (drop to new))
    → Gave a c (slice_range new from (to + count))
gathered-on a b c old new from to count front so_far kept gave =
    let all : List ℕ = take (to + count) new in
    let before : take to all ≡ take to old = take-take to (to + count) new (omega arith) ∙ kept in
    let joined : all ≡ take to old ++ take count (drop to new) =
    sym (take-append-drop to all) ∙ ap (λ (l : List ℕ). l ++ drop to all) before
    ∙ ap (λ (l : List ℕ). take to old ++ l) (drop-take to count new) in
    gave-again a b c (take to old) (take count (drop to new)) (slice_range new from (to + count))
    (subst (λ (l : List ℕ). Gave a b l) (front-is old from to front) so_far) gave
    (front-is new from (to + count) front ∙ joined)

-- the same where the buffer was lent
pub gathered-more : (a b c : Option (List ℕ)) (old lent new now : List ℕ) (from to count : ℕ) → from ≡ 0
    → Gave a b (slice_range old from to) → lent ≡ old → take to new ≡ take to lent
    → Gave b c (take count (drop to new)) → now ≡ new → Gave a c (slice_range now from (to + count))
gathered-more a b c old lent new now from to count front so_far same kept gave is =
    subst (λ (l : List ℕ). Gave a c (slice_range l from (to + count))) (sym is)
    (gathered-on a b c old new from to count front so_far (kept ∙ ap (λ (l : List ℕ). take to l) same) gave)

-- ---- what was received is counted

-- so many bytes were given
given-just : (window : List ℕ) (left : Option (List ℕ)) (read now : List ℕ) (left' : Option (List ℕ)) (count : ℕ)
    → length window + count ≡ length read + length now → Receives window left read now left'
    → GaveJust left left' count
given-just window left read now left' count whole so_far = record {
  given = so_far.given;
  gave = so_far.gave;
  just = omega (arith, ap length so_far.whole, length-append read now, length-append window so_far.given, whole);
}

module _ (Open : List ℕ → Type 0) (window : List ℕ) (left : Option (List ℕ)) where
  -- what was received was open, and then one receive gave some more
  pub waited-for : (read now : List ℕ) (mid : Option (List ℕ)) (earlier count : ℕ)
      → length window + earlier ≡ length read + length now → count ≤ earlier + most_received
      → Receives window left read now mid → Open (read ++ now) → WaitedFor Open (onto_left window left) left count
  waited-for read now mid earlier count whole few so_far open_ = record {
    earlier = earlier;
    few = few;
    mid = mid;
    gone = given-just window left read now mid earlier whole so_far;
    bytes = read ++ now;
    came = come-first window read now left mid so_far;
    waits = open_;
  }

module _ (Open : List ℕ → Type 0) (window : List ℕ) (left received : Option (List ℕ)) where
  -- So many bytes were received since there were a window and counts: they were read, or are in the window now. Before
  -- the last receive what had come was open.
  pub record Counts (read now : List ℕ) (received' : Option (List ℕ)) : Type 0 where
    pub count : ℕ
    pub counted : Received count received received'
    pub whole : length window + count ≡ length read + length now
    pub waited : Waited Open (onto_left window left) left count

  pub counts-none : Counts [] window received
  counts-none = record { count = 0; counted = received-none received; whole = omega arith; waited = inl refl }

  -- the window was read, and so many bytes more were received
  pub counts-more : (read now next more : List ℕ) (received' received'' : Option (List ℕ)) → next ≡ read ++ now
      → Received (length more) received' received'' → (so_far : Counts read now received')
      → WaitedFor Open (onto_left window left) left (so_far.count + length more) → Counts next more received''
  counts-more read now next more received' received'' is counted so_far waited = record {
    count = so_far.count + length more;
    counted = received-on so_far.count (length more) received received' received'' so_far.counted counted;
    whole = omega (arith, so_far.whole, ap length is, length-append read now);
    waited = inr waited;
  }

  -- they were given and counted
  pub gives-counted : (read now : List ℕ) (left' received' : Option (List ℕ)) → Receives window left read now left'
      → Counts read now received' → GivesSome Open (onto_left window left) left left' received received'
  gives-counted read now left' received' so_far counts = record {
    count = counts.count;
    gone = given-just window left read now left' counts.count counts.whole so_far;
    counted = counts.counted;
    waited = counts.waited;
  }

  -- and they are not more than were read and are in the window
  pub gives-few : (read now : List ℕ) (left' received' : Option (List ℕ)) (most : ℕ)
      → length read + length now ≤ most → Receives window left read now left' → Counts read now received'
      → GivesAtMost Open (onto_left window left) left left' received received' most
  gives-few read now left' received' most few so_far counts =
      let fewer : counts.count ≤ most = omega (arith, counts.whole, few) in
      record {
        gives = record {
          count = counts.count;
          gone = given-just window left read now left' counts.count counts.whole so_far;
          counted = counts.counted;
          waited = counts.waited;
        };
        few = fewer;
      }

-- nothing was given
pub gives-none : (Open : List ℕ → Type 0) (coming left received : Option (List ℕ))
    → GivesSome Open coming left left received received
gives-none Open coming left received = record {
  count = 0;
  gone = record { given = []; gave = gave-nothing left; just = refl };
  counted = received-none received;
  waited = inl refl;
}

pub few-none : (Open : List ℕ → Type 0) (coming left received : Option (List ℕ)) (most : ℕ)
    → GivesAtMost Open coming left left received received most
few-none Open coming left received most =
    let few : 0 ≤ most = omega arith in
    record {
      gives = record {
        count = 0;
        gone = record { given = []; gave = gave-nothing left; just = refl };
        counted = received-none received;
        waited = inl refl;
      };
      few = few;
    }

-- nothing more was
pub few-on : (Open : List ℕ → Type 0) (coming left left' left'' received received' received'' : Option (List ℕ))
    (most : ℕ) → left'' ≡ left' → received'' ≡ received' → GivesAtMost Open coming left left' received received' most
    → GivesAtMost Open coming left left'' received received'' most
few-on Open coming left left' left'' received received' received'' most same alike few = rw (same, alike) few

-- memory was refused, and nothing was received
pub refuses_none : {State : Type 0} (exchange : Exchange State) → ExchangeRefused exchange exchange
refuses_none exchange =
    record { state_is = refl; count = 0; counted = received-none exchange.received; faults_are = refl }

-- ---- an act's bytes

-- the link was hung up then
pub hung-up : {State : Type 0} (Open : List ℕ → Type 0) (old new : Exchange State) (input : Input)
    (left : Option (List ℕ)) → ends_answer input ≡ true
    → (gives : GivesSome Open old.coming old.left left old.received new.received) → Gives old input new gives.count
hung-up Open old new input left ends gives = record {
  counted = gives.counted;
  gone = λ (open_ : ends_answer input ≡ false). absurd (cc);
}

-- ---- what is gathered is counted

front-length : (buffer : List ℕ) (from to : ℕ) → from ≡ 0 → to ≤ length buffer → length (slice_range buffer from to)
    ≡ to
front-length buffer from to front within =
    omega (arith, ap length (front-is buffer from to front), length-take to buffer, within)

-- and more was received after what is there
pub gathered-counted : (a b c : Option (List ℕ)) (old now : List ℕ) (from to count : ℕ) → from ≡ 0 → to ≤ length old
    → to + count ≤ length now → Received (length (slice_range old from to)) a b → Received count b c
    → Received (length (slice_range now from (to + count))) a c
gathered-counted a b c old now from to count front before within so_far more =
    subst (λ (n : ℕ). Received n a c) (sym (front-length now from (to + count) front within))
    (received-on to count a b c
    (subst (λ (n : ℕ). Received n a b) (front-length old from to front before) so_far) more)

-- ---- what was gathered before the last receive

pub gathers : (left mid : Option (List ℕ)) (old now : List ℕ) (from to count fewest : ℕ) → from ≡ 0 → to ≤ length old
    → to + count ≤ length now → length now ≡ 4096 → Gave left mid (slice_range old from to) → (0 < to → to < fewest)
    → Gathers fewest left (slice_range now from (to + count))
gathers left mid old now from to count fewest front before within size gave waits =
    let had = front-length old from to front before in
    let has = front-length now from (to + count) front within in
    record {
      before = slice_range old from to;
      mid = mid;
      gave = gave;
      waits = λ some. omega (arith, waits (omega (arith, had, some)), had);
      few = omega (arith, has, within, size);
    }

-- and where the link failed nothing came after that
pub gathers-same : (left mid : Option (List ℕ)) (old lent new now : List ℕ) (from to fewest : ℕ) → from ≡ 0
    → to ≤ length now → Gave left mid (slice_range old from to) → (0 < to → to < fewest) → lent ≡ old
    → take to new ≡ take to lent → now ≡ new → Gathers fewest left (slice_range now from to)
gathers-same left mid old lent new now from to fewest front within gave waits same kept is =
    let had = front-length now from to front within in
    let alike : slice_range old from to ≡ slice_range now from to =
    front-is old from to front ∙ sym (ap (λ (l : List ℕ). take to l) same) ∙ sym kept
    ∙ sym (ap (λ (l : List ℕ). take to l) is) ∙ sym (front-is now from to front) in
    record {
      before = slice_range now from to;
      mid = mid;
      gave = subst (λ (l : List ℕ). Gave left mid l) alike gave;
      waits = λ some. omega (arith, waits (omega (arith, had, some)), had);
      few = omega arith;
    }
