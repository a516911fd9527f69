-- How an answer is cut does not matter.
use Rattle.std.proofs.Common.{◌≡◌, ℕ, ◌+◌, List, [], ◌++◌, length, refl, ap, sym, ◌∙◌, subst, append_assoc}
use Rattle.std.proofs.Common.{length-append, inl, inr, arith}
use Rattle.std.specs.Prelude.{Option, Some, None}
use Rattle.link_http1.proofs.AnswerLemmas.{long-not-short}
use Rattle.fetch_acts.specs.declared.act.Act.{Act}
use Rattle.fetch_acts.specs.declared.act.Act.TheVariants as acts
use Rattle.fetch_acts.specs.declared.act.Input.TheVariants.{BodyIs, HeadBad, HeadIs, HeadLong}
use Rattle.link_http1.specs.Answers.{HasBadBlock, IsFinal, IsTooLong, IsUnfinished, bad, final, long}
use Rattle.link_http1.specs.Bodies.{IsDecided, IsOpen, body_end}
use Rattle.link_http1.specs.BodyFeeding as bodies
use Rattle.link_http1.specs.HeadFeeding as heads
use Rattle.link_http1.specs.HeadLaws.{HasOneEnd, HasOneHead}
use Rattle.link_http1.specs.declared.body.BodyStep.{BodyStep}
use Rattle.link_http1.specs.declared.body.BodyStep.TheVariants as body
use Rattle.link_http1.specs.declared.framing.Framing.{Framing}
use Rattle.link_http1.specs.declared.head.HeadStep.{HeadStep}
use Rattle.link_http1.specs.declared.head.HeadStep.TheVariants as head
use Rattle.value_requests.specs.declared.hop.Head.{Head}
use Rattle.value_requests.specs.declared.response.BodyEnd.{BodyEnd}
use Rattle.fetch_session.specs.CutLaws.{PiecesJoin}
use Rattle.fetch_session.specs.Feeding.{BodyGoes, FedAt, FedBody, FedHead, HeadGoes, reading_at}
use Rattle.fetch_session.specs.Standings.{Standing, first_act, gone_on}

-- where the fetch stands behind the front of a piece that decides nothing
abbrev behind : Standing → List ℕ → Standing
behind standing front = record standing { read = standing.read ++ front }

-- the two ways come to one place
abbrev Joined : Standing → Standing → List ℕ → ℕ → ℕ → Type 0
Joined next joined front used all = (joined ≡ next) × (all ≡ length front + used)

-- ---- heads

-- what a step says of all bytes so far, of which so many came before its piece
abbrev Says : List ℕ → ℕ → HeadStep → Type 0
Says bytes before (head.More reader) = (reader ≡ bytes) × IsUnfinished bytes
Says bytes before (head.Final h n) = IsFinal bytes h (before + n)
Says bytes before head.Bad = HasBadBlock bytes
Says bytes before head.TooBig = IsTooLong bytes

says : (bytes piece : List ℕ) (step : HeadStep) → heads.IsFed bytes piece step → Says (bytes ++ piece) (length bytes) step
says bytes piece (head.More reader) fed = fed
says bytes piece (head.Final h n) fed = fed.1
says bytes piece head.Bad fed = fed
says bytes piece head.TooBig fed = fed

-- bytes that are unfinished have neither a block that is no head, nor a final head, nor are they too long
no_bad : (bytes : List ℕ) → HasBadBlock bytes → IsUnfinished bytes → ⊥
no_bad bytes found unfinished = unfinished.undecided found.0 found.1.decided.decides

no_final : (bytes : List ℕ) (h : Head) (n : ℕ) → IsFinal bytes h n → IsUnfinished bytes → ⊥
no_final bytes h n found unfinished = unfinished.undecided n found.decided.decides

-- the ends of one answer's head are one
apart_bad : HasOneEnd → (bytes : List ℕ) (h : Head) (n : ℕ) → IsFinal bytes h n → HasBadBlock bytes → ⊥
apart_bad one bytes h n found block = let e : final h n ≡ bad = one bytes (final h n) bad found (inl block) in cc

apart_long : HasOneEnd → (bytes : List ℕ) (h : Head) (n : ℕ) → IsFinal bytes h n → IsTooLong bytes → ⊥
apart_long one bytes h n found many = let e : final h n ≡ long = one bytes (final h n) long found many in cc

apart_two : HasOneEnd → (bytes : List ℕ) → HasBadBlock bytes → IsTooLong bytes → ⊥
apart_two one bytes block many = let e : bad ≡ long = one bytes bad long (inl block) many in cc

-- the steps of the back and of the whole piece lead to one place
heads_join : HasOneHead → HasOneEnd → (standing next joined : Standing) (front back bytes : List ℕ) (used all : ℕ)
    → (first whole : HeadStep) → Says bytes (length standing.read + length front) first
    → Says bytes (length standing.read) whole
    → HeadGoes (behind standing front) (length back) first used (Some next)
    → HeadGoes standing (length (front ++ back)) whole all (Some joined) → Joined next joined front used all
heads_join one end standing next joined front back bytes used all (head.More a) (head.More b) says_a says_b goes_a goes_b = (
  let e : Some (record standing { read = b }) ≡ Some (record standing { read = a }) =
      ap (λ (r : List ℕ). Some (record standing { read = r })) (says_b.0 ∙ sym says_a.0) in cc,
  omega (arith, length-append front back, goes_a.0, goes_b.0),
)
heads_join one end standing next joined front back bytes used all (head.More a) (head.Final h n) says_a says_b goes_a goes_b =
    absurd (no_final bytes h (length standing.read + n) says_b says_a.1)
heads_join one end standing next joined front back bytes used all (head.More a) head.Bad says_a says_b goes_a goes_b =
    absurd (no_bad bytes says_b says_a.1)
heads_join one end standing next joined front back bytes used all (head.More a) head.TooBig says_a says_b goes_a goes_b =
    absurd (long-not-short bytes says_b says_a.1)
heads_join one end standing next joined front back bytes used all (head.Final h n) (head.More b) says_a says_b goes_a goes_b =
    absurd (no_final bytes h (length standing.read + length front + n) says_a says_b.1)
heads_join one end standing next joined front back bytes used all (head.Final h n) (head.Final i m) says_a says_b goes_a goes_b =
    let same : (h ≡ i) × (length standing.read + length front + n ≡ length standing.read + m) =
    one bytes h i (length standing.read + length front + n) (length standing.read + m) says_a says_b in
    let e : Some (gone_on standing (HeadIs h)) ≡ Some (gone_on standing (HeadIs i)) =
    ap (λ (it : Head). Some (gone_on standing (HeadIs it))) same.0 in
    (cc (goes_a.1, goes_b.1, e), omega (arith, same.1, goes_a.0, goes_b.0))
heads_join one end standing next joined front back bytes used all (head.Final h n) head.Bad says_a says_b goes_a goes_b =
    absurd (apart_bad end bytes h (length standing.read + length front + n) says_a says_b)
heads_join one end standing next joined front back bytes used all (head.Final h n) head.TooBig says_a says_b goes_a goes_b =
    absurd (apart_long end bytes h (length standing.read + length front + n) says_a says_b)
heads_join one end standing next joined front back bytes used all head.Bad (head.More b) says_a says_b goes_a goes_b =
    absurd (no_bad bytes says_a says_b.1)
heads_join one end standing next joined front back bytes used all head.Bad (head.Final h n) says_a says_b goes_a goes_b =
    absurd (apart_bad end bytes h (length standing.read + n) says_b says_a)
heads_join one end standing next joined front back bytes used all head.Bad head.Bad says_a says_b goes_a goes_b =
    (cc (goes_a.1, goes_b.1), omega (arith, length-append front back, goes_a.0, goes_b.0))
heads_join one end standing next joined front back bytes used all head.Bad head.TooBig says_a says_b goes_a goes_b =
    absurd (apart_two end bytes says_a says_b)
heads_join one end standing next joined front back bytes used all head.TooBig (head.More b) says_a says_b goes_a goes_b =
    absurd (long-not-short bytes says_a says_b.1)
heads_join one end standing next joined front back bytes used all head.TooBig (head.Final h n) says_a says_b goes_a goes_b =
    absurd (apart_long end bytes h (length standing.read + n) says_b says_a)
heads_join one end standing next joined front back bytes used all head.TooBig head.Bad says_a says_b goes_a goes_b =
    absurd (apart_two end bytes says_b says_a)
heads_join one end standing next joined front back bytes used all head.TooBig head.TooBig says_a says_b goes_a goes_b =
    (cc (goes_a.1, goes_b.1), omega (arith, length-append front back, goes_a.0, goes_b.0))

-- the same bytes, however they are cut
same_bytes : (read front back : List ℕ) (step : HeadStep) → Says ((read ++ front) ++ back) (length (read ++ front)) step
    → Says (read ++ (front ++ back)) (length read + length front) step
same_bytes read front back step here =
    subst (λ (n : ℕ). Says (read ++ (front ++ back)) n step) (length-append read front)
    (subst (λ (b : List ℕ). Says b (length (read ++ front)) step) (append_assoc read front back) here)

head_pieces : HasOneHead → HasOneEnd → (standing next joined : Standing) (front back : List ℕ) (used all : ℕ)
    → FedHead (behind standing front) back used (Some next) → FedHead standing (front ++ back) all (Some joined)
    → Joined next joined front used all
head_pieces one end standing next joined front back used all a b =
    heads_join one end standing next joined front back (standing.read ++ (front ++ back)) used all a.0 b.0
    (same_bytes standing.read front back a.0 (says (standing.read ++ front) back a.0 a.1))
    (says standing.read (front ++ back) b.0 b.1) a.2 b.2

-- ---- bodies

-- bytes that decide a body decide it in one way
one_body : (how : Framing) (limit : ℕ) (bytes : List ℕ) (a b : BodyEnd) → IsDecided how limit bytes a
    → IsDecided how limit bytes b → a ≡ b
one_body how limit bytes a b here there = sym (here []) ∙ there []

bodies_join : (standing next joined : Standing) (front back : List ℕ) (used all : ℕ) (first whole : BodyStep)
    → bodies.IsFed (reading_at (behind standing front)) back first
    → bodies.IsFed (reading_at standing) (front ++ back) whole
    → (used ≡ length back) → (all ≡ length (front ++ back))
    → BodyGoes (behind standing front) first (Some next) → BodyGoes standing whole (Some joined)
    → Joined next joined front used all
bodies_join standing next joined front back used all (body.More a) (body.More b) fed_a fed_b used_a used_b goes_a goes_b = (
  let bytes_a : a.bytes ≡ (standing.read ++ front) ++ back = ap (λ r. r.bytes) fed_a.0 in
      let bytes_b : b.bytes ≡ standing.read ++ (front ++ back) = ap (λ r. r.bytes) fed_b.0 in
      let e : Some (record standing { read = b.bytes }) ≡ Some (record standing { read = a.bytes }) =
      ap (λ (r : List ℕ). Some (record standing { read = r }))
      (bytes_b ∙ sym (append_assoc standing.read front back) ∙ sym bytes_a) in
      cc (goes_a, goes_b, e),
  omega (arith, length-append front back, used_a, used_b),
)
bodies_join standing next joined front back used all (body.More a) (body.Over end) fed_a fed_b used_a used_b goes_a goes_b =
    absurd (fed_a.1 end (subst (λ (b : List ℕ). IsDecided standing.bodies.framing standing.bodies.limit b end)
    (sym (append_assoc standing.read front back)) fed_b))
bodies_join standing next joined front back used all (body.Over end) (body.More b) fed_a fed_b used_a used_b goes_a goes_b =
    absurd (fed_b.1 end (subst (λ (b : List ℕ). IsDecided standing.bodies.framing standing.bodies.limit b end)
    (append_assoc standing.read front back) fed_a))
bodies_join standing next joined front back used all (body.Over a) (body.Over b) fed_a fed_b used_a used_b goes_a goes_b = (
  let same : a ≡ b = one_body standing.bodies.framing standing.bodies.limit (standing.read ++ (front ++ back)) a b
      (subst (λ (b : List ℕ). IsDecided standing.bodies.framing standing.bodies.limit b a)
      (append_assoc standing.read front back) fed_a) fed_b in
      let e : Some (gone_on standing (BodyIs a)) ≡ Some (gone_on standing (BodyIs b)) =
      ap (λ (it : BodyEnd). Some (gone_on standing (BodyIs it))) same in
      cc (goes_a, goes_b, e),
  omega (arith, length-append front back, used_a, used_b),
)

body_pieces : (standing next joined : Standing) (front back : List ℕ) (used all : ℕ)
    → FedBody (behind standing front) back used (Some next) → FedBody standing (front ++ back) all (Some joined)
    → Joined next joined front used all
body_pieces standing next joined front back used all a b =
    bodies_join standing next joined front back used all a.1.0 b.1.0 a.1.1 b.1.1 a.0 b.0 a.1.2 b.1.2

-- ---- whatever is read

at_act : HasOneHead → HasOneEnd → (first : Option Act) (standing next joined : Standing) (front back : List ℕ)
    (used all : ℕ) → FedAt first (behind standing front) back used (Some next)
    → FedAt first standing (front ++ back) all (Some joined) → Joined next joined front used all
at_act one end None standing next joined front back used all a b = absurd a
at_act one end (Some (acts.Ask op)) standing next joined front back used all a b = absurd a
at_act one end (Some (acts.Send hop)) standing next joined front back used all a b = absurd a
at_act one end (Some acts.ReadHead) standing next joined front back used all a b =
    head_pieces one end standing next joined front back used all a b
at_act one end (Some acts.ReadBody) standing next joined front back used all a b =
    body_pieces standing next joined front back used all a b
at_act one end (Some (acts.Tell violation)) standing next joined front back used all a b = absurd a

pub pieces_join : HasOneHead → HasOneEnd → PiecesJoin
pieces_join one end standing next joined front back used all a b =
    at_act one end (first_act standing.process) standing next joined front back used all a b
