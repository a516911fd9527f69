-- What a reader of a body that is fed a wire's window finds in the bytes that were to come.
use Rattle.std.proofs.Common.{◌≡◌, ℕ, ◌+◌, ◌-◌, ◌≤◌, ◌<◌, Bool, true, false, List, [], ◌++◌, length, ap, sym}
use Rattle.std.proofs.Common.{◌∷◌}
use Rattle.std.proofs.Common.{suc, take, inl, inr, subst, ◌∙◌, arith, length-append, Option, nat_le}
use Rattle.std.specs.Prelude.{unwrap_or}
use Rattle.std.proofs.lemmas.Bool.Decides.{leb_tells}
use Rattle.std.proofs.lemmas.List.{append-nil}
use Rattle.value_requests.specs.declared.response.BodyEnd.{BodyEnd}
use Rattle.value_requests.specs.declared.response.BodyEnd.TheVariants as body
use Rattle.link_traits.specs.Sources.{Gave, IsAtEnd}
use Rattle.link_http1.specs.Bodies.{IsDecided, IsOpen, body_end, ended}
use Rattle.link_http1.specs.BodyFeeding.{IsFed}
use Rattle.link_http1.specs.BodyLaws.{most_open}
use Rattle.link_http1.specs.BodyReading.{BodyReading}
use Rattle.link_http1.specs.Chunks.{decoded}
use Rattle.link_http1.specs.declared.body.BodyStep.TheVariants as bodies
use Rattle.link_http1.specs.declared.framing.Framing.{Framing}
use Rattle.link_http1.specs.declared.framing.Framing.TheVariants.{Nothing, Chunked, Length, ToEnd, Broken}
use Rattle.link_http1.proofs.OpenLemmas.{bodies-short}
use Rattle.fetch_wire.specs.Exchanges.{HasBody, LeavesBody, WaitedFor, count_of}
use Rattle.fetch_wire.specs.Private.Reads.{Gathers, HasAtMost}
use Rattle.fetch_wire.specs.Wires.{onto_left}
use Rattle.fetch_wire.proofs.WireLemmas.{Receives, come-first, come-all, nothing-left, receives-more}
use Rattle.fetch_wire.proofs.WireLemmas.{waited-for}

-- ---- a body has no more bytes than its limit

ended-most : (limit : ℕ) (complete : Bool) (bytes : List ℕ) → HasAtMost (ended limit complete bytes) limit
ended-most limit true bytes =
    elim (leb_tells (suc limit) (length bytes)) [
      | inl over ↦ rw over.0 tt
      | inr below ↦ rw below.0 (omega (arith, below.1))
    ]
ended-most limit false bytes =
    elim (leb_tells (suc limit) (length bytes)) [ inl over ↦ rw over.0 tt | inr below ↦ rw below.0 tt ]

body-most : (how : Framing) (limit : ℕ) (bytes : List ℕ) → HasAtMost (body_end how limit bytes) limit
body-most Nothing limit bytes = tt
body-most Broken limit bytes = tt
body-most ToEnd limit bytes = ended-most limit true bytes
body-most (Length total) limit bytes = ended-most limit (nat_le total (length bytes)) (take total bytes)
body-most Chunked limit bytes = ended-most limit (decoded bytes).complete (decoded bytes).data_is

has-more : (end : BodyEnd) (a b : ℕ) → a ≤ b → HasAtMost end a → HasAtMost end b
has-more body.Null a b le has = tt
has-more (body.Whole bytes) a b le has = omega (arith, le, has)
has-more (body.Cut n) a b le has = tt
has-more (body.Fault n) a b le has = tt
has-more body.TooBig a b le has = tt

-- the end of a body
pub end-most : (how : Framing) (limit most : ℕ) (bytes : List ℕ) (end : BodyEnd) → end ≡ body_end how limit bytes
    → limit ≤ most → HasAtMost end most
end-most how limit most bytes end is le =
    has-more end limit most le (subst (λ (e : BodyEnd). HasAtMost e limit) (sym is) (body-most how limit bytes))

-- ---- the last bytes

-- the bytes decide the body, so it has that end after them
pub decided-end : (how : Framing) (limit : ℕ) (bytes piece now : List ℕ) (end : BodyEnd) → piece ≡ now
    → IsDecided how limit (bytes ++ piece) end → end ≡ body_end how limit (bytes ++ now)
decided-end how limit bytes piece now end same decides =
    sym (decides []) ∙ ap (λ (l : List ℕ). body_end how limit l) (append-nil (bytes ++ piece)
    ∙ ap (λ (p : List ℕ). bytes ++ p) same)

-- no more bytes, or fewer than may decide the body, leave it open
open-behind : (how : Framing) (limit : ℕ) (bytes more : List ℕ) (fewest : ℕ) → IsOpen how limit bytes
    → (0 < length more → length more < fewest)
    → ((piece : List ℕ) → length piece < fewest → IsOpen how limit (bytes ++ piece))
    → IsOpen how limit (bytes ++ more)
open-behind how limit bytes [] fewest waits few opens =
    subst (λ (l : List ℕ). IsOpen how limit l) (sym (append-nil bytes)) waits
open-behind how limit bytes (byte ∷ more) fewest waits few opens = opens (byte ∷ more) (few (omega arith))

-- ---- what was fed

module _ (window : List ℕ) (left : Option (List ℕ)) (how : Framing) (limit : ℕ) (reading : BodyReading)
    (piece now : List ℕ) (left' : Option (List ℕ)) (same : piece ≡ now) (framed : reading.framing ≡ how)
    (limited : reading.limit ≡ limit) (so_far : Receives window left reading.bytes now left') where
  -- the bytes decide the body
  pub body-over : (end : BodyEnd) → IsFed reading piece (bodies.Over end)
      → HasBody how limit (onto_left window left) end
  body-over end fed =
      let rest = unwrap_or left' [] in
      let here : body_end reading.framing reading.limit ((reading.bytes ++ now) ++ rest) ≡ end =
      subst (λ (p : List ℕ). body_end reading.framing reading.limit ((reading.bytes ++ p) ++ rest) ≡ end) same
      (fed rest) in
      record {
        bytes = (reading.bytes ++ now) ++ rest;
        are_all = come-all window reading.bytes now left left' so_far;
        ends =
            sym (subst (λ (f : Framing). body_end f limit ((reading.bytes ++ now) ++ rest) ≡ end) framed
            (subst (λ (l : ℕ). body_end reading.framing l ((reading.bytes ++ now) ++ rest) ≡ end) limited here));
      }

  -- they leave it open, and the reader has them
  pub body-read : (next : BodyReading) → IsFed reading piece (bodies.More next) → next.bytes ≡ reading.bytes ++ now
  body-read next fed =
      ap (λ (r : BodyReading). r.bytes) fed.0 ∙ ap (λ (p : List ℕ). reading.bytes ++ p) same

  pub body-framed : (next : BodyReading) → IsFed reading piece (bodies.More next) → next.framing ≡ how
  body-framed next fed = ap (λ (r : BodyReading). r.framing) fed.0 ∙ framed

  pub body-limited : (next : BodyReading) → IsFed reading piece (bodies.More next) → next.limit ≡ limit
  body-limited next fed = ap (λ (r : BodyReading). r.limit) fed.0 ∙ limited

  body-open : (next : BodyReading) → IsFed reading piece (bodies.More next) → IsOpen how limit next.bytes
  body-open next fed =
      let all : reading.bytes ++ piece ≡ next.bytes = sym (ap (λ (r : BodyReading). r.bytes) fed.0) in
      subst (λ (l : List ℕ). IsOpen how limit l) all
      (subst (λ (f : Framing). IsOpen f limit (reading.bytes ++ piece)) framed
      (subst (λ (n : ℕ). IsOpen reading.framing n (reading.bytes ++ piece)) limited fed.1))

  -- fewer bytes more than may decide the body leave it open
  body-opens : (next : BodyReading) (more : List ℕ) (fewest : ℕ) → IsFed reading piece (bodies.More next)
      → (0 < length more → length more < fewest)
      → ((bytes : List ℕ) → length bytes < fewest → IsOpen next.framing next.limit (next.bytes ++ bytes))
      → IsOpen how limit (next.bytes ++ more)
  body-opens next more fewest fed few opens =
      open-behind how limit next.bytes more fewest (body-open next fed) few (λ bytes few'.
      subst (λ (f : Framing). IsOpen f limit (next.bytes ++ bytes)) (body-framed next fed)
      (subst (λ (l : ℕ). IsOpen next.framing l (next.bytes ++ bytes)) (body-limited next fed) (opens bytes few')))

  -- and more was received
  pub body-goes-on : (next : BodyReading) (more : List ℕ) (left'' : Option (List ℕ))
      → IsFed reading piece (bodies.More next) → Gave left' left'' more
      → Receives window left next.bytes more left''
  body-goes-on next more left'' fed gave =
      receives-more window left reading.bytes now next.bytes more left' left'' (body-read next fed) gave so_far

  -- and before the last of it was received the body was open
  pub body-waits : (next : BodyReading) (more : List ℕ) (count fewest : ℕ) → IsFed reading piece (bodies.More next)
      → Gathers fewest left' more
      → ((bytes : List ℕ) → length bytes < fewest → IsOpen next.framing next.limit (next.bytes ++ bytes))
      → length window + count ≡ length reading.bytes + length now
      → WaitedFor (IsOpen how limit) (onto_left window left) left (count + length more)
  body-waits next more count fewest fed gathered opens whole =
      let all = ap length (body-read next fed) ∙ length-append reading.bytes now in
      waited-for (IsOpen how limit) window left next.bytes gathered.before gathered.mid
      (count + length gathered.before) (count + length more) (omega (arith, all, whole))
      (omega (arith, gathered.few)) (body-goes-on next gathered.before gathered.mid fed gathered.gave)
      (body-opens next gathered.before fewest fed gathered.waits opens)

  -- or the answer ended after some more
  pub body-ended : (next : BodyReading) (more : List ℕ) (left'' : Option (List ℕ)) (end : BodyEnd)
      → IsFed reading piece (bodies.More next) → Gave left' left'' more → IsAtEnd left''
      → end ≡ body_end next.framing next.limit (next.bytes ++ more) → HasBody how limit (onto_left window left) end
  body-ended next more left'' end fed gave at_end ends =
      let all : next.bytes ++ more ≡ (next.bytes ++ more) ++ unwrap_or left'' [] =
      sym (ap (λ (l : List ℕ). (next.bytes ++ more) ++ l) (nothing-left left'' at_end)
      ∙ append-nil (next.bytes ++ more)) in
      record {
        bytes = (next.bytes ++ more) ++ unwrap_or left'' [];
        are_all = come-all window next.bytes more left left'' (body-goes-on next more left'' fed gave);
        ends = ends ∙ ap (λ (f : Framing). body_end f next.limit (next.bytes ++ more)) (body-framed next fed)
            ∙ ap (λ (l : ℕ). body_end how l (next.bytes ++ more)) (body-limited next fed)
            ∙ ap (λ (l : List ℕ). body_end how limit l) all;
      }

  -- or the link failed after fewer than may decide the body
  pub body-fails : (next : BodyReading) (more : List ℕ) (left'' : Option (List ℕ)) (end : BodyEnd) (n fewest : ℕ)
      → IsFed reading piece (bodies.More next) → Gave left' left'' more → (0 < length more → length more < fewest)
      → ((bytes : List ℕ) → length bytes < fewest → IsOpen next.framing next.limit (next.bytes ++ bytes))
      → end ≡ body_end next.framing next.limit (next.bytes ++ more) → n ≡ count_of end
      → LeavesBody how limit (onto_left window left) left'' n
  body-fails next more left'' end n fewest fed gave few opens ends counts = record {
    bytes = next.bytes ++ more;
    came = come-first window next.bytes more left left'' (body-goes-on next more left'' fed gave);
    waits = body-opens next more fewest fed few opens;
    count_is = counts ∙ ap count_of (ends
        ∙ ap (λ (f : Framing). body_end f next.limit (next.bytes ++ more)) (body-framed next fed)
        ∙ ap (λ (l : ℕ). body_end how l (next.bytes ++ more)) (body-limited next fed));
  }

  -- fewer bytes are left to an open body than before
  pub body-nears : (next : BodyReading) (more : List ℕ) → IsFed reading piece (bodies.More next) → 0 < length more
      → (most_open how limit + 1) - (length next.bytes + length more)
      < (most_open how limit + 1) - (length reading.bytes + length now)
  body-nears next more fed some =
      let most : ℕ = most_open how limit in
      let few : length next.bytes ≤ most_open how limit = bodies-short how limit next.bytes (body-open next fed) in
      nears (most_open how limit) (length reading.bytes) (length now) (length next.bytes) (length more)
      (ap length (body-read next fed) ∙ length-append reading.bytes now) few some
    where
      nears : (most a b c d : ℕ) → c ≡ a + b → c ≤ most → 0 < d → (most + 1) - (c + d) < (most + 1) - (a + b)
      nears most a b c d is few some = omega (arith, is, few, some)
