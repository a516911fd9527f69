-- Bytes that come, and the blocks in them.
use Rattle.std.proofs.Common.{◌≡◌, ◌∙◌, ap, sym, refl, subst, ℕ, ◌+◌, ◌≤◌, ◌<◌, min, Bool, true, false, ◌||◌, arith}
use Rattle.std.proofs.Common.{List, [], ◌++◌, length, length-append, take, drop, Option, Some, None}
use Rattle.std.proofs.Common.{true≢false, get_or, nat_le, is_some, inl, inr}
use Rattle.std.proofs.Math.Seq.{take-append_seam, take-nil}
use Rattle.std.proofs.lemmas.Bool.{leb-false, leb-true}
use Rattle.std.proofs.lemmas.List.{length-take, take-append-drop, take-append-le, take_all, take_min}
use Rattle.std.proofs.lemmas.List.Folds.{list_any_more}
use Rattle.std.specs.List.{list_any}
use Rattle.link_traits.proofs.SourceLemmas.{gave-again, gave-nothing}
use Rattle.httparse.specs.Grammar.{print_request, RequestHead}
use Rattle.link_traits.specs.Counts.{one_more}
use Rattle.link_traits.specs.Sinks.{SinkTold}
use Rattle.link_traits.specs.Sources.{Gave, SourceTold}
use Rattle.link_http1.proofs.RequestLemmas.{no-request, request-shortest}
use Rattle.link_http1.specs.Blocks.{is_block, is_line_byte}
use Rattle.link_http1.specs.RequestHeads.{BeginsRequest, IsRead}
use Rattle.link_http1.specs.declared.request_head.Asked.{Asked}
use Rattle.server_tables.specs.Private.Coming.{Gives, HasBlock, HasCome, HasEnded, HasFailed, HasHeard, IsOver}
use Rattle.server_tables.specs.Private.Coming.{IsSearched}
use Rattle.server_tables.specs.Serving.{AskedOn, RanShort, most_at_once, most_read, peer_told, PeerTold, WasUnheard}
use Rattle.server_tables.specs.declared.listen.Search.{Search}

-- ---- what a peer gave

pub gives-both : (a b c : PeerTold) (xs ys : List ℕ) → Gives a b xs → Gives b c ys → Gives a c (xs ++ ys)
gives-both a b c xs ys one two = record {
  gave = gave-again a.source.left b.source.left c.source.left xs ys (xs ++ ys) one.gave two.gave refl;
  sink = two.sink ∙ one.sink;
}

-- By what a peer tells:
module _ {P : Type 0} (gives : P → SourceTold) (takes : P → SinkTold) (beside : P → SinkTold)
    (law : (peer : P) → beside peer ≡ takes peer) where
  abbrev told : P → PeerTold
  told peer = peer_told gives takes peer

  sink-kept : (old new : P) → beside new ≡ beside old → (told new).sink ≡ (told old).sink
  sink-kept old new same = sym (law new) ∙ same ∙ law old

  -- a read that gave these bytes
  pub read-more : (first old new : P) (bytes piece : List ℕ) → Gives (told first) (told old) bytes
      → Gave (gives old).left (gives new).left piece → beside new ≡ beside old → Gives (told first) (told new)
      (bytes ++ piece)
  read-more first old new bytes piece before gave same =
      gives-both (told first) (told old) (told new) bytes piece before
      (record { gave = gave; sink = sink-kept old new same })

  -- where it found room, the bytes are no more than are read at most
  pub grown : (first old new : P) (bytes buffer : List ℕ) (count : ℕ) → Gives (told first) (told old) bytes
      → Gave (gives old).left (gives new).left (take count buffer) → beside new ≡ beside old
      → length bytes + length buffer ≤ most_read
      → Gives (told first) (told new) (bytes ++ take count buffer)
      × (length (bytes ++ take count buffer) ≤ most_read)
  grown first old new bytes buffer count before gave same room = (
    read-more first old new bytes (take count buffer) before gave same,
    omega (arith, room, length-append bytes (take count buffer), length-take count buffer),
  )

-- ---- blocks

pub begun-more : (old new : Search) (bytes : List ℕ) → IsSearched old bytes → old.searched < length bytes
    → new.searched ≡ old.searched + 1 → new.begun ≡ (old.begun || is_line_byte (get_or bytes old.searched 0))
    → new.begun ≡ list_any is_line_byte (take new.searched bytes)
begun-more old new bytes is less one begun =
    begun ∙ ap (λ (b : Bool). b || is_line_byte (get_or bytes old.searched 0)) is.begun_is
    ∙ sym (list_any_more is_line_byte bytes old.searched 0 less)
    ∙ ap (λ (n : ℕ). list_any is_line_byte (take n bytes)) (sym one)

-- one byte more is searched
pub searched-on : (old new : Search) (bytes : List ℕ) → IsSearched old bytes → old.searched < length bytes
    → new.searched ≡ old.searched + 1
    → new.begun ≡ (old.begun || is_line_byte (get_or bytes old.searched 0))
    → is_block (take new.searched bytes) ≡ false → IsSearched new bytes
searched-on old new bytes is less one begun quiet = record {
  within = omega (arith, less, one);
  begun_is = begun-more old new bytes is less one begun;
  none = λ n few. by n few (nat_le n old.searched) refl;
}
  where
    by : (n : ℕ) → n ≤ new.searched → (b : Bool) → nat_le n old.searched ≡ b → is_block (take n bytes) ≡ false
    by n few true at = is.none n (leb-true n old.searched at)
    by n few false at =
        let same : n ≡ new.searched = omega (arith, leb-false n old.searched at, few, one) in
        ap (λ (m : ℕ). is_block (take m bytes)) same ∙ quiet

-- where all bytes were searched, they have no request head
pub unread : (search : Search) (bytes : List ℕ) → IsSearched search bytes → search.searched ≡ length bytes
    → IsRead bytes None
unread search bytes is all = no-request bytes (λ n. by n (nat_le n search.searched) refl)
  where
    by : (n : ℕ) (b : Bool) → nat_le n search.searched ≡ b → is_block (take n bytes) ≡ false
    by n true at = is.none n (leb-true n search.searched at)
    by n false at =
        ap is_block (take_all n bytes (omega (arith, leb-false n search.searched at, all))
        ∙ sym (take_all search.searched bytes (omega (arith, all))))
        ∙ is.none search.searched (omega arith)

-- before anything was read
pub nothing-yet : (peer : PeerTold) → Gives peer peer []
nothing-yet peer = record { gave = gave-nothing peer.source.left; sink = refl }

no-block : (n : ℕ) → is_block (take n []) ≡ false
no-block n = ap is_block (take-nil n)

pub unsearched : IsSearched (record { searched = 0; begun = false }) []
unsearched = record { within = omega arith; begun_is = refl; none = λ n few. no-block n }

pub none-yet : IsRead [] None
none-yet = no-request [] no-block

-- so a piece more has to be asked for
pub asked-more : (bytes piece : List ℕ) → IsRead bytes None → length piece ≤ most_at_once → AskedOn (bytes ++ piece)
asked-more bytes piece none few = record {
  earlier = length bytes;
  few = omega (arith, length-append bytes piece, few);
  none = subst (λ (l : List ℕ). IsRead l None) (sym (take-append_seam bytes piece)) none;
}

pub asked-all : (bytes : List ℕ) → IsRead bytes None → AskedOn bytes
asked-all bytes none = record {
  earlier = length bytes;
  few = omega arith;
  none = subst (λ (l : List ℕ). IsRead l None) (sym (take_all (length bytes) bytes (omega arith))) none;
}

-- memory was refused before anything was read
pub short-at_once : (peer : PeerTold) → RanShort peer peer
short-at_once peer = record {
  bytes = [];
  gave = gave-nothing peer.source.left;
  few = omega arith;
  asked_on = asked-all [] none-yet;
  quiet = refl;
  sink = refl;
}

-- or when bytes had come
pub short-come : (a b : PeerTold) (bytes : List ℕ) (found : Bool) → HasCome a b bytes found → RanShort a b
short-come a b bytes found came = record {
  bytes = bytes;
  gave = came.gives.gave;
  few = came.few;
  asked_on = came.asked_on;
  quiet = came.quiet;
  sink = came.gives.sink;
}

-- a block ended in the bytes that decide
module _ (bytes rest : List ℕ) (n : ℕ) (ends : is_block (take n bytes) ≡ true) (printed : RequestHead)
    (begins : BeginsRequest (bytes ++ rest) printed) where
  abbrev head : List ℕ
  head = print_request printed

  abbrev at : ℕ
  at = min n (length bytes)

  -- the head is no longer than the bytes
  head-within : length head ≤ length bytes
  head-within = by (nat_le (length head) (length bytes)) refl
    where
      by : (b : Bool) → nat_le (length head) (length bytes) ≡ b → length head ≤ length bytes
      by true is = leb-true (length head) (length bytes) is
      by false is =
          let short : at < length head = omega (arith, leb-false (length head) (length bytes) is) in
          let same : take at head ≡ take at bytes =
          sym (take-append-le at head begins.rest (omega (arith, short)))
          ∙ ap (λ (l : List ℕ). take at l) (sym begins.whole)
          ∙ take-append-le at bytes rest (omega (arith)) in
          let block : is_block (take at head) ≡ true = ap is_block (same ∙ take_min n bytes) ∙ ends in
          absurd (true≢false (sym block ∙ (request-shortest printed begins.valid.head).shortest at short))

  -- so it begins the bytes
  head-begins : BeginsRequest bytes printed
  head-begins = record {
    valid = begins.valid;
    rest = drop (length head) bytes;
    whole = sym (take-append-drop (length head) bytes)
        ∙ ap (λ (l : List ℕ). l ++ drop (length head) bytes)
        (sym (take-append-le (length head) bytes rest head-within)
        ∙ ap (λ (l : List ℕ). take (length head) l) begins.whole
        ∙ take-append_seam head begins.rest);
  }

-- where a block has ended that is no head, none comes any more
pub never-comes : (bytes rest : List ℕ) → HasBlock bytes → IsRead bytes None → IsRead (bytes ++ rest) None
never-comes bytes rest block none = λ printed begins.
    none printed (head-begins bytes rest block.0 block.1 printed begins)

-- ---- a request

-- the source failed after these bytes, which have a block that is no head
pub unheard-after : (a b c : PeerTold) (bytes : List ℕ) (found : Bool) (n : ℕ) → HasCome a b bytes found → found ≡ true
    → IsRead bytes None → n ≡ length bytes → HasFailed b c n → WasUnheard a c
unheard-after a b c bytes found n came is none same failed =
    let gives = gives-both a b c bytes failed.rest came.gives failed.gives in
    record {
      bytes = bytes ++ failed.rest;
      gave = gives.gave;
      few = omega (arith, length-append bytes failed.rest, failed.few, same);
      none = never-comes bytes failed.rest (came.block is) none;
      cause = failed.cause ∙ ap one_more came.quiet;
      sink = gives.sink;
    }

pub none-read : (bytes : List ℕ) (asked : Option Asked) → IsRead bytes asked → is_some asked ≡ false
    → IsRead bytes None
none-read bytes None read none = read
none-read bytes (Some asked) read none = absurd (true≢false none)

-- the bytes that came suffice
pub heard-now : (a b : PeerTold) (bytes : List ℕ) (found : Bool) (asked : Option Asked) → HasCome a b bytes found
    → IsRead bytes asked → (found ≡ true → is_some asked ≡ true) → HasHeard a b asked
heard-now a b bytes found (Some asked) came read some = record {
  bytes = bytes;
  heard = record {
    gave = came.gives.gave;
    few = came.few;
    suffice = inl (asked, read);
    asked_on = came.asked_on;
    quiet = came.quiet;
  };
  read = read;
  sink = came.gives.sink;
}
heard-now a b bytes true None came read some = absurd (true≢false (sym (some refl)))
heard-now a b bytes false None came read some = record {
  bytes = bytes;
  heard = record {
    gave = came.gives.gave;
    few = came.few;
    suffice = inr (came.over refl);
    asked_on = came.asked_on;
    quiet = came.quiet;
  };
  read = read;
  sink = came.gives.sink;
}

-- those that came after a block that is no head suffice, all together
pub heard-later : (a b c : PeerTold) (bytes : List ℕ) (found : Bool) (n : ℕ) → HasCome a b bytes found → found ≡ true
    → IsRead bytes None → n ≡ length bytes → HasEnded b c n → HasHeard a c None
heard-later a b c bytes found n came is none same ended =
    let gives = gives-both a b c bytes ended.rest came.gives ended.gives in
    let all : n + length ended.rest ≡ length (bytes ++ ended.rest) =
    omega (arith, same, length-append bytes ended.rest) in
    record {
      bytes = bytes ++ ended.rest;
      heard = record {
        gave = gives.gave;
        few = omega (arith, all, ended.few);
        suffice = inr (subst (IsOver c) all ended.over);
        asked_on = asked-all (bytes ++ ended.rest) (never-comes bytes ended.rest (came.block is) none);
        quiet = ended.quiet ∙ came.quiet;
      };
      read = never-comes bytes ended.rest (came.block is) none;
      sink = gives.sink;
    }
