-- What a line does to the block that a reader of heads keeps, and to the bytes so far.
use Rattle.std.proofs.Common.{◌≡◌, ◌==◌, ◌||◌, ◌≤◌, ◌<◌, ◌+◌, ◌-◌, ◌⊎◌, inl, inr, ℕ, zero, suc, Bool, true, false}
use Rattle.std.proofs.Common.{List, [], ◌∷◌, ◌++◌, length, take, drop, get_or, reverse, refl, ap, sym, ◌∙◌, subst}
use Rattle.std.proofs.Common.{arith, append_assoc, length-append, length-take, Some, None}
use Rattle.std.proofs.lemmas.Bool.{cases_lt, eqb-false, lt-ltb, or_parts}
use Rattle.std.proofs.lemmas.List.{append-nil, reverse-append, reverse-reverse, same_from_push, take-append-drop}
use Rattle.std.proofs.lemmas.List.{take-append-le, take_all, take_at, take_more}
use Rattle.std.proofs.lemmas.Grind.{flat_map-append}
use Rattle.std.proofs.lemmas.List.Elements.{All-push}
use Rattle.std.proofs.lemmas.List.Folds.{list_any-append}
use Rattle.std.proofs.lemmas.List.Quantifiers.{position-Some}
use Rattle.std.proofs.lemmas.List.Sums.{fails_before_first}
use Rattle.std.specs.List.{flat_map, list_any, position, position_or_len}
use Rattle.httparse.specs.Grammar.{print_response, ResponseHead}
use Rattle.value_requests.specs.declared.hop.Head.{Head}
use Rattle.link_http1.specs.Answers.{Decides, HasBadBlock, IsDecidedAt, IsFinal, IsTooLong, IsUndecided, IsUnfinished}
use Rattle.link_http1.specs.Answers.{most_bytes}
use Rattle.link_http1.specs.Blocks.{is_block, is_line_byte, IsShortestBlock}
use Rattle.link_http1.specs.Private.HeadReading.{IsJudged, IsLine, IsReading}
use Rattle.link_http1.specs.declared.head.HeadReader.TheInside.{Inside}
use Rattle.link_http1.specs.declared.block.Judged.{Judged}
use Rattle.link_http1.specs.declared.block.Judged.TheVariants.{Final, NoHead, Skipped}
use Rattle.link_http1.specs.Heads.{EndsBlock, EndsFinal, IsSkippedHead, Skips}
use Rattle.link_http1.proofs.BlockLemmas.{block-ends, IsQuiet, no-block-push, quiet-append, quiet-cons, quiet-end}
use Rattle.link_http1.proofs.BlockLemmas.{quiet-nil}
use Rattle.link_http1.proofs.HeadLemmas.{head-shortest}
use Rattle.link_http1.proofs.SkipLemmas.{block-ends-there, no-final-there, skips-more, undecided}

-- ---- lines

none-before : (test : ℕ → Bool) (bytes : List ℕ) (n : ℕ) → ((k : ℕ) → k < n → test (get_or bytes k 0) ≡ false)
    → n ≤ length bytes → list_any test (take n bytes) ≡ false
none-before test bytes zero before within = refl
none-before test [] (suc n) before within = refl
none-before test (byte ∷ bytes) (suc n) before within =
    rw (before 0 (omega arith)) (none-before test bytes n (λ k below. before (suc k) (omega (arith, below)))
    (omega (arith, within)))

-- the bytes up to the first LF
pub line-to-end : (bytes : List ℕ) (n : ℕ) → Some n ≡ position (λ byte. byte == 10) bytes → IsLine (take (n + 1) bytes)
line-to-end bytes n is =
    let at = position-Some (λ (byte : ℕ). byte == 10) bytes n 0 (sym is) in
    record {
      front = take n bytes;
      last = get_or bytes n 0;
      whole = take_more bytes n 0 at.0;
      no_end = none-before (λ (byte : ℕ). byte == 10) bytes n at.2 (omega (arith, at.0));
    }

none_some : {n : ℕ} → None ≡ Some n → ⊥
none_some same = (cc)

no-place : (bytes : List ℕ) → None ≡ position (λ (byte : ℕ). byte == 10) bytes
    → length bytes ≤ position_or_len (λ (byte : ℕ). byte == 10) bytes
no-place bytes is = by_order (cases_lt (position_or_len (λ (byte : ℕ). byte == 10) bytes) (length bytes))
  where
    by_order : (position_or_len (λ (byte : ℕ). byte == 10) bytes < length bytes)
        ⊎ (length bytes ≤ position_or_len (λ (byte : ℕ). byte == 10) bytes)
        → length bytes ≤ position_or_len (λ (byte : ℕ). byte == 10) bytes
    by_order (inr le) = le
    by_order (inl less) = let t = lt-ltb (position_or_len (λ (byte : ℕ). byte == 10) bytes) (length bytes) less in
        absurd (none_some (rw t at is))

-- or all of them, where there is none
pub line-whole : (bytes : List ℕ) → 0 < length bytes → None ≡ position (λ byte. byte == 10) bytes
    → IsLine (take (length bytes) bytes)
line-whole bytes some is =
    let n : ℕ = length bytes - 1 in
    let long : length bytes ≡ n + 1 = omega (arith, some) in
    let past = no-place bytes is in
    record {
      front = take n bytes;
      last = get_or bytes n 0;
      whole = ap (λ (k : ℕ). take k bytes) long ∙ take_more bytes n 0 (omega (arith, long));
      no_end = none-before (λ (byte : ℕ). byte == 10) bytes n
          (λ k below. fails_before_first (λ (byte : ℕ). byte == 10) bytes k 0 (omega (arith, below, past, long)))
          (omega (arith, long));
    }

-- ---- the block with a line more

-- no block ends in bytes other than LF
no_end-quiet : (before text : List ℕ) → is_block before ≡ false → list_any (λ byte. byte == 10) text ≡ false
    → IsQuiet before text
no_end-quiet before [] none free = quiet-nil before none
no_end-quiet before (byte ∷ text) none free =
    let both = or_parts (byte == 10) (list_any (λ (byte : ℕ). byte == 10) text) free in
    quiet-cons before byte text none
    (no_end-quiet (before ++ byte ∷ []) text (no-block-push before byte (eqb-false byte 10 both.0)) both.1)

front-quiet : (block line : List ℕ) → IsQuiet [] block → (is : IsLine line) → IsQuiet [] (block ++ is.front)
front-quiet block line quiet is =
    quiet-append [] block is.front quiet (no_end-quiet block is.front (quiet-end [] block quiet) is.no_end)

line-parts : (block line : List ℕ) (is : IsLine line) → block ++ line ≡ (block ++ is.front) ++ is.last ∷ []
line-parts block line is = ap (λ (l : List ℕ). block ++ l) is.whole ∙ sym (append_assoc block is.front (is.last ∷ []))

pub line-open : (block line : List ℕ) → IsQuiet [] block → IsLine line → is_block (block ++ line) ≡ false
    → IsQuiet [] (block ++ line)
line-open block line quiet is none =
    let parts = line-parts block line is in
    let front = front-quiet block line quiet is in
    subst (λ (l : List ℕ). IsQuiet [] l) (sym parts)
    (quiet-append [] (block ++ is.front) (is.last ∷ []) front
    (quiet-cons (block ++ is.front) is.last [] (quiet-end [] (block ++ is.front) front)
    (quiet-nil ((block ++ is.front) ++ is.last ∷ []) (ap is_block (sym parts) ∙ none))))

pub line-shortest : (block line : List ℕ) → IsQuiet [] block → IsLine line → is_block (block ++ line) ≡ true
    → IsShortestBlock (block ++ line)
line-shortest block line quiet is whole = record {
  block = whole;
  shortest = λ n before.
      let parts = line-parts block line is in
      ap (λ (l : List ℕ). is_block (take n l)) parts
      ∙ ap is_block (take-append-le n (block ++ is.front) (is.last
      ∷ []) (omega (arith, before, ap length parts, length-append (block ++ is.front) (is.last ∷ []))))
      ∙ front-quiet block line quiet is n;
}

-- ---- bytes that decide something end in LF

block-lf : (text : List ℕ) → is_block text ≡ true → (front : List ℕ) × (text ≡ front ++ 10 ∷ [])
block-lf text block = by_cases (block-ends text block).1
  where
    last : (rest : List ℕ) → reverse text ≡ 10 ∷ rest → (front : List ℕ) × (text ≡ front ++ 10 ∷ [])
    last rest same = (
      reverse rest,
      sym (reverse-reverse text) ∙ ap (λ (l : List ℕ). reverse l) same
          ∙ reverse-append (10 ∷ []) rest,
    )

    by_cases : {rest : List ℕ} → (reverse text ≡ 10 ∷ 10 ∷ rest) ⊎ (reverse text ≡ 10 ∷ 13 ∷ 10 ∷ rest)
        → (front : List ℕ) × (text ≡ front ++ 10 ∷ [])
    by_cases {rest} (inl h) = last (10 ∷ rest) h
    by_cases {rest} (inr h) = last (13 ∷ 10 ∷ rest) h

skips-lf : (bytes rest : List ℕ) → Skips bytes rest → is_block rest ≡ true → (front : List ℕ)
    × (bytes ≡ front ++ 10 ∷ [])
skips-lf bytes rest skips block =
    let it = block-lf rest block in
    let heads : List ℕ = flat_map print_response skips.heads in
    (heads ++ it.0, skips.whole ∙ ap (λ (l : List ℕ). heads ++ l) it.1 ∙ sym (append_assoc heads it.0 (10 ∷ [])))

decides-lf : (bytes : List ℕ) → Decides bytes → (front : List ℕ) × (bytes ≡ front ++ 10 ∷ [])
decides-lf bytes (inl (head, ends)) =
    skips-lf bytes (print_response ends.printed) ends.skips (head-shortest ends.printed ends.valid.head).block
decides-lf bytes (inr ends) = skips-lf bytes ends.block ends.skips ends.shortest.block

undecided-push : (bytes : List ℕ) (byte : ℕ) → IsUndecided bytes → (byte == 10) ≡ false
    → IsUndecided (bytes ++ byte ∷ [])
undecided-push bytes byte none other n decides = by_order (cases_lt (length bytes) n)
  where
    by_order : (length bytes < n) ⊎ (n ≤ length bytes) → ⊥
    by_order (inr le) = none n (subst Decides (take-append-le n bytes (byte ∷ []) le) decides)
    by_order (inl less) =
        let it = decides-lf (bytes ++ byte
        ∷ [])
        (subst Decides (take_all n (bytes ++ byte ∷ []) (omega (arith, less, length-append bytes (byte ∷ []))))
        decides) in
        eqb-false byte 10 other (same_from_push bytes it.0 byte 10 it.1).1

-- bytes other than LF decide nothing
undecided-more : (bytes text : List ℕ) → IsUndecided bytes → list_any (λ byte. byte == 10) text ≡ false
    → IsUndecided (bytes ++ text)
undecided-more bytes [] none free = subst IsUndecided (sym (append-nil bytes)) none
undecided-more bytes (byte ∷ text) none free =
    let both = or_parts (byte == 10) (list_any (λ (byte : ℕ). byte == 10) text) free in
    subst IsUndecided (append_assoc bytes (byte ∷ []) text)
    (undecided-more (bytes ++ byte ∷ []) text (undecided-push bytes byte none both.0) both.1)

-- ---- what the reader keeps

pub reading-unfinished : (past block bytes : List ℕ) (seen : ℕ) → Skips past [] → IsQuiet [] block → seen
    ≡ length past + length block → seen ≤ most_bytes → past ++ block ≡ bytes → IsUnfinished bytes
reading-unfinished past block bytes seen skips quiet long few whole = record {
  short = omega (arith, long, few, ap length whole, length-append past block);
  undecided = subst IsUndecided whole (undecided (past ++ block) block (skips-more past [] block skips) quiet);
}

-- one skipped head more
skips-head : (past new : List ℕ) (head : ResponseHead) → Skips past [] → IsSkippedHead head → new
    ≡ print_response head → Skips (past ++ new) []
skips-head past new head skips skipped is = record {
  heads = skips.heads ++ head ∷ [];
  each = All-push IsSkippedHead skips.heads head skips.each skipped;
  whole =
      ap (λ (l : List ℕ). l ++ new) (skips.whole ∙ append-nil (flat_map print_response skips.heads))
      ∙ ap (λ (l : List ℕ). flat_map print_response skips.heads ++ l) (is ∙ sym (append-nil (print_response head)))
      ∙ sym (flat_map-append print_response skips.heads (head ∷ []))
      ∙ sym (append-nil (flat_map print_response (skips.heads ++ head ∷ [])));
}

-- A reader that reads these bytes, and its block with a line more.
pub record IsAdded (reader : Inside) (bytes line new : List ℕ) : Type 0 where
  pub reading : IsReading reader
  pub whole : reader.past.bytes ++ reader.block ≡ bytes
  pub line_is : IsLine line
  pub few : length bytes + length line ≤ most_bytes
  pub new_is : new ≡ reader.block ++ line

pub judged-at : (given new : List ℕ) (found known : Judged) → given ≡ new → found ≡ known → IsJudged given found
    → IsJudged new known
judged-at given new found known same is judged =
    subst (λ (l : List ℕ). IsJudged l known) same (subst (λ (j : Judged). IsJudged given j) is judged)

module _ {reader : Inside} {bytes line new : List ℕ} (added : IsAdded reader bytes line new) where
  pub added-whole : reader.past.bytes ++ new ≡ bytes ++ line
  added-whole = ap (λ (l : List ℕ). reader.past.bytes ++ l) added.new_is
      ∙ sym (append_assoc reader.past.bytes reader.block line) ∙ ap (λ (l : List ℕ). l ++ line) added.whole

  added-skips : Skips (bytes ++ line) new
  added-skips = subst (λ (l : List ℕ). Skips l new) added-whole
      (skips-more reader.past.bytes [] new added.reading.skips)

  pub added-seen : reader.seen_bytes + length line ≡ length reader.past.bytes + length new
  added-seen = omega (arith, added.reading.seen_is, ap length added.new_is, length-append reader.block line)

  pub added-few : reader.seen_bytes + length line ≤ most_bytes
  added-few = omega (
    arith,
    added.reading.seen_is,
    added.few,
    ap length added.whole,
    length-append reader.past.bytes reader.block,
  )

  pub added-line : (has : Bool) → has ≡ (reader.has_line_byte || list_any is_line_byte line) → has
      ≡ list_any is_line_byte new
  added-line has now = now ∙ ap (λ (b : Bool). b || list_any is_line_byte line) added.reading.line_is
      ∙ sym (list_any-append is_line_byte reader.block line)
      ∙ ap (λ (l : List ℕ). list_any is_line_byte l) (sym added.new_is)

  -- where the line ends no block
  pub added-open : false ≡ is_block new → IsQuiet [] new
  added-open none = subst (λ (l : List ℕ). IsQuiet [] l) (sym added.new_is)
      (line-open reader.block line added.reading.undecided added.line_is (ap is_block (sym added.new_is) ∙ sym none))

  pub added-unfinished : false ≡ is_block new → IsUnfinished (bytes ++ line)
  added-unfinished none = reading-unfinished reader.past.bytes new (bytes ++ line) (reader.seen_bytes + length line)
      added.reading.skips (added-open none) added-seen added-few added-whole

  -- where it ends a block that is no head
  added-shortest : true ≡ is_block new → IsShortestBlock new
  added-shortest is = subst IsShortestBlock (sym added.new_is)
      (line-shortest reader.block line added.reading.undecided added.line_is (ap is_block (sym added.new_is) ∙ sym is))

  pub added-bad : true ≡ is_block new → IsJudged new NoHead → EndsBlock (bytes ++ line)
      × ((head : Head) → ¬ (EndsFinal (bytes ++ line) head))
  added-bad is none = (
    block-ends-there (bytes ++ line) new added-skips (added-shortest is) none,
    no-final-there (bytes ++ line) new added-skips (added-shortest is) none,
  )

  -- where it ends a final head
  pub added-final : (head : Head) → IsJudged new (Final head) → EndsFinal (bytes ++ line) head
  added-final head judged = record {
    printed = judged.0;
    skips = subst (λ (l : List ℕ). Skips (bytes ++ line) l) judged.3 added-skips;
    valid = judged.1;
    final = judged.2;
    head_is = judged.4;
  }

  -- where it ends a skipped head
  pub added-past : IsJudged new Skipped → Skips (reader.past.bytes ++ new) []
  added-past judged = skips-head reader.past.bytes new judged.0 added.reading.skips judged.1 judged.2

  pub added-gone : IsJudged new Skipped → IsUnfinished (bytes ++ line)
  added-gone judged =
      reading-unfinished (reader.past.bytes ++ new) [] (bytes ++ line) (reader.seen_bytes + length line)
      (added-past judged) (quiet-nil [] refl)
      (omega (arith, added-seen, length-append reader.past.bytes new)) added-few
      (append-nil (reader.past.bytes ++ new) ∙ added-whole)

-- ---- what a line decides

-- bytes that a line decides are decided where it ends
pub decided-line : (bytes line rest : List ℕ) → IsUndecided bytes → IsLine line
    → length bytes + length line ≤ most_bytes → Decides (bytes ++ line)
    → IsDecidedAt ((bytes ++ line) ++ rest) (length (bytes ++ line))
decided-line bytes line rest none is few decides = record {
  within = omega (arith, length-append (bytes ++ line) rest);
  few = omega (arith, few, length-append bytes line);
  decides = subst Decides (sym (take_at (bytes ++ line) rest (length (bytes ++ line)) refl)) decides;
  shortest = λ n before.
      let parts = line-parts bytes line is in
      subst (λ (l : List ℕ). ¬ (Decides l))
      (sym (take-append-le n (bytes ++ line) rest (omega (arith, before)) ∙ ap (λ (l : List ℕ). take n l) parts
      ∙ take-append-le n (bytes ++ is.front) (is.last
      ∷ []) (omega (arith, before, ap length parts, length-append (bytes ++ is.front) (is.last ∷ [])))))
      (undecided-more bytes is.front none is.no_end n);
}

take-free : (n : ℕ) (text : List ℕ) → list_any (λ byte. byte == 10) text ≡ false
    → list_any (λ byte. byte == 10) (take n text) ≡ false
take-free zero text free = refl
take-free (suc n) [] free = refl
take-free (suc n) (byte ∷ text) free =
    let both = or_parts (byte == 10) (list_any (λ (byte : ℕ). byte == 10) text) free in
    rw both.0 (take-free n text both.1)

-- the limit falls within a line
pub long-line : (bytes line rest : List ℕ) (room : ℕ) → IsUndecided bytes → IsLine line → room + length bytes
    ≡ most_bytes → room < length line → IsTooLong ((bytes ++ line) ++ rest)
long-line bytes line rest room none is full less =
    let parts = line-parts bytes line is in
    let long : length (bytes ++ line) ≡ length (bytes ++ is.front) + 1 = ap length parts
    ∙ length-append (bytes ++ is.front) (is.last ∷ []) in
    let within : room ≤ length is.front =
    omega (arith, long, less, length-append bytes line, length-append bytes is.front) in
    let front : (bytes ++ take room is.front) ++ (drop room is.front ++ (is.last ∷ rest)) ≡ (bytes ++ line) ++ rest =
    append_assoc bytes (take room is.front) (drop room is.front ++ (is.last ∷ rest))
    ∙ ap (λ (l : List ℕ). bytes ++ l) (sym (append_assoc (take room is.front) (drop room is.front) (is.last ∷ rest))
    ∙ ap (λ (l : List ℕ). l ++ (is.last ∷ rest)) (take-append-drop room is.front))
    ∙ sym (append_assoc bytes is.front (is.last ∷ rest)) ∙ sym (append_assoc (bytes ++ is.front) (is.last ∷ []) rest)
    ∙ ap (λ (l : List ℕ). l ++ rest) (sym parts) in
    let most : take most_bytes ((bytes ++ line) ++ rest) ≡ bytes ++ take room is.front =
    ap (λ (l : List ℕ). take most_bytes l) (sym front)
    ∙ take_at (bytes ++ take room is.front) (drop room is.front
    ++ (is.last ∷ rest)) most_bytes
    (omega (arith, full, within, length-append bytes (take room is.front), length-take room is.front)) in
    record {
      long = omega (arith, full, less, length-append (bytes ++ line) rest, length-append bytes line);
      undecided = subst IsUndecided (sym most)
          (undecided-more bytes (take room is.front) none (take-free room is.front is.no_end));
    }

-- ---- a piece, of which a line comes next

module _ (bytes piece reader rest line behind : List ℕ) (whole : bytes ++ piece ≡ reader ++ rest) (cut : rest ≡ line
    ++ behind) where
  fed-whole : bytes ++ piece ≡ (reader ++ line) ++ behind
  fed-whole = whole ∙ ap (λ (l : List ℕ). reader ++ l) cut ∙ sym (append_assoc reader line behind)

  pub fed-long : (room : ℕ) → IsUndecided reader → IsLine line → room + length reader ≡ most_bytes
      → room < length line → IsTooLong (bytes ++ piece)
  fed-long room none is full less =
      subst IsTooLong (sym fed-whole) (long-line reader line behind room none is full less)

  fed-end : length behind ≤ length piece → length (reader ++ line) ≡ length bytes + (length piece - length behind)
  fed-end within = omega (
    arith,
    within,
    ap length fed-whole,
    length-append bytes piece,
    length-append (reader ++ line) behind,
  )

  fed-decided : (room : ℕ) → IsUndecided reader → IsLine line → room + length reader ≡ most_bytes → length line ≤ room
      → length behind ≤ length piece → Decides (reader ++ line)
      → IsDecidedAt (bytes ++ piece) (length bytes + (length piece - length behind))
  fed-decided room none is full few within decides =
      subst (λ (n : ℕ). IsDecidedAt (bytes ++ piece) n) (fed-end within)
      (subst (λ (l : List ℕ). IsDecidedAt l (length (reader ++ line))) (sym fed-whole)
      (decided-line reader line behind none is (omega (arith, full, few)) decides))

  fed-front : length behind ≤ length piece → take (length bytes + (length piece - length behind)) (bytes ++ piece)
      ≡ reader ++ line
  fed-front within = ap (λ (l : List ℕ). take (length bytes + (length piece - length behind)) l) fed-whole
      ∙ take_at (reader ++ line) behind (length bytes + (length piece - length behind)) (fed-end within)

  pub fed-final : (room : ℕ) (head : Head) → IsUndecided reader → IsLine line → room + length reader ≡ most_bytes
      → length line ≤ room → length behind ≤ length piece → EndsFinal (reader ++ line) head
      → IsFinal (bytes ++ piece) head (length bytes + (length piece - length behind))
  fed-final room head none is full few within ends = record {
    decided = fed-decided room none is full few within (inl (head, ends));
    final = subst (λ (l : List ℕ). EndsFinal l head) (sym (fed-front within)) ends;
  }

  pub fed-bad : (room : ℕ) → IsUndecided reader → IsLine line → room + length reader ≡ most_bytes → length line ≤ room
      → length behind ≤ length piece → EndsBlock (reader ++ line)
      × ((head : Head) → ¬ (EndsFinal (reader ++ line) head)) → HasBadBlock (bytes ++ piece)
  fed-bad room none is full few within bad = (
    length bytes + (length piece - length behind),
    record {
      decided = fed-decided room none is full few within (inr bad.0);
      no_head = λ head. subst (λ (l : List ℕ). ¬ (EndsFinal l head)) (sym (fed-front within)) (bad.1 head);
    },
  )
