-- Skipped heads at the front, and what follows them: one reading of the bytes.
use Rattle.std.proofs.Common.{◌≡◌, ◌⊎◌, inl, inr, ℕ, true, false, true≢false, List, [], ◌∷◌, ◌++◌, length, take, drop}
use Rattle.std.proofs.Common.{refl, ap, sym, ◌∙◌, subst, append_assoc}
use Rattle.std.proofs.lemmas.List.{append-nil, append_cancel_left, take_at, take-append-drop}
use Rattle.std.proofs.lemmas.List.Elements.{All-nil, recursion_from_All}
use Rattle.std.specs.List.{AllByRecursion, flat_map}
use Rattle.httparse.specs.Grammar.{print_response, ResponseHead, status_code}
use Rattle.value_requests.specs.declared.hop.Head.{Head}
use Rattle.link_http1.specs.Answers.{IsUndecided}
use Rattle.link_http1.specs.Blocks.{is_block, IsShortestBlock}
use Rattle.link_http1.specs.Heads.{BeginsSkipped, EndsBlock, EndsFinal, head_of, is_skipped, IsHead, IsSkippedHead}
use Rattle.link_http1.specs.Heads.{Skips}
use Rattle.link_http1.proofs.BlockLemmas.{IsQuiet}
use Rattle.link_http1.proofs.HeadLemmas.{head-one, head-shortest, shortest-one}

-- ---- what follows the skipped heads

pub skips-none : (bytes : List ℕ) → Skips bytes bytes
skips-none bytes = record { heads = []; each = All-nil IsSkippedHead; whole = refl }

pub skips-more : (bytes rest more : List ℕ) → Skips bytes rest → Skips (bytes ++ more) (rest ++ more)
skips-more bytes rest more skips = record {
  heads = skips.heads;
  each = skips.each;
  whole = ap (λ (l : List ℕ). l ++ more) skips.whole ∙ append_assoc (flat_map print_response skips.heads) rest more;
}

-- of two rests one begins with a skipped head, or they are the same
meet : (hs gs : List ResponseHead) (p q : List ℕ) → AllByRecursion IsSkippedHead hs → AllByRecursion IsSkippedHead gs
    → flat_map print_response hs ++ p ≡ flat_map print_response gs ++ q → (p ≡ q) ⊎ (BeginsSkipped p ⊎ BeginsSkipped q)
meet [] [] p q each other same = inl same
meet [] (g ∷ gs) p q each other same =
    inr (inl (
      g,
      flat_map print_response gs ++ q,
      other.0,
      same
          ∙ append_assoc (print_response g) (flat_map print_response gs) q,
    ))
meet (h ∷ hs) [] p q each other same =
    inr (inr (
      h,
      flat_map print_response hs ++ p,
      each.0,
      sym same
          ∙ append_assoc (print_response h) (flat_map print_response hs) p,
    ))
meet (h ∷ hs) (g ∷ gs) p q each other same =
    let behind : List ℕ = flat_map print_response hs ++ p in
    let later : List ℕ = flat_map print_response gs ++ q in
    let both : print_response h ++ behind ≡ print_response g ++ later =
    sym (append_assoc (print_response h) (flat_map print_response hs) p) ∙ same
    ∙ append_assoc (print_response g) (flat_map print_response gs) q in
    let one : h ≡ g = head-one h g behind later each.0.head.head other.0.head.head both in
    meet hs gs p q each.1 other.1 (append_cancel_left (print_response h) behind later (both
    ∙ ap (λ (k : ResponseHead). print_response k ++ later) (sym one)))

pub skips-meet : (bytes p q : List ℕ) → Skips bytes p → Skips bytes q → (p ≡ q) ⊎ (BeginsSkipped p ⊎ BeginsSkipped q)
skips-meet bytes p q one other =
    meet one.heads other.heads p q (recursion_from_All IsSkippedHead one.heads one.each)
    (recursion_from_All IsSkippedHead other.heads other.each) (sym one.whole ∙ other.whole)

-- ---- a head at the front

-- where a final head begins, no skipped one does
pub final-not-skipped : (head : ResponseHead) (rest : List ℕ) → IsHead head → is_skipped (status_code head) ≡ false
    → BeginsSkipped (print_response head ++ rest) → ⊥
final-not-skipped head rest is final begins =
    let one : head ≡ begins.0 = head-one head begins.0 rest begins.1 is.head begins.2.head.head begins.3 in
    true≢false (sym begins.2.skipped ∙ ap (λ (k : ResponseHead). is_skipped (status_code k)) (sym one) ∙ final)

-- a shortest block that begins with a skipped head is that head
begins-whole : (block rest : List ℕ) → IsShortestBlock block → (begins : BeginsSkipped (block ++ rest)) → block
    ≡ print_response begins.0
begins-whole block rest shortest begins =
    shortest-one block (print_response begins.0) rest begins.1 shortest (head-shortest begins.0 begins.2.head.head)
    begins.3

-- ---- bytes that decide nothing

-- no beginning of the bytes is a block
block-front : (part text more : List ℕ) → IsQuiet [] part → part ≡ text ++ more → is_block text ≡ true → ⊥
block-front part text more quiet same block =
    true≢false (sym block ∙ ap is_block (sym (take_at text more (length text) refl)
    ∙ ap (λ (l : List ℕ). take (length text) l) (sym same)) ∙ quiet (length text))

begins-block : (part : List ℕ) → IsQuiet [] part → BeginsSkipped part → ⊥
begins-block part quiet begins =
    block-front part (print_response begins.0) begins.1 quiet begins.3 (head-shortest begins.0 begins.2.head.head).block

-- the skipped heads and then no block
pub undecided : (bytes part : List ℕ) → Skips bytes part → IsQuiet [] part → IsUndecided bytes
undecided bytes part skips quiet n (inl (head, ends)) =
    by_meeting (skips-meet bytes part (print_response ends.printed ++ drop n bytes) skips all)
  where
    all : Skips bytes (print_response ends.printed ++ drop n bytes)
    all = subst (λ (l : List ℕ). Skips l (print_response ends.printed ++ drop n bytes)) (take-append-drop n bytes)
        (skips-more (take n bytes) (print_response ends.printed) (drop n bytes) ends.skips)

    by_meeting : (part ≡ print_response ends.printed ++ drop n bytes)
        ⊎ (BeginsSkipped part ⊎ BeginsSkipped (print_response ends.printed ++ drop n bytes)) → ⊥
    by_meeting (inl same) =
        block-front part (print_response ends.printed) (drop n bytes) quiet same
        (head-shortest ends.printed ends.valid.head).block
    by_meeting (inr (inl begins)) = begins-block part quiet begins
    by_meeting (inr (inr begins)) = final-not-skipped ends.printed (drop n bytes) ends.valid ends.final begins
undecided bytes part skips quiet n (inr ends) =
    by_meeting (skips-meet bytes part (ends.block ++ drop n bytes) skips all)
  where
    all : Skips bytes (ends.block ++ drop n bytes)
    all = subst (λ (l : List ℕ). Skips l (ends.block ++ drop n bytes)) (take-append-drop n bytes)
        (skips-more (take n bytes) ends.block (drop n bytes) ends.skips)

    by_meeting : (part ≡ ends.block ++ drop n bytes)
        ⊎ (BeginsSkipped part ⊎ BeginsSkipped (ends.block ++ drop n bytes)) → ⊥
    by_meeting (inl same) = block-front part ends.block (drop n bytes) quiet same ends.shortest.block
    by_meeting (inr (inl begins)) = begins-block part quiet begins
    by_meeting (inr (inr begins)) =
        let whole = begins-whole ends.block (drop n bytes) ends.shortest begins in
        ends.last (begins.0, [], begins.2, whole ∙ sym (append-nil (print_response begins.0)))

-- ---- a block that is no head

-- the block is none of a head
abbrev pub IsNoHeadAtAll : List ℕ → Type 0
IsNoHeadAtAll block = (head : ResponseHead) → IsHead head → ¬ (block ≡ print_response head)

none-begins : (block : List ℕ) → IsShortestBlock block → IsNoHeadAtAll block → BeginsSkipped block → ⊥
none-begins block shortest none begins =
    none begins.0 begins.2.head
    (shortest-one block (print_response begins.0) [] begins.1 shortest (head-shortest begins.0 begins.2.head.head)
    (append-nil block ∙ begins.3))

pub block-ends-there : (bytes block : List ℕ) → Skips bytes block → IsShortestBlock block → IsNoHeadAtAll block
    → EndsBlock bytes
block-ends-there bytes block skips shortest none = record {
  block = block;
  skips = skips;
  last = none-begins block shortest none;
  shortest = shortest;
}

pub no-final-there : (bytes block : List ℕ) → Skips bytes block → IsShortestBlock block → IsNoHeadAtAll block
    → (head : Head) → ¬ (EndsFinal bytes head)
no-final-there bytes block skips shortest none head ends =
    by_meeting (skips-meet bytes block (print_response ends.printed) skips ends.skips)
  where
    by_meeting : (block ≡ print_response ends.printed)
        ⊎ (BeginsSkipped block ⊎ BeginsSkipped (print_response ends.printed)) → ⊥
    by_meeting (inl same) = none ends.printed ends.valid same
    by_meeting (inr (inl begins)) = none-begins block shortest none begins
    by_meeting (inr (inr begins)) =
        final-not-skipped ends.printed [] ends.valid ends.final
        (subst BeginsSkipped (sym (append-nil (print_response ends.printed))) begins)

-- ---- one final head

pub final-one : (bytes : List ℕ) (a b : Head) → EndsFinal bytes a → EndsFinal bytes b → a ≡ b
final-one bytes a b one other =
    by_meeting (skips-meet bytes (print_response one.printed) (print_response other.printed) one.skips other.skips)
  where
    by_meeting : (print_response one.printed ≡ print_response other.printed)
        ⊎ (BeginsSkipped (print_response one.printed) ⊎ BeginsSkipped (print_response other.printed)) → a ≡ b
    by_meeting (inl same) =
        one.head_is
        ∙ ap head_of (head-one one.printed other.printed [] [] one.valid.head other.valid.head
        (ap (λ (l : List ℕ). l ++ []) same)) ∙ sym other.head_is
    by_meeting (inr (inl begins)) =
        absurd (final-not-skipped one.printed [] one.valid one.final
        (subst BeginsSkipped (sym (append-nil (print_response one.printed))) begins))
    by_meeting (inr (inr begins)) =
        absurd (final-not-skipped other.printed [] other.valid other.final
        (subst BeginsSkipped (sym (append-nil (print_response other.printed))) begins))
