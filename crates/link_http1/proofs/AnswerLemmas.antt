-- What the head of an answer comes to, where more bytes follow.
use Rattle.std.proofs.Common.{◌≡◌, ◌<◌, ◌⊎◌, inl, inr, ℕ, List, [], ◌++◌, take, refl, sym, subst, arith, length-append}
use Rattle.std.proofs.lemmas.List.{take-append-le, take-take}
use Rattle.value_requests.specs.declared.hop.Head.{Head}
use Rattle.std.proofs.lemmas.Bool.{cases_order}
use Rattle.link_http1.proofs.BlockLemmas.{quiet-nil}
use Rattle.link_http1.proofs.SkipLemmas.{final-one, skips-none, undecided}
use Rattle.link_http1.specs.Answers.{bad, final, HeadEnd, IsHeadEnd, long, IsUnfinished, Decides, HasBadBlock}
use Rattle.link_http1.specs.Answers.{IsDecidedAt, IsFinal, IsTooLong, IsUndecided, most_bytes}
use Rattle.link_http1.specs.Heads.{EndsFinal}

decided-more : (bytes more : List ℕ) (n : ℕ) → IsDecidedAt bytes n → IsDecidedAt (bytes ++ more) n
decided-more bytes more n at = record {
  within = omega (arith, at.within, length-append bytes more);
  few = at.few;
  decides = subst (λ (l : List ℕ). Decides l) (sym (take-append-le n bytes more at.within)) at.decides;
  shortest = λ m before. subst (λ (l : List ℕ). ¬ (Decides l))
      (sym (take-append-le m bytes more (omega (arith, before, at.within)))) (at.shortest m before);
}

-- a final head stays
pub final-more : (bytes more : List ℕ) (head : Head) (n : ℕ) → IsFinal bytes head n → IsFinal (bytes ++ more) head n
final-more bytes more head n is = record {
  decided = decided-more bytes more n is.decided;
  final = subst (λ (l : List ℕ). EndsFinal l head) (sym (take-append-le n bytes more is.decided.within)) is.final;
}

-- so does a block that is no head
pub bad-more : (bytes more : List ℕ) → HasBadBlock bytes → HasBadBlock (bytes ++ more)
bad-more bytes more there = (
  there.0,
  record {
    decided = decided-more bytes more there.0 there.1.decided;
    no_head = λ head. subst (λ (l : List ℕ). ¬ (EndsFinal l head))
        (sym (take-append-le there.0 bytes more there.1.decided.within)) (there.1.no_head head);
  },
)

-- and what is too long
pub long-more : (bytes more : List ℕ) → IsTooLong bytes → IsTooLong (bytes ++ more)
long-more bytes more is = record {
  long = omega (arith, is.long, length-append bytes more);
  undecided = subst (λ (l : List ℕ). IsUndecided l)
      (sym (take-append-le most_bytes bytes more (omega (arith, is.long)))) is.undecided;
}

-- nothing decides nothing
pub nothing-unfinished : IsUnfinished []
nothing-unfinished = record {
  short = omega arith;
  undecided = undecided [] [] (skips-none []) (quiet-nil [] refl);
}

-- ---- one answer

decided-one : (bytes : List ℕ) (n m : ℕ) → IsDecidedAt bytes n → IsDecidedAt bytes m → n ≡ m
decided-one bytes n m one other = by_order (cases_order n m)
  where
    by_order : (n ≡ m) ⊎ ((n < m) ⊎ (m < n)) → n ≡ m
    by_order (inl same) = same
    by_order (inr (inl less)) = absurd (other.shortest n less one.decides)
    by_order (inr (inr less)) = absurd (one.shortest m less other.decides)

-- the final head is one, and so is its end
pub final-head-one : (bytes : List ℕ) (a b : Head) (n m : ℕ) → IsFinal bytes a n → IsFinal bytes b m → (a ≡ b) × (n ≡ m)
final-head-one bytes a b n m one other =
    let same : n ≡ m = decided-one bytes n m one.decided other.decided in
    (final-one (take m bytes) a b (subst (λ (k : ℕ). EndsFinal (take k bytes) a) same one.final) other.final, same)

-- ---- the end of the head is one

decided-early : (bytes : List ℕ) (n : ℕ) → IsDecidedAt bytes n → IsUndecided bytes → ⊥
decided-early bytes n at none = none n at.decides

decided-long : (bytes : List ℕ) (n : ℕ) → IsDecidedAt bytes n → IsTooLong bytes → ⊥
decided-long bytes n at is =
    is.undecided n (subst (λ (l : List ℕ). Decides l) (sym (take-take n most_bytes bytes at.few)) at.decides)

final-not-bad : (bytes : List ℕ) (head : Head) (n : ℕ) → IsFinal bytes head n → HasBadBlock bytes → ⊥
final-not-bad bytes head n is other =
    let same : n ≡ other.0 = decided-one bytes n other.0 is.decided other.1.decided in
    other.1.no_head head (subst (λ (k : ℕ). EndsFinal (take k bytes) head) same is.final)

pub long-not-short : (bytes : List ℕ) → IsTooLong bytes → IsUnfinished bytes → ⊥
long-not-short bytes is none = absurd (omega (arith, is.long, none.short))

-- what the head of an answer comes to is one
pub head-end-one : (bytes : List ℕ) (a b : HeadEnd) → IsHeadEnd bytes a → IsHeadEnd bytes b → a ≡ b
head-end-one bytes (final a n) (final b m) is also = let same = final-head-one bytes a b n m is also in
    λ i. final (same.0 i) (same.1 i)
head-end-one bytes (final a n) bad is (inl also) = absurd (final-not-bad bytes a n is also)
head-end-one bytes (final a n) bad is (inr also) = absurd (decided-early bytes n is.decided also.undecided)
head-end-one bytes (final a n) long is also = absurd (decided-long bytes n is.decided also)
head-end-one bytes bad (final b m) (inl is) also = absurd (final-not-bad bytes b m also is)
head-end-one bytes bad (final b m) (inr is) also = absurd (decided-early bytes m also.decided is.undecided)
head-end-one bytes bad bad is also = refl
head-end-one bytes bad long (inl is) also = absurd (decided-long bytes is.0 is.1.decided also)
head-end-one bytes bad long (inr is) also = absurd (long-not-short bytes also is)
head-end-one bytes long (final b m) is also = absurd (decided-long bytes m also.decided is)
head-end-one bytes long bad is (inl also) = absurd (decided-long bytes also.0 also.1.decided is)
head-end-one bytes long bad is (inr also) = absurd (long-not-short bytes is also)
head-end-one bytes long long is also = refl
