-- What the head of an answer comes to, over all bytes of the answer (RFC 9112, section 4, and RFC 9110, section
-- 15.2; the limit and the answer to what is no head are this project's profile).
use Rattle.std.specs.Prelude.{ℕ, ◌≤◌, ◌<◌, ◌⊎◌, take, length}
use Rattle.value_text.specs.Texts.{Text}
use Rattle.value_requests.specs.declared.hop.Head.{Head}
use Rattle.link_http1.specs.Heads.{EndsFinal, EndsBlock}

-- how many bytes the heads of an answer have at most, skipped ones included
abbrev pub most_bytes : ℕ
most_bytes = 65536

-- a final head or a block ends where the bytes end
abbrev pub Decides : Text → Type 0
Decides bytes = ((head : Head) × EndsFinal bytes head) ⊎ EndsBlock bytes

-- no beginning of the bytes decides
abbrev pub IsUndecided : Text → Type 0
IsUndecided bytes = (n : ℕ) → ¬ (Decides (take n bytes))

-- the shortest beginning that decides has so many bytes
pub record IsDecidedAt (bytes : Text) (n : ℕ) : Type 0 where
  pub within : n ≤ length bytes
  pub few : n ≤ most_bytes
  pub decides : Decides (take n bytes)
  pub shortest : (m : ℕ) → m < n → ¬ (Decides (take m bytes))

-- the final head ends there
pub record IsFinal (bytes : Text) (head : Head) (n : ℕ) : Type 0 where
  pub decided : IsDecidedAt bytes n
  pub final : EndsFinal (take n bytes) head

-- only a block ends there
pub record IsNoHead (bytes : Text) (n : ℕ) : Type 0 where
  pub decided : IsDecidedAt bytes n
  pub no_head : (head : Head) → ¬ (EndsFinal (take n bytes) head)

-- a block that is no head ends within the limit
abbrev pub HasBadBlock : Text → Type 0
HasBadBlock bytes = (n : ℕ) × IsNoHead bytes n

-- no beginning decides within the limit, and there are more bytes than it allows
pub record IsTooLong (bytes : Text) : Type 0 where
  pub long : most_bytes < length bytes
  pub undecided : IsUndecided (take most_bytes bytes)

-- no beginning decides, and the bytes are within the limit
pub record IsUnfinished (bytes : Text) : Type 0 where
  pub short : length bytes ≤ most_bytes
  pub undecided : IsUndecided bytes

-- What the head of an answer comes to: a head with the number of bytes up to its end, no head, or too
-- long a one.
pub data HeadEnd : Type 0 where
  final : Head → ℕ → HeadEnd
  bad : HeadEnd
  long : HeadEnd

-- what the head of an answer of these bytes comes to; an answer that ends before its head has none
abbrev pub IsHeadEnd : Text → HeadEnd → Type 0
IsHeadEnd bytes (final head n) = IsFinal bytes head n
IsHeadEnd bytes bad = HasBadBlock bytes ⊎ IsUnfinished bytes
IsHeadEnd bytes long = IsTooLong bytes
