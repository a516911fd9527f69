-- How many bytes of each answer were received.
use Rattle.std.proofs.Common.{◌≡◌, ℕ, ◌+◌, List, [], ◌∷◌, ◌++◌, Option, Some, None, refl, ap, sym, arith}
use Rattle.std.specs.Prelude.{map}
use Rattle.link_traits.specs.Counts.{counted_on}
use Rattle.link_traits.specs.Links.{Received, with_bytes}
use Rattle.link_traits.specs.Private.KeptAsks.{asks_in, bytes_of}
use Rattle.link_traits.specs.declared.kept_asks.AskSize.{AskSize}

-- no bytes more
bytes-none : (counts : List ℕ) → with_bytes 0 counts ≡ counts
bytes-none [] = refl
bytes-none (count ∷ []) = ap (λ (n : ℕ). n ∷ []) (omega arith)
bytes-none (count ∷ next ∷ counts) = ap (λ (l : List ℕ). count ∷ l) (bytes-none (next ∷ counts))

-- so many, and then so many more
bytes-on : (a b : ℕ) (counts : List ℕ) → with_bytes b (with_bytes a counts) ≡ with_bytes (a + b) counts
bytes-on a b [] = refl
bytes-on a b (count ∷ []) = ap (λ (n : ℕ). n ∷ []) (omega arith)
bytes-on a b (count ∷ next ∷ []) = ap (λ (n : ℕ). count ∷ n ∷ []) (omega arith)
bytes-on a b (count ∷ next ∷ third ∷ counts) = ap (λ (l : List ℕ). count ∷ l) (bytes-on a b (next ∷ third ∷ counts))

pub received-none : (received : Option (List ℕ)) → Received 0 received received
received-none None = refl
received-none (Some counts) = ap Some (sym (bytes-none counts))

pub received-on : (a b : ℕ) (first second third : Option (List ℕ)) → Received a first second → Received b second third
    → Received (a + b) first third
received-on a b None second third one two = rw (two, one) refl
received-on a b (Some counts) second third one two = rw (two, one) (ap Some (bytes-on a b counts))

-- ---- of asks that are kept

pub asks_in-last : (sizes : List AskSize) (last : AskSize) (received : ℕ) (text : List ℕ)
    → asks_in (sizes ++ record last { received = received } ∷ []) text ≡ asks_in (sizes ++ last ∷ []) text
asks_in-last [] last received text = refl
asks_in-last (size ∷ sizes) last received text = rw (asks_in-last sizes last received _) refl

pub bytes_of-last : (sizes : List AskSize) (last : AskSize) (received : ℕ)
    → bytes_of (sizes ++ record last { received = received } ∷ []) ≡ bytes_of (sizes ++ last ∷ [])
bytes_of-last [] last received = refl
bytes_of-last (size ∷ sizes) last received = rw (bytes_of-last sizes last received) refl

pub received-last : (sizes : List AskSize) (last : AskSize) (more : ℕ)
    → map (λ size. size.received) (sizes ++ record last { received = counted_on last.received more } ∷ [])
    ≡ with_bytes more (map (λ size. size.received) (sizes ++ last ∷ []))
received-last [] last more = refl
received-last (size ∷ []) last more = refl
received-last (size ∷ next ∷ sizes) last more =
    ap (λ (l : List ℕ). size.received ∷ l) (received-last (next ∷ sizes) last more)
