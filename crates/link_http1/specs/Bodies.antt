-- The body of an answer: how it ends, told by the bytes after the head, and which bytes decide that (RFC 9112,
-- sections 6.3 and 8; the limit is the caller's).
use Rattle.std.specs.Prelude.{◌≡◌, ℕ, ◌+◌, ◌-◌, min, Bool, true, nat_lt, nat_le, ◌++◌, take, length}
use Rattle.std.specs.Prelude.{if◌then◌else◌}
use Rattle.value_text.specs.Texts.{Text}
use Rattle.value_requests.specs.declared.response.BodyEnd.{BodyEnd}
use Rattle.value_requests.specs.declared.response.BodyEnd.TheVariants.{Null, Whole, Cut, TooBig}
use Rattle.link_http1.specs.declared.framing.Framing.{Framing}
use Rattle.link_http1.specs.declared.framing.Framing.TheVariants as framing
use Rattle.link_http1.specs.Chunks.{decoded}

-- data that came so far: too big where they exceed the limit, else all of the body or a part of it
abbrev pub ended : ℕ → Bool → Text → BodyEnd
ended limit complete bytes =
    if nat_lt limit (length bytes) then TooBig else if complete then Whole bytes else Cut (length bytes)

-- how the body ends where these are all bytes after the head
abbrev pub body_end : Framing → ℕ → Text → BodyEnd
body_end framing.Nothing limit bytes = Null
body_end framing.Broken limit bytes = Cut 0
body_end framing.ToEnd limit bytes = ended limit true bytes
body_end (framing.Length n) limit bytes = ended limit (nat_le n (length bytes)) (take n bytes)
body_end framing.Chunked limit bytes = ended limit (decoded bytes).complete (decoded bytes).data_is

-- how many bytes more are needed at least to decide the body, after so many; 0 for chunks, where that is not known,
-- and where the framing alone decides
abbrev pub fewest : Framing → ℕ → ℕ → ℕ
fewest (framing.Length n) limit read = min n (limit + 1) - read
fewest framing.ToEnd limit read = limit + 1 - read
fewest _ limit read = 0

-- the bytes decide the body: whatever bytes follow, it comes to this end
abbrev pub IsDecided : Framing → ℕ → Text → BodyEnd → Type 0
IsDecided how limit bytes end = (more : Text) → body_end how limit (bytes ++ more) ≡ end

-- the bytes do not decide the body
abbrev pub IsOpen : Framing → ℕ → Text → Type 0
IsOpen how limit bytes = (end : BodyEnd) → ¬ (IsDecided how limit bytes end)
