-- What a reader of a body is seen as.
use Rattle.std.specs.Prelude.{ℕ}
use Rattle.value_text.specs.Texts.{Text}
use Rattle.link_http1.specs.declared.framing.Framing.{Framing}

-- the framing, the limit in bytes, and all bytes so far
pub record BodyReading : Type 0 where
  pub framing : Framing
  pub limit : ℕ
  pub bytes : Text
