-- What a piece comes to that is fed to a reader of heads, after all bytes so far.
use Rattle.std.specs.Prelude.{◌≡◌, ◌+◌, ◌≤◌, ◌++◌, length}
use Rattle.value_text.specs.Texts.{Text}
use Rattle.link_http1.specs.Answers.{IsFinal, HasBadBlock, IsTooLong, IsUnfinished}
use Rattle.link_http1.specs.declared.head.HeadStep.{HeadStep}
use Rattle.link_http1.specs.declared.head.HeadStep.TheVariants as step

-- a final head ends so many bytes into the piece; a block that is no head ends in it; the limit is
-- passed; or nothing is decided yet
abbrev pub IsFed : Text → Text → HeadStep → Type 0
IsFed bytes piece (step.More reader) = (reader ≡ bytes ++ piece) × IsUnfinished (bytes ++ piece)
IsFed bytes piece (step.Final head n) = (n ≤ length piece) × IsFinal (bytes ++ piece) head (length bytes + n)
IsFed bytes piece step.Bad = HasBadBlock (bytes ++ piece)
IsFed bytes piece step.TooBig = IsTooLong (bytes ++ piece)
