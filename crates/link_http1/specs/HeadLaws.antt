-- Laws of heads: a head is read in one way (RFC 9112, section 2.1).
use Rattle.std.specs.Prelude.{◌≡◌, ℕ}
use Rattle.httparse.specs.Grammar.{IsResponseHead, print_response, ResponseHead}
use Rattle.value_text.specs.Texts.{Text}
use Rattle.value_requests.specs.declared.hop.Head.{Head}
use Rattle.link_http1.specs.Answers.{HeadEnd, IsFinal, IsHeadEnd}
use Rattle.link_http1.specs.Blocks.{IsShortestBlock}

-- a head is a block, and no beginning of it is one
abbrev pub HeadsAreBlocks : Type 0
HeadsAreBlocks = (head : ResponseHead) → IsResponseHead head → IsShortestBlock (print_response head)

-- the bytes have one final head at most, and one place where it ends
abbrev pub HasOneHead : Type 0
HasOneHead =
    (bytes : Text) (a b : Head) (n m : ℕ) → IsFinal bytes a n → IsFinal bytes b m → (a ≡ b) × (n ≡ m)

-- what the head of an answer of these bytes comes to is one thing
abbrev pub HasOneEnd : Type 0
HasOneEnd = (bytes : Text) (a b : HeadEnd) → IsHeadEnd bytes a → IsHeadEnd bytes b → a ≡ b
