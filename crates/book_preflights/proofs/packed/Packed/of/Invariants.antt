use Rattle.std.proofs.Common.{◌≡◌, length, take}
use Rattle.book_preflights.specs.Private.Packs.{AreEnds, texts_of}
use Rattle.book_preflights.proofs.packed.Packed.of.Given as goal

abbrev pub invariant-loop-text : goal.invariant-loop-text
invariant-loop-text l =
    AreEnds 0 (length l.bytes.items) l.ends.items
    × (texts_of l.bytes.items 0 l.ends.items ≡ take l.text-index l.texts)
