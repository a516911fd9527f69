use Rattle.std.proofs.Common.{◌≡◌, min, take, true}
use Rattle.std.specs.Char.{is_ascii_digit}
use Rattle.std.specs.List.{list_all}
use Rattle.std.specs.Str.Parse.{digits_value}
use Rattle.value_text.proofs.digits.parse_digits.Given as goal

abbrev pub invariant-loop-byte : goal.invariant-loop-byte
invariant-loop-byte l = (list_all is_ascii_digit (take l.byte-index l.text) ≡ true)
    × (l.value ≡ min (digits_value 10 (take l.byte-index l.text)) l.cap)
