use Rattle.std.proofs.Common.{◌≡◌, drop}
use Rattle.std.specs.List.{list_all}
use Rattle.std.specs.Str.Parse.{digits_value}
use Rattle.value_text.specs.Digits.{writes}
use Rattle.link_http1.proofs.framing.all_write.Given as goal

abbrev pub invariant-loop-index : goal.invariant-loop-index
invariant-loop-index l =
    list_all (writes (digits_value 10 l.digits)) l.texts
    ≡ list_all (writes (digits_value 10 l.digits)) (drop l.index l.texts)
