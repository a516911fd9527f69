-- A head has no more header lines than line ends.
use Rattle.std.proofs.Common.{◌≡◌, ◌≤◌, ◌+◌, ◌==◌, ℕ, List, [], ◌∷◌, ◌++◌, length, refl, ap, ◌∙◌, arith}
use Rattle.std.specs.List.{flat_map}
use Rattle.std.proofs.lemmas.List.Sums.{sum_by-append}
use Rattle.std.specs.Prelude.{cond}
use Rattle.httparse.specs.Grammar.{Field, LineEnd, crlf, lf, ResponseHead, print_blank, print_end, print_field}
use Rattle.httparse.specs.Grammar.{print_response}
use Rattle.link_http1.specs.Private.HeadReading.{line_ends}
use Rattle.link_http1.proofs.HeadLemmas.{field-parts, printed-parts, status_rest}

pub ends-append : (a b : List ℕ) → line_ends (a ++ b) ≡ line_ends a + line_ends b
ends-append a b = sum_by-append (λ (byte : ℕ). cond (byte == 10) 1 0) a b

end-ends : (end : LineEnd) → line_ends (print_end end) ≡ 1
end-ends crlf = refl
end-ends lf = refl

-- a header line has a line end
field-ends : (field : Field) → 1 ≤ line_ends (print_field field)
field-ends field = omega (
  arith,
  ap line_ends (field-parts field),
  ends-append field.name (58 ∷ (field.raw ++ print_end field.end)),
  ends-append (58 ∷ field.raw) (print_end field.end),
  end-ends field.end,
)

pub fields-ends : (fields : List Field) → length fields ≤ line_ends (flat_map print_field fields)
fields-ends [] = omega arith
fields-ends (field ∷ fields) = omega (
  arith,
  ends-append (print_field field) (flat_map print_field fields),
  field-ends field,
  fields-ends fields,
)

pub few-lines : (block : List ℕ) (head : ResponseHead) → block ≡ print_response head
    → length head.fields ≤ line_ends block
few-lines block head is =
    let blank : List ℕ = print_blank head.blank in
    let line : List ℕ = 72 ∷ (status_rest head ++ print_end head.line_end) in
    let fields : List ℕ = flat_map print_field head.fields in
    omega (
      arith,
      ap line_ends (is ∙ printed-parts head),
      ends-append (blank ++ (line ++ fields)) (print_end head.last),
      ends-append blank (line ++ fields),
      ends-append line fields,
      fields-ends head.fields,
    )
