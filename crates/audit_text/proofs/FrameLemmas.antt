-- The frame of an audit's input.
use Rattle.std.proofs.Common.{◌≡◌, ◌≤◌, ◌<◌, ℕ, List, ◌++◌, length, take, drop, codes, ap, sym, ◌∙◌}
use Rattle.std.proofs.Common.{arith, append_assoc, length-append, length-take, Some, None, inl}
use Rattle.std.proofs.lemmas.List.{take-append-drop}
use Rattle.std.specs.Prelude.{decimal}
use Rattle.value_decimal.specs.Decimals.{number_up_to}
use Rattle.value_decimal.proofs.DecimalLemmas.{number-lacks, number-read, number-writes}
use Rattle.script_lines.specs.Lines.{line}
use Rattle.audit_text.specs.Frames.{IsFramed}
use Rattle.audit_text.specs.Private.Cuts.{IsCut}
use Rattle.audit_text.proofs.LineLemmas.{one-line}

framed-line : (input scenario play : List ℕ) → IsFramed input scenario play
    → input ≡ line (decimal (length scenario)) ++ (scenario ++ play)
framed-line input scenario play is =
    is.input_is ∙ sym (append_assoc (decimal (length scenario)) (codes "\n") (scenario ++ play))

-- what is cut is the number and what follows it
one-frame : (input number rest scenario play : List ℕ) → IsCut input number rest → IsFramed input scenario play
    → (number ≡ decimal (length scenario)) × (rest ≡ scenario ++ play)
one-frame input number rest scenario play cut is =
    one-line number (decimal (length scenario)) rest (scenario ++ play) cut.first_is
    (number-lacks 10 (inl (omega arith)) (length scenario) (omega (arith, is.short)))
    (sym cut.text_is ∙ framed-line input scenario play is)

read : (input number rest scenario play : List ℕ) → IsCut input number rest → IsFramed input scenario play
    → number_up_to 4194304 number ≡ Some (length scenario)
read input number rest scenario play cut is =
    ap (number_up_to 4194304) (one-frame input number rest scenario play cut is).0
    ∙ number-read 4194304 (length scenario) is.short (omega (arith, is.short))

pub no-number : (input number rest : List ℕ) → IsCut input number rest → number_up_to 4194304 number ≡ None
    → (scenario play : List ℕ) → IsFramed input scenario play → ⊥
no-number input number rest cut none scenario play is =
    let some = read input number rest scenario play cut is in
    let same : None ≡ Some (length scenario) = sym none ∙ some in cc

pub too-short : (input number rest : List ℕ) (n : ℕ) → IsCut input number rest → number_up_to 4194304 number ≡ Some n
    → length rest < n → (scenario play : List ℕ) → IsFramed input scenario play → ⊥
too-short input number rest n cut some few scenario play is =
    let same : Some n ≡ Some (length scenario) = sym some ∙ read input number rest scenario play cut is in
    let count : n ≡ length scenario = cc in
    omega (
      arith,
      few,
      count,
      ap length (one-frame input number rest scenario play cut is).1,
      length-append scenario play,
    )

pub frame-is : (input number rest : List ℕ) (n : ℕ) → IsCut input number rest → number_up_to 4194304 number ≡ Some n
    → n ≤ length rest → IsFramed input (take n rest) (drop n rest)
frame-is input number rest n cut some enough =
    let written = number-writes 4194304 number n some in
    let count : length (take n rest) ≡ n = omega (arith, enough, length-take n rest) in
    record {
      short = omega (arith, count, written.few);
      input_is = cut.text_is ∙ append_assoc number (codes "\n") rest
          ∙ ap (λ (l : List ℕ). l ++ (codes "\n" ++ rest)) (sym written.text ∙ ap decimal (sym count))
          ∙ ap (λ (l : List ℕ). decimal (length (take n rest)) ++ (codes "\n" ++ l)) (sym (take-append-drop n rest));
    }
