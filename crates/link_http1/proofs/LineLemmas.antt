-- Lines of a head: no block ends in them, and one ends in the empty line after them.
use Rattle.std.proofs.Common.{◌≡◌, ◌==◌, ◌||◌, ◌⊎◌, inl, inr, ℕ, Bool, true, false, true≢false, List, [], ◌∷◌, ◌++◌}
use Rattle.std.proofs.Common.{length, take, reverse, refl, ap, sym, ◌∙◌, subst, arith, append_assoc, length-append}
use Rattle.std.proofs.lemmas.Bool.{or_right}
use Rattle.std.proofs.lemmas.List.{take-append-le}
use Rattle.std.proofs.lemmas.List.Folds.{list_any-append}
use Rattle.std.specs.List.{AllByRecursion, list_any}
use Rattle.httparse.specs.Grammar.{LineEnd, crlf, lf, print_end}
use Rattle.link_http1.specs.Blocks.{is_block, is_line_byte, IsShortestBlock}
use Rattle.link_http1.proofs.BlockLemmas.{back-push, IsQuiet, is-block-crlf, is-block-lf, is-line, no-block}
use Rattle.link_http1.proofs.BlockLemmas.{no-block-line, no-block-push, quiet-append, quiet-cons, quiet-end}
use Rattle.link_http1.proofs.BlockLemmas.{quiet-nil}

-- a text that ends in a byte of a line and a line end
pub record EndsLine (text : List ℕ) : Type 0 where
  pub front : List ℕ
  pub byte : ℕ
  pub end : LineEnd
  pub line : is_line_byte byte ≡ true
  pub whole : text ≡ front ++ byte ∷ print_end end

-- each byte is one of a line
abbrev pub IsLineText : List ℕ → Type 0
IsLineText text = AllByRecursion (λ byte. is_line_byte byte ≡ true) text

-- CR is not LF
differs : (byte : ℕ) → byte ≡ 13 → ¬ (byte ≡ 10)
differs byte cr same = true≢false (sym (ap (λ (b : ℕ). b == 10) same) ∙ ap (λ (b : ℕ). b == 10) cr)

-- no block ends at a line's end
no-block-end : (before : List ℕ) (byte : ℕ) → is_line_byte byte ≡ true → is_block ((before ++ byte ∷ []) ++ 10 ∷ [])
    ≡ false
no-block-end before byte line = no-block ((before ++ byte ∷ []) ++ 10 ∷ []) (λ end. by_cases end.1)
  where
    by_cases : {rest : List ℕ} → (reverse ((before ++ byte ∷ []) ++ 10 ∷ []) ≡ 10 ∷ 10 ∷ rest)
        ⊎ (reverse ((before ++ byte ∷ []) ++ 10 ∷ []) ≡ 10 ∷ 13 ∷ 10 ∷ rest) → ⊥
    by_cases {rest} (inl h) = let a = back-push before byte in let b = back-push (before ++ byte ∷ []) 10 in
        (is-line byte line).0 (cc)
    by_cases {rest} (inr h) = let a = back-push before byte in let b = back-push (before ++ byte ∷ []) 10 in
        (is-line byte line).1 (cc)

no-block-crlf : (before : List ℕ) (byte : ℕ) → is_line_byte byte ≡ true
    → is_block (((before ++ byte ∷ []) ++ 13 ∷ []) ++ 10 ∷ []) ≡ false
no-block-crlf before byte line = no-block (((before ++ byte ∷ []) ++ 13 ∷ []) ++ 10 ∷ []) (λ end. by_cases end.1)
  where
    by_cases : {rest : List ℕ} → (reverse (((before ++ byte ∷ []) ++ 13 ∷ []) ++ 10 ∷ []) ≡ 10 ∷ 10 ∷ rest)
        ⊎ (reverse (((before ++ byte ∷ []) ++ 13 ∷ []) ++ 10 ∷ []) ≡ 10 ∷ 13 ∷ 10 ∷ rest) → ⊥
    by_cases {rest} (inl h) = let a = back-push before byte in let b = back-push (before ++ byte ∷ []) 13 in let d =
        back-push ((before ++ byte ∷ []) ++ 13 ∷ []) 10 in differs 13 refl (cc)
    by_cases {rest} (inr h) = let a = back-push before byte in let b = back-push (before ++ byte ∷ []) 13 in let d =
        back-push ((before ++ byte ∷ []) ++ 13 ∷ []) 10 in (is-line byte line).0 (cc)

-- no block ends in a line end that follows a byte of a line
end-quiet : (before : List ℕ) (byte : ℕ) (end : LineEnd) → is_line_byte byte ≡ true
    → IsQuiet (before ++ byte ∷ []) (print_end end)
end-quiet before byte lf line =
    quiet-cons (before ++ byte ∷ []) 10 [] (no-block-line before byte line)
    (quiet-nil ((before ++ byte ∷ []) ++ 10 ∷ []) (no-block-end before byte line))
end-quiet before byte crlf line =
    quiet-cons (before ++ byte ∷ []) 13 (10 ∷ []) (no-block-line before byte line)
    (quiet-cons ((before ++ byte ∷ []) ++ 13 ∷ []) 10 [] (no-block-push (before ++ byte ∷ []) 13 (differs 13 refl))
    (quiet-nil (((before ++ byte ∷ []) ++ 13 ∷ []) ++ 10 ∷ []) (no-block-crlf before byte line)))

-- ---- a line

-- a line of one byte or more, after a text that is no block
pub record IsBehindLine (before text : List ℕ) : Type 0 where
  pub quiet : IsQuiet before text
  pub line : EndsLine (before ++ text)

pub line-quiet : (before : List ℕ) (byte : ℕ) (text : List ℕ) (end : LineEnd) → is_block before ≡ false
    → is_line_byte byte ≡ true → IsLineText text → IsBehindLine before (byte ∷ (text ++ print_end end))
line-quiet before byte [] end none line each = record {
  quiet = quiet-cons before byte (print_end end) none (end-quiet before byte end line);
  line = record { front = before; byte = byte; end = end; line = line; whole = refl };
}
line-quiet before byte (next ∷ text) end none line each =
    let more = line-quiet (before ++ byte ∷ []) next text end (no-block-line before byte line) each.0 each.1 in
    record {
      quiet = quiet-cons before byte (next ∷ (text ++ print_end end)) none more.quiet;
      line = subst EndsLine (append_assoc before (byte ∷ []) (next ∷ (text ++ print_end end))) more.line;
    }

-- and is no block
pub ends_line-none : (text : List ℕ) → EndsLine text → is_block text ≡ false
ends_line-none text end =
    ap is_block (end.whole ∙ sym (append_assoc end.front (end.byte ∷ []) (print_end end.end)))
    ∙ quiet-end (end.front ++ end.byte ∷ []) (print_end end.end) (end-quiet end.front end.byte end.end end.line)

-- ---- the empty line after a line

some : (front : List ℕ) (byte : ℕ) → is_line_byte byte ≡ true → list_any is_line_byte (front ++ byte ∷ []) ≡ true
some front byte line = list_any-append is_line_byte front (byte ∷ [])
    ∙ or_right (list_any is_line_byte front) (list_any is_line_byte (byte ∷ [])) (ap (λ (b : Bool). b || false) line)

some-2 : (front : List ℕ) (byte : ℕ) → is_line_byte byte ≡ true → list_any is_line_byte (front ++ byte ∷ 13 ∷ []) ≡ true
some-2 front byte line = list_any-append is_line_byte front (byte ∷ 13 ∷ [])
    ∙ or_right (list_any is_line_byte front) (list_any is_line_byte (byte ∷ 13 ∷ []))
    (ap (λ (b : Bool). b || false) line)

block-behind : (front : List ℕ) (byte : ℕ) (end last : LineEnd) → is_line_byte byte ≡ true
    → is_block ((front ++ byte ∷ print_end end) ++ print_end last) ≡ true
block-behind front byte lf lf line =
    ap is_block (append_assoc front (byte ∷ 10 ∷ []) (10 ∷ []) ∙ sym (append_assoc front (byte ∷ []) (10 ∷ 10 ∷ [])))
    ∙ is-block-lf (front ++ byte ∷ []) (some front byte line)
block-behind front byte lf crlf line =
    ap is_block (append_assoc front (byte ∷ 10 ∷ []) (13 ∷ 10 ∷ [])
    ∙ sym (append_assoc front (byte ∷ []) (10 ∷ 13 ∷ 10 ∷ [])))
    ∙ is-block-crlf (front ++ byte ∷ []) (some front byte line)
block-behind front byte crlf lf line =
    ap is_block (append_assoc front (byte ∷ 13 ∷ 10 ∷ []) (10 ∷ [])
    ∙ sym (append_assoc front (byte ∷ 13 ∷ []) (10 ∷ 10 ∷ [])))
    ∙ is-block-lf (front ++ byte ∷ 13 ∷ []) (some-2 front byte line)
block-behind front byte crlf crlf line =
    ap is_block (append_assoc front (byte ∷ 13 ∷ 10 ∷ []) (13 ∷ 10 ∷ [])
    ∙ sym (append_assoc front (byte ∷ 13 ∷ []) (10 ∷ 13 ∷ 10 ∷ [])))
    ∙ is-block-crlf (front ++ byte ∷ 13 ∷ []) (some-2 front byte line)

-- the front of an empty line, but for its LF
abbrev short_end : LineEnd → List ℕ
short_end crlf = 13 ∷ []
short_end lf = []

short-quiet : (text : List ℕ) (last : LineEnd) → is_block text ≡ false → IsQuiet text (short_end last)
short-quiet text lf none = quiet-nil text none
short-quiet text crlf none =
    quiet-cons text 13 [] none (quiet-nil (text ++ 13 ∷ []) (no-block-push text 13 (differs 13 refl)))

end-is : (last : LineEnd) → print_end last ≡ short_end last ++ 10 ∷ []
end-is lf = refl
end-is crlf = refl

-- a text in which no block ends, which ends in a line, and then an empty line are a shortest block
pub shortest-behind : (text : List ℕ) (last : LineEnd) → IsQuiet [] text → EndsLine text
    → IsShortestBlock (text ++ print_end last)
shortest-behind text last quiet end = record {
  block = ap (λ (l : List ℕ). is_block (l ++ print_end last)) end.whole
      ∙ block-behind end.front end.byte end.end last end.line;
  shortest = λ n before.
      let whole : text ++ print_end last ≡ (text ++ short_end last) ++ 10 ∷ [] =
      ap (λ (l : List ℕ). text ++ l) (end-is last) ∙ sym (append_assoc text (short_end last) (10 ∷ [])) in
      let all : IsQuiet [] (text ++ short_end last) =
      quiet-append [] text (short_end last) quiet (short-quiet text last (quiet-end [] text quiet)) in
      ap (λ (l : List ℕ). is_block (take n l)) whole
      ∙ ap is_block (take-append-le n (text ++ short_end last) (10
      ∷ []) (omega (arith, before, ap length whole, length-append (text ++ short_end last) (10 ∷ []))))
      ∙ all n;
}
