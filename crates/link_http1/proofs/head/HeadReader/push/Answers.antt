use Rattle.std.proofs.Common.{ℕ, List, [], ◌++◌, refl, length, arith, ap, sym, ◌∙◌, subst, length-append}
use Rattle.std.proofs.lemmas.List.{append-nil}
use Rattle.std.specs.List.{list_any}
use Rattle.link_http1.specs.Blocks.{is_block, is_line_byte}
use Rattle.link_http1.specs.Private.HeadReading.{IsJudged}
use Rattle.link_http1.specs.Heads.{Skips}
use Rattle.link_http1.specs.declared.block.Judged.TheVariants.{Final, NoHead, Skipped}
use Rattle.link_http1.proofs.BlockLemmas.{IsQuiet, quiet-nil}
use Rattle.link_http1.proofs.ReaderLemmas.{added-bad, added-few, added-final, added-gone, added-line, added-open}
use Rattle.link_http1.proofs.ReaderLemmas.{added-past, added-seen, added-unfinished, added-whole, IsAdded, judged-at}
use Rattle.link_http1.proofs.head.HeadReader.push.Goals as goal

pub returns-then-not-is_block : goal.returns-then-not-is_block
returns-then-not-is_block c =
    let at : IsAdded c.self.inside c.args.self c.args.line.now c.append.new.self =
    record {
      reading = c.self.invariant;
      whole = c.self.view_is;
      line_is = c.requires.line;
      few = c.requires.few;
      new_is = c.in_ok-append.ensures;
    } in
    (added-whole at, added-unfinished at (c.if-not-is_block.ensures ∙ ap is_block c.as_slice.ensures))

pub invariant_of-result : goal.invariant_of-result
invariant_of-result c =
    let at : IsAdded c.self.inside c.args.self c.args.line.now c.append.new.self =
    record {
      reading = c.self.invariant;
      whole = c.self.view_is;
      line_is = c.requires.line;
      few = c.requires.few;
      new_is = c.in_ok-append.ensures;
    } in
    record {
      skips = c.self.invariant.skips;
      undecided = added-open at (c.if-not-is_block.ensures ∙ ap is_block c.as_slice.ensures);
      line_is = added-line at c.had_or_has_line_byte-has_line_byte.result c.had_or_has_line_byte-has_line_byte.ensures;
      seen_is = added-seen at;
      short = added-few at;
    }

pub returns-in-NoHead : goal.returns-in-NoHead
returns-in-NoHead c =
    let at : IsAdded c.self.inside c.args.self c.args.line.now c.append.new.self =
    record {
      reading = c.self.invariant;
      whole = c.self.view_is;
      line_is = c.requires.line;
      few = c.requires.few;
      new_is = c.in_ok-append.ensures;
    } in
    added-bad at (c.if-not-is_block.ensures ∙ ap is_block c.as_slice.ensures)
    (judged-at c.as_slice-2.result.now c.append.new.self c.in_ok-judge.field-0 NoHead c.as_slice-2.ensures
    c.in-NoHead.is c.in_ok-judge.ensures)

pub returns-in-Final : goal.returns-in-Final
returns-in-Final c =
    let at : IsAdded c.self.inside c.args.self c.args.line.now c.append.new.self =
    record {
      reading = c.self.invariant;
      whole = c.self.view_is;
      line_is = c.requires.line;
      few = c.requires.few;
      new_is = c.in_ok-append.ensures;
    } in
    added-final at c.in-Final.head
    (judged-at c.as_slice-2.result.now c.append.new.self c.in_ok-judge.field-0 (Final c.in-Final.head)
    c.as_slice-2.ensures c.in-Final.is c.in_ok-judge.ensures)

pub returns-in-Skipped : goal.returns-in-Skipped
returns-in-Skipped c =
    let at : IsAdded c.self.inside c.args.self c.args.line.now c.append.new.self =
    record {
      reading = c.self.invariant;
      whole = c.self.view_is;
      line_is = c.requires.line;
      few = c.requires.few;
      new_is = c.in_ok-append.ensures;
    } in
    let judged : IsJudged c.append.new.self Skipped =
    judged-at c.as_slice-2.result.now c.append.new.self c.in_ok-judge.field-0 Skipped c.as_slice-2.ensures
    c.in-Skipped.is c.in_ok-judge.ensures in (
      ap (λ (l : List ℕ). c.note.new.self.bytes ++ l) c.clear.ensures ∙ append-nil c.note.new.self.bytes
          ∙ (c.note.ensures ∙ ap (λ (l : List ℕ). c.self.inside.past.bytes ++ l) c.as_slice-in-Skipped.ensures)
          ∙ added-whole at,
      added-gone at judged,
    )

pub invariant_of-result-in-Skipped : goal.invariant_of-result-in-Skipped
invariant_of-result-in-Skipped c =
    let at : IsAdded c.self.inside c.args.self c.args.line.now c.append.new.self =
    record {
      reading = c.self.invariant;
      whole = c.self.view_is;
      line_is = c.requires.line;
      few = c.requires.few;
      new_is = c.in_ok-append.ensures;
    } in
    let judged : IsJudged c.append.new.self Skipped =
    judged-at c.as_slice-2.result.now c.append.new.self c.in_ok-judge.field-0 Skipped c.as_slice-2.ensures
    c.in-Skipped.is c.in_ok-judge.ensures in
    record {
      skips = subst (λ (l : List ℕ). Skips l [])
          (sym (c.note.ensures ∙ ap (λ (l : List ℕ). c.self.inside.past.bytes ++ l) c.as_slice-in-Skipped.ensures))
          (added-past at judged);
      undecided = subst (λ (l : List ℕ). IsQuiet [] l) (sym c.clear.ensures) (quiet-nil [] refl);
      line_is = ap (λ (l : List ℕ). list_any is_line_byte l) (sym c.clear.ensures);
      seen_is = omega (
        arith,
        added-seen at,
        ap length (c.note.ensures
            ∙ ap (λ (l : List ℕ). c.self.inside.past.bytes ++ l) c.as_slice-in-Skipped.ensures),
        ap length c.clear.ensures,
        length-append c.self.inside.past.bytes c.append.new.self,
      );
      short = added-few at;
    }
