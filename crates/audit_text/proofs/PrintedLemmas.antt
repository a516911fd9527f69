-- The text of plain transcripts and a history holds the history.
use Rattle.std.proofs.Common.{◌≢◌, ℕ, List, [], ◌∷◌, ◌++◌, ap, append_assoc, codes, map, refl, sym, ◌∙◌}
use Rattle.std.specs.Prelude.{decimal}
use Rattle.std.specs.List.{All, AllByRecursion, flat_map}
use Rattle.std.proofs.lemmas.List.Elements.{All-cons, All-nil, All-weaker}
use Rattle.book_calls.specs.declared.entry.Entry.{Entry}
use Rattle.script_lines.specs.Calls.{call_text}
use Rattle.script_lines.specs.Lines.{line}
use Rattle.play_text.specs.Plain.{IsLine}
use Rattle.play_text.specs.Text.{history_text, transcript_text}
use Rattle.audit_text.specs.Entries.{IsEntry}
use Rattle.audit_text.specs.Histories.{AreLinesOf, heading, lined}
use Rattle.audit_text.specs.Laws.{PrintedHolds}
use Rattle.audit_text.specs.Private.Cuts.{IsOther}
use Rattle.audit_text.proofs.OneLemmas.{lines-text}
use Rattle.audit_text.proofs.PlainLemmas.{both-lines, call-line, first-line, joined-line, number-line}
use Rattle.audit_text.proofs.PlainLemmas.{transcripts-lines}

-- the line of an entry, its LF aside
abbrev text_of : Entry → List ℕ
text_of entry =
    decimal entry.turn ++ codes " " ++ decimal entry.document ++ codes " " ++ call_text entry.op entry.reply

entry-line : (entry : Entry) → IsEntry entry → IsLine (text_of entry)
entry-line entry is =
    joined-line (decimal entry.turn)
    (codes " " ∷ decimal entry.document ∷ codes " " ∷ call_text entry.op entry.reply ∷ []) (number-line entry.turn)
    (refl, (number-line entry.document, (refl, (call-line entry.op entry.reply is.words, tt))))

entries-are : (history : List Entry) → AllByRecursion IsEntry history → All IsLine (map text_of history)
entries-are [] are = All-nil IsLine
entries-are (entry ∷ history) are =
    All-cons IsLine (text_of entry) (map text_of history) (entry-line entry are.0) (entries-are history are.1)

entries-of : (history : List Entry) → AllByRecursion IsEntry history → AreLinesOf (map text_of history) history
entries-of [] are = tt
entries-of (entry ∷ history) are = (record { is_entry = are.0; text_is = refl }, entries-of history are.1)

pub printed-holds : PrintedHolds
printed-holds transcripts history plain are =
    let front = line (codes "fetchplay 1") ++ flat_map transcript_text transcripts in
    let before = both-lines (line (codes "fetchplay 1")) (flat_map transcript_text transcripts) first-line
    (transcripts-lines transcripts plain) in
    let lines = map text_of history in
    let entries = entries-of history are in
    let end = line (codes "done") in
    record {
      before = before.lines;
      lines = lines;
      has = record {
        before_are = All-weaker IsOther IsLine (λ text is. is.is_line) before.lines before.are;
        first = All-weaker IsOther (λ text. text ≢ heading) (λ text is. is.other) before.lines before.are;
        lines_are = entries-are history are;
        text_is = append_assoc (front ++ line heading) (history_text history) end
            ∙ append_assoc front (line heading) (history_text history ++ end)
            ∙ ap (λ (l : List ℕ). l ++ (line heading ++ (history_text history ++ end))) before.text_is
            ∙ ap (λ (l : List ℕ). lined before.lines ++ (line heading ++ (l ++ end))) (sym (lines-text lines history entries));
      };
      entries = entries;
    }
