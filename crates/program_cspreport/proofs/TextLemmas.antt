-- The text of documents with their reports, one after another.
use Rattle.std.proofs.Common.{◌≡◌, ℕ, ◌+◌, ◌<◌, ◌≤◌, List, [], ◌∷◌, ◌++◌, length, drop, get_or, refl, ap, sym, ◌∙◌}
use Rattle.std.proofs.lemmas.List.{drop_more}
use Rattle.std.proofs.Math.ListN.{drop_of_length-le}
use Rattle.script_events.specs.declared.events.Transcript.{Transcript}
use Rattle.report_delivery.specs.declared.delivery.Delivered.{Delivered}
use Rattle.program_cspreport.specs.Text.{delivered_text, documents_text}

-- the documents at an index, and those after it
pub documents-next : (transcripts : List Transcript) (delivereds : List Delivered) (i : ℕ) (transcript : Transcript)
    (delivered : Delivered) (text : List ℕ) → i < length transcripts → i < length delivereds
    → transcript ≡ get_or transcripts i transcript → delivered ≡ get_or delivereds i delivered
    → text ≡ delivered_text transcript delivered → documents_text (drop i transcripts) (drop i delivereds)
    ≡ text ++ documents_text (drop (i + 1) transcripts) (drop (i + 1) delivereds)
documents-next transcripts delivereds i transcript delivered text few many at here is =
    ap (λ (l : List Transcript). documents_text l (drop i delivereds))
    (drop_more transcripts i transcript few ∙ ap (λ (t : Transcript). t ∷ drop (i + 1) transcripts) (sym at))
    ∙ ap (λ (l : List Delivered). documents_text (transcript ∷ drop (i + 1) transcripts) l)
    (drop_more delivereds i delivered many ∙ ap (λ (d : Delivered). d ∷ drop (i + 1) delivereds) (sym here))
    ∙ ap (λ (l : List ℕ). l ++ documents_text (drop (i + 1) transcripts) (drop (i + 1) delivereds)) (sym is)

-- after the last there are no others
pub documents-end : (transcripts : List Transcript) (delivereds : List Delivered) (i : ℕ)
    → length delivereds ≤ i → documents_text (drop i transcripts) (drop i delivereds) ≡ []
documents-end transcripts delivereds i end =
    ap (documents_text (drop i transcripts)) (drop_of_length-le delivereds {i = i} end)
    ∙ none (drop i transcripts)
  where
    none : (ts : List Transcript) → documents_text ts [] ≡ []
    none [] = refl
    none (t ∷ ts) = refl
