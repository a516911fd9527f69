-- The labels of a name, counted from its end.
use Rattle.std.proofs.Common.{◌≡◌, ◌≢◌, ◌==◌, ◌+◌, ◌-◌, ◌<◌, ◌≤◌, ℕ, true, false, cond, List, [], ◌∷◌, ◌++◌, All}
use Rattle.std.proofs.Common.{length, get_or, take, drop, refl, ap, sym, ◌∙◌, arith, append_assoc, length-append}
use Rattle.std.proofs.lemmas.Bool.{ne_eqb}
use Rattle.std.proofs.lemmas.List.Elements.{All-weaker}
use Rattle.std.proofs.lemmas.List.Splits.{length-slice_split, slice_split_none}
use Rattle.std.proofs.Math.Seq.{drop-append-add, drop-append_seam}
use Rattle.std.specs.List.{join_with_byte, onto_first}
use Rattle.url.proofs.InputLemmas.{All-drop_from_reads, split_around}
use Rattle.value_origins.specs.Private.Cut.{IsCutAtLastDot}
use Rattle.value_origins.specs.Names.{labels, last_two, last_two_labels}

-- the byte is no dot
abbrev IsNoDot : ℕ → Type 0
IsNoDot byte = byte ≢ 46

-- a name without dots is one label
pub labels-none : (name : List ℕ) → All IsNoDot name → labels name ≡ name ∷ []
labels-none name none =
    slice_split_none (λ byte. byte == 46) name
    (All-weaker IsNoDot (λ byte. (byte == 46) ≡ false) (λ byte differs. ne_eqb byte 46 differs) name none)

-- a byte before a list of labels, and before the same with one more label
one-more : (byte : ℕ) (parts : List (List ℕ)) (last : List ℕ) → 0 < length parts
    → cond (byte == 46) ([] ∷ (parts ++ last ∷ [])) (onto_first byte (parts ++ last ∷ []))
    ≡ cond (byte == 46) ([] ∷ parts) (onto_first byte parts) ++ last ∷ []
one-more byte [] last some = absurd (omega arith)
one-more byte (part ∷ parts) last some =
    elim (byte == 46)
    as (λ v. cond v ([] ∷ (part ∷ parts ++ last ∷ [])) (onto_first byte (part ∷ parts ++ last ∷ []))
    ≡ cond v ([] ∷ (part ∷ parts)) (onto_first byte (part ∷ parts)) ++ last ∷ [])
    [ true ↦ refl | false ↦ refl ]

-- what is after the last dot is the last label
labels-cut : (front last : List ℕ) → All IsNoDot last → labels (front ++ 46 ∷ last) ≡ labels front ++ last ∷ []
labels-cut [] last none = ap (λ l. [] ∷ l) (labels-none last none)
labels-cut (byte ∷ front) last none =
    ap (λ l. cond (byte == 46) ([] ∷ l) (onto_first byte l)) (labels-cut front last none)
    ∙ one-more byte (labels front) last (omega (arith, length-slice_split (λ b. b == 46) front))

pub cut-at_last_dot : (name : List ℕ) (dot : ℕ) → dot < length name → get_or name dot 0 ≡ 46
    → ((k : ℕ) → dot + 1 ≤ k → k < length name → get_or name k 0 ≢ 46)
    → IsCutAtLastDot name (take dot name) (drop (dot + 1) name)
cut-at_last_dot name dot inside here after =
    let around = split_around name dot 46 inside here in
    record {
      parts = around;
      labels_are = ap labels around
          ∙ labels-cut (take dot name) (drop (dot + 1) name) (All-drop_from_reads IsNoDot name (dot + 1) after);
    }

-- the last two of a list that ends in two items
last_two-append : (parts : List (List ℕ)) (label last : List ℕ) → last_two ((parts ++ label ∷ []) ++ last ∷ [])
    ≡ label ∷ last ∷ []
last_two-append parts label last =
    let two : List (List ℕ) = label ∷ last ∷ [] in
    let before : length (parts ++ two) - 2 ≡ length parts = omega (arith, length-append parts two) in
    ap last_two (append_assoc parts (label ∷ []) (last ∷ [])) ∙ ap (λ n. drop n (parts ++ two)) before
    ∙ drop-append_seam parts two

-- two cuts leave the last two labels
pub last_two_labels-cut : (name front last before label : List ℕ) → IsCutAtLastDot name front last
    → IsCutAtLastDot front before label → drop (length before + 1) name ≡ last_two_labels name
last_two_labels-cut name front last before label cut again =
    let whole : name ≡ before ++ (46 ∷ (label ++ 46 ∷ last)) =
    cut.parts ∙ ap (λ l. l ++ 46 ∷ last) again.parts ∙ append_assoc before (46 ∷ label) (46 ∷ last) in
    let left : drop (length before + 1) name ≡ label ++ 46 ∷ last =
    ap (drop (length before + 1)) whole ∙ drop-append-add before (46 ∷ (label ++ 46 ∷ last)) 1 in
    let parts : labels name ≡ (labels before ++ label ∷ []) ++ last ∷ [] =
    cut.labels_are ∙ ap (λ l. l ++ last ∷ []) again.labels_are in
    left ∙ sym (ap (λ l. join_with_byte 46 (last_two l)) parts
    ∙ ap (join_with_byte 46) (last_two-append (labels before) label last))
