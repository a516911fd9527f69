-- What escaping does to runs of plain bytes, and to texts one after the other.
use Rattle.std.proofs.Common.{◌≡◌, ◌+◌, ◌&&◌, ℕ, Bool, true, false, List, [], ◌∷◌, ◌++◌, take, drop, length, suc}
use Rattle.std.proofs.Common.{refl, ap}
use Rattle.std.proofs.Common.{sym, ◌∙◌, arith, cond, subst}
use Rattle.std.specs.List.{flat_map, list_all, prefix_len}
use Rattle.std.proofs.lemmas.List.{append-nil, nil_from_length}
use Rattle.script_lines.specs.Escapes.{escaped, hex_escape, is_plain}

-- a byte by itself where the test holds
abbrev pub kept_or : (ℕ → Bool) → (ℕ → List ℕ) → ℕ → List ℕ
kept_or test other byte = cond (test byte) (byte ∷ []) (other byte)

-- the first bytes for which the test holds are kept as they are
pub flat_map-kept : (test : ℕ → Bool) (other : ℕ → List ℕ) (text : List ℕ) → flat_map (kept_or test other) text
    ≡ take (prefix_len test text) text ++ flat_map (kept_or test other) (drop (prefix_len test text) text)
flat_map-kept test other [] = refl
flat_map-kept test other (byte ∷ text) = split (test byte) refl (flat_map-kept test other text)
  where
    f : ℕ → List ℕ
    f = kept_or test other

    split : (v : Bool) → test byte ≡ v → flat_map f text ≡ take (prefix_len test text) text
        ++ flat_map f (drop (prefix_len test text) text) → cond v (byte ∷ []) (other byte) ++ flat_map f text
        ≡ take (cond v (1 + prefix_len test text) 0) (byte ∷ text)
        ++ flat_map f (drop (cond v (1 + prefix_len test text) 0) (byte ∷ text))
    split true is more =
        let n : suc (prefix_len test text) ≡ 1 + prefix_len test text = omega arith in
        subst (λ (m : ℕ). byte ∷ flat_map f text ≡ take m (byte ∷ text)
        ++ flat_map f (drop m (byte ∷ text))) n (ap (λ (l : List ℕ). byte ∷ l) more)
    split false is more = ap (λ (b : Bool). cond b (byte ∷ []) (other byte) ++ flat_map f text) (sym is)

-- the test does not hold for the byte after them
pub behind_kept : (test : ℕ → Bool) (text : List ℕ) (byte : ℕ) (after : List ℕ) → drop (prefix_len test text) text
    ≡ byte ∷ after → test byte ≡ false
behind_kept test [] byte after e = cc
behind_kept test (first ∷ text) byte after e = split (test first) refl (behind_kept test text byte after) e
  where
    split : (v : Bool) → test first ≡ v → (drop (prefix_len test text) text ≡ byte ∷ after → test byte ≡ false)
        → drop (cond v (1 + prefix_len test text) 0) (first ∷ text) ≡ byte ∷ after → test byte ≡ false
    split true is more e =
        let n : suc (prefix_len test text) ≡ 1 + prefix_len test text = omega arith in
        more (subst (λ (m : ℕ). drop m (first ∷ text) ≡ byte ∷ after) (sym n) e)
    split false is more e = cc

-- a run of plain bytes, and the byte after it
pub escaped_run : (text run after : List ℕ) (byte n : ℕ) → n ≡ prefix_len is_plain text → run ≡ take n text
    → drop n text ≡ byte ∷ after → escaped text ≡ run ++ (hex_escape byte ++ escaped after)
escaped_run text run after byte n is front back =
    let behind : drop (prefix_len is_plain text) text ≡ byte ∷ after =
    subst (λ (m : ℕ). drop m text ≡ byte ∷ after) is back in
    let before : take (prefix_len is_plain text) text ≡ run = ap (λ (m : ℕ). take m text) (sym is) ∙ sym front in
    flat_map-kept is_plain hex_escape text
    ∙ ap (λ (l : List ℕ). l ++ escaped (drop (prefix_len is_plain text) text)) before
    ∙ ap (λ (l : List ℕ). run ++ l) (ap escaped behind
    ∙ ap (λ (b : Bool). cond b (byte ∷ []) (hex_escape byte)
    ++ escaped after) (behind_kept is_plain text byte after behind))

-- plain bytes alone
pub escaped_plain : (text run : List ℕ) (n : ℕ) → n ≡ prefix_len is_plain text → run ≡ take n text
    → length (drop n text) ≡ 0 → escaped text ≡ run
escaped_plain text run n is front back =
    let behind : drop (prefix_len is_plain text) text ≡ [] =
    subst (λ (m : ℕ). drop m text ≡ []) is (nil_from_length (drop n text) back) in
    let before : take (prefix_len is_plain text) text ≡ run = ap (λ (m : ℕ). take m text) (sym is) ∙ sym front in
    flat_map-kept is_plain hex_escape text
    ∙ ap (λ (l : List ℕ). take (prefix_len is_plain text) text ++ escaped l) behind
    ∙ append-nil (take (prefix_len is_plain text) text) ∙ before

-- a text of plain bytes alone is written as it is
pub escaped-all_plain : (text : List ℕ) → list_all is_plain text ≡ true → escaped text ≡ text
escaped-all_plain [] all = refl
escaped-all_plain (byte ∷ text) all = split (is_plain byte) refl (escaped-all_plain text) all
  where
    split : (v : Bool) → is_plain byte ≡ v → (list_all is_plain text ≡ true → escaped text ≡ text)
        → (v && list_all is_plain text) ≡ true
        → cond (is_plain byte) (byte ∷ []) (hex_escape byte) ++ escaped text ≡ byte ∷ text
    split true is more all = rw is (ap (λ (l : List ℕ). byte ∷ l) (more all))
    split false is more all = cc
