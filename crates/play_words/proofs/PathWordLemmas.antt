-- The path of an http or https URL that a text gives is visible.
use Rattle.std.proofs.Common.{◌≡◌, ℕ, Bool, true, false, not, ◌&&◌, cond, List, [], ◌∷◌, ◌++◌, drop}
use Rattle.std.proofs.Common.{Option, Some, None, refl, arith, All, get_or}
use Rattle.std.specs.Prelude.{unwrap_or, ◌==◌}
use Rattle.std.proofs.lemmas.Bool.{cond_both}
use Rattle.std.proofs.lemmas.Bool.Decides.{nat_tests}
use Rattle.std.proofs.lemmas.List.Elements.{All-append, All-cons, All-head, All-nil, All-tail}
use Rattle.percent_encoding.specs.declared.ascii_set.AsciiSet.{AsciiSet}
use Rattle.percent_encoding.specs.Percent.{percent_encode}
use Rattle.percent_encoding.proofs.PercentLemmas.{All-percent_encode, IsEscapeByte}
use Rattle.url.specs.declared.sets.TheConstants.{PATH}
use Rattle.url.specs.declared.scheme.SchemeType.TheVariants.{SpecialNotFile}
use Rattle.url.specs.Input.{is_empty, rsplit_once, rsplit_step, when}
use Rattle.url.specs.Path.{dot_count, parse_path, parse_path_start, parse_segments, push_segment, segment_text}
use Rattle.url.specs.Path.{shorten_path, without_last_segment}
use Rattle.url.specs.Scheme.{is_slash, is_special}
use Rattle.url.proofs.InputLemmas.{Passes}
use Rattle.url.proofs.SetLemmas.{outside_pass, passes_from_kept}
use Rattle.url.proofs.TextLemmas.{All_one}
use Rattle.play_text.specs.Words.{is_visible}

-- each byte is visible
abbrev pub AreVisible : List ℕ → Type 0
AreVisible text = All (Passes is_visible) text

-- ---- what is escaped

escape-visible : (byte : ℕ) → IsEscapeByte byte → Passes is_visible byte
escape-visible byte is = grind (arith, nat_tests)

-- the escapes of a set that has each byte that is not visible
pub escaped-visible : (set : AsciiSet) → outside_pass set is_visible ≡ true → (text : List ℕ)
    → AreVisible (percent_encode set text)
escaped-visible set all text =
    All-percent_encode (Passes is_visible) set text (passes_from_kept set is_visible all) escape-visible

-- ---- paths

-- where it is there
abbrev pub AreVisibleIn : Option (List ℕ) → Type 0
AreVisibleIn part = AreVisible (unwrap_or part [])

front-step : (byte : ℕ) (front : Option (List ℕ)) (back : List ℕ) → Passes is_visible byte → AreVisibleIn front
    → AreVisibleIn (rsplit_step 47 byte front back).0
front-step byte (Some front) back is all = All-cons (Passes is_visible) byte front is all
front-step byte None back is all = by (byte == 47)
  where
    by : (b : Bool)
        → AreVisibleIn ((cond {A = Option (List ℕ) × List ℕ} b (Some [], back) (None, byte ∷ back)).0)
    by true = All-nil (Passes is_visible)
    by false = All-nil (Passes is_visible)

front-visible : (path : List ℕ) → AreVisible path → AreVisible (without_last_segment path)
unfolding rsplit_once
front-visible [] all = All-nil (Passes is_visible)
front-visible (byte ∷ path) all =
    front-step byte (rsplit_once 47 path).0 (rsplit_once 47 path).1 (All-head (Passes is_visible) byte path all)
    (front-visible path (All-tail (Passes is_visible) byte path all))

pub shorten-visible : (path : List ℕ) → AreVisible path → AreVisible (shorten_path SpecialNotFile path)
unfolding shorten_path
shorten-visible path all = front-visible path all

push-visible : (path segment : List ℕ) (is_last : Bool) → AreVisible path
    → AreVisible (push_segment SpecialNotFile path segment is_last)
unfolding push_segment
push-visible path segment is_last all =
    let P = Passes is_visible in
    let last = All_one P is_last 47 refl in
    cond_both (dot_count segment == 2) _ _ AreVisible
    (λ _. All-append P (shorten_path SpecialNotFile path) (when is_last (47 ∷ [])) (shorten-visible path all) last)
    (λ _. cond_both (dot_count segment == 1) _ _ AreVisible
    (λ _. All-append P path (when is_last (47 ∷ [])) all last)
    (λ _. All-append P path (47 ∷ segment_text SpecialNotFile path segment) all
    (All-cons P 47 (segment_text SpecialNotFile path segment) refl (escaped-visible PATH refl segment))))

pub segments-visible : (path segment bytes : List ℕ) → AreVisible path
    → AreVisible (parse_segments SpecialNotFile path segment bytes)
unfolding parse_segments
segments-visible path segment [] all = push-visible path segment true all
segments-visible path segment (byte ∷ bytes) all =
    cond_both (is_slash SpecialNotFile byte) _ _ AreVisible
    (λ _. segments-visible (push_segment SpecialNotFile path segment false) [] bytes
    (push-visible path segment false all))
    (λ _. segments-visible path (segment ++ byte ∷ []) bytes all)

pub start-visible : (bytes : List ℕ) → AreVisible (parse_path_start SpecialNotFile [] bytes)
unfolding parse_path_start
start-visible bytes =
    let none = All-nil (Passes is_visible) in
    cond_both (is_empty bytes && not (is_special SpecialNotFile)) []
    (cond (is_slash SpecialNotFile (get_or bytes 0 0)) (parse_path SpecialNotFile [] (drop 1 bytes))
    (parse_path SpecialNotFile [] bytes))
    AreVisible (λ _. none)
    (λ _. cond_both (is_slash SpecialNotFile (get_or bytes 0 0)) (parse_path SpecialNotFile [] (drop 1 bytes))
    (parse_path SpecialNotFile [] bytes) AreVisible
    (λ _. segments-visible [] [] (drop 1 bytes) none) (λ _. segments-visible [] [] bytes none))
