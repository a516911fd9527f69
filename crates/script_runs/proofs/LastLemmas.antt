-- Where the last result is, with one event more.
use Rattle.std.proofs.Common.{◌≡◌, ℕ, ◌+◌, ◌<◌, Bool, true, false, List, [], ◌∷◌, ◌++◌, length, get_or, Option, Some}
use Rattle.std.proofs.Common.{None}
use Rattle.std.proofs.Common.{refl, ap, sym, ◌∙◌, arith}
use Rattle.std.proofs.lemmas.List.{length-append}
use Rattle.std.proofs.lemmas.List.Sums.{sum_by-append}
use Rattle.std.proofs.lemmas.Option.{slice_get-get_or}
use Rattle.std.proofs.Math.ListN.{get_or-append}
use Rattle.std.specs.Prelude.{◌-◌, ◌^◌, min, slice_get, cond}
use Rattle.script_lines.specs.Lengths.{capped, event_length}
use Rattle.script_runs.specs.Runs.{text_length}
use Rattle.std.specs.Option.{option_or}
use Rattle.script_events.specs.declared.events.Event.{Event}
use Rattle.script_filling.specs.Results.{is_result, last_result, result_in}
use Rattle.script_runs.specs.Private.Lasts.{IsLast, last_index}

-- ---- an element of a longer list

get-front : (es fs : List Event) (i : ℕ) → i < length es → slice_get (es ++ fs) i ≡ slice_get es i
get-front [] fs i lt = absurd (omega (arith, lt))
get-front (e ∷ es) fs i lt =
    slice_get-get_or ((e ∷ es) ++ fs) i e (omega (arith, lt, length-append (e ∷ es) fs))
    ∙ ap (λ (x : Event). let o : Option Event = Some x in o) (get_or-append (e ∷ es) fs e i lt)
    ∙ sym (slice_get-get_or (e ∷ es) i e lt)

last-is : (es : List Event) (e : Event) → get_or (es ++ e ∷ []) (length es) e ≡ e
last-is [] e = refl
last-is (f ∷ es) e = last-is es e

get-last : (es : List Event) (e : Event) → slice_get (es ++ e ∷ []) (length es) ≡ Some e
get-last es e =
    slice_get-get_or (es ++ e ∷ []) (length es) e (omega (arith, length-append es (e ∷ [])))
    ∙ ap (λ (x : Event). let o : Option Event = Some x in o) (last-is es e)

-- ---- the last result

or-none : (x : Option Event) → option_or None x ≡ option_or x None
or-none None = refl
or-none (Some e) = refl

or-assoc : (x y z : Option Event) → option_or (option_or x y) z ≡ option_or x (option_or y z)
or-assoc None y z = refl
or-assoc (Some e) y z = refl

last-more : (es : List Event) (e : Event) → last_result (es ++ e ∷ []) ≡ option_or (result_in e) (last_result es)
last-more [] e = or-none (result_in e)
last-more (f ∷ es) e =
    ap (λ (o : Option Event). option_or o (result_in f)) (last-more es e)
    ∙ or-assoc (result_in e) (last_result es) (result_in f)

-- the last result is another
is-another : (es : List Event) (e : Event) (count : ℕ) → count ≡ length es → is_result e ≡ true
    → IsLast (Some count) (es ++ e ∷ [])
is-another es e count all is = (
  omega (arith, all, length-append es (e ∷ [])),
  last-more es e
      ∙ ap (λ (b : Bool). option_or (cond b (Some e) None) (last_result es)) is
      ∙ sym (ap (λ (n : ℕ). slice_get (es ++ e ∷ []) n) all ∙ get-last es e),
)

-- or the same
still-none : (es : List Event) (e : Event) → is_result e ≡ false → last_result (es ++ e ∷ []) ≡ last_result es
still-none es e is = last-more es e ∙ ap (λ (b : Bool). option_or (cond b (Some e) None) (last_result es)) is

is-same : (last : Option ℕ) (es : List Event) (e : Event) → is_result e ≡ false → IsLast last es
    → IsLast last (es ++ e ∷ [])
is-same None es e is none = still-none es e is ∙ none
is-same (Some index) es e is there = (
  omega (arith, there.0, length-append es (e ∷ [])),
  still-none es e is ∙ there.1
      ∙ sym (get-front es (e ∷ []) index there.0),
)

by-test : (test : Bool) (last : Option ℕ) (es : List Event) (e : Event) (count : ℕ) → count ≡ length es
    → is_result e ≡ test → IsLast last es → IsLast (cond test (Some count) last) (es ++ e ∷ [])
by-test true last es e count all is there = is-another es e count all is
by-test false last es e count all is there = is-same last es e is there

pub last-grows : (last next : Option ℕ) (es fs : List Event) (e : Event) (count : ℕ) → count ≡ length es
    → next ≡ last_index last count e → fs ≡ es ++ e ∷ [] → IsLast last es → IsLast next fs
last-grows last next es fs e count all is more there =
    rw (is, more) (by-test (is_result e) last es e count all refl there)

-- ---- how long the lines are

pub printed-grows : (es fs : List Event) (e : Event) (printed more now : ℕ) → printed ≡ capped (text_length es)
    → more ≡ capped (event_length e) → now ≡ min (printed + more) (2 ^ 64 - 1) → fs ≡ es ++ e ∷ []
    → now ≡ capped (text_length fs)
printed-grows es fs e printed more now so long sum added =
    rw added (omega (arith, so, long, sum, sum_by-append event_length es (e ∷ [])))
