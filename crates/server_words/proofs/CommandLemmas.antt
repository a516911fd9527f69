-- What `clap` makes of words none of which is empty or begins with `-`.
use Rattle.std.proofs.Common.{◌≡◌, ◌∙◌, ℕ, codes, true, false, refl, sym, ap, ap₂, subst, List, [], ◌∷◌, Option}
use Rattle.std.proofs.Common.{Some, None, option_map, is_some, true≢false}
use Rattle.std.specs.Prelude.{◌==◌}
use Rattle.std.specs.Option.{option_zip}
use Rattle.std.specs.Borrow.{Bor}
use Rattle.clap.specs.Faults.{check_fault, defaults_fault, entered_fault, fault_of, settle_fault, step_fault}
use Rattle.clap.specs.Faults.{turn_fault, walk_fault}
use Rattle.clap.specs.Kinds.{IsAmong, Kinds, or_else}
use Rattle.clap.specs.Simple.{Shape, built, entered, matches_of}
use Rattle.clap.specs.Walk.{Held, Rule, Step, Text, Walk, after_step, arg_by_index, finished, first_of, idle}
use Rattle.clap.specs.Walk.{nothing_held, settled, to_positional, value, walk, walk_from, walked, word_met}
use Rattle.clap.specs.declared.error.ErrorKind.{ErrorKind}
use Rattle.clap.specs.declared.error.ErrorKind.TheVariants.{MissingRequiredArgument, UnknownArgument}
use Rattle.clap.proofs.SimpleLemmas.{is_false}
use Rattle.clap.proofs.WalkLemmas.{both}
use Rattle.value_text.specs.Ascii.{hyphen}
use Rattle.server_words.specs.Private.Command.{two_of, two_texts}
use Rattle.server_words.specs.Words.{are_texts, is_text}

-- ---- one word

-- the walk at a place of a positional, where nothing waits
abbrev stands : Held → ℕ → Walk
stands held position = record { held = held; waiting = idle; position = position; is_trailing = false; stopped = None }

-- the word is a value of a positional
met : (rules : List Rule) (position : ℕ) (held : Held) (word : Text) → is_text word ≡ true
    → word_met rules [] false idle position word held ≡ (held, value)
met rules position held [] text = absurd (true≢false (sym text))
met rules position held (byte ∷ word) text =
    let other : (byte == hyphen) ≡ false = is_false _ text in rw (other, other) refl

-- where the walk stands after it
abbrev passed : List Rule → Held → ℕ → Text → Walk
passed rules held position word = to_positional rules (arg_by_index rules position) word (stands held position) held

walked-one : (rules : List Rule) (position : ℕ) (held : Held) (word : Text) → is_text word ≡ true
    → walked rules [] (stands held position) word ≡ passed rules held position word
unfolding walked
walked-one rules position held word text =
    ap (λ (step : Held × Step). after_step rules word (stands held position) step.0 step.1)
    (met rules position held word text)

-- its fault is that of a value
fault-one : (shape : Shape) (position : ℕ) (held : Held) (word : Text) → is_text word ≡ true
    → turn_fault shape [] (stands held position) word ≡ step_fault shape position held value
fault-one shape position held [] text = absurd (true≢false (sym text))
fault-one shape position held (byte ∷ word) text =
    let other : (byte == hyphen) ≡ false = is_false _ text in rw (other, other) refl

fault-first : (shape : Shape) (position : ℕ) (held : Held) (word : Text) (words : List Text) → is_text word ≡ true
    → walk_fault shape [] (stands held position) (word ∷ words)
    ≡ or_else (step_fault shape position held value)
    (walk_fault shape [] (passed shape.rules held position word) words)
unfolding walk_fault
fault-first shape position held word words text =
    ap₂ (λ (kinds : Kinds) (walk : Walk). or_else kinds (walk_fault shape [] walk words))
    (fault-one shape position held word text) (walked-one shape.rules position held word text)

-- ---- the words, in turn

-- the command, built
abbrev shape : Shape
shape = (built two_texts).top

-- where the walk stands after one word, and after two
abbrev after-one : Text → Walk
after-one first = passed shape.rules nothing_held 1 first

abbrev after-two : Text → Text → Walk
after-two first second = passed shape.rules (after-one first).held 2 second

walk-one : (first : Text) → is_text first ≡ true → walk shape.rules [] nothing_held (first ∷ []) ≡ after-one first
walk-one first text = walked-one shape.rules 1 nothing_held first text

walk-two : (first second : Text) → is_text first ≡ true → is_text second ≡ true
    → walk shape.rules [] nothing_held (first ∷ second ∷ []) ≡ after-two first second
walk-two first second text text' =
    ap (λ (walk : Walk). walked shape.rules [] walk second) (walked-one shape.rules 1 nothing_held first text)
    ∙ walked-one shape.rules 2 (after-one first).held second text'

fault-two : (first : Text) (words : List Text) → is_text first ≡ true
    → walk_fault shape [] (walk_from nothing_held) (first ∷ words) ≡ walk_fault shape [] (after-one first) words
fault-two first words text = fault-first shape 1 nothing_held first words text

fault-three : (first second : Text) (words : List Text) → is_text second ≡ true
    → walk_fault shape [] (after-one first) (second ∷ words) ≡ walk_fault shape [] (after-two first second) words
fault-three first second words text = fault-first shape 2 (after-one first).held second words text

fault-more : (first second third : Text) (words : List Text) → is_text third ≡ true
    → walk_fault shape [] (after-two first second) (third ∷ words) ≡ UnknownArgument ∷ []
fault-more first second third words text = fault-first shape 3 (after-two first second).held third words text

fault-end : (walk : Walk) → walk_fault shape [] walk [] ≡ []
unfolding walk_fault
fault-end walk = refl

-- ---- all of them

-- the faults of words, by where their walk ends and by those of the walk
abbrev faults : Walk → Kinds → Kinds
faults walk kinds =
    or_else kinds
    (or_else (entered_fault (built two_texts) walk.stopped)
    (or_else (settle_fault shape.rules shape.args_override_self walk.held)
    (or_else (defaults_fault (settled shape.rules walk.held).rows shape.rules)
    (check_fault shape (finished shape.rules walk.held) (is_some (entered (built two_texts) walk.stopped))))))

none-fails : fault_of two_texts [] ≡ MissingRequiredArgument ∷ []
unfolding defaults_fault walk_fault
none-fails = refl

one-ends : (first : Text) → faults (after-one first) [] ≡ MissingRequiredArgument ∷ []
unfolding defaults_fault
one-ends first = refl

one-fails : (first : Text) → is_text first ≡ true → fault_of two_texts (first ∷ []) ≡ MissingRequiredArgument ∷ []
one-fails first text =
    ap₂ faults (walk-one first text) (fault-two first [] text ∙ fault-end (after-one first)) ∙ one-ends first

two-end : (first second : Text) → faults (after-two first second) [] ≡ []
unfolding defaults_fault
two-end first second = refl

two-pass : (first second : Text) → is_text first ≡ true → is_text second ≡ true
    → fault_of two_texts (first ∷ second ∷ []) ≡ []
two-pass first second text text' =
    ap₂ faults (walk-two first second text text')
    (fault-two first (second ∷ []) text ∙ fault-three first second [] text' ∙ fault-end (after-two first second))
    ∙ two-end first second

more-fail : (first second third : Text) (words : List Text) → is_text first ≡ true → is_text second ≡ true
    → is_text third ≡ true → fault_of two_texts (first ∷ second ∷ third ∷ words) ≡ UnknownArgument ∷ []
more-fail first second third words text text' text'' =
    ap (faults (walk shape.rules [] nothing_held (first ∷ second ∷ third ∷ words)))
    (fault-two first (second ∷ third ∷ words) text ∙ fault-three first second (third ∷ words) text'
    ∙ fault-more first second third words text'')

-- the values of two words
first-read : (first second : Text) → is_text first ≡ true → is_text second ≡ true
    → first_of (codes "address") (matches_of two_texts (first ∷ second ∷ [])) ≡ Some first
first-read first second text text' =
    ap (λ (walk : Walk). first_of (codes "address") (finished shape.rules walk.held))
    (walk-two first second text text')

second-read : (first second : Text) → is_text first ≡ true → is_text second ≡ true
    → first_of (codes "number") (matches_of two_texts (first ∷ second ∷ [])) ≡ Some second
second-read first second text text' =
    ap (λ (walk : Walk). first_of (codes "number") (finished shape.rules walk.held))
    (walk-two first second text text')

-- ---- what the parse of the words gives

-- the texts behind two references
abbrev pub now : Option (Bor Text) → Option Text
now = option_map (λ text. text.now)

abbrev pub both-now : Option (Bor Text × Bor Text) → Option (Text × Text)
both-now = option_map (λ pair. (pair.0.now, pair.1.now))

zipped : (first second : Option (Bor Text)) (text text' : Text) → now first ≡ Some text → now second ≡ Some text'
    → both-now (option_zip first second) ≡ Some (text, text')
zipped None second text text' is is' = absurd (true≢false (sym (ap is_some is)))
zipped (Some first) None text text' is is' = absurd (true≢false (sym (ap is_some is')))
zipped (Some first) (Some second) text text' is is' = cc

-- where no fault is found the words are two, and are read
pub read : (words : List Text) (first second : Option (Bor Text)) → are_texts words ≡ true
    → fault_of two_texts words ≡ []
    → now first ≡ first_of (codes "address") (matches_of two_texts words)
    → now second ≡ first_of (codes "number") (matches_of two_texts words)
    → both-now (option_zip first second) ≡ two_of words
read [] first second all passes is is' =
    let bad : MissingRequiredArgument ∷ [] ≡ [] = sym none-fails ∙ passes in cc
read (a ∷ []) first second all passes is is' =
    let bad : MissingRequiredArgument ∷ [] ≡ [] = sym (one-fails a (both _ _ all).0) ∙ passes in cc
read (a ∷ b ∷ []) first second all passes is is' =
    let text = both _ _ all in
    let text' = both _ _ text.1 in
    zipped first second a b (is ∙ first-read a b text.0 text'.0) (is' ∙ second-read a b text.0 text'.0)
read (a ∷ b ∷ c ∷ words) first second all passes is is' =
    let text = both _ _ all in
    let text' = both _ _ text.1 in
    let bad : UnknownArgument ∷ [] ≡ [] = sym (more-fail a b c words text.0 text'.0 (both _ _ text'.1).0) ∙ passes in
    cc

-- where one is found they are not two
pub refused : (words : List Text) (kind : ErrorKind) → are_texts words ≡ true
    → IsAmong kind (fault_of two_texts words) → None ≡ two_of words
refused [] kind all fault = refl
refused (a ∷ []) kind all fault = refl
refused (a ∷ b ∷ []) kind all fault =
    let text = both _ _ all in
    let text' = both _ _ text.1 in
    absurd (subst (IsAmong kind) (two-pass a b text.0 text'.0) fault)
refused (a ∷ b ∷ c ∷ words) kind all fault = refl
