-- The commands of a script.
use Rattle.script_scenarios.specs.declared.command.Command.{Command}
use Rattle.script_scenarios.specs.ValidScripts.{AreValid, IsValidStep}
use Rattle.play_documents.proofs.Words.{[], ℕ, ◌+◌, ◌-◌, ◌<◌, ◌∷◌, ◌≡◌, ◌≤◌, Answering, Ending, HasSpent, IsAtEnd}
use Rattle.play_documents.proofs.Words.{LeadsTo, List, MayGoOn, Next, None, Option, PartReached, Rule, RuleCut}
use Rattle.play_documents.proofs.Words.{RulePlayed, Some, Standing, Steps, Terms, add-one, ap, arith, command_started}
use Rattle.play_documents.proofs.Words.{drop, drop-cons, drop_all, false, get_or, is_some, length, limit_before, refl}
use Rattle.play_documents.proofs.Words.{repeated, rules, script_run, step_of, step_size, steps_of, steps_size, subst}
use Rattle.play_documents.proofs.Words.{suc, sym, true, unless_limit, zero}
use Rattle.play_documents.proofs.PartLemmas.{cut-inside, played-cut, played-inside, played-none, played-then}

-- no ending
pub no-ending : {ending : Option Ending} → is_some ending ≡ false → ending ≡ None
no-ending {ending = None} is = refl
no-ending {ending = Some ending} is = absurd (cc)

-- ---- commands in memory

drop-at : (items : List Command) (index : ℕ) (one : Command) → index < length items → one ≡ get_or items index one
    → drop index items ≡ one ∷ drop (index + 1) items
drop-at items index one lt is =
    rw (add-one, drop-cons items index one lt) (ap (λ (y : Command). y ∷ drop (suc index) items) (sym is))

-- the command at an index is valid, and no larger than the whole
pub command-at : (items : List Command) (index : ℕ) (one : Command) → index < length items
    → one ≡ get_or items index one → AreValid (steps_of items)
    → IsValidStep (step_of one) × (step_size (step_of one) ≤ steps_size (steps_of items))
command-at [] index one lt is valid = absurd (omega (arith, lt))
command-at (x ∷ items) zero one lt is valid = rw is (valid.0, omega arith)
command-at (x ∷ items) (suc index) one lt is valid =
    let more = command-at items index one (omega (arith, lt)) is valid.1 in (more.0, omega (arith, more.1))

-- ---- standings

-- a run that has spent no more than it may goes on, where nothing is to come
pub goes-on : {State : Type 0} {a b : Standing State} → MayGoOn a → HasSpent a b → IsAtEnd b.world.exchange.left
    → MayGoOn b
goes-on goes spent rests = search rules

module _ {State : Type 0} (by : Answering State) where
  -- ---- scripts

  -- the commands so far were played, and the others follow
  pub record IsAt (items : List Command) (index : ℕ) (old now : Standing State) : Type 0 where
    pub played : LeadsTo by (λ lent. script_run lent (steps_of items)) old
        (λ lent. script_run lent (steps_of (drop index items))) now

  -- the rounds so far were played, and the others follow
  pub record IsRound (times : ℕ) (part : Steps) (round : ℕ) (old now : Standing State) : Type 0 where
    pub played : LeadsTo by (λ lent. repeated times (script_run lent part)) old
        (λ lent. repeated (times - round) (script_run lent part)) now

module _ {State : Type 0} {by : Answering State} where
  -- a part of a rule was played, and the first of what is left came to an ending of the run
  ended-in : {first rule : Rule} {ending : Option Ending} {a b c : Standing State} (onward : Next → Next)
      → LeadsTo by rule a (λ lent next. first lent (onward next)) b → is_some ending ≡ true
      → RulePlayed by first b ending c → RulePlayed by rule a ending c
  ended-in {ending = None} onward at some x = absurd (cc)
  ended-in {ending = Some ending} onward at some x =
      record { played = played-then at (played-inside onward x.played); rests = x.rests }

  -- or it came to a limit
  limited-in : {rule : Rule} {ending : Option Ending} {a b : Standing State} (onward : Next → Next)
      → LeadsTo by rule a (λ lent next. unless_limit ending (onward next)) b → is_some ending ≡ true
      → IsAtEnd b.world.exchange.left → RulePlayed by rule a ending b
  limited-in {ending = None} onward at some rests = absurd (cc)
  limited-in {ending = Some ending} onward at some rests = record { played = at; rests = rests }

  -- ---- scripts

  pub script-start : {items : List Command} {a : Standing State} → IsAt by items 0 a a
  script-start = record { played = played-none }

  module _ {items : List Command} {index : ℕ} {reached : Option Ending} {old now : Standing State} (one : Command)
      (at : IsAt by items index old now) (within : index < length items) (is : one ≡ get_or items index one)
      (limited : reached ≡ limit_before (step_of one) now.progress) where
    -- the commands behind it
    abbrev others : Next → Next
    others next = script_run now.terms.setting (steps_of (drop (index + 1) items)) next

    -- a limit, or the command at the index, and then the others
    at-command : LeadsTo by (λ lent. script_run lent (steps_of items)) old
        (λ lent next. unless_limit reached (command_started lent (step_of one) (others next))) now
    at-command = rw limited (rw (drop-at items index one within is) at at.played)

    -- a limit ends the run before the command
    pub script-limited : is_some reached ≡ true → IsAtEnd now.world.exchange.left
        → RulePlayed by (λ lent. script_run lent (steps_of items)) old reached now
    script-limited some rests = limited-in (λ next. command_started now.terms.setting (step_of one) (others next))
        at-command some rests

    module _ (free : is_some reached ≡ false) where
      -- the command before which there is none
      at-free : LeadsTo by (λ lent. script_run lent (steps_of items)) old
          (λ lent next. command_started lent (step_of one) (others next)) now
      at-free = rw (no-ending free) at at-command

      -- the command was played
      pub script-next : {ending : Option Ending} {later : Standing State} → is_some ending ≡ false
          → RulePlayed by (λ lent. command_started lent (step_of one)) now ending later
          → IsAt by items (index + 1) old later
      script-next {later = later} goes x = record {
        played = subst (λ (t : Terms). PartReached by
            (λ (next : Next). script_run old.terms.setting (steps_of items) next old.progress)
            old (λ next. script_run t.setting (steps_of (drop (index + 1) items)) next later.progress) later)
            (sym x.played.same) (played-then at-free (played-inside others (rw (no-ending goes) at x.played)));
      }

      -- it ended the run
      pub script-ended : {ending : Option Ending} {later : Standing State} → is_some ending ≡ true
          → RulePlayed by (λ lent. command_started lent (step_of one)) now ending later
          → RulePlayed by (λ lent. script_run lent (steps_of items)) old ending later
      script-ended = ended-in others at-free

      -- memory was refused in it
      pub script-cut : {later : Standing State} → RuleCut by (λ lent. command_started lent (step_of one)) now later
          → RuleCut by (λ lent. script_run lent (steps_of items)) old later
      script-cut x = played-cut at-free (cut-inside others x)

  -- all commands were played
  pub script-over : (items : List Command) (index : ℕ) {old now : Standing State} → IsAt by items index old now
      → length items ≤ index → IsAtEnd now.world.exchange.left
      → RulePlayed by (λ lent. script_run lent (steps_of items)) old None now
  script-over items index at past rests =
      record { played = rw (drop_all index items past) at at.played; rests = rests }

  -- ---- a script so many times

  pub round-start : {times : ℕ} {part : Steps} {a : Standing State} → IsRound by times part 0 a a
  round-start {times = times} =
      record { played = rw (let e : times - 0 ≡ times = omega arith in e) played-none }

  module _ {times : ℕ} {part : Steps} {round : ℕ} {old now : Standing State} (at : IsRound by times part round old now)
      (within : round < times) where
    -- the rounds behind it
    abbrev rounds : Next → Next
    rounds next = repeated (times - (round + 1)) (script_run now.terms.setting part) next

    at-round : LeadsTo by (λ lent. repeated times (script_run lent part)) old
        (λ lent next. script_run lent part (rounds next)) now
    at-round = rw (let e : times - round ≡ suc (times - (round + 1)) = omega (arith, within) in e) at at.played

    pub round-next : {ending : Option Ending} {later : Standing State} → is_some ending ≡ false
        → RulePlayed by (λ lent. script_run lent part) now ending later → IsRound by times part (round + 1) old later
    round-next {later = later} goes x = record {
      played = subst (λ (t : Terms). PartReached by
          (λ (next : Next). repeated times (script_run old.terms.setting part) next old.progress)
          old (λ next. repeated (times - (round + 1)) (script_run t.setting part) next later.progress) later)
          (sym x.played.same) (played-then at-round (played-inside rounds (rw (no-ending goes) at x.played)));
    }

    pub round-ended : {ending : Option Ending} {later : Standing State} → is_some ending ≡ true
        → RulePlayed by (λ lent. script_run lent part) now ending later
        → RulePlayed by (λ lent. repeated times (script_run lent part)) old ending later
    round-ended = ended-in rounds at-round

    pub round-cut : {later : Standing State} → RuleCut by (λ lent. script_run lent part) now later
        → RuleCut by (λ lent. repeated times (script_run lent part)) old later
    round-cut x = played-cut at-round (cut-inside rounds x)

  pub round-over : {times : ℕ} {part : Steps} {round : ℕ} {old now : Standing State}
      → IsRound by times part round old now → times ≤ round → IsAtEnd now.world.exchange.left
      → RulePlayed by (λ lent. repeated times (script_run lent part)) old None now
  round-over {times = times} {round = round} at past rests =
      record { played = rw (let e : times - round ≡ 0 = omega (arith, past) in e) at at.played; rests = rests }
