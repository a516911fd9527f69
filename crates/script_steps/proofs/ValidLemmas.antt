-- Every script that is read is valid, and holds no more `repeat` and `if` inside each other than it may.
use Rattle.std.proofs.Common.{◌≡◌, ℕ, zero, suc, ◌+◌, ◌≤◌, Bool, true, false, List, [], ◌∷◌, Option, Some, None}
use Rattle.std.proofs.Common.{Ok, Err, refl, subst, arith}
use Rattle.std.specs.Prelude.{codes, decimal, IfSome, IsTrue, option_map, option_and_then, ◌≢◌}
use Rattle.std.specs.List.{AllByRecursion}
use Rattle.std.proofs.lemmas.List.Elements.{All-nil, recursion_from_All}
use Rattle.std.proofs.lemmas.List.Sums.{AllPass-from_list_all}
use Rattle.serde_json.specs.Data.{Data}
use Rattle.serde_json.specs.Find.{as_array}
use Rattle.value_requests.specs.declared.init.Pair.{Pair}
use Rattle.value_requests.specs.declared.policy.Destination.{Destination}
use Rattle.value_requests.specs.declared.policy.Destination.TheVariants as destination
use Rattle.value_requests.specs.declared.init.CrossOrigin.TheVariants as crossorigin
use Rattle.script_scenarios.specs.Scripts.{Step, Steps, no_steps}
use Rattle.script_scenarios.specs.Templates.{is_template}
use Rattle.script_scenarios.specs.ValidScripts.{IsTemplatePair, IsValidInit, IsValidLoad, IsValidTest, IsValidStep, AreValid}
use Rattle.script_scenarios.specs.ValidScripts.{step_repeats, repeats, step_choices, choices, IsValidScript}
use Rattle.script_scenarios.specs.declared.command.Test.TheVariants.{TypeIs, StatusIs, BodyIs}
use Rattle.value_json.specs.Reading.{Read, under, present, number_of, truth_of, text_that, any, word_of, some_of}
use Rattle.value_json.specs.Reading.{has_key, only_keys, optional, list_of, count, each_from}
use Rattle.value_json.proofs.KeepsLemmas.{Keeps, Anything, keeps-anything, keeps-after, keeps-weaker, keeps-then}
use Rattle.value_json.proofs.KeepsLemmas.{keeps-under, keeps-there, keeps-if, keeps-required, keeps-optional}
use Rattle.value_json.proofs.KeepsLemmas.{IsListOf}
use Rattle.value_json.proofs.KeepsLemmas.{keeps-list, Within, keeps-number, keeps-word, keeps-text_that}
use Rattle.value_json.proofs.KeepsLemmas.{keeps-some}
use Rattle.value_json.proofs.KeepsLemmas.{keeps-each, keeps-parts}
use Rattle.script_steps.specs.Conditions.{subjects, second_part, parts_of, test_about, test_of}
use Rattle.script_steps.specs.Fetches.{header_of, content_of, manner_of, referring_of, fetch_keys, fetch_of}
use Rattle.script_steps.specs.Loads.{kinds, settings, load_keys, load_of}
use Rattle.script_steps.specs.Referring.{policy_of}
use Rattle.script_steps.specs.Scripts.{fetch_command_of, load_command_of, wait_command_of, repeat_command_of}
use Rattle.script_steps.specs.Scripts.{if_command_of}
use Rattle.script_steps.specs.Scripts.{command_of, in_order, commands_of, script_with, script_of, document_script_of}
use Rattle.script_steps.specs.declared.conditions.Subject.{Subject}
use Rattle.script_steps.specs.declared.conditions.Subject.TheVariants as subject

-- ---- fetches

-- the text is a template
abbrev IsTemplate : List ℕ → Type 0
IsTemplate text = IsTrue (is_template text)

keeps-header : (tree : Data) → Keeps IsTemplatePair (header_of tree)
keeps-header tree =
    keeps-parts Anything IsTemplate IsTemplatePair (text_that any) (text_that is_template) tree _
    (λ inside. keeps-anything (text_that any inside)) (keeps-text_that is_template) (λ name value _ is. is)

-- the body, where there is one, is a template
abbrev IsTemplateBody : Option (List ℕ) → Type 0
IsTemplateBody body = IfSome body IsTemplate

-- at most 64 headers whose values are templates, and such a body
abbrev IsContent : List Pair × Option (List ℕ) → Type 0
IsContent content = IsListOf IsTemplatePair 64 content.0 × IsTemplateBody content.1

keeps-content : (tree : Data) → Keeps IsContent (content_of tree)
keeps-content tree =
    keeps-optional (IsListOf IsTemplatePair 64) IsContent (codes "headers") [] (list_of 64 header_of) tree _
    (record { few = omega arith; all = All-nil IsTemplatePair }) (keeps-list IsTemplatePair 64 header_of keeps-header)
    (λ headers each.
    keeps-optional IsTemplateBody IsContent (codes "body") None (some_of (text_that is_template)) tree _ tt
    (keeps-some IsTemplate (text_that is_template) (keeps-text_that is_template)) (λ body is. (each, is)))

keeps-fetch : (tree : Data) → Keeps IsValidInit (fetch_of tree)
keeps-fetch tree =
    keeps-after IsValidInit (only_keys fetch_keys tree) _ (λ _.
    keeps-required IsTemplate IsValidInit (codes "url") (text_that is_template) tree _
    (keeps-text_that is_template) (λ url is.
    keeps-after IsValidInit (optional (codes "method") (codes "GET") (text_that any) tree) _ (λ method.
    keeps-after IsValidInit (manner_of tree) _ (λ manner.
    keeps-then IsContent IsValidInit (content_of tree) _ (keeps-content tree) (λ content good.
    keeps-after IsValidInit (referring_of tree) _ (λ referring.
    keeps-after IsValidInit (optional (codes "integrity") [] (text_that any) tree) _ (λ integrity.
    keeps-after IsValidInit (optional (codes "upload") false truth_of tree) _ (λ upload.
    record { url = is; few = good.0.few; headers = good.0.all; body = good.1 }))))))))

-- ---- loads

-- a kind of resource, and no `fetch`
abbrev is_load : Destination → Bool
is_load destination.Fetch = false
is_load kind = true

-- the kind is that of a resource
abbrev IsLoadKind : Destination → Type 0
IsLoadKind kind = IsTrue (is_load kind)

not_fetch : (kind : Destination) → IsLoadKind kind → kind ≢ destination.Fetch
not_fetch kind is same = let no : false ≡ true = subst IsLoadKind same is in let bad : ⊥ = cc no in absurd bad

keeps-kind : (tree : Data) → Keeps IsLoadKind (word_of kinds tree)
keeps-kind =
    keeps-word IsLoadKind kinds
    (recursion_from_All (λ (entry : List ℕ × Destination). IsLoadKind entry.1) kinds
    (AllPass-from_list_all (λ (entry : List ℕ × Destination). is_load entry.1) kinds refl))

keeps-load : (tree : Data) → Keeps IsValidLoad (load_of tree)
keeps-load tree =
    keeps-after IsValidLoad (only_keys load_keys tree) _ (λ _.
    keeps-required IsLoadKind IsValidLoad (codes "kind") (word_of kinds) tree _ keeps-kind (λ kind other.
    keeps-required IsTemplate IsValidLoad (codes "url") (text_that is_template) tree _
    (keeps-text_that is_template) (λ url is.
    keeps-after IsValidLoad (optional (codes "crossorigin") crossorigin.Absent (word_of settings) tree) _ (λ attribute.
    keeps-after IsValidLoad (optional (codes "nonce") [] (text_that any) tree) _ (λ nonce.
    keeps-after IsValidLoad (optional (codes "integrity") [] (text_that any) tree) _ (λ integrity.
    keeps-after IsValidLoad (optional (codes "parser") true truth_of tree) _ (λ parser.
    keeps-after IsValidLoad (policy_of tree) _ (λ named.
    record { kind = not_fetch kind other; url = is }))))))))

-- ---- conditions

keeps-second : {A : Type 0} (P : A → Type 0) (read : Data → Read A) → ((inside : Data) → Keeps P (read inside))
    → (second : Option Data) → Keeps P (second_part read second)
keeps-second P read each None = tt
keeps-second P read each (Some second) = keeps-under P (decimal 1) (read second) (each second)

keeps-about : (about : Subject) (second : Option Data) → Keeps IsValidTest (test_about about second)
keeps-about subject.Success None = tt
keeps-about subject.Success (Some second) = tt
keeps-about subject.Error None = tt
keeps-about subject.Error (Some second) = tt
keeps-about subject.Type second =
    keeps-after IsValidTest (second_part (text_that any) second) (λ text. Ok (TypeIs text)) (λ text. tt)
keeps-about subject.Status second =
    keeps-then (Within 0 999) IsValidTest (second_part (number_of 0 999) second) (λ status. Ok (StatusIs status))
    (keeps-second (Within 0 999) (number_of 0 999) (keeps-number 0 999) second) (λ status within. within.1)
keeps-about subject.Body second =
    keeps-after IsValidTest (second_part (text_that any) second) (λ text. Ok (BodyIs text)) (λ text. tt)

keeps-test : (tree : Data) → Keeps IsValidTest (test_of tree)
keeps-test tree =
    keeps-after IsValidTest (present (option_and_then parts_of (as_array tree))) _ (λ parts.
    keeps-after IsValidTest (under (decimal 0) (word_of subjects parts.0)) _ (λ about.
    keeps-about about parts.1))

-- ---- commands

-- the step is valid, and at most these numbers of `repeat` and `if` are inside each other
record IsStepWithin (most_repeats most_choices : ℕ) (one : Step) : Type 0 where
  valid : IsValidStep one
  few_repeats : step_repeats one ≤ most_repeats
  few_choices : step_choices one ≤ most_choices

-- the same of a script
record IsWithin (most_repeats most_choices : ℕ) (script : Steps) : Type 0 where
  valid : AreValid script
  few_repeats : repeats script ≤ most_repeats
  few_choices : choices script ≤ most_choices

-- the script may be inside a `repeat`, where at most this many may be inside each other
record FitsRepeat (most_repeats most_choices : ℕ) (script : Steps) : Type 0 where
  valid : AreValid script
  few_repeats : repeats script + 1 ≤ most_repeats
  few_choices : choices script ≤ most_choices

-- the script may be inside an `if`
record FitsIf (most_repeats most_choices : ℕ) (script : Steps) : Type 0 where
  valid : AreValid script
  few_repeats : repeats script ≤ most_repeats
  few_choices : choices script + 1 ≤ most_choices

-- what is read by a reader, where there is one, has the property
abbrev Reads : (Steps → Type 0) → (Data → Read Steps) → Type 0
Reads P read = (tree : Data) → Keeps P (read tree)

keeps-fetch_command : (r i : ℕ) (tree : Data) → Keeps (IsStepWithin r i) (fetch_command_of tree)
keeps-fetch_command r i tree =
    keeps-after (IsStepWithin r i) (only_keys (codes "fetch" ∷ []) tree) _ (λ _.
    keeps-required IsValidInit (IsStepWithin r i) (codes "fetch") fetch_of tree _ keeps-fetch (λ init is.
    record { valid = is; few_repeats = omega arith; few_choices = omega arith }))

keeps-load_command : (r i : ℕ) (tree : Data) → Keeps (IsStepWithin r i) (load_command_of tree)
keeps-load_command r i tree =
    keeps-after (IsStepWithin r i) (only_keys (codes "load" ∷ []) tree) _ (λ _.
    keeps-required IsValidLoad (IsStepWithin r i) (codes "load") load_of tree _ keeps-load (λ init is.
    record { valid = is; few_repeats = omega arith; few_choices = omega arith }))

keeps-wait_command : (r i : ℕ) (tree : Data) → Keeps (IsStepWithin r i) (wait_command_of tree)
keeps-wait_command r i tree =
    keeps-after (IsStepWithin r i) (only_keys (codes "wait" ∷ []) tree) _ (λ _.
    keeps-required (Within 0 4294967295) (IsStepWithin r i) (codes "wait") (number_of 0 4294967295) tree _
    (keeps-number 0 4294967295) (λ seconds within.
    record { valid = omega (arith, within.1); few_repeats = omega arith; few_choices = omega arith }))

keeps-repeat_command : (r i : ℕ) (inside : Option (Data → Read Steps)) → IfSome inside (Reads (FitsRepeat r i))
    → (tree : Data) → Keeps (IsStepWithin r i) (repeat_command_of inside tree)
keeps-repeat_command r i inside fits tree =
    keeps-after (IsStepWithin r i) (only_keys (codes "repeat" ∷ codes "do" ∷ []) tree) _ (λ _.
    keeps-then (Reads (FitsRepeat r i)) (IsStepWithin r i) (under (codes "repeat") (present inside)) _
    (keeps-under (Reads (FitsRepeat r i)) (codes "repeat") (present inside)
    (keeps-there (Reads (FitsRepeat r i)) inside fits)) (λ read each.
    keeps-required (Within 0 1000) (IsStepWithin r i) (codes "repeat") (number_of 0 1000) tree _
    (keeps-number 0 1000) (λ times within.
    keeps-required (FitsRepeat r i) (IsStepWithin r i) (codes "do") read tree _ each (λ script is.
    record { valid = (within.1, is.valid); few_repeats = is.few_repeats; few_choices = is.few_choices }))))

keeps-if_command : (r i : ℕ) (inside : Option (Data → Read Steps)) → IfSome inside (Reads (FitsIf r i))
    → (tree : Data) → Keeps (IsStepWithin r i) (if_command_of inside tree)
keeps-if_command r i inside fits tree =
    keeps-after (IsStepWithin r i) (only_keys (codes "if" ∷ codes "then" ∷ codes "else" ∷ []) tree) _ (λ _.
    keeps-then (Reads (FitsIf r i)) (IsStepWithin r i) (under (codes "if") (present inside)) _
    (keeps-under (Reads (FitsIf r i)) (codes "if") (present inside) (keeps-there (Reads (FitsIf r i)) inside fits))
    (λ read each.
    keeps-required IsValidTest (IsStepWithin r i) (codes "if") test_of tree _ keeps-test (λ test good.
    keeps-required (FitsIf r i) (IsStepWithin r i) (codes "then") read tree _ each (λ script is.
    keeps-optional (FitsIf r i) (IsStepWithin r i) (codes "else") no_steps read tree _
    (record { valid = tt; few_repeats = omega arith; few_choices = omega (arith, is.few_choices) }) each (λ other or.
    record {
      valid = (good, (is.valid, or.valid));
      few_repeats = omega (arith, is.few_repeats, or.few_repeats);
      few_choices = omega (arith, is.few_choices, or.few_choices);
    })))))

keeps-command : (r i : ℕ) (in_repeat in_if : Option (Data → Read Steps)) → IfSome in_repeat (Reads (FitsRepeat r i))
    → IfSome in_if (Reads (FitsIf r i)) → (tree : Data) → Keeps (IsStepWithin r i) (command_of in_repeat in_if tree)
keeps-command r i in_repeat in_if fits_repeat fits_if tree =
    let P = IsStepWithin r i in
    keeps-if P (has_key (codes "fetch") tree) (fetch_command_of tree) _ (keeps-fetch_command r i tree)
    (keeps-if P (has_key (codes "load") tree) (load_command_of tree) _ (keeps-load_command r i tree)
    (keeps-if P (has_key (codes "wait") tree) (wait_command_of tree) _ (keeps-wait_command r i tree)
    (keeps-if P (has_key (codes "repeat") tree) (repeat_command_of in_repeat tree) _
    (keeps-repeat_command r i in_repeat fits_repeat tree)
    (keeps-if P (has_key (codes "if") tree) (if_command_of in_if tree) (Err [])
    (keeps-if_command r i in_if fits_if tree) tt))))

-- ---- scripts

within : (r i : ℕ) (steps : List Step) → AllByRecursion (IsStepWithin r i) steps → IsWithin r i (in_order steps)
within r i [] all = record { valid = tt; few_repeats = omega arith; few_choices = omega arith }
within r i (one ∷ steps) all =
    let rest = within r i steps all.1 in
    record {
      valid = (all.0.valid, rest.valid);
      few_repeats = omega (arith, all.0.few_repeats, rest.few_repeats);
      few_choices = omega (arith, all.0.few_choices, rest.few_choices);
    }

keeps-commands : (r i : ℕ) (read : Data → Read Step) → ((inside : Data) → Keeps (IsStepWithin r i) (read inside))
    → Reads (IsWithin r i) (commands_of read)
keeps-commands r i read each tree =
    keeps-after (IsWithin r i) (present (as_array tree)) _ (λ items.
    keeps-then (IsListOf (IsStepWithin r i) (count items)) (IsWithin r i) (each_from read 0 items) _
    (keeps-each (IsStepWithin r i) read each 0 items) (λ steps all.
    within r i steps (recursion_from_All (IsStepWithin r i) steps all.all)))

-- what is inside a `repeat`, read with i `if` left
inside : (r i : ℕ) (deeper : Option (ℕ → Data → Read Steps))
    → IfSome deeper (λ read. (n : ℕ) → Reads (FitsRepeat r n) (read n))
    → IfSome (option_map (λ (read : ℕ → Data → Read Steps). read i) deeper) (Reads (FitsRepeat r i))
inside r i None fits = tt
inside r i (Some read) fits = fits i

keeps-script_with : (r : ℕ) (deeper : Option (ℕ → Data → Read Steps))
    → IfSome deeper (λ read. (n : ℕ) → Reads (FitsRepeat r n) (read n))
    → (i : ℕ) → Reads (IsWithin r i) (script_with deeper i)
keeps-script_with r deeper fits zero =
    keeps-commands r zero _ (keeps-command r zero _ None (inside r zero deeper fits) tt)
keeps-script_with r deeper fits (suc i) =
    keeps-commands r (suc i) _ (keeps-command r (suc i) _ (Some (script_with deeper i)) (inside r (suc i) deeper fits)
    (λ tree. keeps-weaker (IsWithin r i) (FitsIf r (suc i)) (script_with deeper i tree)
    (λ script is. record {
      valid = is.valid;
      few_repeats = is.few_repeats;
      few_choices = omega (arith, is.few_choices);
    }) (keeps-script_with r deeper fits i tree)))

keeps-script : (r i : ℕ) → Reads (IsWithin r i) (script_of r i)
keeps-script zero i = keeps-script_with zero None tt i
keeps-script (suc r) i =
    keeps-script_with (suc r) (Some (script_of r)) (λ n tree.
    keeps-weaker (IsWithin r n) (FitsRepeat (suc r) n) (script_of r n tree)
    (λ script is. record {
      valid = is.valid;
      few_repeats = omega (arith, is.few_repeats);
      few_choices = is.few_choices;
    }) (keeps-script r n tree)) i

-- what is read as the script of a document is one
pub keeps-document_script : (tree : Data) → Keeps IsValidScript (document_script_of tree)
keeps-document_script tree =
    keeps-weaker (IsWithin 8 16) IsValidScript (document_script_of tree)
    (λ script is. record { valid = is.valid; few_repeats = is.few_repeats; few_choices = is.few_choices })
    (keeps-script 8 16 tree)
