use Rattle.std.proofs.Common.{◌≡◌, ℕ, List, Bor, map, Bool, false, true, sym, ap, ◌∙◌, arith}
use Rattle.std.specs.Prelude.{◌&&◌}
use Rattle.json.specs.Json.{no_members}
use Rattle.value_json.specs.Keys.{is_one_of}
use Rattle.value_json.specs.Private.Written.{written_known}
use Rattle.value_json.proofs.tree.are_known.Goals as goal

abbrev texts : List (Bor (List ℕ)) → List (List ℕ)
texts names = map (λ (name : Bor (List ℕ)). name.now) names

pub returns-then-not-is_one_of : goal.returns-then-not-is_one_of
returns-then-not-is_one_of c all is =
    let names = texts c.args.names.now in
    let now = c.loop-key.invariant all is in
    let first = c.in-Some.ensures.value now.0 now.1 in
    let other : is_one_of names c.in-Some.key.now ≡ false = grind arith in
    sym (now.2 ∙ ap (written_known names) first.2 ∙ ap (λ (b : Bool). b && written_known names first.1) other)

pub loop-key-preserved : goal.loop-key-preserved
loop-key-preserved c all is =
    let names = texts c.args.names.now in
    let now = c.loop-key.invariant all is in
    let first = c.in-Some.ensures.value now.0 now.1 in
    let one : is_one_of names c.in-Some.key.now ≡ true = grind arith in (
      first.1,
      first.4,
      now.2 ∙ ap (written_known names) first.2
          ∙ ap (λ (b : Bool). b && written_known names first.1) one,
    )

pub returns : goal.returns
returns c all is =
    let names = texts c.args.names.now in
    let now = c.loop-key.invariant all is in
    let done : now.0 ≡ no_members = c.in_default.ensures.value now.0 now.1 in
    sym (now.2 ∙ ap (written_known names) done)
