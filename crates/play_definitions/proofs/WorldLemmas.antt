-- Worlds in which nothing is to come, and worlds in which memory was refused.
use Rattle.link_http1.specs.declared.framing.Framing.TheVariants as framing
use Rattle.std.proofs.Common.{refl, rules, subst}
use Rattle.std.specs.Prelude.{[], ℕ, ◌∷◌, ◌≡◌, Err, List, None, Ok, OnErr, Option, Result, Some}
use Rattle.link_traits.specs.Sources.{IsAtEnd}
use Rattle.link_traits.proofs.ReceivedLemmas.{received-none}
use Rattle.fetch_wire.specs.Wires.{onto_left}
use Rattle.play_definitions.specs.Worlds.{Outside, World, WorldRefused}
use Rattle.value_bytes.specs.declared.memory.OutOfMemory.{OutOfMemory}

-- nothing happened
pub refuses-none : {State : Type 0} (a : Outside State) → WorldRefused a a
refuses-none a = search (rules, received-none a.received)

-- what holds holds where memory was refused
pub on-err : {T : Type 0} {P : Type 0} (result : Result T OutOfMemory) → P → OnErr result P
on-err (Ok value) p = tt
on-err (Err refused) p = p

-- what outlives a run, part by part
pub outside-is : {State : Type 0} (a b : Outside State) → a.state ≡ b.state → a.received ≡ b.received
    → a.faults ≡ b.faults → a.own ≡ b.own → a.left ≡ b.left → a ≡ b
outside-is a b state received faults own left = rw (state, received, faults, own, left) refl

-- where nothing is to come over a wire, the link has nothing left
pub end-left : (window : List ℕ) (left : Option (List ℕ)) → IsAtEnd (onto_left window left) → IsAtEnd left
end-left window None end = tt
end-left [] (Some rest) end = end
end-left (byte ∷ window) (Some rest) end = absurd (cc)

-- a world in which nothing is to come
abbrev pub still : {State : Type 0} → Outside State → World State
still old = record {
  exchange = record {
    state = old.state;
    coming = Some [];
    left = Some [];
    received = old.received;
    framing = framing.Nothing;
    faults = old.faults;
  };
  own = old.own;
  left = old.left;
}

-- what holds of what was lent holds of what came back
pub moved : {A : Type 0} (P : A → Type 0) (x y : A) → x ≡ y → P x → P y
moved P x y same p = subst P same p
