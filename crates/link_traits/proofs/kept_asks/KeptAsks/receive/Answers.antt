use Rattle.std.proofs.Common.{◌≡◌, ◌∙◌, List, arith, refl, ap, sym}
use Rattle.std.specs.Prelude.{map}
use Rattle.link_traits.specs.Counts.{counted_on}
use Rattle.link_traits.specs.Links.{with_bytes}
use Rattle.link_traits.specs.Private.KeptAsks.{asks_in, bytes_of}
use Rattle.link_traits.specs.declared.kept_asks.AskSize.{AskSize}
use Rattle.link_traits.proofs.ReceivedLemmas.{asks_in-last, bytes_of-last, received-last}
use Rattle.link_traits.proofs.kept_asks.KeptAsks.receive.Goals as goal

pub invariant_of-self : goal.invariant_of-self
invariant_of-self c =
    let popped = c.in-Some.ensures in (
      c.self.invariant.0,
      omega (
        arith,
        c.self.invariant.1,
        popped.len,
        popped.capacity,
        c.push_reserved.ensures.len,
        c.push_reserved.ensures.capacity,
      ),
      ap bytes_of c.push_reserved.ensures.items ∙ bytes_of-last c.pop.new.self.items c.in-Some.last _
          ∙ ap bytes_of (sym popped.items) ∙ c.self.invariant.2,
    )

pub returns-in-Some : goal.returns-in-Some
returns-in-Some c =
    let popped = c.in-Some.ensures in
    let count : c.saturating_add.result ≡ counted_on c.in-Some.last.received c.args.count =
    omega (arith, c.saturating_add.ensures, c.saturating_add.auto) in
    let text = c.self.inside.text.items in
    let asks : asks_in c.push_reserved.new.self.items text ≡ asks_in c.self.inside.sizes.items text =
    ap (λ (l : List AskSize). asks_in l text) c.push_reserved.ensures.items
    ∙ asks_in-last c.pop.new.self.items c.in-Some.last _ text ∙ ap (λ (l : List AskSize). asks_in l text)
    (sym popped.items) in
    let received : map (λ (size : AskSize). size.received) c.push_reserved.new.self.items
    ≡ with_bytes c.args.count (map (λ (size : AskSize). size.received) c.self.inside.sizes.items) =
    ap (λ (l : List AskSize). map (λ (size : AskSize). size.received) l) c.push_reserved.ensures.items ∙ rw count
    (received-last c.pop.new.self.items c.in-Some.last c.args.count)
    ∙ ap (λ (l : List AskSize). with_bytes c.args.count (map (λ (size : AskSize). size.received) l))
    (sym popped.items) in
    rw (← c.self.view_is, asks, received) refl
