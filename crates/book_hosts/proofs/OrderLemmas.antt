-- Texts by their order.
use Rattle.std.proofs.Common.{◌≡◌, ℕ, false, List, refl, ap, sym, ◌∙◌}
use Rattle.std.specs.Cmp.Lexicographic.{bytes_decides, nat_list_cmp_total, texts_ties}
use Rattle.std.specs.Ordering.{is_eq, ordering_reverse}
use Rattle.std.specs.Str.{bytes_eq}
use Rattle.std.specs.declared.cmp.Ordering.{Ordering}
use Rattle.std.specs.declared.cmp.Ordering.TheVariants.{Equal, Greater, Less}
use Rattle.value_text.specs.Orders.{text_cmp}

pub text-equal : (a b : List ℕ) → text_cmp a b ≡ Equal → a ≡ b
text-equal a b e = (bytes_decides a b).0 (texts_ties a b ∙ ap is_eq e)

-- a test for equal texts is one of their order
pub bytes-order : (a b : List ℕ) → bytes_eq a b ≡ is_eq (text_cmp a b)
bytes-order a b = texts_ties a b

pub flipped : (a b : List ℕ) → text_cmp a b ≡ ordering_reverse (text_cmp b a)
flipped a b = nat_list_cmp_total.antisymm a b

pub chained : (a b c : List ℕ) → text_cmp a b ≡ Less → text_cmp b c ≡ Less → text_cmp a c ≡ Less
chained a b c e f = nat_list_cmp_total.trans a b c e f

-- a text that comes before another is another
pub less-apart : (a b : List ℕ) → text_cmp a b ≡ Less → bytes_eq a b ≡ false
less-apart a b e = bytes-order a b ∙ ap is_eq e

pub less-apart-back : (a b : List ℕ) → text_cmp a b ≡ Less → bytes_eq b a ≡ false
less-apart-back a b e = bytes-order b a ∙ ap is_eq (flipped b a ∙ ap ordering_reverse e)

-- equality either way round
reverse-eq : (o : Ordering) → is_eq (ordering_reverse o) ≡ is_eq o
reverse-eq Less = refl
reverse-eq Equal = refl
reverse-eq Greater = refl

pub bytes-order-back : (a b : List ℕ) → bytes_eq a b ≡ is_eq (text_cmp b a)
bytes-order-back a b = bytes-order a b ∙ ap is_eq (flipped a b) ∙ reverse-eq (text_cmp b a)

pub bytes-flip : (a b : List ℕ) → bytes_eq a b ≡ bytes_eq b a
bytes-flip a b = bytes-order-back a b ∙ sym (bytes-order b a)
