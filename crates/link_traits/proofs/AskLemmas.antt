-- The asks that are kept, one after another.
use Rattle.std.proofs.Common.{◌≡◌, ◌≤◌, ◌+◌, ℕ, List, [], ◌∷◌, ◌++◌, length, take, drop, refl, ap, sym, arith}
use Rattle.std.proofs.Common.{append_assoc}
use Rattle.std.proofs.Math.Seq.{take-append_seam, drop-append_seam, take-length}
use Rattle.std.proofs.lemmas.List.{drop-append-le, length-drop, take-append-le}
use Rattle.std.proofs.lemmas.List.{nil_from_length}
use Rattle.link_traits.specs.MemoryLink.{asks_after}
use Rattle.std.proofs.lemmas.Bool.{le-leb}
use Rattle.link_traits.specs.Private.KeptAsks.{asks_in, bytes_of}
use Rattle.link_traits.specs.declared.kept_asks.AskSize.{AskSize}
use Rattle.link_traits.specs.declared.target.Ask.{Ask}

-- the bytes of one ask more
pub bytes_of-append : (sizes : List AskSize) (size : AskSize) → bytes_of (sizes ++ size ∷ [])
    ≡ bytes_of sizes + (size.origin + size.request)
bytes_of-append [] size = omega arith
bytes_of-append (first ∷ sizes) size = rw (bytes_of-append sizes size) (omega arith)

-- an ask after the others
pub asks_in-append : (sizes : List AskSize) (text origin request : List ℕ) → bytes_of sizes ≡ length text
    → asks_in (sizes ++ record { origin = length origin; request = length request; received = 0 } ∷ []) (text
    ++ (origin ++ request)) ≡ asks_in sizes text ++ record { origin = origin; request = request } ∷ []
asks_in-append [] text origin request e =
    rw (
      nil_from_length text (sym e),
      take-append_seam origin request,
      drop-append_seam origin request,
      take-length request,
    ) refl
asks_in-append (size ∷ sizes) text origin request e =
    let first : size.origin ≤ length text = omega (arith, e) in
    let second : size.request ≤ length (drop size.origin text) = omega (arith, e, length-drop size.origin text) in
    rw (
      take-append-le size.origin text (origin ++ request) first,
      drop-append-le size.origin text (origin ++ request) first,
      take-append-le size.request (drop size.origin text) (origin ++ request) second,
      drop-append-le size.request (drop size.origin text) (origin ++ request) second,
    )
    (ap (λ (l : List Ask). record {
      origin = take size.origin text;
      request =
          take size.request (drop size.origin text);
    } ∷ l)
    (asks_in-append sizes (drop size.request (drop size.origin text)) origin request
    (omega (arith, e, length-drop size.origin text, length-drop size.request (drop size.origin text)))))

-- an ask that finds its room is kept
pub keep-asks : (sizes : List AskSize) (text origin request : List ℕ) (asks : List Ask) (room : ℕ) → bytes_of sizes
    ≡ length text → asks_in sizes text ≡ asks → length origin + length request + 1 ≤ room
    → asks_in (sizes ++ record { origin = length origin; request = length request; received = 0 } ∷ [])
    (text ++ origin ++ request)
    ≡ asks_after room asks (record { origin = origin; request = request })
keep-asks sizes text origin request asks room bytes same within =
    rw (
      le-leb (length origin + length request + 1) room within,
      append_assoc text origin request,
      ← same,
    ) (asks_in-append sizes text origin request bytes)
