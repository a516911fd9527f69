-- Source expressions that stand one behind the other in one text: what is stored is found again.
use Rattle.std.proofs.Common.{◌≡◌, ◌∙◌, ◌∷◌, ◌++◌, [], ◌<◌, ◌+◌, ℕ, List, length, drop, get_or}
use Rattle.std.proofs.Common.{Option, Some, None, refl, ap, sym, arith, suc, zero, add-one, append_assoc}
use Rattle.std.proofs.Math.Seq.{drop-append_seam, take-append_seam}
use Rattle.std.proofs.lemmas.List.{append-nil}
use Rattle.policy_csp_match.specs.declared.list.Stored.{Stored}
use Rattle.policy_csp_match.specs.declared.source.HostSource.{HostSource}
use Rattle.policy_csp_match.specs.declared.source.Source.{Source}
use Rattle.policy_csp_match.specs.declared.source.Source.TheVariants as kind
use Rattle.policy_csp_match.specs.declared.source.SourcePort.{SourcePort}
use Rattle.policy_csp_match.specs.declared.source.SourcePort.TheVariants as port
use Rattle.policy_csp_match.specs.Private.Places.{Stay, host_in, host_place, host_text, is_there, kind_of_port, part_in}
use Rattle.policy_csp_match.specs.Private.Places.{part_text, port_in, port_text, source_in, source_place, source_text}
use Rattle.policy_csp_match.specs.Private.Places.{sources_in}

-- a part is found
part-found : (part : Option (List ℕ)) (more : List ℕ)
    → part_in (part_text part ++ more) (length (part_text part)) (is_there part) ≡ part
part-found None more = refl
part-found (Some text) more = ap (λ (t : List ℕ). Some t) (take-append_seam text more)

-- a port is found
port-found : (part : Option SourcePort) (more : List ℕ)
    → port_in (port_text part ++ more) (length (port_text part)) (kind_of_port part) ≡ part
port-found None more = refl
port-found (Some port.Any) more = refl
port-found (Some (port.Digits digits)) more =
    ap (λ (t : List ℕ). Some (port.Digits t)) (take-append_seam digits more)

-- four parts and what is behind them
four : (a b c d more : List ℕ) → (((a ++ b) ++ c) ++ d) ++ more ≡ a ++ (b ++ (c ++ (d ++ more)))
four a b c d more =
    append_assoc ((a ++ b) ++ c) d more ∙ append_assoc (a ++ b) c (d ++ more) ∙ append_assoc a b (c ++ (d ++ more))

-- a host-source is found
host-found : (source : HostSource) (more : List ℕ) → host_in (host_text source ++ more) (host_place source) ≡ source
host-found source more =
    let host = source.host in
    let scheme = part_text source.scheme in
    let number = port_text source.port in
    let path = part_text source.path in
    rw (
      four host scheme number path more,
      take-append_seam host (scheme ++ (number ++ (path ++ more))),
      drop-append_seam host (scheme ++ (number ++ (path ++ more))),
      drop-append_seam scheme (number ++ (path ++ more)),
      drop-append_seam number (path ++ more),
      part-found source.scheme (number ++ (path ++ more)),
      port-found source.port (path ++ more),
      part-found source.path more,
    ) refl

-- a source expression is found
pub source-found : (source : Source) (more : List ℕ)
    → source_in (source_text source ++ more) (source_place source) ≡ source
source-found kind.Any more = refl
source-found (kind.Scheme scheme) more = ap (λ (t : List ℕ). kind.Scheme t) (take-append_seam scheme more)
source-found (kind.Host host) more = ap (λ (h : HostSource). kind.Host h) (host-found host more)
source-found kind.SelfOrigin more = refl
source-found (kind.Nonce value) more = ap (λ (t : List ℕ). kind.Nonce t) (take-append_seam value more)
source-found (kind.Hash bits value) more = ap (λ (t : List ℕ). kind.Hash bits t) (take-append_seam value more)
source-found kind.StrictDynamic more = refl
source-found kind.NoneWord more = refl
source-found kind.Unknown more = refl

-- the last of those that are stored is found, whatever is added behind it
last-found : (text more : List ℕ) (source : Source)
    → source_in (drop (length text) (text ++ (source_text source ++ more))) (source_place source) ≡ source
last-found text more source =
    rw (drop-append_seam text (source_text source ++ more)) (source-found source more)

-- the sources of more places
sources-append : (text : List ℕ) (stored : List Stored) (last : Stored)
    → sources_in text (stored ++ last ∷ []) ≡ sources_in text stored ++ source_in (drop last.start text) last.place ∷ []
sources-append text [] last = refl
sources-append text (one ∷ stored) last =
    ap (λ (s : List Source). source_in (drop one.start text) one.place ∷ s) (sources-append text stored last)

-- one source expression more, and more text behind it
more-found : (text more : List ℕ) (stored : List Stored) (source : Source) (last : Stored) → Stay text stored
    → last ≡ record { start = length text; place = source_place source }
    → sources_in (text ++ (source_text source ++ more)) (stored ++ last ∷ []) ≡ sources_in text stored ++ source ∷ []
more-found text more stored source last stay is =
    sources-append (text ++ (source_text source ++ more)) stored last
    ∙ rw (stay (source_text source ++ more), is, last-found text more source) refl

-- one source expression more
pub one-more : (text : List ℕ) (stored : List Stored) (source : Source) (last : Stored) → Stay text stored
    → last ≡ record { start = length text; place = source_place source }
    → sources_in (text ++ source_text source) (stored ++ last ∷ []) ≡ sources_in text stored ++ source ∷ []
one-more text stored source last stay is =
    ap (λ (t : List ℕ). sources_in (text ++ t) (stored ++ last ∷ [])) (sym (append-nil (source_text source)))
    ∙ more-found text [] stored source last stay is

-- they stay the same whatever is added behind the text
pub one-more-stay : (text : List ℕ) (stored : List Stored) (source : Source) (last : Stored) → Stay text stored
    → last ≡ record { start = length text; place = source_place source }
    → Stay (text ++ source_text source) (stored ++ last ∷ [])
one-more-stay text stored source last stay is = λ more.
    ap (λ (t : List ℕ). sources_in t (stored ++ last ∷ [])) (append_assoc text (source_text source) more)
    ∙ more-found text more stored source last stay is ∙ sym (one-more text stored source last stay is)

-- the source expression at an index, and those behind it
seen-at : (text : List ℕ) (stored : List Stored) (i : ℕ) (none : Stored) → i < length (sources_in text stored)
    → drop i (sources_in text stored)
    ≡ source_in (drop (get_or stored i none).start text) (get_or stored i none).place
    ∷ drop (suc i) (sources_in text stored)
seen-at text [] i none less = absurd (omega arith)
seen-at text (one ∷ stored) zero none less = refl
seen-at text (one ∷ stored) (suc i) none less = seen-at text stored i none (omega arith)

pub source-at : (seen : List Source) (text : List ℕ) (stored : List Stored) (i : ℕ) (one : Stored)
    → seen ≡ sources_in text stored → i < length seen → one ≡ get_or stored i one
    → drop i seen ≡ source_in (drop one.start text) one.place ∷ drop (i + 1) seen
source-at seen text stored i one is less at =
    rw (is, add-one i)
    (seen-at text stored i one (rw is at less)
    ∙ ap (λ (x : Stored). source_in (drop x.start text) x.place ∷ drop (suc i) (sources_in text stored)) (sym at))
