-- How a list of known hosts is held: an index by host, and one by the end of the term.
use Rattle.std.specs.Prelude.{◌≡◌, ℕ, ◌==◌, Bool, false, List, map, Option, Some, None}
use Rattle.std.specs.List.{list_any}
use Rattle.std.specs.List.Sorted.{IsStrictlySortedBy}
use Rattle.std.specs.Map.{lookup}
use Rattle.std.specs.declared.cmp.Ordering.{Ordering}
use Rattle.std.specs.Ordering.{is_eq, nat_cmp, ordering_then}
use Rattle.value_text.specs.Texts.{Text}
use Rattle.value_text.specs.Orders.{text_cmp}
use Rattle.book_hosts.specs.declared.hosts.KnownHost.{KnownHost}
use Rattle.book_hosts.specs.declared.index.Term.{Term}

module _ {V : Type 0} (items : V → Text) where
  abbrev pub known_of : V × Term → KnownHost
  known_of entry = record { host = items entry.0; subdomains = entry.1.subdomains; until = entry.1.until }

  -- the hosts by their names
  abbrev pub listed : List (V × Term) → List KnownHost
  listed entries = map known_of entries

  -- the term of a host
  abbrev pub term_of : Text → List (V × Term) → Option Term
  term_of host entries = lookup (λ name. is_eq (text_cmp host (items name))) entries

  abbrev pub name_cmp : V → V → Ordering
  name_cmp a b = text_cmp (items a) (items b)

  abbrev pub end_cmp : ℕ × V → ℕ × V → Ordering
  end_cmp a b = ordering_then (nat_cmp a.0 b.0) (name_cmp a.1 b.1)

  -- the term is there and ends then
  abbrev pub ends_at : ℕ → Option Term → Bool
  ends_at until None = false
  ends_at until (Some term) = term.until == until

  -- both indexes are in order, and have the same hosts with the same ends
  pub record IsIndexed (entries : List (V × Term)) (ends : List (ℕ × V)) : Type 0 where
    pub sorted : IsStrictlySortedBy name_cmp (map (λ entry. entry.0) entries)
    pub ends_sorted : IsStrictlySortedBy end_cmp ends
    pub same : (end : ℕ × V)
        → list_any (λ other. is_eq (end_cmp end other)) ends ≡ ends_at end.0 (term_of (items end.1) entries)
