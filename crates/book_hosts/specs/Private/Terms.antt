-- Terms of known hosts, looked up by name and by end.
use Rattle.std.specs.Prelude.{◌≡◌, ◌==◌, ◌&&◌, nat_eq, nat_lt, ℕ, Bool, true, false, List, [], ◌∷◌, length}
use Rattle.std.specs.Prelude.{Option, Some, None, if◌then◌else◌}
use Rattle.std.specs.List.{ends_with, list_any}
use Rattle.std.specs.Str.{bytes_eq}
use Rattle.value_text.specs.Texts.{Text}
use Rattle.value_text.specs.Ascii.{dot}
use Rattle.book_hosts.specs.Hosts.{holds, without, without_first_to_end}
use Rattle.book_hosts.specs.declared.hosts.KnownHost.{KnownHost}
use Rattle.book_hosts.specs.declared.index.Term.{Term}

-- the term of a host
abbrev pub term_in : Text → List KnownHost → Option Term
term_in host [] = None
term_in host (known ∷ hosts) =
    if bytes_eq known.host host then Some (record { subdomains = known.subdomains; until = known.until })
    else term_in host hosts

-- there is a term, and it passes the test
abbrev pub passes : (Term → Bool) → Option Term → Bool
passes test None = false
passes test (Some term) = test term

-- the list is empty, or this host of it is the one that ends first
abbrev pub IsFirstToEnd : Option Text → List KnownHost → Type 0
IsFirstToEnd None hosts = hosts ≡ []
IsFirstToEnd (Some host) hosts = (holds host hosts ≡ true) × (without_first_to_end hosts ≡ without host hosts)

-- there is room for a host, or this one goes for it
abbrev pub IsLeaving : Option Text → Text → List KnownHost → Type 0
IsLeaving None host hosts = nat_lt (length (without host hosts)) 4096 ≡ true
IsLeaving (Some name) host hosts =
    (nat_lt (length (without host hosts)) 4096 ≡ false) × (holds name hosts ≡ true)
    × (without_first_to_end hosts ≡ without name hosts)

-- the list has this host, and its term has not ended
abbrev pub holds_alive : List KnownHost → Text → ℕ → Bool
holds_alive hosts host now = list_any (λ known. bytes_eq known.host host && nat_lt now known.until) hosts

-- the list has this host with subdomains, and its term has not ended
abbrev pub covers : List KnownHost → Text → ℕ → Bool
covers hosts host now =
    list_any (λ known. bytes_eq known.host host && (known.subdomains && nat_lt now known.until)) hosts

-- the text is a dot and a host with subdomains whose term has not ended
abbrev pub begins_under : List KnownHost → Text → ℕ → Bool
begins_under hosts [] now = false
begins_under hosts (byte ∷ text) now = byte == dot && covers hosts text now

-- the text is a dot and this host
abbrev pub is_dot_and : Text → Text → Bool
is_dot_and host [] = false
is_dot_and host (byte ∷ text) = byte == dot && bytes_eq host text

-- a name is under a host with subdomains whose term has not ended
abbrev pub is_under : List KnownHost → Text → ℕ → Bool
is_under hosts name now =
    list_any (λ known. (known.subdomains && ends_with nat_eq name (dot ∷ known.host)) && nat_lt now known.until) hosts
