-- A book as a text, so that it lasts over restarts: its bytes (this project's own).
use Rattle.std.specs.Prelude.{ℕ, ◌≤◌, Bool, true, false, [], ◌∷◌, ◌++◌, length, codes, decimal}
use Rattle.std.specs.List.{AllByRecursion, flat_map}
use Rattle.value_text.specs.Texts.{Text}
use Rattle.value_text.specs.Ascii.{colon, line_feed, space}
use Rattle.book_hosts.specs.Hosts.{AreHosts}
use Rattle.book_hosts.specs.declared.hosts.KnownHost.{KnownHost}
use Rattle.book_preflights.specs.Keys.{IsCache}
use Rattle.book_preflights.specs.declared.entry.Keyed.{Keyed}
use Rattle.book_preflights.specs.declared.entry.Allowed.{Allowed}
use Rattle.book_preflights.specs.declared.entry.Allowed.TheVariants.{Method, HeaderName}
use Rattle.book_calls.specs.declared.book.Book.{Book}

-- ---- fields

-- a number in decimal, and the byte after it
abbrev pub number_field : ℕ → ℕ → Text
number_field stop number = decimal number ++ (stop ∷ [])

-- a text of any bytes: its length in decimal, a colon, its bytes, and the byte after it
abbrev pub text_field : ℕ → Text → Text
text_field stop text = decimal (length text) ++ (colon ∷ (text ++ (stop ∷ [])))

-- no or yes
abbrev pub flag : Bool → ℕ
flag false = 0
flag true = 1

-- ---- lines

-- a known host: until when it is known, whether its subdomains are, its name
abbrev pub host_line : KnownHost → Text
host_line known =
    number_field space known.until ++ (number_field space (flag known.subdomains) ++ text_field line_feed known.host)

-- what an entry allows: whether that is a header name, and the method or the header name
abbrev pub is_name : Allowed → Bool
is_name (Method method) = false
is_name (HeaderName name) = true

abbrev pub item : Allowed → Text
item (Method method) = method
item (HeaderName name) = name

-- an entry of the preflight cache: when it was learnt, its age, whether with credentials, whether it allows a header
-- name; then its key, its origin, its URL, and what it allows
abbrev pub entry_numbers : Keyed → Text
entry_numbers k =
    number_field space k.entry.made ++ (number_field space k.entry.age ++ (number_field space (flag k.entry.include)
    ++ number_field space (flag (is_name k.entry.allowed))))

abbrev pub entry_texts : Keyed → Text
entry_texts k =
    text_field space k.key ++ (text_field space k.entry.origin ++ (text_field space k.entry.url
    ++ text_field line_feed (item k.entry.allowed)))

abbrev pub entry_line : Keyed → Text
entry_line k = entry_numbers k ++ entry_texts k

-- ---- texts

-- the first line: what this is, and the number of its format
abbrev pub heading : Text
heading = codes "fiorrudda book 1\n"

-- a line that counts what follows
abbrev pub count_line : Text → ℕ → Text
count_line label count = label ++ number_field line_feed count

-- the text of a book: the hosts in the order of their bytes, and the entries in that of their keys
abbrev pub book_text : Book → Text
book_text book =
    heading ++ (count_line (codes "hosts ") (length book.hosts) ++ (flat_map host_line book.hosts
    ++ (count_line (codes "entries ") (length book.cache) ++ flat_map entry_line book.cache)))

-- ---- which books there are

-- the greatest number of 64 bits
abbrev pub greatest : ℕ
greatest = 18446744073709551615

-- the numbers of a host, and of an entry, are of 64 bits
pub record FitsHost (known : KnownHost) : Type 0 where
  pub until : known.until ≤ greatest
  pub host : length known.host ≤ greatest

pub record FitsEntry (k : Keyed) : Type 0 where
  pub made : k.entry.made ≤ greatest
  pub age : k.entry.age ≤ greatest
  pub key : length k.key ≤ greatest
  pub origin : length k.entry.origin ≤ greatest
  pub url : length k.entry.url ≤ greatest
  pub item : length (item k.entry.allowed) ≤ greatest

-- what every book is: its hosts are known hosts, its entries a cache, and their numbers are of their types
pub record IsBook (book : Book) : Type 0 where
  pub hosts : AreHosts book.hosts
  pub hosts_fit : AllByRecursion FitsHost book.hosts
  pub cache : IsCache book.cache
  pub cache_fits : AllByRecursion FitsEntry book.cache
  pub count : length book.cache ≤ 9223372036854775807
