-- How names are spelled in a header list (Fetch, section 2.2.2, "append").
use Rattle.std.specs.Prelude.{◌≡◌, AllPairs, IsTrue, List}
use Rattle.value_headers.specs.Headers.{is_named}
use Rattle.value_headers.specs.declared.headers.Header.{Header}

-- if the two have one name, they spell it alike
abbrev pub SpellAlike : Header → Header → Type 0
SpellAlike one other = IsTrue (is_named one.name other) → other.name ≡ one.name

-- equal names have one spelling
abbrev pub HaveOneSpelling : List Header → Type 0
HaveOneSpelling headers = AllPairs SpellAlike headers
