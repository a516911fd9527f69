-- The indexes of known hosts, whose names are vectors of bytes.
use Rattle.std.proofs.Common.{ℕ, List, Vec, Global}

-- the bytes of a name
abbrev pub bytes_of : Vec ℕ Global → List ℕ
bytes_of name = name.items
