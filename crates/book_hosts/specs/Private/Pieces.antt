-- Where the first piece of a field's value ends.
use Rattle.std.specs.Prelude.{ℕ, suc, [], ◌∷◌, if◌then◌else◌}
use Rattle.value_text.specs.Texts.{Text}
use Rattle.book_hosts.specs.Reading.{cuts, next_place}
use Rattle.book_hosts.specs.declared.pieces.Place.{Place}

-- how many bytes the piece at the front has
abbrev pub piece_end : Place → Text → ℕ
piece_end place [] = 0
piece_end place (byte ∷ text) = if cuts place byte then 0 else suc (piece_end (next_place place byte) text)
