-- What contracts see of the program's links and clock at one moment.
use Rattle.std.specs.Prelude.{ℕ, Option}
use Rattle.play_seats.specs.Makers.{Maker}

-- what plays over links use besides: what makes the links, and the clock's next answer, where it tells
pub record Net (L : Type 0) : Type 0 where
  pub links : Maker L
  pub time : Option ℕ

abbrev pub net_of : {C L : Type 0} → Maker L → (C → Option ℕ) → C → Net L
net_of links next clock = record { links = links; time = next clock }
