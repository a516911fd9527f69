-- The next connection.
use Rattle.std.specs.Prelude.{◌≡◌, List, [], ◌∷◌}
use Rattle.link_traits.specs.Counts.{one_more}
use Rattle.server_tables.specs.Serving.{PeerTold}
use Rattle.server_tables.specs.declared.serving.Served.{Served}
use Rattle.server_tables.specs.declared.table.Row.{Row}
use Rattle.program_corsserve.specs.Connections.{AcceptsTold, Connection, HasServed}

-- It was served by the table, and its end was taken back.
pub record HasServedNext {End : Type 0} (told : End → PeerTold) (table : List Row) (old new : AcceptsTold End)
    (served : Served) : Type 0 where
  pub connection : Connection End
  pub served_is : connection.served ≡ served
  pub has_served : HasServed told table old new (connection ∷ [])
  pub quiet : new.faults ≡ old.faults

-- There was none.
pub record HasNoNext {End : Type 0} (old new : AcceptsTold End) : Type 0 where
  pub cause : new.faults ≡ one_more old.faults
  pub coming_is : new.coming ≡ old.coming
  pub lent_is : new.lent ≡ old.lent
  pub opened_is : new.opened ≡ old.opened
