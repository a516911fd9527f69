-- Links in memory: what their calls answer, and what they leave.
use Rattle.std.specs.Prelude.{ℕ, List, drop}
use Rattle.link_traits.specs.Counts.{grown_by}
use Rattle.link_traits.specs.Links.{Lendings, kept_back, one_out}
use Rattle.link_traits.specs.MemoryLink.{MemoryLinkState}

-- the links that are not handed out yet, those taken back with how many are out, and how often those
-- taken back had failed
pub record LinksState : Type 0 where
  pub waiting : List MemoryLinkState
  pub lent : Lendings MemoryLinkState
  pub faults : ℕ

-- what a make leaves: the next link is out
abbrev pub after_make : LinksState → LinksState
after_make links = record links { waiting = drop 1 links.waiting; lent = one_out links.lent }

-- what a take_back leaves: its faults are counted in any case
abbrev pub after_take_back : LinksState → MemoryLinkState → LinksState
after_take_back links link =
    record links { lent = kept_back links.lent link; faults = grown_by links.faults link.faults }
