-- What makes the links of a play: links that were made for its documents, in their order, and that were taken back in
-- the same order (this project's own).
use Rattle.std.specs.Prelude.{◌≡◌, ℕ, ◌≤◌, List, ◌++◌, length, map, Option, option_map, Some, None}
use Rattle.link_traits.specs.Links.{Lendings, LinkTold, faults_told}
use Rattle.link_traits.specs.declared.routes.Route.{Route}
use Rattle.script_scenarios.specs.declared.scenario.Scenario.{Scenario}
use Rattle.play_seats.specs.Lendings.{out_more}
use Rattle.play_seats.specs.Links.{AreOpened, for_documents, grown_by_all}

-- What is told of what makes the links: the link that the next make gives for a document's number and routes, at 0, the
-- one after it, at 1, and so on; those that it took back, and how many more are out; and how often those had failed.
pub record Maker (L : Type 0) : Type 0 where
  pub opening : ℕ → ℕ → List Route → Option L
  pub lent : Option (Lendings L)
  pub faults : ℕ

-- what makes links, as it tells
abbrev pub maker_of : {N L : Type 0} → (N → ℕ → ℕ → List Route → Option L) → (N → Option (Lendings L)) → (N → ℕ) → N
    → Maker L
maker_of opening lent faults links =
    record { opening = opening links; lent = lent links; faults = faults links }

-- ---- links that are taken back

-- these were taken back, in this order, where told, and as many are out as before
abbrev pub AreBack : {L : Type 0} → Option (Lendings L) → Option (Lendings L) → List L → Type 0
AreBack None new links = Unit {0}
AreBack (Some old) new links = new ≡ Some (record { back = old.back ++ links; out = old.out })

-- These links were made and taken back, in this order, and their faults were counted.
pub record TookAllBack {L State : Type 0} (told : L → LinkTold State) (old new : Maker L) (links : List L)
    : Type 0 where
  pub lent : AreBack old.lent new.lent links
  pub counted : new.faults ≡ grown_by_all old.faults (map (faults_told told) links)

-- Each link that was made was taken back.
pub record HasTakenBack {L State : Type 0} (told : L → LinkTold State) (old new : Maker L) : Type 0 where
  pub back : List L
  pub took : TookAllBack told old new back

-- ---- the links of a play that is opened

-- These links were made for documents in their order, one for each at most, and are out.
pub record WereMade {L : Type 0} (old new : Maker L) (scenario : Scenario) (links : List L) : Type 0 where
  pub opened : AreOpened (for_documents old.opening scenario.routes) links
  pub few : length links ≤ length scenario.documents
  pub out : new.lent ≡ option_map (out_more (length links)) old.lent
  pub faults : new.faults ≡ old.faults

-- Links were made for documents in their order, one for each at most, and were taken back as they were.
pub record CameBack {L State : Type 0} (told : L → LinkTold State) (old new : Maker L) (scenario : Scenario)
    : Type 0 where
  pub made : List L
  pub opened : AreOpened (for_documents old.opening scenario.routes) made
  pub few : length made ≤ length scenario.documents
  pub took : TookAllBack told old new made
