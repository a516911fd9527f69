-- The links of a play's documents: what is told of one, those that are made in the documents' order, and the count of
-- faults that grows by theirs as they are taken back (this project's own).
use Rattle.std.specs.Prelude.{◌≡◌, ℕ, List, [], ◌∷◌, slice_get, Option, Some}
use Rattle.link_traits.specs.Counts.{grown_by}
use Rattle.link_traits.specs.Links.{IsForetold, LinkTold}
use Rattle.link_traits.specs.declared.routes.Route.{Route}
use Rattle.play_definitions.specs.Plays.{Way}

-- what is told of a link
abbrev pub way_of : {L State : Type 0} → (L → LinkTold State) → L → Way State
way_of told link =
    record { state = (told link).state; received = (told link).received; faults = (told link).faults }

-- the next links that are made are for the documents 0, 1 and so on, by these routes
abbrev pub for_documents : {L : Type 0} → (ℕ → ℕ → List Route → Option L) → List Route → ℕ → Option L
for_documents opening routes k = opening k k routes

-- the links are those that were to be made, where told: the first at 0, and so on
abbrev pub AreOpened : {L : Type 0} → (ℕ → Option L) → List L → Type 0
AreOpened {L} opening links = (k : ℕ) (link : L) → slice_get links k ≡ Some link → IsForetold (opening k) link

-- a count that has grown by each of these
abbrev pub grown_by_all : ℕ → List ℕ → ℕ
grown_by_all count [] = count
grown_by_all count (more ∷ rest) = grown_by_all (grown_by count more) rest
