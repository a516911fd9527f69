-- What makes links, those that it made for a play, and that it has taken back.
use Rattle.std.proofs.Common.{◌≡◌, ℕ, ◌+◌, ◌-◌, List, [], ◌++◌, ◌≤◌, length, map, Option, Some, None, refl, ap, sym}
use Rattle.std.proofs.Common.{subst, ◌∙◌, arith}
use Rattle.std.proofs.lemmas.List.{append-nil, length-map}
use Rattle.std.specs.Prelude.{option_map}
use Rattle.link_traits.specs.Links.{Lendings, LinkTold, faults_told}
use Rattle.play_seats.proofs.LendingLemmas.{lent-is}
use Rattle.play_seats.specs.Lendings.{AreTaken, out_more}
use Rattle.play_seats.specs.Links.{AreOpened, for_documents, grown_by_all}
use Rattle.script_scenarios.specs.declared.scenario.Scenario.{Scenario}
use Rattle.play_seats.specs.Seated.{links_in}
use Rattle.play_seats.specs.Makers.{AreBack, CameBack, HasTakenBack, Maker, TookAllBack, WereMade}
use Rattle.play_definitions.specs.declared.seating.Seating.{Seating}
use Rattle.book_turns.specs.declared.pass.TurnPass.{TurnPass}

-- so many that are out, and all of them back
pub all-back : {L : Type 0} (first mid last : Option (Lendings L)) (links : List L) (count : ℕ)
    → mid ≡ option_map (out_more count) first → AreTaken mid last links → length links ≡ count → AreBack first last
    links
all-back None mid last links count out taken many = tt
all-back {L} (Some lent) mid last links count out taken many =
    let x : AreTaken (Some (out_more count lent)) last links =
    subst (λ (o : Option (Lendings L)). AreTaken o last links) out taken in
    x (omega (arith, many))
    ∙ ap (λ (l : Lendings L). let o : Option (Lendings L) = Some l in o)
    (lent-is (lent.back ++ links) (lent.back ++ links) (lent.out + count - length links) lent.out refl
    (omega (arith, many)))

-- ---- what makes links

-- nothing was made
pub nothing-taken : {L State : Type 0} (told : L → LinkTold State) (maker : Maker L) → TookAllBack told maker maker []
nothing-taken {L} told maker = record { lent = same maker.lent; counted = refl }
  where
    same : (lent : Option (Lendings L)) → AreBack lent lent []
    same None = tt
    same (Some lent) =
        ap (λ (l : Lendings L). let o : Option (Lendings L) = Some l in o)
        (lent-is lent.back (lent.back ++ []) lent.out lent.out (sym (append-nil lent.back)) refl)

pub none-taken : {L State : Type 0} (told : L → LinkTold State) (maker : Maker L) → HasTakenBack told maker maker
none-taken told maker = record { back = []; took = nothing-taken told maker }

-- all that were made came back
pub took-all : {L State : Type 0} (told : L → LinkTold State) (old mid new : Maker L) (links : List L) (count : ℕ)
    → mid.lent ≡ option_map (out_more count) old.lent → mid.faults ≡ old.faults → length links ≡ count
    → AreTaken mid.lent new.lent links → new.faults ≡ grown_by_all mid.faults (map (faults_told told) links)
    → TookAllBack told old new links
took-all told old mid new links count out same many taken counted = record {
  lent = all-back old.lent mid.lent new.lent links count out taken many;
  counted = counted ∙ ap (λ (n : ℕ). grown_by_all n (map (faults_told told) links)) same;
}

-- ---- the links of a play that is opened

-- none was made
pub none-back : {L State : Type 0} (told : L → LinkTold State) (maker : Maker L) (scenario : Scenario)
    → CameBack told maker maker scenario
none-back told maker scenario = record {
  made = [];
  opened = λ k link at. absurd (cc (at));
  few = omega arith;
  took = nothing-taken told maker;
}

module _ {L : Type 0} (old mid : Maker L) (scenario : Scenario) (seats : List (Seating L TurnPass))
    (opened : AreOpened (for_documents old.opening scenario.routes) (links_in seats))
    (few : length seats ≤ length scenario.documents) (out : mid.lent ≡ option_map (out_more (length seats)) old.lent)
    (same : mid.faults ≡ old.faults) where
  many : length (links_in seats) ≡ length seats
  many = length-map seats (λ (s : Seating L TurnPass). s.link)

  -- those of the seats
  pub seats-made : WereMade old mid scenario (links_in seats)
  seats-made = record {
    opened = opened;
    few = omega (arith, few, many);
    out = out ∙ ap (λ (n : ℕ). option_map (out_more n) old.lent) (sym many);
    faults = same;
  }

  -- which came back as they were
  pub seats-back : {State : Type 0} (told : L → LinkTold State) (new : Maker L)
      → AreTaken mid.lent new.lent (links_in seats)
      → new.faults ≡ grown_by_all mid.faults (map (faults_told told) (links_in seats))
      → CameBack told old new scenario
  seats-back told new taken counted = record {
    made = links_in seats;
    opened = opened;
    few = omega (arith, few, many);
    took = took-all told old mid new (links_in seats) (length seats) out same many taken counted;
  }
