-- Links that are out, and that are taken back one after another.
use Rattle.std.proofs.Common.{◌≡◌, ℕ, ◌+◌, ◌-◌, List, [], ◌∷◌, ◌++◌, length, map, Option, Some, None, refl, ap, sym}
use Rattle.std.proofs.Common.{subst, ◌∙◌, arith, append_assoc, length-append}
use Rattle.std.proofs.lemmas.List.{append-nil, map_push}
use Rattle.std.specs.Prelude.{option_map}
use Rattle.link_traits.specs.Counts.{grown_by}
use Rattle.link_traits.specs.Links.{Lendings, TookBack, one_back, one_out}
use Rattle.play_seats.specs.Lendings.{AreTaken, out_more}
use Rattle.play_seats.specs.Links.{grown_by_all}

pub lent-is : {L : Type 0} (back back' : List L) (out out' : ℕ) → back ≡ back' → out ≡ out'
    → (let a : Lendings L = record { back = back; out = out } in
    let b : Lendings L = record { back = back'; out = out' } in a ≡ b)
lent-is back back' out out' b o = rw (b, o) refl

-- ---- out

-- one more
pub out-one : {L : Type 0} (first mid last : Option (Lendings L)) (count more : ℕ)
    → mid ≡ option_map (out_more count) first
    → last ≡ option_map one_out mid → more ≡ count + 1 → last ≡ option_map (out_more more) first
out-one {L} first mid last count more is next one =
    next ∙ ap (option_map one_out) is ∙ step first ∙ ap (λ (n : ℕ). option_map (out_more n) first) (sym one)
  where
    step : (o : Option (Lendings L)) → option_map one_out (option_map (out_more count) o) ≡ option_map
        (out_more (count + 1)) o
    step None = refl
    step (Some lent) =
        ap (λ (l : Lendings L). let o : Option (Lendings L) = Some l in o)
        (lent-is lent.back lent.back (lent.out + count + 1) (lent.out + (count + 1)) refl (omega arith))

-- ---- back

-- none
pub taken_none : {L : Type 0} (lent : Option (Lendings L)) → AreTaken lent lent []
taken_none None = tt
taken_none {L} (Some lent) = λ few.
    ap (λ (l : Lendings L). let o : Option (Lendings L) = Some l in o)
    (lent-is lent.back (lent.back ++ []) lent.out (lent.out - 0) (sym (append-nil lent.back)) (omega arith))

-- one more
pub taken_one : {L : Type 0} (first mid last : Option (Lendings L)) (links : List L) (link : L)
    → AreTaken first mid links
    → TookBack mid last link → AreTaken first last (links ++ link ∷ [])
taken_one None mid last links link so_far next = tt
taken_one {L} (Some lent) mid last links link so_far next = λ few.
    let many : length (links ++ link ∷ []) ≡ length links + 1 = length-append links (link ∷ []) in
    let before : Lendings L = record { back = lent.back ++ links; out = lent.out - length links } in
    let was : mid ≡ Some before = so_far (omega (arith, few, many)) in
    let now : last ≡ Some (one_back before link) =
    subst (λ (o : Option (Lendings L)). TookBack o last link) was next (omega (arith, few, many)) in
    now ∙ ap (λ (l : Lendings L). let o : Option (Lendings L) = Some l in o)
    (lent-is ((lent.back ++ links) ++ link ∷ []) (lent.back ++ (links ++ link ∷ [])) (lent.out - length links - 1)
    (lent.out - length (links ++ link ∷ [])) (append_assoc lent.back links (link ∷ []))
    (omega (arith, few, many)))

-- ---- counts

pub grown-one : (first : ℕ) (counts : List ℕ) (more : ℕ)
    → grown_by (grown_by_all first counts) more ≡ grown_by_all first (counts ++ more ∷ [])
grown-one first [] more = refl
grown-one first (count ∷ counts) more = grown-one (grown_by first count) counts more

-- the faults of a link more
pub faults_one : {L : Type 0} (faults : L → ℕ) (first mid last : ℕ) (links : List L) (link : L)
    → mid ≡ grown_by_all first (map faults links) → last ≡ grown_by mid (faults link)
    → last ≡ grown_by_all first (map faults (links ++ link ∷ []))
faults_one faults first mid last links link so_far next =
    next ∙ ap (λ (n : ℕ). grown_by n (faults link)) so_far ∙ grown-one first (map faults links) (faults link)
    ∙ ap (grown_by_all first) (sym (map_push faults links link))
