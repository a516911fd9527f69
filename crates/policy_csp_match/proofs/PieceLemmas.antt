-- Pieces of paths: two that decode to the same bytes, the first one, all but the last, and two paths walked through
-- together.
use Rattle.std.proofs.Common.{◌≡◌, ◌∙◌, ◌&&◌, ◌==◌, ◌<◌, ◌+◌, ◌-◌, ℕ, Bool, true, false, cond, nat_eq}
use Rattle.std.proofs.Common.{List, [], ◌∷◌, ◌++◌, bytes_eq, length, take, drop, refl, sym, ap, arith}
use Rattle.std.proofs.Common.{Option, Some, None, MatchOption, IfSome}
use Rattle.std.proofs.lemmas.Grind.{common_steps}
use Rattle.std.proofs.lemmas.List.{take-append-drop, length-append}
use Rattle.std.proofs.lemmas.Slice.Eq.{bytes_eq-Decides}
use Rattle.std.proofs.Math.Seq.{take-append_seam}
use Rattle.std.proofs.lemmas.List.Splits.{length-slice_split, slice_split_first}
use Rattle.std.specs.Cmp.Lexicographic.{pointwise}
use Rattle.std.specs.Iterator.{ComparesItemsByEq, YieldsFirst, YieldsThen}
use Rattle.std.specs.List.{AllZip, onto_first, position, position_or_len, slice_split}
use Rattle.value_lemmas.proofs.Lists.{slice_split-whole}
use Rattle.value_text.specs.Ascii.{slash}
use Rattle.policy_csp_match.specs.Paths.{goes_on, path_part_matches, pieces, same_piece, without_last}
use Rattle.policy_csp_match.specs.Private.Walking.{walks}

-- ---- what `eq` answers of two iterators

module _ {S : Type 0} (shown : S → List ℕ) (r : Bool) where
  -- the last answers of the two
  abbrev Last : Option ℕ → Option ℕ → Type 0
  Last o p = MatchOption o (MatchOption p (r ≡ true) (λ _. r ≡ false))
      (λ x. (r ≡ false) × IfSome p (λ y. nat_eq x y ≡ false))

  at_last : (o p : Option ℕ) (s u t w : S) → YieldsFirst shown s o u → YieldsFirst shown t p w → Last o p
      → r ≡ bytes_eq (shown s) (shown t)
  at_last None None s u t w a b h = rw (a.0, b.0) h
  at_last None (Some y) s u t w a b h = rw (a.0, b) h
  at_last (Some x) None s u t w a b h = rw (a, b.0) h.0
  at_last (Some x) (Some y) s u t w a b h = rw (a, b, h.1) h.0

  along : (cs bs : List ℕ) (o p : Option ℕ) (s u t w : S) → YieldsThen (YieldsFirst shown) s cs o u
      → YieldsThen (YieldsFirst shown) t bs p w → AllZip (λ x y. nat_eq x y ≡ true) cs bs → Last o p
      → r ≡ bytes_eq (shown s) (shown t)
  along [] [] o p s u t w a b z h = at_last o p s u t w (rw (← a.1) at a.2) (rw (← b.1) at b.2) h
  along [] (y ∷ bs) o p s u t w a b z h = absurd z
  along (x ∷ cs) [] o p s u t w a b z h = absurd z
  along (x ∷ cs) (y ∷ bs) o p s u t w a b z h =
      rw (a.1.1, b.1.1, z.0) (along cs bs o p a.1.0 u b.1.0 w (a.0, a.1.2, a.2) (b.0, b.1.2, b.2) z.1 h)

  -- two iterators that show what is left of them are equal where they show the same
  pub equal_from_eq : (s other : S)
      → ComparesItemsByEq (YieldsFirst shown) (λ x y. y ≡ x) (YieldsFirst shown) s other nat_eq r
      → r ≡ bytes_eq (shown s) (shown other)
  equal_from_eq s other d =
      rw (← d.7) (along d.1 d.2 d.3 d.4 s d.5 d.0 d.6 d.8 d.9 d.10 d.11)

-- ---- the first piece

-- where there is no slash, the path is one piece
pub pieces_uncut : (path : List ℕ) → position (λ byte. byte == slash) path ≡ None → pieces path ≡ path ∷ []
pieces_uncut path none = slice_split-whole (λ byte. byte == slash) path (grind (arith, common_steps))

-- else the first piece ends at the first slash
pub pieces_cut : (path : List ℕ) (index : ℕ) → position (λ byte. byte == slash) path ≡ Some index
    → pieces path ≡ take index path ∷ pieces (drop (index + 1) path)
pieces_cut path index some =
    let p : ℕ → Bool = λ byte. byte == slash in
    let here : (position_or_len p path < length path) × (position_or_len p path ≡ index) =
    grind (arith, common_steps) in
    slice_split_first p path 0 here.0 ∙ ap (λ n. take n path ∷ slice_split p (drop (n + 1) path)) here.1

-- ---- the pieces before a last slash

-- a byte before a list of parts, and before the same with an empty part more
one-more : (byte : ℕ) (parts : List (List ℕ)) → 0 < length parts
    → cond (byte == 47) ([] ∷ (parts ++ [] ∷ [])) (onto_first byte (parts ++ [] ∷ []))
    ≡ cond (byte == 47) ([] ∷ parts) (onto_first byte parts) ++ [] ∷ []
one-more byte [] some = absurd (omega arith)
one-more byte (part ∷ parts) some =
    elim (byte == 47)
    as (λ v. cond v ([] ∷ (part ∷ parts ++ [] ∷ [])) (onto_first byte (part ∷ parts ++ [] ∷ []))
    ≡ cond v ([] ∷ (part ∷ parts)) (onto_first byte (part ∷ parts)) ++ [] ∷ [])
    [ true ↦ refl | false ↦ refl ]

-- a slash at the end gives an empty piece more
pieces-slash : (front : List ℕ) → pieces (front ++ 47 ∷ []) ≡ pieces front ++ [] ∷ []
pieces-slash [] = refl
pieces-slash (byte ∷ front) =
    ap (λ l. cond (byte == 47) ([] ∷ l) (onto_first byte l)) (pieces-slash front)
    ∙ one-more byte (pieces front) (omega (arith, length-slice_split (λ b. b == 47) front))

-- the parts before the last of a list
without_last-push : (parts : List (List ℕ)) (part : List ℕ) → without_last (parts ++ part ∷ []) ≡ parts
without_last-push parts part =
    let n : length (parts ++ part ∷ []) - 1 ≡ length parts = omega (arith, length-append parts (part ∷ [])) in
    ap (λ n. take n (parts ++ part ∷ [])) n ∙ take-append_seam parts (part ∷ [])

-- ---- two paths walked through together

-- a path that has pieces, and one that has none
left-none : (more : Bool) (parts : List (List ℕ)) → 0 < length parts → walks more [] parts ≡ more
left-none more [] some = absurd (omega arith)
left-none more (p ∷ ps) some = refl

none-left : (more : Bool) (parts : List (List ℕ)) → 0 < length parts → walks more parts [] ≡ false
none-left more [] some = absurd (omega arith)
none-left more (p ∷ ps) some = refl

-- each path has a piece
pieces-some : (path : List ℕ) → 0 < length (pieces path)
pieces-some path = omega (arith, length-slice_split (λ byte. byte == slash) path)

-- the URL has more pieces
pub left_none : (more : Bool) (path : List ℕ) → walks more [] (pieces path) ≡ more
left_none more path = left-none more (pieces path) (pieces-some path)

-- the URL has no more pieces, and the path has
pub none_left : (more : Bool) (path : List ℕ) → walks more (pieces path) [] ≡ false
none_left more path = none-left more (pieces path) (pieces-some path)

-- with no more pieces they are the same, place by place
pub walks_same : (parts url_parts : List (List ℕ)) → walks false parts url_parts ≡ pointwise same_piece parts url_parts
walks_same [] [] = refl
walks_same [] (u ∷ us) = refl
walks_same (p ∷ ps) [] = refl
walks_same (p ∷ ps) (u ∷ us) = ap (λ rest. same_piece p u && rest) (walks_same ps us)

-- with more pieces the URL goes on
pub walks_on : (parts url_parts : List (List ℕ)) → walks true parts url_parts ≡ goes_on parts url_parts
walks_on [] [] = refl
walks_on [] (u ∷ us) = grind (arith, common_steps)
walks_on (p ∷ ps) [] = grind (arith, common_steps)
walks_on (p ∷ ps) (u ∷ us) = grind (arith, common_steps, walks_on ps us)

-- a path that ends in a slash
pub walks_before_slash : (path front url_path : List ℕ)
    → pointwise nat_eq (drop (length path - 1) path) (47 ∷ []) ≡ true → front ≡ take (length path - 1) path
    → walks true (pieces front) (pieces url_path) ≡ path_part_matches path url_path
walks_before_slash path front url_path ends before =
    let end : drop (length path - 1) path ≡ 47 ∷ [] =
    (bytes_eq-Decides (drop (length path - 1) path) (47 ∷ [])).0 ends in
    let whole : path ≡ front ++ 47 ∷ [] =
    sym (take-append-drop (length path - 1) path) ∙ ap (λ l. take (length path - 1) path ++ l) end
    ∙ ap (λ l. l ++ 47 ∷ []) (sym before) in
    let parts : pieces path ≡ pieces front ++ [] ∷ [] = ap pieces whole ∙ pieces-slash front in
    let others : without_last (pieces path) ≡ pieces front =
    ap without_last parts ∙ without_last-push (pieces front) [] in
    walks_on (pieces front) (pieces url_path)
    ∙ rw (end, others) refl
