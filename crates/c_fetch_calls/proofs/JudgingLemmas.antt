-- What a fetch comes to without the network, act by act.
use Rattle.std.proofs.Common.{◌≡◌, ◌∙◌, ◌+◌, ◌<◌, ℕ, suc, Result, Ok, Err, OnErr, ap, arith, inl, inr, refl, sym}
use Rattle.book_calls.specs.declared.book.Book.{Book}
use Rattle.c_fetch_calls.specs.Judging.{IsCut, Judged, many, most_alone, one_more}
use Rattle.c_fetch_calls.specs.Private.Acts.{IsCutThere}

pub many-none : (first : Judged) → first ≡ many 0 first
unfolding many
many-none first = refl

many-suc : (first : Judged) (times : ℕ) → many (suc times) first ≡ one_more (many times first)
unfolding many
many-suc first times = refl

pub many-more : (first it next : Judged) (times : ℕ) → it ≡ many times first → next ≡ one_more it
    → next ≡ many (times + 1) first
many-more first it next times is goes =
    rw (goes, is, let e : times + 1 ≡ suc times = omega arith in e, many-suc first times) refl

-- it was cut off at an act
pub cut-at : {T E : Type 0} (result : Result T E) (first it : Judged) (times : ℕ) (book : Book)
    → times < most_alone → it ≡ many times first → IsCutThere it book → OnErr result (IsCut first book)
cut-at (Ok value) first it times book few is cut = tt
cut-at (Err refused) first it times book few is (inl at) =
    (times, omega (arith, few), at ∙ ap (λ (j : Judged). j.book) is)
cut-at (Err refused) first it times book few is (inr at) = (
  suc times,
  omega (arith, few),
  at ∙ ap (λ (j : Judged). (one_more j).book) is ∙ ap (λ (j : Judged). j.book) (sym (many-suc first times)),
)
