-- Reports that are delivered, one document after another.
use Rattle.std.proofs.Common.{◌≡◌, ℕ, zero, suc, ◌+◌, ◌-◌, List, [], ◌∷◌, ◌++◌, length, take, Option, Some, ap, sym}
use Rattle.std.proofs.Common.{subst}
use Rattle.std.proofs.Common.{◌∙◌, arith, take_all}
use Rattle.std.specs.Prelude.{slice_get, unwrap_or}
use Rattle.std.specs.List.{All}
use Rattle.std.proofs.lemmas.List.{append-nil}
use Rattle.std.proofs.lemmas.Option.{slice_get_within, unwrap_or-slice_get}
use Rattle.book_calls.specs.declared.book.Book.{Book}
use Rattle.book_calls.specs.declared.entry.Entry.{Entry}
use Rattle.book_calls.specs.Solo.{Solo}
use Rattle.play_definitions.specs.Plays.{RunsOver, Way, outside_on}
use Rattle.fetch_wire.specs.Exchanges.{Answering}
use Rattle.play_definitions.specs.Playing.{RunPlayed}
use Rattle.report_delivery.specs.declared.delivery.Delivered.{Delivered}
use Rattle.report_play.specs.Private.Delivered.{EachDelivered}
use Rattle.script_events.specs.declared.events.Ending.{Ending}
use Rattle.script_events.specs.declared.events.Event.{Event}
use Rattle.script_events.specs.declared.events.Transcript.{Transcript}
use Rattle.script_runs.specs.Play.{Play}

module _ {L : Type 0} {Is : Transcript → Book → List Entry → L → Delivered → Book → List Entry → Type 0} where
  each-push : {book last after : Book} {history whole longer : List Entry} {transcripts : List Transcript}
      {links : List L} {delivereds : List Delivered} {transcript : Transcript} {link : L} {delivered : Delivered}
      → EachDelivered Is book history transcripts links delivereds last whole
      → Is transcript last whole link delivered after longer
      → EachDelivered Is book history (transcripts ++ transcript ∷ []) (links ++ link ∷ [])
      (delivereds ++ delivered ∷ []) after longer
  each-push EachDelivered.none is = EachDelivered.one_more is EachDelivered.none
  each-push (EachDelivered.one_more one more) is = EachDelivered.one_more one (each-push more is)

  -- nothing was delivered
  pub delivered-none : (book : Book) (history : List Entry) (delivereds : List Delivered) → delivereds ≡ []
      → EachDelivered Is book history [] [] delivereds book history
  delivered-none book history delivereds empty = rw (empty) EachDelivered.none

  -- the reports of one document more
  pub delivered-more : (book last after : Book) (history whole longer : List Entry) (transcripts : List Transcript)
      (number : ℕ) (links : List L) (delivereds : List Delivered) (transcript : Transcript) (link : L)
      (delivered : Delivered) → slice_get transcripts number ≡ Some transcript
      → EachDelivered Is book history (take number transcripts) links delivereds last whole
      → Is transcript last whole link delivered after longer
      → EachDelivered Is book history (take (number + 1) transcripts) (links ++ link ∷ [])
      (delivereds ++ delivered ∷ []) after longer
  delivered-more book last after history whole longer transcripts number links delivereds transcript link delivered at
      are is =
      rw (take-more transcripts number transcript at) (each-push are is)
    where
      one-more : (n : ℕ) → n + 1 ≡ suc n
      one-more n = omega arith

      go : (ys : List Transcript) (k : ℕ) (x : Transcript) → slice_get ys k ≡ Some x
          → take (suc k) ys ≡ take k ys ++ x ∷ []
      go [] k x found = absurd (cc)
      go (y ∷ ys) zero x found = let same : y ≡ x = cc in ap (λ (z : Transcript). z ∷ []) same
      go (y ∷ ys) (suc k) x found = ap (λ (l : List Transcript). y ∷ l) (go ys k x found)

      take-more : (xs : List Transcript) (i : ℕ) (x : Transcript) → slice_get xs i ≡ Some x
          → take (i + 1) xs ≡ take i xs ++ x ∷ []
      take-more xs i x found = ap (λ (n : ℕ). take n xs) (one-more i) ∙ go xs i x found

  -- those of all documents
  pub delivered-all : (book last : Book) (history whole : List Entry) (transcripts : List Transcript) (number : ℕ)
      (links yielded rest : List L) (delivereds : List Delivered)
      → EachDelivered Is book history (take number transcripts) yielded delivereds last whole
      → yielded ++ rest ≡ links → length rest ≡ 0 → number ≡ length yielded → length links ≡ length transcripts
      → EachDelivered Is book history transcripts links delivereds last whole
  delivered-all book last history whole transcripts number links yielded (x ∷ rest) delivereds are all none count many =
      absurd (omega (arith, none))
  delivered-all book last history whole transcripts number links yielded [] delivereds are all none count many =
      let same : yielded ≡ links = sym (append-nil yielded) ∙ all in
      subst (λ (l : List L). EachDelivered Is book history transcripts l delivereds last whole) same
      (subst (λ (l : List Transcript). EachDelivered Is book history l yielded delivereds last whole)
      (take_all number transcripts (omega (arith, count, many, ap length same))) are)

-- the run of a document's reports over a pass that had no entries yet
pub solo-runs : {State : Type 0} (by : Answering State) (limit document : ℕ) (old new : Way State) (first last : Solo)
    (number : ℕ) (whole : Play) (events : List Event) (ending : Ending) (clock : ℕ) → first.entries ≡ []
    → first.document ≡ document
    → RunPlayed by limit first.document whole (outside_on old first.entries number) events ending clock
    (outside_on new last.entries (4294967295 - last.calls))
    → RunsOver by limit document old new last.entries whole events ending clock
solo-runs by limit document old new first last number whole events ending clock none is ran =
    let behind = 4294967295 - last.calls in
    record {
      before = number;
      behind = behind;
      ran = subst (λ (d : ℕ). RunPlayed by limit d whole (outside_on old [] number) events ending clock
          (outside_on new last.entries behind)) is
          (subst (λ (l : List Entry). RunPlayed by limit first.document whole (outside_on old l number) events ending
          clock (outside_on new last.entries behind)) none ran);
    }

-- what holds of each item holds of the one at an index
pub all-at : {X : Type 0} (P : X → Type 0) (xs : List X) (k : ℕ) (x : X) → All P xs → slice_get xs k ≡ Some x → P x
all-at {X} P xs k x all at =
    subst P (sym (unwrap_or-slice_get xs k x) ∙ ap (λ (o : Option X). unwrap_or o x) at)
    (all k x (slice_get_within xs k x at))
