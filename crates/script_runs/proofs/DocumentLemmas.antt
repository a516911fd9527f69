-- What holds of each document of a play.
use Rattle.std.proofs.Common.{◌≡◌, ℕ, ◌+◌, List, [], ◌∷◌, ◌++◌, length, map, refl, ap, arith, subst, ◌∙◌}
use Rattle.std.specs.List.{All, range_with_len}
use Rattle.std.proofs.lemmas.List.Elements.{All-nil, All-cons, All-head, All-tail}
use Rattle.script_events.specs.declared.events.Transcript.{Transcript}
use Rattle.script_runs.specs.Documents.{EachDocument}
use Rattle.script_scenarios.specs.declared.document.Document.{Document}

module _ {State : Type 0} {Is : ℕ → Document → State → State → Transcript → Type 0} where
  -- what follows of one follows of each, also where its states are seen otherwise
  pub each-seen : {Seen : Type 0} {Was : ℕ → Document → Seen → Seen → Transcript → Type 0} {number : ℕ}
      {documents : List Document} {olds news : List State} {transcripts : List Transcript} (seen : State → Seen)
      → ((n : ℕ) (document : Document) (old new : State) (transcript : Transcript)
      → Is n document old new transcript → Was n document (seen old) (seen new) transcript)
      → EachDocument Is number documents olds news transcripts
      → EachDocument Was number documents (map seen olds) (map seen news) transcripts
  each-seen seen so EachDocument.none = EachDocument.none
  each-seen seen so (EachDocument.one_more is more) =
      EachDocument.one_more (so _ _ _ _ _ is) (each-seen seen so more)

  pub each-so : {Was : ℕ → Document → State → State → Transcript → Type 0} {number : ℕ}
      {documents : List Document} {olds news : List State} {transcripts : List Transcript}
      → ((n : ℕ) (document : Document) (old new : State) (transcript : Transcript)
      → Is n document old new transcript → Was n document old new transcript)
      → EachDocument Is number documents olds news transcripts
      → EachDocument Was number documents olds news transcripts
  each-so so EachDocument.none = EachDocument.none
  each-so so (EachDocument.one_more is more) = EachDocument.one_more (so _ _ _ _ _ is) (each-so so more)

  -- what holds of the states and of the transcripts besides
  pub each-with : (Old New : State → Type 0) (Told : Transcript → Type 0) {number : ℕ}
      {documents : List Document} {olds news : List State} {transcripts : List Transcript}
      → All Old olds → All New news → All Told transcripts
      → EachDocument Is number documents olds news transcripts
      → EachDocument (λ n document old new transcript. Is n document old new transcript × Old old × New new
      × Told transcript) number documents olds news transcripts
  each-with Old New Told before behind told EachDocument.none = EachDocument.none
  each-with Old New Told before behind told (EachDocument.one_more {old = old} {new = new} {transcript = transcript}
      {olds = olds} {news = news} {transcripts = transcripts} is more) =
      EachDocument.one_more
      (is, All-head Old old olds before, All-head New new news behind, All-head Told transcript transcripts told)
      (each-with Old New Told (All-tail Old old olds before) (All-tail New new news behind)
      (All-tail Told transcript transcripts told) more)

  -- what follows of the state after
  pub each-after : (P : State → Type 0) {number : ℕ} {documents : List Document} {olds news : List State}
      {transcripts : List Transcript}
      → ((n : ℕ) (document : Document) (old new : State) (transcript : Transcript)
      → Is n document old new transcript → P new)
      → EachDocument Is number documents olds news transcripts → All P news
  each-after P so EachDocument.none = All-nil P
  each-after P so (EachDocument.one_more {new = new} {news = news} is more) =
      All-cons P new news (so _ _ _ _ _ is) (each-after P so more)

  -- where the states after tell their numbers, they tell those of their documents
  pub each-numbered : (number_of : State → ℕ) {number : ℕ} {documents : List Document} {olds news : List State}
      {transcripts : List Transcript}
      → ((n : ℕ) (document : Document) (old new : State) (transcript : Transcript)
      → Is n document old new transcript → number_of new ≡ n)
      → EachDocument Is number documents olds news transcripts
      → map number_of news ≡ range_with_len number (length documents)
  each-numbered number_of is_numbered EachDocument.none = refl
  each-numbered number_of is_numbered (EachDocument.one_more {number = number} {new = new} {news = news} is more) =
      ap (λ (n : ℕ). n ∷ map number_of news) (is_numbered _ _ _ _ _ is)
      ∙ ap (λ (numbers : List ℕ). number ∷ numbers) (each-numbered number_of is_numbered more)

-- one document more
pub each-more : {State : Type 0} {Is : ℕ → Document → State → State → Transcript → Type 0} {number : ℕ}
    {documents : List Document} {olds news : List State} {transcripts : List Transcript} {document : Document}
    {old new : State} {transcript : Transcript} → EachDocument Is number documents olds news transcripts
    → Is (number + length documents) document old new transcript
    → EachDocument Is number (documents ++ document ∷ []) (olds ++ old ∷ []) (news ++ new ∷ [])
    (transcripts ++ transcript ∷ [])
each-more {Is = Is} {number = number} {document = document} {old = old} {new = new} {transcript = transcript}
    EachDocument.none is =
    let sum : number + 0 ≡ number = omega arith in
    EachDocument.one_more (subst (λ (n : ℕ). Is n document old new transcript) sum is) EachDocument.none
each-more {Is = Is} {number = number} {document = document} {old = old} {new = new} {transcript = transcript}
    (EachDocument.one_more {documents = documents} one more) is =
    let sum : number + length (document ∷ documents) ≡ number + 1 + length documents = omega arith in
    EachDocument.one_more one (each-more more (subst (λ (n : ℕ). Is n document old new transcript) sum is))
