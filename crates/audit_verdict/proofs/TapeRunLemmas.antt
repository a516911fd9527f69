-- A document's run over a tape of its entries: the transcript that it comes to, or that it comes to none.
use Rattle.std.proofs.Common.{◌≡◌, ◌≢◌, ◌+◌, ℕ, Bool, true, false, cond, List, [], ◌∷◌, ◌++◌}
use Rattle.std.proofs.Common.{take, drop, refl}
use Rattle.std.proofs.Common.{ap, sym, subst, ◌∙◌, arith, Option, Some}
use Rattle.std.proofs.lemmas.Bool.Decides.{nat_tests}
use Rattle.std.proofs.lemmas.List.{append-nil, take-append-drop}
use Rattle.std.specs.Prelude.{◌==◌}
use Rattle.std.specs.List.{slice_get}
use Rattle.book_calls.specs.declared.book.Book.{Book}
use Rattle.book_calls.specs.declared.entry.Entry.{Entry}
use Rattle.book_calls.specs.declared.op.Op.{Op}
use Rattle.book_calls.specs.declared.op.Reply.TheVariants.{Done}
use Rattle.book_calls.specs.Entries.{entries_of, entry}
use Rattle.book_calls.proofs.EntryLemmas.{entries_of-append}
use Rattle.script_events.specs.declared.events.Ending.TheVariants as ending
use Rattle.script_events.specs.declared.events.Transcript.{Transcript}
use Rattle.script_runs.specs.Runs.{document_client, document_run}
use Rattle.script_scenarios.specs.declared.document.Document.{Document}
use Rattle.script_scenarios.specs.declared.scenario.Scenario.{Scenario}
use Rattle.script_scenarios.specs.declared.servers.Server.{Server}
use Rattle.play_seats.specs.Sim.{SimState}
use Rattle.play_definitions.specs.Playing.{RunCameTo}
use Rattle.play_definitions.specs.Worlds.{outside}
use Rattle.play_isolation.specs.Calls.{PartAtReply}
use Rattle.play_laws.specs.Once.{CallsFollow}
use Rattle.play_definitions.specs.Plays.{RunsOver, by_rules, outside_on, way_to_servers}
use Rattle.play_seats.proofs.ServedLemmas.{fresh_link, served-run, way_of_servers}
use Rattle.play_seats.proofs.ServerLemmas.{by_bytes, sim_told}
use Rattle.audit_replay.specs.Tapes.{IsParted, IsTape, IsUsedUp, Tape, account_of, before_stray, first_op, seen_on}
use Rattle.audit_replay.specs.Tapes.{stray_entries, stray_reply}
use Rattle.audit_verdict.specs.Verdicts.{Comes, ComesTo}
use Rattle.audit_verdict.specs.Private.Runs.{CameTo}

-- ---- the transcript that a run over a tape comes to

-- a pass on which no call was made
abbrev pub fresh_tape : ℕ → Book → List Entry → Tape
fresh_tape number opening history =
    record { document = number; opening = opening; history = history; at = 0; strays = []; calls = 0 }

-- over what the pass has seen the document comes to its transcript
pub seen-run : (scenario : Scenario) (number : ℕ) (opening : Book) (history : List Entry) (document : Document)
    (new : Tape) (link : SimState) (transcript : Transcript) → new.document ≡ number → transcript.document ≡ number
    → transcript.key ≡ (document_client document).key → transcript.ending ≢ ending.Memory
    → RunCameTo by_bytes scenario.body_limit number (document_run scenario.cookies scenario.now document)
    (outside account_of sim_told (fresh_tape number opening history) (fresh_link scenario)) transcript.events
    transcript.ending transcript.clock (outside account_of sim_told new link)
    → ComesTo scenario (seen_on new) number document transcript
seen-run scenario number opening history document new link transcript same numbered keyed told came =
    let whole = document_run scenario.cookies scenario.now document in
    let left = (account_of (fresh_tape number opening history)).left in
    served-run scenario number (seen_on new) document left (account_of new).left link transcript numbered keyed told
    (subst (λ (n : ℕ). RunCameTo by_bytes scenario.body_limit number whole
    (outside_on (way_to_servers scenario) [] left) transcript.events transcript.ending transcript.clock
    (outside_on (way_of_servers link.servers) (entries_of n (seen_on new)) (account_of new).left)) same came)

-- ---- entries that were used up

entries-cut : (number at : ℕ) (history : List Entry)
    → entries_of number history ≡ entries_of number (take at history) ++ entries_of number (drop at history)
entries-cut number at history =
    ap (entries_of number) (sym (take-append-drop at history))
    ∙ entries_of-append number (take at history) (drop at history)

used-entries : (tape : Tape) → IsUsedUp tape
    → entries_of tape.document (seen_on tape) ≡ entries_of tape.document tape.history
used-entries tape used =
    ap (λ (ops : List Op). entries_of tape.document (take tape.at tape.history
    ++ stray_entries tape.document tape.at ops)) used.none_strayed
    ∙ ap (entries_of tape.document) (append-nil (take tape.at tape.history))
    ∙ sym (entries-cut tape.document tape.at tape.history
    ∙ ap (λ (l : List Entry). entries_of tape.document (take tape.at tape.history) ++ l) used.none_left
    ∙ append-nil (entries_of tape.document (take tape.at tape.history)))

-- over entries that are the same
over-same : (scenario : Scenario) (history others : List Entry) (number : ℕ) (document : Document)
    (transcript : Transcript) → entries_of number history ≡ entries_of number others
    → ComesTo scenario history number document transcript → ComesTo scenario others number document transcript
over-same scenario history others number document transcript same comes = record {
  document_is = comes.document_is;
  key_is = comes.key_is;
  run_is = subst (λ (l : List Entry). RunsOver by_rules scenario.body_limit number (way_to_servers scenario)
      (way_to_servers scenario) l (document_run scenario.cookies scenario.now document) transcript.events
      transcript.ending transcript.clock) same comes.run_is;
}

-- the document comes to this transcript over the history
pub used-run : (scenario : Scenario) (number : ℕ) (history : List Entry) (document : Document) (new : Tape)
    (transcript : Transcript) → slice_get scenario.documents number ≡ Some document → new.document ≡ number
    → new.history ≡ history → transcript.ending ≢ ending.Memory → IsUsedUp new
    → ComesTo scenario (seen_on new) number document transcript → CameTo scenario history number transcript
used-run scenario number history document new transcript at same over told used comes = record {
  document = document;
  document_is = at;
  comes = over-same scenario (seen_on new) history number document transcript
      (subst (λ (n : ℕ). entries_of n (seen_on new) ≡ entries_of n history) same
      (used-entries new used ∙ ap (entries_of new.document) over)) comes;
  told = told;
}

-- ---- entries that were not

-- the calls of one run go on to differ as they do behind what they have in common
part-behind : (front more others : List Entry) → PartAtReply (front ++ more) (front ++ others)
    → PartAtReply more others
part-behind [] more others part = part
part-behind (entry ∷ front) more others part = part-behind front more others (part.1 refl)

-- The document's own entry of a stray call, which follows one of another document.
record OwnStray (number turn : ℕ) (op : Op) (ops : List Op) : Type 0 where
  pub one : Entry
  pub rest : List Entry
  pub op_is : one.op ≡ op
  pub own_is : entries_of number (stray_entries number turn (op ∷ ops)) ≡ one ∷ rest

own-stray : (number turn : ℕ) (op : Op) (ops : List Op) → OwnStray number turn op ops
own-stray number turn op ops =
    let fake = entry turn (number + 1) (before_stray op) Done in
    let one = entry (turn + 1) number op (stray_reply op) in
    let rest = entries_of number (stray_entries number (turn + 2) ops) in
    let other : (number + 1 == number) ≡ false = grind (arith, nat_tests) in
    let same : (number == number) ≡ true = grind (arith, nat_tests) in
    record {
      one = one;
      rest = rest;
      op_is = refl;
      own_is = ap (λ (b : Bool). cond b (fake ∷ cond (number == number) (one ∷ rest) rest)
          (cond (number == number) (one ∷ rest) rest)) other
          ∙ ap (λ (b : Bool). cond b (one ∷ rest) rest) same;
    }

-- entries that a tape has left, or a stray that it does not have, are no end of one run
stray-not : (op : Op) (one : Entry) (rest left : List Entry) → one.op ≡ op → first_op left ≢ Some op
    → PartAtReply (one ∷ rest) left → ⊥
stray-not op one rest [] is parted part = absurd part
stray-not op one rest (next ∷ left) is parted part =
    parted (ap (λ (o : Op). let some : Option Op = Some o in some) (sym part.0 ∙ is))

left-not : (left : List Entry) → (left ≡ [] → ⊥) → PartAtReply [] left → ⊥
left-not [] not_used part = not_used refl
left-not (next ∷ left) not_used part = absurd part

parts-not : (number : ℕ) (left : List Entry) (turn : ℕ) (strays : List Op) → IsParted left strays
    → (strays ≡ [] → left ≡ [] → ⊥) → PartAtReply (entries_of number (stray_entries number turn strays)) left → ⊥
parts-not number left turn [] parted not_used part = left-not left (not_used refl) part
parts-not number left turn (op ∷ ops) parted not_used part =
    let own = own-stray number turn op ops in
    stray-not op own.one own.rest left own.op_is parted
    (subst (λ (l : List Entry). PartAtReply l left) own.own_is part)

-- so the document comes to no transcript over the history
pub unused-run : CallsFollow (List Server) → (scenario : Scenario) (number : ℕ) (history : List Entry)
    (document : Document) (new : Tape) (transcript : Transcript)
    → slice_get scenario.documents number ≡ Some document → new.document ≡ number → new.history ≡ history
    → IsTape new → ¬ (IsUsedUp new) → ComesTo scenario (seen_on new) number document transcript
    → ¬ (Comes scenario history number)
unused-run law scenario number history document new transcript at same over is unused comes = λ other.
    let one : other.document ≡ document = some-same (sym other.document_is ∙ at) in
    let part : PartAtReply (entries_of number (seen_on new)) (entries_of number history) =
    law by_rules scenario scenario.now (seen_on new) history number document (way_to_servers scenario)
    (way_to_servers scenario) transcript other.transcript
    (record { state = scenario.servers; told = refl; none = refl }) comes
    (subst (λ (d : Document). ComesTo scenario history number d other.transcript) one other.comes) in
    let here : PartAtReply (entries_of new.document (seen_on new)) (entries_of new.document new.history) =
    subst (λ (n : ℕ). PartAtReply (entries_of n (seen_on new)) (entries_of n new.history)) (sym same)
    (subst (λ (l : List Entry). PartAtReply (entries_of number (seen_on new)) (entries_of number l)) (sym over) part) in
    let front = take new.at new.history in
    parts-not new.document (entries_of new.document (drop new.at new.history)) new.at new.strays is.parted
    (λ none left. unused (record { none_strayed = none; none_left = left }))
    (part-behind (entries_of new.document front)
    (entries_of new.document (stray_entries new.document new.at new.strays))
    (entries_of new.document (drop new.at new.history))
    (subst (λ (l : List Entry). PartAtReply l (entries_of new.document front
    ++ entries_of new.document (drop new.at new.history)))
    (entries_of-append new.document front (stray_entries new.document new.at new.strays))
    (subst (PartAtReply (entries_of new.document (seen_on new))) (entries-cut new.document new.at new.history) here)))
  where
    some-same : {A : Type 0} {a b : A} → Some a ≡ Some b → a ≡ b
    some-same is = cc

-- ---- a document

-- over what a pass has seen that was new, with a link that was, the document comes to its transcript
pub came-to : (scenario : Scenario) (number : ℕ) (opening : Book) (history : List Entry) (document : Document)
    (old new : Tape) (first link : SimState) (transcript : Transcript) → old ≡ fresh_tape number opening history
    → first ≡ fresh_link scenario → new.document ≡ old.document → transcript.document ≡ number
    → transcript.key ≡ (document_client document).key → transcript.ending ≢ ending.Memory
    → RunCameTo by_bytes scenario.body_limit old.document (document_run scenario.cookies scenario.now document)
    (outside account_of sim_told old first) transcript.events transcript.ending transcript.clock
    (outside account_of sim_told new link) → ComesTo scenario (seen_on new) number document transcript
came-to scenario number opening history document old new first link transcript fresh opened same numbered keyed told
    came =
    let one : old.document ≡ number = ap (λ (t : Tape). t.document) fresh in
    let whole = document_run scenario.cookies scenario.now document in
    seen-run scenario number opening history document new link transcript (same ∙ one) numbered keyed told
    (subst (λ (t : Tape). RunCameTo by_bytes scenario.body_limit t.document whole
    (outside account_of sim_told t (fresh_link scenario)) transcript.events transcript.ending transcript.clock
    (outside account_of sim_told new link)) fresh
    (subst (λ (l : SimState). RunCameTo by_bytes scenario.body_limit old.document whole
    (outside account_of sim_told old l) transcript.events transcript.ending transcript.clock
    (outside account_of sim_told new link)) opened came))
