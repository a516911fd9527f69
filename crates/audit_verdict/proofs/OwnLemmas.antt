-- The text of each play of a scenario holds its history, so it is found to be one.
use Rattle.std.proofs.Common.{◌+◌, ◌*◌, ◌<◌, ◌≤◌, ◌^◌, ℕ, List, [], ◌∷◌, length, arith, refl, subst}
use Rattle.std.specs.List.{AllByRecursion}
use Rattle.book_calls.specs.declared.entry.Entry.{Entry}
use Rattle.book_calls.specs.Entries.{HasTurnsFrom}
use Rattle.audit_text.specs.Entries.{IsEntry}
use Rattle.audit_text.specs.Histories.{Holds}
use Rattle.audit_text.specs.Laws.{HoldsOne, PrintedHolds}
use Rattle.play_words.specs.Laws.{IsToldOp, PlaysFew, PlaysTold}
use Rattle.play_definitions.specs.Plays.{by_rules, ways_to_servers}
use Rattle.play_text.specs.Text.{play_text}
use Rattle.script_scenarios.specs.declared.servers.Server.{Server}
use Rattle.audit_verdict.specs.Laws.{AcceptsPlays, HaveOneHistory, HoldsHistory}
use Rattle.audit_verdict.proofs.LawLemmas.{is-complete}
use Rattle.audit_verdict.proofs.ReadyLemmas.{documents-ready, scenario-valid}

entries-are : (count turn : ℕ) (history : List Entry) → count ≤ 128 → turn + length history ≤ count * 129024
    → HasTurnsFrom turn history → AllByRecursion (λ (entry : Entry). entry.document < count) history
    → AllByRecursion (λ (entry : Entry). IsToldOp entry.op) history → AllByRecursion IsEntry history
entries-are count turn [] few most turns named told = tt
entries-are count turn (entry ∷ history) few most turns named told =
    let small : turn < 2 ^ 64 = omega (arith, few, most) in (
      record {
        turn = omega (arith, turns.0, small);
        document = omega (arith, named.0, few);
        op = told.0.0;
        words = told.0.1;
      },
      entries-are count (turn + 1) history few (omega (arith, most)) turns.1 named.1 told.1,
    )

module _ (printed : PrintedHolds) where
  pub holds-history : (State : Type 0) → PlaysTold State → PlaysFew State → HoldsHistory State
  holds-history State tells fewness play history is =
      let valid = scenario-valid is.bytes is.scenario is.read in
      let told = tells is.by is.scenario is.base is.olds is.news is.transcripts history is.soon
      (documents-ready is.bytes is.scenario is.read) is.is_play in
      let few = fewness is.by is.scenario is.base is.olds is.news is.transcripts history is.is_play in
      let entries = entries-are (length is.scenario.documents) 0 history valid.few_documents (omega (arith, few))
      is.is_play.turns is.is_play.named told.ops in
      subst (λ (l : List ℕ). Holds l history) is.text_is (printed is.transcripts history told.are_plain entries)

  pub one-history : HoldsOne → (State Other : Type 0) → PlaysTold State → PlaysFew State → PlaysTold Other
      → PlaysFew Other → HaveOneHistory State Other
  one-history law State Other tells fewness told few play history other is too =
      law play history other (holds-history State tells fewness play history is)
      (holds-history Other told few play other too)

  pub accepts-plays : PlaysTold (List Server) → PlaysFew (List Server) → AcceptsPlays
  accepts-plays tells fewness bytes scenario transcripts history read play =
      let ways = ways_to_servers scenario in
      is-complete bytes (play_text transcripts history) (record {
        scenario = scenario;
        read = read;
        transcripts = transcripts;
        history = history;
        is_play = play;
        holds = holds-history (List Server) tells fewness (play_text transcripts history) history (record {
          bytes = bytes;
          scenario = scenario;
          read = read;
          by = by_rules;
          base = scenario.now;
          soon = omega (arith, (scenario-valid bytes scenario read).now);
          olds = ways;
          news = ways;
          transcripts = transcripts;
          is_play = play;
          text_is = refl;
        });
        text_is = refl;
      })
