use Rattle.std.proofs.Common.{inl, inr}
use Rattle.c_play.proofs.AuditLemmas.{told-refused}
use Rattle.c_play.proofs.audits.told.Goals as goal

pub returns-in-Scenario-clause-told : goal.returns-in-Scenario-clause-told
returns-in-Scenario-clause-told c =
    told-refused c.args.verdict.now c.args.line.now c.args.room.now c.refused.new.room c.refused.new.len
    c.refused.result
    (λ play. elim c.in-Scenario.is [
      | inl x ↦ cc (play, x.1)
      | inr other ↦ elim other [
        | inl x ↦ cc (play, x.1)
        | inr other ↦ elim other [
          | inl x ↦ cc (play, x.1)
          | inr other ↦ elim other [
            | inl x ↦ cc (play, x.1)
            | inr other ↦ elim other [ inl x ↦ cc (play, x.1) | inr x ↦ cc (play, x.1) ]
          ]
        ]
      ]
    ])
    c.requires c.refused.ensures.told
