use Rattle.std.proofs.Common.{ap, arith, ◌<◌}
use Rattle.book_calls.specs.Solo.{Solo}
use Rattle.book_calls.proofs.EntryLemmas.{entries_of-all}
use Rattle.book_calls.proofs.SoloLemmas.{kind-of, solo_extends, solo_next}
use Rattle.book_calls.proofs.solo.SoloBookShare.call.Goals as goal

pub invariant_of-pass : goal.invariant_of-pass
invariant_of-pass c =
    let a = c.apply.ensures in
    let few : c.pass.inside.calls < 4294967295 =
    omega (arith, ap (λ (s : Solo). s.calls) c.pass.view_is, c.requires.left) in
    solo_next _ _ _ _ _ _ _ _ c.args.op c.pass.invariant _ c.len-turn.ensures few c.apply.result a.reply a.book a.history a.err

pub returns-clause-ok : goal.returns-clause-ok
returns-clause-ok c =
    let a = c.apply.ensures in
    rw (← c.pass.view_is) (solo_extends _ _ c.apply.new.book _ _ _ _ _ c.args.op c.pass.invariant _ c.len-turn.ensures c.apply.result a.reply
    a.history)

pub returns-clause-kind : goal.returns-clause-kind
returns-clause-kind c = kind-of _ c.args.op c.apply.result c.apply.ensures.reply

pub returns-clause-whole : goal.returns-clause-whole
returns-clause-whole c =
    let a = c.apply.ensures in
    let few : c.pass.inside.calls < 4294967295 =
    omega (arith, ap (λ (s : Solo). s.calls) c.pass.view_is, c.requires.left) in
    entries_of-all _ _ (solo_next _ _ _ _ _ _ _ _ c.args.op c.pass.invariant _ c.len-turn.ensures few c.apply.result a.reply a.book a.history
    a.err).of_document
