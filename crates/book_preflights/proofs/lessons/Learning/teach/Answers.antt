use Rattle.std.proofs.Common.{sym, ◌∙◌}
use Rattle.book_preflights.proofs.TeachLemmas.{learnt-new}
use Rattle.book_preflights.proofs.lessons.Learning.teach.Goals as goal

pub returns : goal.returns
returns c =
    let made = c.create-mark.ensures in
    let added = c.add.ensures in
    learnt-new c.args.lesson.now c.args.now c.args.item c.args.self.now c.add.new.self c.add.result
    (sym c.renew.ensures.any ∙ c.if-renew.false) (rw (c.renew.ensures.all, made) at added)
