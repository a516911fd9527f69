-- What every call of the one that plays leaves.
use Rattle.std.specs.Borrow.{Bor}
use Rattle.book_calls.specs.Accounts.{Account}
use Rattle.play_definitions.specs.declared.lent.Lent.{Lent}
use Rattle.play_definitions.specs.declared.player.Player.{Player}
use Rattle.play_definitions.proofs.Words.{ℕ, ◌+◌, ◌≡◌, ◌≤◌, Keeps, KeepsPass, refl, subst, terms_of}

module _ {S L P : Type 0} {account : P → Account} {belongs : S → P → Type 0} where
  -- a run goes by the same still
  pub same-terms : {a b : Player S L P} → Keeps account belongs a b → terms_of account b ≡ terms_of account a
  same-terms x = rw (x.lent, x.document) refl

  -- and the pass that comes back is as a call leaves it that was lent it
  pub keeps-pass : {a b : Player S L P} {pass : P} {most : ℕ} → Keeps account belongs a b → b.pass.now ≡ pass
      → (account a.pass.now).left ≤ (account b.pass.now).left + most
      → KeepsPass account (belongs a.lent.now.share.now) most a.pass.now pass
  keeps-pass {b = b} x back few = rw (← back) (record {
    belongs_to = subst (λ (l : Bor (Lent S)). belongs l.now.share.now b.pass.now) x.lent x.ready.belongs_to;
    document = x.document;
    opening = x.opening;
    few = few;
  })
