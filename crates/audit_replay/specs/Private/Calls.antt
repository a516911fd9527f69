-- What a call does to a pass of a tape.
use Rattle.std.specs.Prelude.{◌≡◌, ◌≢◌, ℕ, ◌+◌, List, [], ◌∷◌, ◌++◌, drop, length, Some}
use Rattle.book_calls.specs.declared.entry.Entry.{Entry}
use Rattle.book_calls.specs.declared.op.Op.{Op}
use Rattle.book_calls.specs.declared.op.Reply.{Reply}
use Rattle.book_calls.specs.Entries.{entries_of}
use Rattle.audit_replay.specs.Tapes.{Tape, first_op, stray_reply}

-- The document's next entry stands at this index: none between is of the document.
pub record IsNext (tape : Tape) (index : ℕ) : Type 0 where
  pub between : List Entry
  pub entry : Entry
  pub back : List Entry
  pub rest_is : drop tape.at tape.history ≡ between ++ entry ∷ back
  pub none : entries_of tape.document between ≡ []
  pub document_is : entry.document ≡ tape.document
  pub index_is : index ≡ tape.at + length between

-- The next entry is of this op and has this reply, and was passed. No call was a stray before.
pub record IsPassed (old : Tape) (op : Op) (reply : Reply) (new : Tape) : Type 0 where
  pub none_strayed : old.strays ≡ []
  pub index : ℕ
  pub next : IsNext old index
  pub op_is : next.entry.op ≡ op
  pub reply_is : next.entry.reply ≡ reply
  pub new_is : new ≡ record old { at = index + 1 }

-- the op is not that of the next entry, or a call was a stray before
abbrev pub IsNone : Tape → Op → Type 0
IsNone tape op =
    tape.strays ≡ [] → first_op (entries_of tape.document (drop tape.at tape.history)) ≢ Some op

-- It was a stray.
pub record IsStrayed (old : Tape) (op : Op) (reply : Reply) (new : Tape) : Type 0 where
  pub reply_is : reply ≡ stray_reply op
  pub new_is : new ≡ record old { strays = old.strays ++ op ∷ [] }
