-- What a document would do alone: over what it may learn of the answers to its requests, with each call of the shared
-- book replied to by the book after the call's past (this project's own definition).
use Rattle.std.specs.Prelude.{ℕ, List, [], ◌∷◌, map}
use Rattle.play_isolation.specs.Words.{Book, Entry, Input, Op, Play, PlayRun, Reply, Text, book_behind, pasts_of}
use Rattle.play_isolation.specs.Words.{reply_of_book, run_play, woven}
use Rattle.play_isolation.specs.Apart.{plan_of}

-- the ops of entries
abbrev pub ops_of : List Entry → List Op
ops_of entries = map (λ entry. entry.op) entries

-- the past of each call of a document with this key in a history: of the ops before the call, in order, each Note, and
-- each Learn and Clear of the key
abbrev pub pasts : ℕ → Text → List Entry → List (List Op)
pasts document key history = map ops_of (pasts_of document key history)

-- the book after ops
abbrev pub after_ops : Book → List Op → Book
after_ops book [] = book
after_ops book (op ∷ ops) = after_ops (book_behind book op) ops

-- what the book replies to an op after its past
abbrev pub reply_after : Book → List Op → Op → Reply
reply_after opening past op = reply_of_book (after_ops opening past) op

-- a run alone, from an opening book: over what the document may learn of its answers, where the i-th call of the run is
-- replied to by the book after the i-th past
abbrev pub alone : Book → Play → List (List Op) → List Input → PlayRun
alone opening whole pasts views = run_play whole (woven (reply_after opening) (plan_of whole) pasts views)
