-- The book that all documents share: the known HSTS hosts and the CORS-preflight cache (RFC 6797;
-- Fetch, "CORS-preflight cache"); what an operation replies, and what it leaves.
use Rattle.std.specs.Prelude.{Bool, true, false, List, []}
use Rattle.book_hosts.specs.Hosts.{matches_host, noted}
use Rattle.book_hosts.specs.declared.hosts.KnownHost.{KnownHost}
use Rattle.book_preflights.specs.declared.entry.Keyed.{Keyed}
use Rattle.book_preflights.specs.Cache.{cleared, covers, learned}
use Rattle.book_calls.specs.declared.book.Book.{Book}
use Rattle.book_calls.specs.declared.op.Op.{Op}
use Rattle.book_calls.specs.declared.op.Op.TheVariants.{Match, Note, Covers, Learn, Clear}
use Rattle.book_calls.specs.declared.op.Reply.{Reply}
use Rattle.book_calls.specs.declared.op.Reply.TheVariants.{Yes, No, Done}

-- the book of these hosts and these entries
abbrev pub book_of : List KnownHost → List Keyed → Book
book_of hosts cache = record { hosts = hosts; cache = cache }

-- no hosts and no entries
abbrev pub empty : Book
empty = record { hosts = []; cache = [] }

-- the reply to a question
abbrev pub yes_or_no : Bool → Reply
yes_or_no true = Yes
yes_or_no false = No

-- what the op replies
abbrev pub reply : Book → Op → Reply
reply book (Match host now) = yes_or_no (matches_host book.hosts host now)
reply book (Note host sts now) = Done
reply book (Covers question now) = yes_or_no (covers question now book.cache)
reply book (Learn lesson now) = Done
reply book (Clear key origin url now) = Done

-- the book after the op
abbrev pub after : Book → Op → Book
after book (Match host now) = book
after book (Note host sts now) = record book { hosts = noted host sts now book.hosts }
after book (Covers question now) = book
after book (Learn lesson now) = record book { cache = learned lesson now book.cache }
after book (Clear key origin url now) = record book { cache = cleared key origin url book.cache }
