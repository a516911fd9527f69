use Rattle.std.proofs.Common.{◌≡◌, drop}
use Rattle.std.specs.List.{list_all}
use Rattle.book_preflights.specs.Entries.{has_match}
use Rattle.book_preflights.specs.declared.entry.Allowed.TheVariants.{HeaderName}
use Rattle.book_preflights.proofs.partition.covers_names.Given as goal

abbrev pub invariant-loop-index : goal.invariant-loop-index
invariant-loop-index l =
    list_all (λ name. has_match l.question l.now l.entries (HeaderName name)) l.question.names
    ≡ list_all (λ name. has_match l.question l.now l.entries (HeaderName name)) (drop l.index l.question.names)
