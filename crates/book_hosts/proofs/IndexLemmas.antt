-- The two indexes of known hosts, and the list that they hold.
use Rattle.std.proofs.Common.{◌≡◌, ◌<◌, length, ◌==◌, ◌&&◌, ℕ, Bool, true, false, cond, List, [], ◌∷◌, map, Option}
use Rattle.std.proofs.Common.{Some, None, refl, ap, sym, subst, ◌∙◌, if◌then◌else◌, arith}
use Rattle.std.proofs.lemmas.Bool.{eqb-true}
use Rattle.std.proofs.lemmas.Grind.{common_steps}
use Rattle.std.proofs.lemmas.Map.Keys.{sorted_head, sorted_tail}
use Rattle.std.specs.BTreeMap.{insert_entry}
use Rattle.std.specs.List.{AllByRecursion, list_any}
use Rattle.std.specs.List.Sorted.{IsStrictlySortedBy}
use Rattle.std.specs.Map.{remove_entry}
use Rattle.std.specs.Ordering.{is_eq, is_gt, match_ordering, nat_cmp, ordering_then}
use Rattle.std.specs.declared.cmp.Ordering.{Ordering}
use Rattle.std.specs.declared.cmp.Ordering.TheVariants.{Equal, Greater, Less}
use Rattle.value_lemmas.proofs.Tests.{eqb-comm, eqb-self}
use Rattle.value_lemmas.proofs.Bytes.{bytes_eq-self}
use Rattle.book_hosts.specs.Hosts.{AreSorted, holds, with_host, without, without_first_to_end}
use Rattle.value_text.specs.Orders.{text_cmp}
use Rattle.book_hosts.specs.Private.Index.{end_cmp, ends_at, known_of, listed, name_cmp, term_of}
use Rattle.book_hosts.specs.Private.Terms.{term_in}
use Rattle.book_hosts.specs.declared.hosts.KnownHost.{KnownHost}
use Rattle.book_hosts.specs.declared.index.Term.{Term}
use Rattle.book_hosts.proofs.FirstLemmas.{each-term, end_order, first-goes, term-holds}
use Rattle.book_hosts.proofs.OrderLemmas.{bytes-order, bytes-order-back, text-equal}
use Rattle.book_hosts.proofs.SortedLemmas.{ComeAfter, insert-with, insert_known, remove-without, remove_known}
use Rattle.book_hosts.proofs.SortedLemmas.{term_from}

-- ---- tests of ends

eq-then : (o p : Ordering) → is_eq (ordering_then o p) ≡ (is_eq o && is_eq p)
eq-then Less p = refl
eq-then Equal p = refl
eq-then Greater p = refl

eq-nat : (a b : ℕ) → is_eq (nat_cmp a b) ≡ (a == b)
eq-nat a b = grind (arith, common_steps)

module _ {V : Type 0} (items : V → List ℕ) where
  -- ---- the list

  each-after : (text : List ℕ) (es : List (V × Term))
      → AllByRecursion (λ name. text_cmp text (items name) ≡ Less) (map (λ e. e.0) es)
      → ComeAfter text (listed items es)
  each-after text [] after = tt
  each-after text (e ∷ es) after = (after.0, each-after text es after.1)

  pub listed-sorted : (es : List (V × Term)) → IsStrictlySortedBy (name_cmp items) (map (λ e. e.0) es)
      → AreSorted (listed items es)
  listed-sorted [] sorted = tt
  listed-sorted (e ∷ es) sorted = (
    each-after (items e.0) es (sorted_head (name_cmp items) e.0 (map (λ d. d.0) es) sorted),
    listed-sorted es (sorted_tail (name_cmp items) e.0 (map (λ d. d.0) es) sorted),
  )

  -- a host looked up
  pub term-listed : (host : List ℕ) (es : List (V × Term)) → term_of items host es ≡ term_in host (listed items es)
  term-listed host [] = refl
  term-listed host (e ∷ es) = rw (bytes-order-back (items e.0) host, term-listed host es) refl

  -- taken out
  removed-step : (host : List ℕ) (e : V × Term) (es : List (V × Term)) (here : Bool)
      → listed items (remove_entry (λ name. is_eq (text_cmp host (items name))) es)
      ≡ remove_known host (listed items es)
      → listed items (cond here es (e ∷ remove_entry (λ name. is_eq (text_cmp host (items name))) es))
      ≡ (if here then listed items es else known_of items e ∷ remove_known host (listed items es))
  removed-step host e es true h = refl
  removed-step host e es false h = ap (λ l. known_of items e ∷ l) h

  listed-removed : (host : List ℕ) (es : List (V × Term))
      → listed items (remove_entry (λ name. is_eq (text_cmp host (items name))) es)
      ≡ remove_known host (listed items es)
  listed-removed host [] = refl
  listed-removed host (e ∷ es) =
      rw (bytes-order-back (items e.0) host)
      (removed-step host e es (is_eq (text_cmp host (items e.0))) (listed-removed host es))

  pub taken-out : (host : List ℕ) (es : List (V × Term)) → IsStrictlySortedBy (name_cmp items) (map (λ e. e.0) es)
      → listed items (remove_entry (λ name. is_eq (text_cmp host (items name))) es) ≡ without host (listed items es)
  taken-out host es sorted = listed-removed host es ∙ remove-without host (listed items es) (listed-sorted es sorted)

  -- and put in
  inserted-step : (name : V) (term : Term) (e : V × Term) (es : List (V × Term)) (o : Ordering)
      → text_cmp (items name) (items e.0) ≡ o
      → listed items (insert_entry (name_cmp items) es name term)
      ≡ insert_known (known_of items (name, term)) (listed items es)
      → listed items (match_ordering o ((name, term) ∷ e ∷ es) ((e.0, term) ∷ es) (e
      ∷ insert_entry (name_cmp items) es name term))
      ≡ match_ordering o (known_of items (name, term) ∷ known_of items e
      ∷ listed items es) (known_of items (name, term) ∷ listed items es) (known_of items e
      ∷ insert_known (known_of items (name, term)) (listed items es))
  inserted-step name term e es Less same h = refl
  inserted-step name term e es Equal same h =
      let equal : items e.0 ≡ items name = sym (text-equal (items name) (items e.0) same) in
      ap (λ host. (let known : KnownHost = record { host = host; subdomains = term.subdomains; until = term.until } in
      known) ∷ listed items es) equal
  inserted-step name term e es Greater same h = ap (λ l. known_of items e ∷ l) h

  listed-inserted : (name : V) (term : Term) (es : List (V × Term))
      → listed items (insert_entry (name_cmp items) es name term)
      ≡ insert_known (known_of items (name, term)) (listed items es)
  listed-inserted name term [] = refl
  listed-inserted name term (e ∷ es) =
      inserted-step name term e es (text_cmp (items name) (items e.0)) refl (listed-inserted name term es)

  pub put-in : (name : V) (term : Term) (es : List (V × Term)) → IsStrictlySortedBy (name_cmp items) (map (λ e. e.0) es)
      → listed items (insert_entry (name_cmp items) es name term)
      ≡ with_host (known_of items (name, term)) (listed items es)
  put-in name term es sorted = listed-inserted name term es
      ∙ insert-with (known_of items (name, term)) (listed items es) (listed-sorted es sorted)

  -- ---- the ends

  -- the ends hold this one
  abbrev ends_hold : ℕ × V → List (ℕ × V) → Bool
  ends_hold end ends = list_any (λ other. is_eq (end_cmp items end other)) ends

  at-end : (until : ℕ) (name : V) (q : ℕ × V) → is_eq (end_cmp items (until, name) q)
      ≡ ((until == q.0) && is_eq (text_cmp (items name) (items q.1)))
  at-end until name q = eq-then (nat_cmp until q.0) (text_cmp (items name) (items q.1))
      ∙ ap (λ b. b && is_eq (text_cmp (items name) (items q.1))) (eq-nat until q.0)

  -- a text that compares equal
  equal-text : (a b : List ℕ) → is_eq (text_cmp a b) ≡ true → a ≡ b
  equal-text a b e = equal-by a b (text_cmp a b) refl e
    where
      equal-by : (a b : List ℕ) (o : Ordering) → text_cmp a b ≡ o → is_eq o ≡ true → a ≡ b
      equal-by a b Less same e = cc
      equal-by a b Equal same e = text-equal a b same
      equal-by a b Greater same e = cc

  -- the ends are those of the hosts
  abbrev pub Agree : List (V × Term) → List (ℕ × V) → Type 0
  Agree es ends = (q : ℕ × V) → ends_hold q ends ≡ ends_at items q.0 (term_of items (items q.1) es)

  term-same : (a b : List ℕ) (es : List (V × Term)) (found : Option Term) → a ≡ b → term_of items a es ≡ found
      → term_of items b es ≡ found
  term-same a b es found e f = subst (λ text. term_of items text es ≡ found) e f

  removed-by : (until at : ℕ) (here held : Bool) (found : Option Term) (term : Term) → term.until ≡ until
      → (here ≡ true → found ≡ Some term) → held ≡ ends_at items at found
      → cond ((until == at) && here) false held ≡ ends_at items at (cond here None found)
  removed-by until at true held found term same there h =
      let is : held ≡ (until == at) = h ∙ ap (λ o. ends_at items at o) (there refl) ∙ ap (λ n. n == at) same in
      rw is (away (until == at))
    where
      away : (b : Bool) → cond (b && true) false b ≡ false
      away true = refl
      away false = refl
  removed-by until at false held found term same there h = rw (never (until == at)) h
    where
      never : (b : Bool) → (b && false) ≡ false
      never true = refl
      never false = refl

  -- a host and its end go
  pub agree-removed : (host : List ℕ) (name : V) (term : Term) (es es' : List (V × Term)) (ends ends' : List (ℕ × V))
      → text_cmp host (items name) ≡ Equal → term_of items host es ≡ Some term → Agree es ends
      → ((q : V) → term_of items (items q) es'
      ≡ cond (is_eq (text_cmp host (items q))) None (term_of items (items q) es))
      → ((q : ℕ × V) → ends_hold q ends' ≡ cond (is_eq (end_cmp items (term.until, name) q)) false (ends_hold q ends))
      → Agree es' ends'
  agree-removed host name term es es' ends ends' same there agree terms gone q =
      let named : items name ≡ host = sym (text-equal host (items name) same) in
      let at : is_eq (end_cmp items (term.until, name) q) ≡ ((term.until == q.0) && is_eq (text_cmp host (items q.1))) =
      at-end term.until name q ∙ ap (λ text. (term.until == q.0) && is_eq (text_cmp text (items q.1))) named in
      gone q ∙ ap (λ b. cond b false (ends_hold q ends)) at
      ∙ removed-by term.until q.0 (is_eq (text_cmp host (items q.1))) (ends_hold q ends)
      (term_of items (items q.1) es) term refl
      (λ e. term-same host (items q.1) es (Some term) (equal-text host (items q.1) e) there) (agree q)
      ∙ ap (λ o. ends_at items q.0 o) (sym (terms q.1))

  added-by : (until at : ℕ) (here held : Bool) (found : Option Term) (term : Term) → term.until ≡ until
      → (here ≡ true → found ≡ None) → held ≡ ends_at items at found
      → cond ((until == at) && here) true held ≡ ends_at items at (cond here (Some term) found)
  added-by until at true held found term same there h =
      let is : held ≡ false = h ∙ ap (λ o. ends_at items at o) (there refl) in
      rw (is, same) (only (until == at))
    where
      only : (b : Bool) → cond (b && true) true false ≡ b
      only true = refl
      only false = refl
  added-by until at false held found term same there h = rw (never (until == at)) h
    where
      never : (b : Bool) → (b && false) ≡ false
      never true = refl
      never false = refl

  -- a host that was not there comes with its end
  pub agree-added : (host : List ℕ) (name ended : V) (term : Term) (es es' : List (V × Term))
      (ends ends' : List (ℕ × V)) → items name ≡ host → items ended ≡ host → term_of items host es ≡ None
      → Agree es ends
      → ((q : V) → term_of items (items q) es'
      ≡ cond (is_eq (text_cmp (items name) (items q))) (Some term) (term_of items (items q) es))
      → ((q : ℕ × V) → ends_hold q ends' ≡ cond (is_eq (end_cmp items (term.until, ended) q)) true (ends_hold q ends))
      → Agree es' ends'
  agree-added host name ended term es es' ends ends' named ended_named absent agree terms come q =
      let at : is_eq (end_cmp items (term.until, ended) q)
      ≡ ((term.until == q.0) && is_eq (text_cmp host (items q.1))) =
      at-end term.until ended q ∙ ap (λ text. (term.until == q.0) && is_eq (text_cmp text (items q.1))) ended_named in
      come q ∙ ap (λ b. cond b true (ends_hold q ends)) at
      ∙ added-by term.until q.0 (is_eq (text_cmp host (items q.1))) (ends_hold q ends) (term_of items (items q.1) es)
      term refl
      (λ e. term-same host (items q.1) es None (equal-text host (items q.1) e) absent) (agree q)
      ∙ ap (λ text. ends_at items q.0
      (cond (is_eq (text_cmp text (items q.1))) (Some term) (term_of items (items q.1) es))) (sym named)
      ∙ ap (λ o. ends_at items q.0 o) (sym (terms q.1))

  undone-by : (until at : ℕ) (here held : Bool) (found : Option Term) → (here ≡ true → found ≡ None) → held
      ≡ ends_at items at found
      → cond ((until == at) && here) false (cond ((until == at) && here) true held) ≡ held
  undone-by until at true held found there h =
      let is : held ≡ false = h ∙ ap (λ o. ends_at items at o) (there refl) in
      rw is (away (until == at))
    where
      away : (b : Bool) → cond (b && true) false (cond (b && true) true false) ≡ false
      away true = refl
      away false = refl
  undone-by until at false held found there h = rw (never (until == at)) refl
    where
      never : (b : Bool) → (b && false) ≡ false
      never true = refl
      never false = refl

  -- an end that came for a host that did not, and went again
  pub agree-undone : (host : List ℕ) (name ended : V) (term : Term) (es : List (V × Term))
      (ends more less : List (ℕ × V)) → items name ≡ host → items ended ≡ host → term_of items host es ≡ None
      → Agree es ends
      → ((q : ℕ × V) → ends_hold q more ≡ cond (is_eq (end_cmp items (term.until, ended) q)) true (ends_hold q ends))
      → ((q : ℕ × V) → ends_hold q less ≡ cond (is_eq (end_cmp items (term.until, name) q)) false (ends_hold q more))
      → Agree es less
  agree-undone host name ended term es ends more less named ended_named absent agree come gone q =
      let at : (v : V) → items v ≡ host → is_eq (end_cmp items (term.until, v) q)
      ≡ ((term.until == q.0) && is_eq (text_cmp host (items q.1))) =
      λ v e. at-end term.until v q ∙ ap (λ text. (term.until == q.0) && is_eq (text_cmp text (items q.1))) e in
      gone q ∙ ap (λ b. cond b false (ends_hold q more)) (at name named)
      ∙ ap (λ b. cond ((term.until == q.0) && is_eq (text_cmp host (items q.1))) false b) (come q
      ∙ ap (λ b. cond b true (ends_hold q ends)) (at ended ended_named))
      ∙ undone-by term.until q.0 (is_eq (text_cmp host (items q.1))) (ends_hold q ends) (term_of items (items q.1) es)
      (λ e. term-same host (items q.1) es None (equal-text host (items q.1) e) absent) (agree q)
      ∙ agree q

  -- the term of a host takes the place of another, which ended at another time
  moved-by : (old new at : ℕ) (here held : Bool) (found : Option Term) (was term : Term) → was.until ≡ old
      → term.until ≡ new → (old == new) ≡ false → (here ≡ true → found ≡ Some was) → held ≡ ends_at items at found
      → cond ((old == at) && here) false (cond ((new == at) && here) true held)
      ≡ ends_at items at (cond here (Some term) found)
  moved-by old new at true held found was term same_old same_new other there h =
      let is : held ≡ (old == at) = h ∙ ap (λ o. ends_at items at o) (there refl) ∙ ap (λ n. n == at) same_old in
      rw (is, same_new) (moves (old == at) refl (new == at))
    where
      moves : (b : Bool) → (old == at) ≡ b → (c : Bool) → cond (b && true) false (cond ((new == at) && true) true b)
          ≡ (new == at)
      moves true e c =
          let here : old ≡ at = eqb-true old at e in
          sym (apart-from here)
        where
          apart-from : old ≡ at → (new == at) ≡ false
          apart-from e = subst (λ n. (new == n) ≡ false) e (eqb-comm new old ∙ other)
      moves false e c = plain (new == at)
        where
          plain : (b : Bool) → cond (b && true) true false ≡ b
          plain true = refl
          plain false = refl
  moved-by old new at false held found was term same_old same_new other there h =
      rw (never (old == at), never (new == at)) h
    where
      never : (b : Bool) → (b && false) ≡ false
      never true = refl
      never false = refl

  pub agree-moved : (host : List ℕ) (put ended : V) (was term : Term) (es es' : List (V × Term))
      (ends more less : List (ℕ × V)) → items put ≡ host → items ended ≡ host → term_of items host es ≡ Some was
      → Agree es ends
      → ends_hold (term.until, put) ends ≡ false
      → ((q : V) → term_of items (items q) es'
      ≡ cond (is_eq (text_cmp (items ended) (items q))) (Some term) (term_of items (items q) es))
      → ((q : ℕ × V) → ends_hold q more ≡ cond (is_eq (end_cmp items (term.until, put) q)) true (ends_hold q ends))
      → ((q : ℕ × V) → ends_hold q less ≡ cond (is_eq (end_cmp items (was.until, ended) q)) false (ends_hold q more))
      → Agree es' less
  agree-moved host put ended was term es es' ends more less put_named named there agree new terms come gone q =
      let at : (until : ℕ) (v : V) → items v ≡ host → is_eq (end_cmp items (until, v) q)
      ≡ ((until == q.0) && is_eq (text_cmp host (items q.1))) =
      λ until v e. at-end until v q ∙ ap (λ text. (until == q.0) && is_eq (text_cmp text (items q.1))) e in
      let other : (was.until == term.until) ≡ false =
      sym (ap (λ o. ends_at items term.until o) (term-same host (items put) es (Some was) (sym put_named) there))
      ∙ sym (agree (term.until, put)) ∙ new in
      gone q ∙ ap (λ b. cond b false (ends_hold q more)) (at was.until ended named)
      ∙ ap (λ b. cond ((was.until == q.0) && is_eq (text_cmp host (items q.1))) false b) (come q
      ∙ ap (λ b. cond b true (ends_hold q ends)) (at term.until put put_named))
      ∙ moved-by was.until term.until q.0 (is_eq (text_cmp host (items q.1))) (ends_hold q ends)
      (term_of items (items q.1) es) was term refl refl other
      (λ e. term-same host (items q.1) es (Some was) (equal-text host (items q.1) e) there) (agree q)
      ∙ ap (λ text. ends_at items q.0
      (cond (is_eq (text_cmp text (items q.1))) (Some term) (term_of items (items q.1) es))) (sym named)
      ∙ ap (λ o. ends_at items q.0 o) (sym (terms q.1))

  stayed-by : (until at : ℕ) (here held : Bool) (found : Option Term) (was term : Term) → was.until ≡ until
      → term.until ≡ until → (here ≡ true → found ≡ Some was) → held ≡ ends_at items at found
      → cond ((until == at) && here) true held ≡ ends_at items at (cond here (Some term) found)
  stayed-by until at true held found was term same_old same_new there h =
      let is : held ≡ (until == at) = h ∙ ap (λ o. ends_at items at o) (there refl) ∙ ap (λ n. n == at) same_old in
      rw (is, same_new) (either (until == at))
    where
      either : (b : Bool) → cond (b && true) true b ≡ b
      either true = refl
      either false = refl
  stayed-by until at false held found was term same_old same_new there h = rw (never (until == at)) h
    where
      never : (b : Bool) → (b && false) ≡ false
      never true = refl
      never false = refl

  -- or ended at the same time
  pub agree-stayed : (host : List ℕ) (put name : V) (was term : Term) (es es' : List (V × Term))
      (ends ends' : List (ℕ × V)) → items put ≡ host → items name ≡ host → term_of items host es ≡ Some was
      → Agree es ends
      → ends_hold (term.until, put) ends ≡ true
      → ((q : V) → term_of items (items q) es'
      ≡ cond (is_eq (text_cmp (items name) (items q))) (Some term) (term_of items (items q) es))
      → ((q : ℕ × V) → ends_hold q ends' ≡ cond (is_eq (end_cmp items (term.until, put) q)) true (ends_hold q ends))
      → Agree es' ends'
  agree-stayed host put name was term es es' ends ends' put_named named there agree held terms come q =
      let at : is_eq (end_cmp items (term.until, put) q) ≡ ((term.until == q.0) && is_eq (text_cmp host (items q.1))) =
      at-end term.until put q ∙ ap (λ text. (term.until == q.0) && is_eq (text_cmp text (items q.1))) put_named in
      let same : was.until ≡ term.until =
      eqb-true was.until term.until
      (sym (ap (λ o. ends_at items term.until o) (term-same host (items put) es (Some was) (sym put_named) there))
      ∙ sym (agree (term.until, put)) ∙ held) in
      come q ∙ ap (λ b. cond b true (ends_hold q ends)) at
      ∙ stayed-by term.until q.0 (is_eq (text_cmp host (items q.1))) (ends_hold q ends) (term_of items (items q.1) es)
      was term same refl
      (λ e. term-same host (items q.1) es (Some was) (equal-text host (items q.1) e) there) (agree q)
      ∙ ap (λ text. ends_at items q.0
      (cond (is_eq (text_cmp text (items q.1))) (Some term) (term_of items (items q.1) es))) (sym named)
      ∙ ap (λ o. ends_at items q.0 o) (sym (terms q.1))

  -- ---- the first of the ends

  -- each host of some entries ends no earlier than this end
  each-late : (end : ℕ × V) (all es : List (V × Term))
      → ((q : ℕ × V) → ends_at items q.0 (term_of items (items q.1) all) ≡ true → is_gt (end_cmp items end q) ≡ false)
      → AllByRecursion (λ known. term_in known.host (listed items all) ≡ Some (term_from known)) (listed items es)
      → AllByRecursion (λ other. is_gt (end_order end.0 (items end.1) other) ≡ false) (listed items es)
  each-late end all [] late found = tt
  each-late end all (e ∷ es) late found = (
    late (e.1.until, e.0) (ap (λ o. ends_at items e.1.until o) (term-listed (items e.0) all ∙ found.0)
        ∙ eqb-self e.1.until),
    each-late end all es late found.1,
  )

  record TermThere (until : ℕ) (found : Option Term) : Type 0 where
    term : Term
    is : found ≡ Some term
    until_is : term.until ≡ until

  term-there : (until : ℕ) (found : Option Term) → ends_at items until found ≡ true → TermThere until found
  term-there until None e = absurd (cc)
  term-there until (Some term) e = record { term = term; is = refl; until_is = eqb-true term.until until e }

  -- the host of the first end is the first to end
  pub first-is : (end : ℕ × V) (es : List (V × Term)) (ends : List (ℕ × V))
      → IsStrictlySortedBy (name_cmp items) (map (λ e. e.0) es) → Agree es ends
      → ends_hold end ends ≡ true → ((q : ℕ × V) → ends_hold q ends ≡ true → is_gt (end_cmp items end q) ≡ false)
      → (holds (items end.1) (listed items es) ≡ true)
      × (without_first_to_end (listed items es) ≡ without (items end.1) (listed items es))
  first-is end es ends sorted agree there least =
      let t = term-there end.0 (term_of items (items end.1) es) (sym (agree end) ∙ there) in
      let found : term_in (items end.1) (listed items es) ≡ Some t.term = sym (term-listed (items end.1) es) ∙ t.is in
      let hosts = listed-sorted es sorted in
      let late = each-late end es es (λ q e. least q (agree q ∙ e)) (each-term (listed items es) hosts) in (
        term-holds (items end.1) (listed items es) t.term found,
        first-goes (items end.1) t.term (listed items es) hosts found
            (subst (λ u. AllByRecursion (λ other. is_gt (end_order u (items end.1) other) ≡ false) (listed items es))
            (sym t.until_is) late),
      )

  -- with no end there is no host
  pub none-first : (es : List (V × Term)) (ends : List (ℕ × V)) → Agree es ends → (0 < length ends → ⊥)
      → listed items es ≡ []
  none-first es (end ∷ ends) agree none = absurd (none (omega arith))
  none-first [] [] agree none = refl
  none-first (e ∷ es) [] agree none =
      let there : term_of items (items e.0) (e ∷ es) ≡ Some e.1 =
      rw (← bytes-order (items e.0) (items e.0), bytes_eq-self (items e.0)) refl in
      let held : false ≡ true = agree (e.1.until, e.0) ∙ ap (λ o. ends_at items e.1.until o) there
      ∙ eqb-self e.1.until in
      absurd (cc)
