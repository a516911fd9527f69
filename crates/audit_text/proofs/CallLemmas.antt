-- The words of calls and entries are read as what they write.
use Rattle.std.proofs.Common.{◌≡◌, ◌≤◌, ◌<◌, ◌^◌, ℕ, Bool, true, false, List, [], ◌∷◌, ◌++◌, codes, refl, ap, sym}
use Rattle.std.proofs.Common.{subst, ◌∙◌}
use Rattle.std.proofs.Common.{arith, append_assoc, Option, Some, None, ◌⊎◌, inl, inr, Result, Ok, Err}
use Rattle.std.proofs.lemmas.Bool.{and_from}
use Rattle.std.proofs.lemmas.List.{append_cancel_right}
use Rattle.std.proofs.lemmas.List.Folds.{list_all-append}
use Rattle.std.proofs.lemmas.List.Splits.{join_with_byte-slice_split}
use Rattle.std.proofs.lemmas.Slice.Eq.{bytes_eq-Decides}
use Rattle.std.specs.Prelude.{◌==◌, ◌&&◌, not, bytes_eq, decimal, if◌then◌else◌, option_and_then, option_map, IfOk}
use Rattle.std.specs.List.{join_with_byte, list_all}
use Rattle.value_lemmas.proofs.Options.{if-parts, option_and_then-some, option_map-some}
use Rattle.value_text.specs.Tokens.{is_token}
use Rattle.value_bytes.specs.declared.memory.OutOfMemory.{OutOfMemory}
use Rattle.value_decimal.specs.Decimals.{number_up_to}
use Rattle.value_decimal.proofs.DecimalLemmas.{lacks, number-lacks, number-read, number-writes}
use Rattle.book_calls.specs.declared.entry.Entry.{Entry}
use Rattle.book_calls.specs.declared.op.Op.{Op}
use Rattle.book_calls.specs.declared.op.Op.TheVariants.{Match, Note, Covers, Learn, Clear}
use Rattle.book_calls.specs.declared.op.Reply.{Reply}
use Rattle.book_calls.specs.declared.op.Reply.TheVariants.{Yes, No, Done}
use Rattle.book_calls.specs.Ops.{InRange}
use Rattle.book_hosts.specs.declared.sts.Sts.{Sts}
use Rattle.book_preflights.specs.declared.question.Lesson.{Lesson}
use Rattle.book_preflights.specs.declared.question.Question.{Question}
use Rattle.script_lines.specs.Calls.{call_text, credentials_text, list_text, method_text, reply_text}
use Rattle.script_lines.specs.Calls.{subdomains_text}
use Rattle.script_lines.specs.Lines.{line}
use Rattle.play_text.specs.Text.{entry_line}
use Rattle.audit_text.specs.declared.calls.Call.{Call}
use Rattle.audit_text.specs.declared.tail.Tail.{Tail}
use Rattle.play_text.specs.Words.{has_words, is_method, is_word}
use Rattle.audit_text.specs.Entries.{IsEntry, IsLineOf, IsReading}
use Rattle.audit_text.specs.Private.Reading.{call, call_in, clear_in, covers_in, credentials_in, entry_in, entry_of}
use Rattle.audit_text.specs.Private.Reading.{learn_in}
use Rattle.audit_text.specs.Private.Reading.{lesson_of, list_in, match_in, method_in, note_in, note_of}
use Rattle.audit_text.specs.Private.Reading.{question_of, reply_in, subdomains_in, tail, tail_in, time_in, words_in}
use Rattle.audit_text.proofs.ListLemmas.{list-lacks, list-read, list-writes, method-lacks, method-read}
use Rattle.audit_text.proofs.ListLemmas.{method-writes}
use Rattle.audit_text.proofs.ListLemmas.{split-join, word-lacks}
use Rattle.audit_text.proofs.WordLemmas.{credentials-read, credentials-writes, reply-read, reply-writes}
use Rattle.audit_text.proofs.WordLemmas.{subdomains-read, subdomains-writes, time-read, time-writes}

-- ---- the words of entries

abbrev tail_words : ℕ → Reply → List (List ℕ)
tail_words now reply = codes "at" ∷ (decimal now ++ codes ":") ∷ reply_text reply ∷ []

abbrev op_words : Op → Reply → List (List ℕ)
op_words (Match host now) reply = codes "match" ∷ host ∷ tail_words now reply
op_words (Note host sts now) reply =
    codes "note" ∷ host ∷ decimal sts.age ∷ subdomains_text sts.subdomains ∷ tail_words now reply
op_words (Covers question now) reply =
    codes "covers" ∷ question.key ∷ question.origin ∷ credentials_text question.include ∷ method_text question.method
    ∷ list_text question.names ∷ question.url ∷ tail_words now reply
op_words (Learn lesson now) reply =
    codes "learn" ∷ lesson.key ∷ lesson.origin ∷ credentials_text lesson.include ∷ decimal lesson.age
    ∷ list_text lesson.methods ∷ list_text lesson.names ∷ lesson.url ∷ tail_words now reply
op_words (Clear key origin url now) reply = codes "clear" ∷ key ∷ origin ∷ url ∷ tail_words now reply

abbrev words_of : Entry → List (List ℕ)
words_of entry = decimal entry.turn ∷ decimal entry.document ∷ op_words entry.op entry.reply

-- ---- the words, joined

-- the end of a line after the texts before it
abbrev ended : List ℕ → List ℕ → List ℕ
ended now reply = 32 ∷ 97 ∷ 116 ∷ 32 ∷ ((now ++ 58 ∷ []) ++ 32 ∷ reply)

match-joined : (name host now reply : List ℕ) → name ++ (host ++ ended now reply)
    ≡ (name ++ host ++ (codes " at " ++ now)) ++ codes ": " ++ reply
match-joined name host now reply = simp append_assoc

note-joined : (name host age subdomains now reply : List ℕ)
    → name ++ (host ++ 32 ∷ (age ++ 32 ∷ (subdomains ++ ended now reply)))
    ≡ (name ++ host ++ codes " " ++ (age ++ codes " " ++ subdomains) ++ (codes " at " ++ now)) ++ codes ": " ++ reply
note-joined name host age subdomains now reply = simp append_assoc

covers-joined : (name key origin credentials method names url now reply : List ℕ)
    → name ++ (key ++ 32 ∷ (origin ++ 32 ∷
    (credentials ++ 32 ∷ (method ++ 32 ∷ (names ++ 32 ∷ (url ++ ended now reply))))))
    ≡ (name ++ (key ++ codes " " ++ origin ++ codes " " ++ credentials ++ codes " " ++ method ++ codes " " ++ names
    ++ codes " " ++ url) ++ (codes " at " ++ now)) ++ codes ": " ++ reply
covers-joined name key origin credentials method names url now reply = simp append_assoc

learn-joined : (name key origin credentials age methods names url now reply : List ℕ)
    → name ++ (key ++ 32 ∷ (origin ++ 32 ∷ (credentials ++ 32 ∷ (age ++ 32 ∷ (methods ++ 32 ∷ (names ++ 32
    ∷ (url ++ ended now reply)))))))
    ≡ (name ++ (key ++ codes " " ++ origin ++ codes " " ++ credentials ++ codes " " ++ age ++ codes " " ++ methods
    ++ codes " " ++ names ++ codes " " ++ url) ++ (codes " at " ++ now)) ++ codes ": " ++ reply
learn-joined name key origin credentials age methods names url now reply = simp append_assoc

clear-joined : (name key origin url now reply : List ℕ)
    → name ++ (key ++ 32 ∷ (origin ++ 32 ∷ (url ++ ended now reply)))
    ≡ (name ++ key ++ codes " " ++ origin ++ codes " " ++ url ++ (codes " at " ++ now)) ++ codes ": " ++ reply
clear-joined name key origin url now reply = simp append_assoc

line-joined : (turn document call : List ℕ) → line (turn ++ 32 ∷ (document ++ 32 ∷ call))
    ≡ line (turn ++ codes " " ++ document ++ codes " " ++ call)
line-joined turn document call = simp append_assoc

call-joined : (op : Op) (reply : Reply) → join_with_byte 32 (op_words op reply) ≡ call_text op reply
call-joined (Match host now) reply = match-joined (codes "match ") host (decimal now) (reply_text reply)
call-joined (Note host sts now) reply =
    note-joined (codes "note ") host (decimal sts.age) (subdomains_text sts.subdomains) (decimal now) (reply_text reply)
call-joined (Covers question now) reply =
    covers-joined (codes "covers ") question.key question.origin (credentials_text question.include)
    (method_text question.method) (list_text question.names) question.url (decimal now) (reply_text reply)
call-joined (Learn lesson now) reply =
    learn-joined (codes "learn ") lesson.key lesson.origin (credentials_text lesson.include) (decimal lesson.age)
    (list_text lesson.methods) (list_text lesson.names) lesson.url (decimal now) (reply_text reply)
call-joined (Clear key origin url now) reply =
    clear-joined (codes "clear ") key origin url (decimal now) (reply_text reply)

entry-joined : (turn document : List ℕ) (op : Op) (reply : Reply)
    → join_with_byte 32 (turn ∷ document ∷ op_words op reply)
    ≡ turn ++ 32 ∷ (document ++ 32 ∷ join_with_byte 32 (op_words op reply))
entry-joined turn document (Match host now) reply = refl
entry-joined turn document (Note host sts now) reply = refl
entry-joined turn document (Covers question now) reply = refl
entry-joined turn document (Learn lesson now) reply = refl
entry-joined turn document (Clear key origin url now) reply = refl

-- joined by spaces they are the line
joined : (entry : Entry) → line (join_with_byte 32 (words_of entry)) ≡ entry_line entry
joined entry =
    ap line (entry-joined (decimal entry.turn) (decimal entry.document) entry.op entry.reply
    ∙ ap (λ (l : List ℕ). decimal entry.turn ++ 32 ∷ (decimal entry.document ++ 32 ∷ l))
    (call-joined entry.op entry.reply))
    ∙ line-joined (decimal entry.turn) (decimal entry.document) (call_text entry.op entry.reply)

-- ---- what is written is read

tail-read : (now : ℕ) (reply : Reply) → now < 2 ^ 48 → tail_in (tail_words now reply) ≡ Some (tail now reply)
tail-read now reply small = rw (time-read now small, reply-read reply) refl

-- three words
pub three : (a b c : Bool) → (a && b && c) ≡ true → (a ≡ true) × (b ≡ true) × (c ≡ true)
three true true c e = (refl, refl, e)
three true false c e = cc
three false b c e = cc

pub five : (a b c d f : Bool) → (a && b && c && d && f) ≡ true
    → (a ≡ true) × (b ≡ true) × (c ≡ true) × (d ≡ true) × (f ≡ true)
five true true true true f e = (refl, refl, refl, refl, e)
five true true true false f e = cc
five true true false d f e = cc
five true false c d f e = cc
five false b c d f e = cc

all-five : (a b c d f : Bool) → a ≡ true → b ≡ true → c ≡ true → d ≡ true → f ≡ true → (a && b && c && d && f) ≡ true
all-five true true true true f u v w x y = y
all-five true true true false f u v w x y = cc
all-five true true false d f u v w x y = cc
all-five true false c d f u v w x y = cc
all-five false b c d f u v w x y = cc

match-read : (host : List ℕ) (now : ℕ) (reply : Reply) → now < 2 ^ 48 → is_word host ≡ true
    → match_in (host ∷ tail_words now reply) ≡ Some (call (Match host now) (tail now reply))
match-read host now reply small word = rw (word, tail-read now reply small) refl

note-read : (host : List ℕ) (sts : Sts) (now : ℕ) (reply : Reply) → now < 2 ^ 48 → sts.age < 2 ^ 48
    → is_word host ≡ true
    → note_in (host ∷ decimal sts.age ∷ subdomains_text sts.subdomains ∷ tail_words now reply)
    ≡ Some (call (Note host sts now) (tail now reply))
note-read host sts now reply small age word =
    rw (
      word,
      number-read 281474976710655 sts.age (omega (arith, age)) (omega (arith, age)),
      subdomains-read sts.subdomains,
      tail-read now reply small,
    ) refl

covers-read : (question : Question) (now : ℕ) (reply : Reply) → now < 2 ^ 48 → has_words (Covers question now) ≡ true
    → covers_in (question.key ∷ question.origin ∷ credentials_text question.include ∷ method_text question.method
    ∷ list_text question.names ∷ question.url ∷ tail_words now reply)
    ≡ Some (call (Covers question now) (tail now reply))
covers-read question now reply small valid =
    let is = five (is_word question.key) (is_word question.origin) (is_method question.method)
    (list_all is_token question.names) (is_word question.url) valid in
    rw (
      is.0,
      is.1,
      is.4,
      credentials-read question.include,
      tail-read now reply small,
      method-read question.method is.2,
      list-read question.names is.3,
    ) refl

learn-read : (lesson : Lesson) (now : ℕ) (reply : Reply) → now < 2 ^ 48 → lesson.age ≤ 7200
    → has_words (Learn lesson now) ≡ true
    → learn_in (lesson.key ∷ lesson.origin ∷ credentials_text lesson.include ∷ decimal lesson.age
    ∷ list_text lesson.methods ∷ list_text lesson.names ∷ lesson.url ∷ tail_words now reply)
    ≡ Some (call (Learn lesson now) (tail now reply))
learn-read lesson now reply small age valid =
    let is = five (is_word lesson.key) (is_word lesson.origin) (list_all is_token lesson.methods)
    (list_all is_token lesson.names) (is_word lesson.url) valid in
    rw (
      is.0,
      is.1,
      is.4,
      credentials-read lesson.include,
      number-read 7200 lesson.age (omega (arith, age)) (omega (arith, age)),
      tail-read now reply small,
      list-read lesson.methods is.2,
      list-read lesson.names is.3,
    ) refl

clear-read : (key origin url : List ℕ) (now : ℕ) (reply : Reply) → now < 2 ^ 48
    → (is_word key && is_word origin && is_word url) ≡ true
    → clear_in (key ∷ origin ∷ url ∷ tail_words now reply) ≡ Some (call (Clear key origin url now) (tail now reply))
clear-read key origin url now reply small valid = rw (valid, tail-read now reply small) refl

call-read : (op : Op) (reply : Reply) → InRange op → has_words op ≡ true
    → call_in (op_words op reply) ≡ Some (record { op = op; reply = reply })
call-read (Match host now) reply range valid = match-read host now reply range.0 valid
call-read (Note host sts now) reply range valid = note-read host sts now reply range.0 range.1 valid
call-read (Covers question now) reply range valid = covers-read question now reply range.0 valid
call-read (Learn lesson now) reply range valid = learn-read lesson now reply range.0 range.1 valid
call-read (Clear key origin url now) reply range valid = clear-read key origin url now reply range.0 valid

entry-read : (entry : Entry) → IsEntry entry → entry_in (words_of entry) ≡ Some entry
entry-read entry is =
    rw (
      number-read 18446744073709551615 entry.turn (omega (arith, is.turn)) is.turn,
      number-read 4294967295 entry.document (omega (arith, is.document)) (omega (arith, is.document)),
      call-read entry.op entry.reply is.op is.words,
    ) refl

-- ---- no word has a space

with-word : (word : List ℕ) (words : List (List ℕ)) → lacks 32 word ≡ true → list_all (lacks 32) words ≡ true
    → list_all (lacks 32) (word ∷ words) ≡ true
with-word word words one more = and_from (lacks 32 word) (list_all (lacks 32) words) one more

digits-lack : (n : ℕ) → n < 2 ^ 64 → lacks 32 (decimal n) ≡ true
digits-lack n small = number-lacks 32 (inl (omega arith)) n small

time-lacks : (now : ℕ) → now < 2 ^ 48 → lacks 32 (decimal now ++ codes ":") ≡ true
time-lacks now small =
    list_all-append (λ byte. not (byte == 32)) (decimal now) (codes ":")
    ∙ and_from (lacks 32 (decimal now)) (lacks 32 (codes ":")) (digits-lack now (omega (arith, small))) refl

reply-lacks : (reply : Reply) → lacks 32 (reply_text reply) ≡ true
reply-lacks Yes = refl
reply-lacks No = refl
reply-lacks Done = refl

credentials-lack : (include : Bool) → lacks 32 (credentials_text include) ≡ true
credentials-lack true = refl
credentials-lack false = refl

subdomains-lack : (subdomains : Bool) → lacks 32 (subdomains_text subdomains) ≡ true
subdomains-lack true = refl
subdomains-lack false = refl

tail-lacks : (now : ℕ) (reply : Reply) → now < 2 ^ 48 → list_all (lacks 32) (tail_words now reply) ≡ true
tail-lacks now reply small =
    with-word (decimal now ++ codes ":") (reply_text reply ∷ []) (time-lacks now small)
    (with-word (reply_text reply) [] (reply-lacks reply) refl)

op-lacks : (op : Op) (reply : Reply) → InRange op → has_words op ≡ true → list_all (lacks 32) (op_words op reply) ≡ true
op-lacks (Match host now) reply range valid =
    with-word host (tail_words now reply) (word-lacks host valid) (tail-lacks now reply range.0)
op-lacks (Note host sts now) reply range valid =
    with-word host (decimal sts.age ∷ subdomains_text sts.subdomains ∷ tail_words now reply) (word-lacks host valid)
    (with-word (decimal sts.age) (subdomains_text sts.subdomains ∷ tail_words now reply)
    (digits-lack sts.age (omega (arith, range.1)))
    (with-word (subdomains_text sts.subdomains) (tail_words now reply) (subdomains-lack sts.subdomains)
    (tail-lacks now reply range.0)))
op-lacks (Covers question now) reply range valid =
    let is = five (is_word question.key) (is_word question.origin) (is_method question.method)
    (list_all is_token question.names) (is_word question.url) valid in
    let end = tail_words now reply in
    let url = question.url ∷ end in
    let names = list_text question.names ∷ url in
    let method = method_text question.method ∷ names in
    let credentials = credentials_text question.include ∷ method in
    with-word question.key (question.origin ∷ credentials) (word-lacks question.key is.0)
    (with-word question.origin credentials (word-lacks question.origin is.1)
    (with-word (credentials_text question.include) method (credentials-lack question.include)
    (with-word (method_text question.method) names (method-lacks question.method is.2)
    (with-word (list_text question.names) url (list-lacks question.names is.3)
    (with-word question.url end (word-lacks question.url is.4) (tail-lacks now reply range.0))))))
op-lacks (Learn lesson now) reply range valid =
    let is = five (is_word lesson.key) (is_word lesson.origin) (list_all is_token lesson.methods)
    (list_all is_token lesson.names) (is_word lesson.url) valid in
    let end = tail_words now reply in
    let url = lesson.url ∷ end in
    let names = list_text lesson.names ∷ url in
    let methods = list_text lesson.methods ∷ names in
    let age = decimal lesson.age ∷ methods in
    let credentials = credentials_text lesson.include ∷ age in
    with-word lesson.key (lesson.origin ∷ credentials) (word-lacks lesson.key is.0)
    (with-word lesson.origin credentials (word-lacks lesson.origin is.1)
    (with-word (credentials_text lesson.include) age (credentials-lack lesson.include)
    (with-word (decimal lesson.age) methods (digits-lack lesson.age (omega (arith, range.1)))
    (with-word (list_text lesson.methods) names (list-lacks lesson.methods is.2)
    (with-word (list_text lesson.names) url (list-lacks lesson.names is.3)
    (with-word lesson.url end (word-lacks lesson.url is.4) (tail-lacks now reply range.0)))))))
op-lacks (Clear key origin url now) reply range valid =
    let is = three (is_word key) (is_word origin) (is_word url) valid in
    let end = tail_words now reply in
    with-word key (origin ∷ url ∷ end) (word-lacks key is.0)
    (with-word origin (url ∷ end) (word-lacks origin is.1)
    (with-word url end (word-lacks url is.2) (tail-lacks now reply range.0)))

-- the line of an entry has its words
words-are : (text : List ℕ) (entry : Entry) → IsLineOf text entry → words_in text ≡ words_of entry
words-are text entry is =
    let same : text ≡ join_with_byte 32 (words_of entry) =
    append_cancel_right text (join_with_byte 32 (words_of entry)) (codes "\n") (is.text_is ∙ sym (joined entry)) in
    let entry_is = is.is_entry in
    ap words_in same
    ∙ split-join 32 (decimal entry.turn) (decimal entry.document ∷ op_words entry.op entry.reply)
    (digits-lack entry.turn entry_is.turn)
    (with-word (decimal entry.document) (op_words entry.op entry.reply)
    (digits-lack entry.document (omega (arith, entry_is.document)))
    (op-lacks entry.op entry.reply entry_is.op entry_is.words))

-- ---- what is read is written

record WritesTail (words : List (List ℕ)) (end : Tail) : Type 0 where
  pub words_are : tail_words end.now end.reply ≡ words
  pub small : end.now < 2 ^ 48

tail-writes : (words : List (List ℕ)) (end : Tail) → tail_in words ≡ Some end → WritesTail words end
tail-writes [] end e = cc
tail-writes (a ∷ []) end e = cc
tail-writes (a ∷ b ∷ []) end e = cc
tail-writes (a ∷ b ∷ c ∷ d ∷ words) end e = cc
tail-writes (at ∷ now ∷ reply ∷ []) end e =
    let is = if-parts (bytes_eq at (codes "at"))
    (option_and_then (λ now. option_map (tail now) (reply_in reply)) (time_in now)) end e in
    let time = option_and_then-some (λ now. option_map (tail now) (reply_in reply)) (time_in now) end is.1 in
    let said = option_map-some (tail time.0) (reply_in reply) end time.2 in
    let written = time-writes now time.0 time.1 in
    let word = reply-writes reply said.0 said.1 in
    let name : codes "at" ≡ at = sym ((bytes_eq-Decides at (codes "at")).0 is.0) in
    subst (WritesTail (at ∷ now ∷ reply ∷ [])) said.2 (record {
      words_are = ap (λ (w : List ℕ). w ∷ (decimal time.0 ++ codes ":") ∷ reply_text said.0 ∷ []) name
          ∙ ap (λ (w : List ℕ). at ∷ w ∷ reply_text said.0 ∷ []) written.0
          ∙ ap (λ (w : List ℕ). at ∷ now ∷ w ∷ []) word;
      small = written.1;
    })

record WritesCall (words : List (List ℕ)) (said : Call) : Type 0 where
  pub words_are : op_words said.op said.reply ≡ words
  pub range : InRange said.op
  pub valid : has_words said.op ≡ true

match-writes : (words : List (List ℕ)) (said : Call) → match_in words ≡ Some said
    → WritesCall (codes "match" ∷ words) said
match-writes [] said e = cc
match-writes (host ∷ rest) said e =
    let is = if-parts (is_word host) (option_map (λ end. call (Match host end.now) end) (tail_in rest)) said e in
    let end = option_map-some (λ end. call (Match host end.now) end) (tail_in rest) said is.1 in
    let written = tail-writes rest end.0 end.1 in
    subst (WritesCall (codes "match" ∷ host ∷ rest)) end.2 (record {
      words_are = ap (λ (l : List (List ℕ)). codes "match" ∷ host ∷ l) written.words_are;
      range = (written.small, tt);
      valid = is.0;
    })

note-writes : (words : List (List ℕ)) (said : Call) → note_in words ≡ Some said
    → WritesCall (codes "note" ∷ words) said
note-writes [] said e = cc
note-writes (a ∷ []) said e = cc
note-writes (a ∷ b ∷ []) said e = cc
note-writes (host ∷ age ∷ subdomains ∷ rest) said e =
    let is = if-parts (is_word host) (option_and_then (λ age. option_and_then (λ subdomains.
    option_map (note_of host age subdomains) (tail_in rest)) (subdomains_in subdomains))
    (number_up_to 281474976710655 age)) said e in
    let number = option_and_then-some (λ age. option_and_then (λ subdomains.
    option_map (note_of host age subdomains) (tail_in rest)) (subdomains_in subdomains))
    (number_up_to 281474976710655 age) said is.1 in
    let under = option_and_then-some (λ subdomains. option_map (note_of host number.0 subdomains) (tail_in rest))
    (subdomains_in subdomains) said number.2 in
    let end = option_map-some (note_of host number.0 under.0) (tail_in rest) said under.2 in
    let age_is = number-writes 281474976710655 age number.0 number.1 in
    let under_is = subdomains-writes subdomains under.0 under.1 in
    let written = tail-writes rest end.0 end.1 in
    subst (WritesCall (codes "note" ∷ host ∷ age ∷ subdomains ∷ rest)) end.2 (record {
      words_are = ap (λ (w : List ℕ). codes "note" ∷ host ∷ w ∷ subdomains_text under.0 ∷ tail_words end.0.now
          end.0.reply)
          age_is.text
          ∙ ap (λ (w : List ℕ). codes "note" ∷ host ∷ age ∷ w ∷ tail_words end.0.now end.0.reply) under_is
          ∙ ap (λ (l : List (List ℕ)). codes "note" ∷ host ∷ age ∷ subdomains ∷ l) written.words_are;
      range = (written.small, omega (arith, age_is.few));
      valid = is.0;
    })

clear-writes : (words : List (List ℕ)) (said : Call) → clear_in words ≡ Some said
    → WritesCall (codes "clear" ∷ words) said
clear-writes [] said e = cc
clear-writes (a ∷ []) said e = cc
clear-writes (a ∷ b ∷ []) said e = cc
clear-writes (key ∷ origin ∷ url ∷ rest) said e =
    let is = if-parts (is_word key && is_word origin && is_word url)
    (option_map (λ end. call (Clear key origin url end.now) end) (tail_in rest)) said e in
    let end = option_map-some (λ end. call (Clear key origin url end.now) end) (tail_in rest) said is.1 in
    let written = tail-writes rest end.0 end.1 in
    subst (WritesCall (codes "clear" ∷ key ∷ origin ∷ url ∷ rest)) end.2 (record {
      words_are = ap (λ (l : List (List ℕ)). codes "clear" ∷ key ∷ origin ∷ url ∷ l) written.words_are;
      range = (written.small, tt);
      valid = is.0;
    })

covers-writes : (words : List (List ℕ)) (said : Call) → covers_in words ≡ Some said
    → WritesCall (codes "covers" ∷ words) said
covers-writes [] said e = cc
covers-writes (a ∷ []) said e = cc
covers-writes (a ∷ b ∷ []) said e = cc
covers-writes (a ∷ b ∷ c ∷ []) said e = cc
covers-writes (a ∷ b ∷ c ∷ d ∷ []) said e = cc
covers-writes (a ∷ b ∷ c ∷ d ∷ f ∷ []) said e = cc
covers-writes (key ∷ origin ∷ credentials ∷ method ∷ names ∷ url ∷ rest) said e =
    let last = λ (include : Bool) (end : Tail) (method : Option (List ℕ)) (names : List (List ℕ)).
    call (Covers (question_of key origin include method url names) end.now) end in
    let third = λ (include : Bool) (end : Tail) (method : Option (List ℕ)). option_map (last include end method)
    (list_in names) in
    let second = λ (include : Bool) (end : Tail). option_and_then (third include end) (method_in method) in
    let first = λ (include : Bool). option_and_then (second include) (tail_in rest) in
    let is = if-parts (is_word key && is_word origin && is_word url)
    (option_and_then first (credentials_in credentials))
    said e in
    let mode = option_and_then-some first (credentials_in credentials) said is.1 in
    let end = option_and_then-some (second mode.0) (tail_in rest) said mode.2 in
    let asked = option_and_then-some (third mode.0 end.0) (method_in method) said end.2 in
    let named = option_map-some (last mode.0 end.0 asked.0) (list_in names) said asked.2 in
    let words_valid = three (is_word key) (is_word origin) (is_word url) is.0 in
    let mode_is = credentials-writes credentials mode.0 mode.1 in
    let written = tail-writes rest end.0 end.1 in
    let method_is = method-writes method asked.0 asked.1 in
    let names_are = list-writes names named.0 named.1 in
    subst (WritesCall (codes "covers" ∷ key ∷ origin ∷ credentials ∷ method ∷ names ∷ url ∷ rest)) named.2 (record {
      words_are = ap (λ (w : List ℕ). codes "covers" ∷ key ∷ origin ∷ w ∷ method_text asked.0 ∷ list_text named.0 ∷ url
          ∷ tail_words end.0.now end.0.reply) mode_is
          ∙ ap (λ (w : List ℕ). codes "covers" ∷ key ∷ origin ∷ credentials ∷ w ∷ list_text named.0 ∷ url
          ∷ tail_words end.0.now end.0.reply) method_is.text
          ∙ ap (λ (w : List ℕ). codes "covers" ∷ key ∷ origin ∷ credentials ∷ method ∷ w ∷ url
          ∷ tail_words end.0.now end.0.reply) names_are.text
          ∙ ap (λ (l : List (List ℕ)). codes "covers" ∷ key ∷ origin ∷ credentials ∷ method ∷ names ∷ url ∷ l)
          written.words_are;
      range = (written.small, tt);
      valid = all-five (is_word key) (is_word origin) (is_method asked.0) (list_all is_token named.0) (is_word url)
          words_valid.0 words_valid.1 method_is.valid names_are.valid words_valid.2;
    })

learn-writes : (words : List (List ℕ)) (said : Call) → learn_in words ≡ Some said
    → WritesCall (codes "learn" ∷ words) said
learn-writes [] said e = cc
learn-writes (a ∷ []) said e = cc
learn-writes (a ∷ b ∷ []) said e = cc
learn-writes (a ∷ b ∷ c ∷ []) said e = cc
learn-writes (a ∷ b ∷ c ∷ d ∷ []) said e = cc
learn-writes (a ∷ b ∷ c ∷ d ∷ f ∷ []) said e = cc
learn-writes (a ∷ b ∷ c ∷ d ∷ f ∷ g ∷ []) said e = cc
learn-writes (key ∷ origin ∷ credentials ∷ age ∷ methods ∷ names ∷ url ∷ rest) said e =
    let last = λ (include : Bool) (age : ℕ) (end : Tail) (methods names : List (List ℕ)).
    call (Learn (lesson_of key origin include age url methods names) end.now) end in
    let fourth = λ (include : Bool) (age : ℕ) (end : Tail) (methods : List (List ℕ)).
    option_map (last include age end methods) (list_in names) in
    let third = λ (include : Bool) (age : ℕ) (end : Tail). option_and_then (fourth include age end) (list_in methods) in
    let second = λ (include : Bool) (age : ℕ). option_and_then (third include age) (tail_in rest) in
    let first = λ (include : Bool). option_and_then (second include) (number_up_to 7200 age) in
    let is = if-parts (is_word key && is_word origin && is_word url)
    (option_and_then first (credentials_in credentials))
    said e in
    let mode = option_and_then-some first (credentials_in credentials) said is.1 in
    let number = option_and_then-some (second mode.0) (number_up_to 7200 age) said mode.2 in
    let end = option_and_then-some (third mode.0 number.0) (tail_in rest) said number.2 in
    let taught = option_and_then-some (fourth mode.0 number.0 end.0) (list_in methods) said end.2 in
    let named = option_map-some (last mode.0 number.0 end.0 taught.0) (list_in names) said taught.2 in
    let words_valid = three (is_word key) (is_word origin) (is_word url) is.0 in
    let mode_is = credentials-writes credentials mode.0 mode.1 in
    let age_is = number-writes 7200 age number.0 number.1 in
    let written = tail-writes rest end.0 end.1 in
    let methods_are = list-writes methods taught.0 taught.1 in
    let names_are = list-writes names named.0 named.1 in
    subst (WritesCall (codes "learn" ∷ key ∷ origin ∷ credentials ∷ age ∷ methods ∷ names ∷ url ∷ rest)) named.2
    (record {
      words_are = ap (λ (w : List ℕ). codes "learn" ∷ key ∷ origin ∷ w ∷ decimal number.0 ∷ list_text taught.0
          ∷ list_text named.0 ∷ url ∷ tail_words end.0.now end.0.reply) mode_is
          ∙ ap (λ (w : List ℕ). codes "learn" ∷ key ∷ origin ∷ credentials ∷ w ∷ list_text taught.0
          ∷ list_text named.0 ∷ url ∷ tail_words end.0.now end.0.reply) age_is.text
          ∙ ap (λ (w : List ℕ). codes "learn" ∷ key ∷ origin ∷ credentials ∷ age ∷ w
          ∷ list_text named.0 ∷ url ∷ tail_words end.0.now end.0.reply) methods_are.text
          ∙ ap (λ (w : List ℕ). codes "learn" ∷ key ∷ origin ∷ credentials ∷ age ∷ methods ∷ w ∷ url
          ∷ tail_words end.0.now end.0.reply) names_are.text
          ∙ ap (λ (l : List (List ℕ)). codes "learn" ∷ key ∷ origin ∷ credentials ∷ age ∷ methods ∷ names ∷ url ∷ l)
          written.words_are;
      range = (written.small, age_is.few);
      valid = all-five (is_word key) (is_word origin) (list_all is_token taught.0) (list_all is_token named.0)
          (is_word url)
          words_valid.0 words_valid.1 methods_are.valid names_are.valid words_valid.2;
    })

-- a word is this name, or the choice is among the others
named : (word name : List ℕ) (said : Call) (this others : Option Call)
    → (if bytes_eq word name then this else others) ≡ Some said
    → ((name ≡ word) × (this ≡ Some said)) ⊎ (others ≡ Some said)
named word name said this others e = by (bytes_eq word name) (bytes_eq-Decides word name).0 e
  where
    by : (b : Bool) → (b ≡ true → word ≡ name) → (if b then this else others) ≡ Some said
        → ((name ≡ word) × (this ≡ Some said)) ⊎ (others ≡ Some said)
    by true same e = inl (sym (same refl), e)
    by false same e = inr e

with-name : (name word : List ℕ) (words : List (List ℕ)) (said : Call) → name ≡ word → WritesCall (name ∷ words) said
    → WritesCall (word ∷ words) said
with-name name word words said same is = subst (λ (w : List ℕ). WritesCall (w ∷ words) said) same is

call-writes : (words : List (List ℕ)) (said : Call) → call_in words ≡ Some said → WritesCall words said
call-writes [] said e = cc
call-writes (name ∷ words) said e =
    let clears = if bytes_eq name (codes "clear") then clear_in words else None in
    let learns = if bytes_eq name (codes "learn") then learn_in words else clears in
    let asks = if bytes_eq name (codes "covers") then covers_in words else learns in
    let notes = if bytes_eq name (codes "note") then note_in words else asks in
    elim (named name (codes "match") said (match_in words) notes e) [
      | inl is ↦ with-name (codes "match") name words said is.0 (match-writes words said is.1)
      | inr e ↦ elim (named name (codes "note") said (note_in words) asks e) [
        | inl is ↦ with-name (codes "note") name words said is.0 (note-writes words said is.1)
        | inr e ↦ elim (named name (codes "covers") said (covers_in words) learns e) [
          | inl is ↦ with-name (codes "covers") name words said is.0 (covers-writes words said is.1)
          | inr e ↦ elim (named name (codes "learn") said (learn_in words) clears e) [
            | inl is ↦ with-name (codes "learn") name words said is.0 (learn-writes words said is.1)
            | inr e ↦ elim (named name (codes "clear") said (clear_in words) None e) [
              | inl is ↦ with-name (codes "clear") name words said is.0 (clear-writes words said is.1)
              | inr e ↦ cc
            ]
          ]
        ]
      ]
    ]

record WritesEntry (words : List (List ℕ)) (entry : Entry) : Type 0 where
  pub words_are : words_of entry ≡ words
  pub is_entry : IsEntry entry

entry-writes : (words : List (List ℕ)) (entry : Entry) → entry_in words ≡ Some entry → WritesEntry words entry
entry-writes [] entry e = cc
entry-writes (a ∷ []) entry e = cc
entry-writes (turn ∷ document ∷ words) entry e =
    let second = λ (turn document : ℕ). option_map (entry_of turn document) (call_in words) in
    let first = λ (turn : ℕ). option_and_then (second turn) (number_up_to 4294967295 document) in
    let counted = option_and_then-some first (number_up_to 18446744073709551615 turn) entry e in
    let numbered = option_and_then-some (second counted.0) (number_up_to 4294967295 document) entry counted.2 in
    let made = option_map-some (entry_of counted.0 numbered.0) (call_in words) entry numbered.2 in
    let turn_is = number-writes 18446744073709551615 turn counted.0 counted.1 in
    let document_is = number-writes 4294967295 document numbered.0 numbered.1 in
    let written = call-writes words made.0 made.1 in
    subst (WritesEntry (turn ∷ document ∷ words)) made.2 (record {
      words_are = ap (λ (w : List ℕ). w ∷ decimal numbered.0 ∷ op_words made.0.op made.0.reply) turn_is.text
          ∙ ap (λ (w : List ℕ). turn ∷ w ∷ op_words made.0.op made.0.reply) document_is.text
          ∙ ap (λ (l : List (List ℕ)). turn ∷ document ∷ l) written.words_are;
      is_entry = record {
        turn = turn_is.small;
        document = omega (arith, document_is.few);
        op = written.range;
        words = written.valid;
      };
    })

-- ---- lines

reading : (text : List ℕ) (read : Option Entry) → read ≡ entry_in (words_in text) → IsReading text read
reading text None e =
    λ entry is. let found : entry_in (words_in text) ≡ Some entry =
    ap entry_in (words-are text entry is) ∙ entry-read entry is.is_entry in cc
reading text (Some entry) e =
    let written = entry-writes (words_in text) entry (sym e) in
    record {
      is_entry = written.is_entry;
      text_is = ap line (sym (join_with_byte-slice_split 32 text) ∙ ap (join_with_byte 32) (sym written.words_are))
          ∙ joined entry;
    }

pub read-result : (read : Result (Option Entry) OutOfMemory) (words : List (List ℕ)) (text : List ℕ)
    → words ≡ words_in text → IfOk read (λ entry. entry ≡ entry_in words) → IfOk read (IsReading text)
read-result (Ok entry) words text are e = reading text entry (e ∙ ap entry_in are)
read-result (Err refused) words text are e = tt
