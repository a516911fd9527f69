-- Texts of a history are read back: each part of a line ends at a byte that the part does not have.
use Rattle.std.proofs.Common.{◌≡◌, ℕ, ◌+◌, ◌<◌, Bool, true, false, List, [], ◌∷◌, ◌++◌, codes}
use Rattle.std.proofs.Common.{refl, ap, sym, ◌∙◌, arith, append_assoc, Option, Some, None, ◌⊎◌, inl, inr}
use Rattle.std.proofs.lemmas.Grind.{common_steps}
use Rattle.std.proofs.lemmas.List.{append-nil, append_cancel_left}
use Rattle.std.proofs.lemmas.List.Elements.{All-head, All-tail}
use Rattle.std.proofs.lemmas.List.Folds.{list_all-append}
use Rattle.std.proofs.lemmas.Fmt.{decimal_by_steps, decimal_injective}
use Rattle.std.specs.Prelude.{◌==◌, ◌%◌, not, IsTrue, decimal, IfSome}
use Rattle.std.specs.List.{All, list_all}
use Rattle.book_calls.specs.declared.entry.Entry.{Entry}
use Rattle.book_calls.specs.declared.op.Op.{Op}
use Rattle.book_calls.specs.declared.op.Op.TheVariants.{Match, Note, Covers, Learn, Clear}
use Rattle.book_calls.specs.declared.op.Reply.{Reply}
use Rattle.book_calls.specs.declared.op.Reply.TheVariants.{Yes, No, Done}
use Rattle.book_hosts.specs.declared.sts.Sts.{Sts}
use Rattle.book_preflights.specs.declared.question.Lesson.{Lesson}
use Rattle.book_preflights.specs.declared.question.Question.{Question}
use Rattle.value_text.specs.Ascii.{comma}
use Rattle.script_lines.specs.Calls.{comma_texts, credentials_text, list_text, method_text, op_text, reply_text}
use Rattle.book_calls.specs.Ops.{time_of}
use Rattle.script_lines.specs.Calls.{subdomains_text, time_text}
use Rattle.audit_text.specs.OneHistory.{HasOneHistory, IsListed, IsNamed, IsNumber, IsReadable, IsReadableLesson}
use Rattle.audit_text.specs.OneHistory.{IsReadableOp, IsReadableQuestion, IsWord}
use Rattle.play_text.specs.Text.{entry_line, history_text}

-- the text has no such byte
abbrev lacks : ℕ → List ℕ → Bool
lacks byte text = list_all (λ other. not (other == byte)) text

-- two equal texts are cut at their first such byte: what comes before it is equal, and so is what comes after it
cut-at : (byte : ℕ) (x y a b : List ℕ) → IsTrue (lacks byte x) → IsTrue (lacks byte y) → x ++ byte ∷ a ≡ y ++ byte ∷ b
    → (x ≡ y) × (a ≡ b)
cut-at byte [] [] a b lx ly e = (refl, cc)
cut-at byte [] (d ∷ y) a b lx ly e = absurd (let same : byte ≡ d = cc in grind (arith, common_steps))
cut-at byte (c ∷ x) [] a b lx ly e = absurd (let same : c ≡ byte = cc in grind (arith, common_steps))
cut-at byte (c ∷ x) (d ∷ y) a b lx ly e =
    let first : c ≡ d = cc in
    let rest : x ++ byte ∷ a ≡ y ++ byte ∷ b = cc in
    let h = cut-at byte x y a b (grind (arith, common_steps)) (grind (arith, common_steps)) rest in
    (cc, h.1)

-- a text that has no such byte is none that has one
no-byte : (byte : ℕ) (x y a : List ℕ) → IsTrue (lacks byte x) → x ≡ y ++ byte ∷ a → ⊥
no-byte byte [] [] a lx e = cc
no-byte byte [] (d ∷ y) a lx e = cc
no-byte byte (c ∷ x) [] a lx e = let same : c ≡ byte = cc in grind (arith, common_steps)
no-byte byte (c ∷ x) (d ∷ y) a lx e = no-byte byte x y a (grind (arith, common_steps)) cc

-- the first byte, and the one after it
first : (c d : ℕ) (x y : List ℕ) → c ∷ x ≡ d ∷ y → c ≡ d
first c d x y e = cc

second : (c d c' d' : ℕ) (x y : List ℕ) → c ∷ d ∷ x ≡ c' ∷ d' ∷ y → d ≡ d'
second c d c' d' x y e = cc

-- ---- words and numbers

-- a word and the space after it
word : (x y a b : List ℕ) → IsWord x → IsWord y → x ++ (codes " " ++ a) ≡ y ++ (codes " " ++ b) → (x ≡ y) × (a ≡ b)
word x y a b wx wy e = cut-at 32 x y a b wx wy e

-- a number has digits alone
digits-lack : (byte : ℕ) → (byte < 48) ⊎ (57 < byte) → (n : ℕ) → IsNumber n → IsTrue (lacks byte (decimal n))
digits-lack byte other n small =
    decimal_by_steps (λ (m : ℕ) (ds : List ℕ). IsTrue (lacks byte ds))
    (λ m h. grind (arith, common_steps))
    (λ m ds h so_far. rw (list_all-append (λ c. not (c == byte)) ds ((48 + m % 10) ∷ [])) (grind (arith, common_steps)))
    n small

number-before : (byte : ℕ) → (byte < 48) ⊎ (57 < byte) → (m n : ℕ) (a b : List ℕ) → IsNumber m → IsNumber n
    → decimal m ++ byte ∷ a ≡ decimal n ++ byte ∷ b → (m ≡ n) × (a ≡ b)
number-before byte other m n a b small less e =
    let h =
    cut-at byte (decimal m) (decimal n) a b (digits-lack byte other m small) (digits-lack byte other n less) e in
    (decimal_injective m n small less h.0, h.1)

-- a number and the space after it
number : (m n : ℕ) (a b : List ℕ) → IsNumber m → IsNumber n
    → decimal m ++ (codes " " ++ a) ≡ decimal n ++ (codes " " ++ b) → (m ≡ n) × (a ≡ b)
number m n a b small less e = number-before 32 (inl (omega arith)) m n a b small less e

-- the time of an operation and the colon after it
time : (m n : ℕ) (a b : List ℕ) → IsNumber m → IsNumber n
    → time_text m ++ (codes ": " ++ a) ≡ time_text n ++ (codes ": " ++ b) → (m ≡ n) × (a ≡ b)
time m n a b small less e =
    let rest : decimal m ++ 58 ∷ 32 ∷ a ≡ decimal n ++ 58 ∷ 32 ∷ b = cc in
    let h = number-before 58 (inr (omega arith)) m n (32 ∷ a) (32 ∷ b) small less rest in (h.0, cc)

-- whether the credentials mode is include
credentials : (x y : Bool) (a b : List ℕ)
    → credentials_text x ++ (codes " " ++ a) ≡ credentials_text y ++ (codes " " ++ b)
    → (x ≡ y) × (a ≡ b)
credentials true true a b e = (refl, cc)
credentials false false a b e = (refl, cc)
credentials true false a b e = absurd (omega (arith, first _ _ _ _ e))
credentials false true a b e = absurd (omega (arith, first _ _ _ _ e))

-- whether the names under a host are meant too
subdomains : (x y : Bool) (a b : List ℕ) → subdomains_text x ++ (codes " " ++ a) ≡ subdomains_text y ++ (codes " " ++ b)
    → (x ≡ y) × (a ≡ b)
subdomains true true a b e = (refl, cc)
subdomains false false a b e = (refl, cc)
subdomains true false a b e = absurd (omega (arith, first _ _ _ _ e))
subdomains false true a b e = absurd (omega (arith, first _ _ _ _ e))

-- the method that is asked for
method : (x y : Option (List ℕ)) (a b : List ℕ) → IfSome x IsNamed → IfSome y IsNamed
    → method_text x ++ (codes " " ++ a) ≡ method_text y ++ (codes " " ++ b) → (x ≡ y) × (a ≡ b)
method None None a b nx ny e = (refl, cc)
method (Some x) (Some y) a b nx ny e = let h = word x y a b nx.0 ny.0 e in (cc, h.1)
method None (Some y) a b nx ny e = absurd (let h = word (codes "()") y a b refl ny.0 e in ny.1 (sym h.0))
method (Some x) None a b nx ny e = absurd (let h = word x (codes "()") a b nx.0 refl e in nx.1 h.0)

-- ---- lists of words

-- the words after the first one, each after a comma
comma-words : (x y : List ℕ) (xs ys : List (List ℕ)) → IsListed x → IsListed y → All IsListed xs → All IsListed ys
    → x ++ comma_texts xs ≡ y ++ comma_texts ys → (x ≡ y) × (xs ≡ ys)
comma-words x y [] [] lx ly ls lt e = (sym (append-nil x) ∙ e ∙ append-nil y, refl)
comma-words x y [] (v ∷ ys) lx ly ls lt e =
    absurd (no-byte comma x y (v ++ comma_texts ys) lx.1 (sym (append-nil x) ∙ e))
comma-words x y (u ∷ xs) [] lx ly ls lt e =
    absurd (no-byte comma y x (u ++ comma_texts xs) ly.1 (sym (append-nil y) ∙ sym e))
comma-words x y (u ∷ xs) (v ∷ ys) lx ly ls lt e =
    let h = cut-at comma x y (u ++ comma_texts xs) (v ++ comma_texts ys) lx.1 ly.1 e in
    let more = comma-words u v xs ys (All-head IsListed u xs ls) (All-head IsListed v ys lt) (All-tail IsListed u xs ls)
    (All-tail IsListed v ys lt) h.1 in (h.0, cc)

-- `()` is no list that has a word
none-listed : (x : List ℕ) (xs : List (List ℕ)) → IsListed x → codes "()" ≡ x ++ comma_texts xs → ⊥
none-listed x [] lx e = lx.0.1 (sym (e ∙ append-nil x))
none-listed x (u ∷ xs) lx e = no-byte comma (codes "()") x (u ++ comma_texts xs) refl e

-- two lists with one text are one list
one-list : (xs ys : List (List ℕ)) → All IsListed xs → All IsListed ys → list_text xs ≡ list_text ys → xs ≡ ys
one-list [] [] ls lt e = refl
one-list [] (y ∷ ys) ls lt e = absurd (none-listed y ys (All-head IsListed y ys lt) e)
one-list (x ∷ xs) [] ls lt e = absurd (none-listed x xs (All-head IsListed x xs ls) (sym e))
one-list (x ∷ xs) (y ∷ ys) ls lt e =
    let h = comma-words x y xs ys (All-head IsListed x xs ls) (All-head IsListed y ys lt) (All-tail IsListed x xs ls)
    (All-tail IsListed y ys lt) e in cc

-- the text of a list is a word
commas-lack_space : (xs : List (List ℕ)) → All IsListed xs → IsWord (comma_texts xs)
commas-lack_space [] ls = refl
commas-lack_space (x ∷ xs) ls =
    let first = (All-head IsListed x xs ls).0.0 in
    let rest = commas-lack_space xs (All-tail IsListed x xs ls) in
    rw (list_all-append (λ byte. not (byte == 32)) x (comma_texts xs), first, rest) refl

list-word : (xs : List (List ℕ)) → All IsListed xs → IsWord (list_text xs)
list-word [] ls = refl
list-word (x ∷ xs) ls =
    let first = (All-head IsListed x xs ls).0.0 in
    let rest = commas-lack_space xs (All-tail IsListed x xs ls) in
    rw (list_all-append (λ byte. not (byte == 32)) x (comma_texts xs), first, rest) refl

-- a list of words and the space after it
list : (xs ys : List (List ℕ)) (a b : List ℕ) → All IsListed xs → All IsListed ys
    → list_text xs ++ (codes " " ++ a) ≡ list_text ys ++ (codes " " ++ b) → (xs ≡ ys) × (a ≡ b)
list xs ys a b ls lt e =
    let h = word (list_text xs) (list_text ys) a b (list-word xs ls) (list-word ys lt) e in
    (one-list xs ys ls lt h.0, h.1)

-- ---- operations

-- a host and its time
match-text : (host : List ℕ) (now : ℕ) (a : List ℕ) → op_text (Match host now) ++ (codes ": " ++ a)
    ≡ codes "match " ++ (host ++ (time_text now ++ (codes ": " ++ a)))
match-text host now a = simp append_assoc

note-text : (host : List ℕ) (sts : Sts) (now : ℕ) (a : List ℕ) → op_text (Note host sts now) ++ (codes ": " ++ a)
    ≡ codes "note "
    ++ (host ++ (codes " " ++ (decimal sts.age ++ (codes " " ++ (subdomains_text sts.subdomains
    ++ (time_text now ++ (codes ": " ++ a)))))))
note-text host sts now a =
    parts (codes "note ") host (codes " ") (decimal sts.age) (subdomains_text sts.subdomains) (time_text now)
    (codes ": " ++ a)
  where
    parts : (k h s d u t r : List ℕ) → ((k ++ h ++ s ++ (d ++ s ++ u)) ++ t) ++ r
        ≡ k ++ (h ++ (s ++ (d ++ (s ++ (u ++ (t ++ r))))))
    parts k h s d u t r = simp append_assoc

covers-text : (q : Question) (now : ℕ) (a : List ℕ) → op_text (Covers q now) ++ (codes ": " ++ a)
    ≡ codes "covers "
    ++ (q.key ++ (codes " " ++ (q.origin ++ (codes " " ++ (credentials_text q.include ++ (codes " "
    ++ (method_text q.method ++ (codes " " ++ (list_text q.names ++ (codes " "
    ++ (q.url ++ (time_text now ++ (codes ": " ++ a)))))))))))))
covers-text q now a = simp append_assoc

learn-text : (l : Lesson) (now : ℕ) (a : List ℕ) → op_text (Learn l now) ++ (codes ": " ++ a)
    ≡ codes "learn "
    ++ (l.key ++ (codes " " ++ (l.origin ++ (codes " " ++ (credentials_text l.include ++ (codes " "
    ++ (decimal l.age ++ (codes " " ++ (list_text l.methods ++ (codes " " ++ (list_text l.names ++ (codes " "
    ++ (l.url ++ (time_text now ++ (codes ": " ++ a)))))))))))))))
learn-text l now a = simp append_assoc

clear-text : (key origin url : List ℕ) (now : ℕ) (a : List ℕ) → op_text (Clear key origin url now) ++ (codes ": " ++ a)
    ≡ codes "clear "
    ++ (key ++ (codes " " ++ (origin ++ (codes " " ++ (url ++ (time_text now ++ (codes ": " ++ a)))))))
clear-text key origin url now a =
    parts (codes "clear ") key (codes " ") origin url (time_text now) (codes ": " ++ a)
  where
    parts : (k h s d u t r : List ℕ) → (k ++ h ++ s ++ d ++ s ++ u ++ t) ++ r
        ≡ k ++ (h ++ (s ++ (d ++ (s ++ (u ++ (t ++ r))))))
    parts k h s d u t r = simp append_assoc

-- a word, and the time after it
word-time : (x y : List ℕ) (m n : ℕ) (a b : List ℕ) → IsWord x → IsWord y → IsNumber m → IsNumber n
    → x ++ (time_text m ++ (codes ": " ++ a)) ≡ y ++ (time_text n ++ (codes ": " ++ b)) → (x ≡ y) × (m ≡ n) × (a ≡ b)
word-time x y m n a b wx wy small less e =
    let w = word x y (codes "at " ++ (decimal m ++ (codes ": " ++ a))) (codes "at " ++ (decimal n ++ (codes ": " ++ b)))
    wx wy e in
    let t = time m n a b small less (ap (λ (l : List ℕ). 32 ∷ l) w.1) in (w.0, t.0, t.1)

-- what has the same parts is the same
same-question : (q r : Question) → q.key ≡ r.key → q.origin ≡ r.origin → q.url ≡ r.url → q.include ≡ r.include
    → q.method ≡ r.method → q.names ≡ r.names → q ≡ r
same-question q r k o u c m n =
    let one : Question = record {
      key = q.key;
      origin = q.origin;
      url = q.url;
      include = q.include;
      method = q.method;
      names = q.names;
    } in
    let other : Question = record {
      key = r.key;
      origin = r.origin;
      url = r.url;
      include = r.include;
      method = r.method;
      names = r.names;
    } in
    let same : one ≡ other = cc in same

same-lesson : (l m : Lesson) → l.key ≡ m.key → l.origin ≡ m.origin → l.url ≡ m.url → l.include ≡ m.include
    → l.age ≡ m.age → l.methods ≡ m.methods → l.names ≡ m.names → l ≡ m
same-lesson l m k o u c g s n =
    let one : Lesson = record {
      key = l.key;
      origin = l.origin;
      url = l.url;
      include = l.include;
      age = l.age;
      methods = l.methods;
      names = l.names;
    } in
    let other : Lesson = record {
      key = m.key;
      origin = m.origin;
      url = m.url;
      include = m.include;
      age = m.age;
      methods = m.methods;
      names = m.names;
    } in
    let same : one ≡ other = cc in same

same-sts : (s t : Sts) → s.age ≡ t.age → s.subdomains ≡ t.subdomains → s ≡ t
same-sts s t a d =
    let one : Sts = record { age = s.age; subdomains = s.subdomains } in
    let other : Sts = record { age = t.age; subdomains = t.subdomains } in
    let same : one ≡ other = cc in same

same-entry : (x y : Entry) → x.turn ≡ y.turn → x.document ≡ y.document → x.op ≡ y.op → x.reply ≡ y.reply → x ≡ y
same-entry x y t d o r =
    let one : Entry = record { turn = x.turn; document = x.document; op = x.op; reply = x.reply } in
    let other : Entry = record { turn = y.turn; document = y.document; op = y.op; reply = y.reply } in
    let same : one ≡ other = cc in same

-- an operation that notes a host
note-read : (host host' : List ℕ) (sts sts' : Sts) (now now' : ℕ) (a b : List ℕ) → IsWord host × IsNumber sts.age
    → IsWord host' × IsNumber sts'.age → IsNumber now → IsNumber now'
    → op_text (Note host sts now) ++ (codes ": " ++ a) ≡ op_text (Note host' sts' now') ++ (codes ": " ++ b)
    → (Note host sts now ≡ Note host' sts' now') × (a ≡ b)
note-read host host' sts sts' now now' a b ok ok' small less e =
    let h = word host host' _ _ ok.0 ok'.0
    (append_cancel_left (codes "note ") _ _ (sym (note-text host sts now a) ∙ e ∙ note-text host' sts' now' b)) in
    let n = number sts.age sts'.age _ _ ok.1 ok'.1 h.1 in
    let s = subdomains sts.subdomains sts'.subdomains (codes "at " ++ (decimal now ++ (codes ": " ++ a)))
    (codes "at " ++ (decimal now' ++ (codes ": " ++ b))) n.1 in
    let t = time now now' a b small less (ap (λ (l : List ℕ). 32 ∷ l) s.1) in
    let same = same-sts sts sts' n.0 s.0 in
    (cc (h.0, same, t.0), t.1)

-- one that asks
covers-read : (q r : Question) (now now' : ℕ) (a b : List ℕ) → IsReadableQuestion q → IsReadableQuestion r
    → IsNumber now → IsNumber now'
    → op_text (Covers q now) ++ (codes ": " ++ a) ≡ op_text (Covers r now') ++ (codes ": " ++ b)
    → (Covers q now ≡ Covers r now') × (a ≡ b)
covers-read q r now now' a b ok ok' small less e =
    let k = word q.key r.key _ _ ok.key ok'.key
    (append_cancel_left (codes "covers ") _ _ (sym (covers-text q now a) ∙ e ∙ covers-text r now' b)) in
    let o = word q.origin r.origin _ _ ok.origin ok'.origin k.1 in
    let c = credentials q.include r.include _ _ o.1 in
    let m = method q.method r.method _ _ ok.method ok'.method c.1 in
    let n = list q.names r.names _ _ ok.names ok'.names m.1 in
    let u = word-time q.url r.url now now' a b ok.url ok'.url small less n.1 in
    let same = same-question q r k.0 o.0 u.0 c.0 m.0 n.0 in
    (cc (same, u.1), u.2)

-- one that learns
learn-read : (l m : Lesson) (now now' : ℕ) (a b : List ℕ) → IsReadableLesson l → IsReadableLesson m
    → IsNumber now → IsNumber now'
    → op_text (Learn l now) ++ (codes ": " ++ a) ≡ op_text (Learn m now') ++ (codes ": " ++ b)
    → (Learn l now ≡ Learn m now') × (a ≡ b)
learn-read l m now now' a b ok ok' small less e =
    let k = word l.key m.key _ _ ok.key ok'.key
    (append_cancel_left (codes "learn ") _ _ (sym (learn-text l now a) ∙ e ∙ learn-text m now' b)) in
    let o = word l.origin m.origin _ _ ok.origin ok'.origin k.1 in
    let c = credentials l.include m.include _ _ o.1 in
    let g = number l.age m.age _ _ ok.age ok'.age c.1 in
    let s = list l.methods m.methods _ _ ok.methods ok'.methods g.1 in
    let n = list l.names m.names _ _ ok.names ok'.names s.1 in
    let u = word-time l.url m.url now now' a b ok.url ok'.url small less n.1 in
    let same = same-lesson l m k.0 o.0 u.0 c.0 g.0 s.0 n.0 in
    (cc (same, u.1), u.2)

-- one that clears
clear-read : (key key' origin origin' url url' : List ℕ) (now now' : ℕ) (a b : List ℕ)
    → IsWord key × IsWord origin × IsWord url → IsWord key' × IsWord origin' × IsWord url'
    → IsNumber now → IsNumber now'
    → op_text (Clear key origin url now) ++ (codes ": " ++ a)
    ≡ op_text (Clear key' origin' url' now') ++ (codes ": " ++ b)
    → (Clear key origin url now ≡ Clear key' origin' url' now') × (a ≡ b)
clear-read key key' origin origin' url url' now now' a b ok ok' small less e =
    let k = word key key' _ _ ok.0 ok'.0
    (append_cancel_left (codes "clear ") _ _ (sym (clear-text key origin url now a) ∙ e
    ∙ clear-text key' origin' url' now' b)) in
    let o = word origin origin' _ _ ok.1 ok'.1 k.1 in
    let u = word-time url url' now now' a b ok.2 ok'.2 small less o.1 in
    (cc, u.2)

-- an operation and the colon after it
op-read : (p q : Op) (a b : List ℕ) → IsNumber (time_of p) → IsNumber (time_of q) → IsReadableOp p → IsReadableOp q
    → op_text p ++ (codes ": " ++ a) ≡ op_text q ++ (codes ": " ++ b) → (p ≡ q) × (a ≡ b)
op-read (Match host now) (Match host' now') a b small less ok ok' e =
    let u = word-time host host' now now' a b ok ok' small less
    (append_cancel_left (codes "match ") _ _ (sym (match-text host now a) ∙ e ∙ match-text host' now' b)) in
    (cc, u.2)
op-read (Note host sts now) (Note host' sts' now') a b small less ok ok' e =
    note-read host host' sts sts' now now' a b ok ok' small less e
op-read (Covers q now) (Covers r now') a b small less ok ok' e = covers-read q r now now' a b ok ok' small less e
op-read (Learn l now) (Learn m now') a b small less ok ok' e = learn-read l m now now' a b ok ok' small less e
op-read (Clear key origin url now) (Clear key' origin' url' now') a b small less ok ok' e =
    clear-read key key' origin origin' url url' now now' a b ok ok' small less e
op-read p q a b small less ok ok' e = absurd (omega (arith, first _ _ _ _ e, second _ _ _ _ _ _ e))

-- what an operation replied, and the end of the line
reply-read : (r s : Reply) (a b : List ℕ) → reply_text r ++ (codes "\n" ++ a) ≡ reply_text s ++ (codes "\n" ++ b)
    → (r ≡ s) × (a ≡ b)
reply-read Yes Yes a b e = (refl, cc)
reply-read No No a b e = (refl, cc)
reply-read Done Done a b e = (refl, cc)
reply-read r s a b e = absurd (omega (arith, first _ _ _ _ e))

-- ---- histories

entry-text : (entry : Entry) (a : List ℕ) → entry_line entry ++ a
    ≡ decimal entry.turn ++ (codes " " ++ (decimal entry.document ++ (codes " " ++ (op_text entry.op
    ++ (codes ": " ++ (reply_text entry.reply ++ (codes "\n" ++ a)))))))
entry-text entry a = simp append_assoc

-- an entry, and what comes after its line
entry-read : (x y : Entry) (a b : List ℕ) → IsReadable x → IsReadable y → entry_line x ++ a ≡ entry_line y ++ b
    → (x ≡ y) × (a ≡ b)
entry-read x y a b ok ok' e =
    let t = number x.turn y.turn _ _ ok.turn ok'.turn (sym (entry-text x a) ∙ e ∙ entry-text y b) in
    let d = number x.document y.document _ _ ok.document ok'.document t.1 in
    let o = op-read x.op y.op _ _ ok.time ok'.time ok.op ok'.op d.1 in
    let r = reply-read x.reply y.reply a b o.1 in
    (same-entry x y t.0 d.0 o.0 r.0, r.1)

-- a line is not empty
line-filled : (text rest : List ℕ) → [] ≡ (text ++ codes "\n") ++ rest → ⊥
line-filled [] rest e = cc
line-filled (byte ∷ text) rest e = cc

-- two histories with one text are one
pub one-history : HasOneHistory
one-history [] [] ok ok' e = refl
one-history [] (y ∷ ys) ok ok' e = absurd (line-filled _ _ e)
one-history (x ∷ xs) [] ok ok' e = absurd (line-filled _ _ (sym e))
one-history (x ∷ xs) (y ∷ ys) ok ok' e =
    let h = entry-read x y (history_text xs) (history_text ys) (All-head IsReadable x xs ok)
    (All-head IsReadable y ys ok') e in
    let rest = one-history xs ys (All-tail IsReadable x xs ok) (All-tail IsReadable y ys ok') h.1 in cc
