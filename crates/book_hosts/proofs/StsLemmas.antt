-- What a field says, by the grammar and as it is read.
use Rattle.std.proofs.Common.{◌≡◌, ℕ, ◌≤◌, Bool, true, false, List, Option, Some, None, Result, Ok, Err, IfOk, IfSome}
use Rattle.std.proofs.Common.{arith, cond, min, refl, sym, ap, ◌∙◌, subst, if◌then◌else◌, option_map}
use Rattle.std.proofs.Common.{codes}
use Rattle.std.specs.Prelude.{option_and_then}
use Rattle.std.specs.Str.Parse.{digits_value}
use Rattle.value_text.specs.Digits.{capped_digits, is_digits}
use Rattle.book_hosts.specs.Field.{IsSts, greatest_age, has_twice, include_subdomains, max_age, named, sts_of}
use Rattle.book_hosts.specs.Reading.{AgesAreBounded, ReadsTheGrammar, directives_of, said_once, sts_in}
use Rattle.book_hosts.specs.declared.directives.Directive.{Directive}
use Rattle.book_hosts.specs.declared.sts.Sts.{Sts}
use Rattle.book_hosts.proofs.FieldLemmas.{field-read, read-field}

-- ---- what is read is what the grammar says, and nothing else

says-by : (value : List ℕ) (directives : List Directive) (sts : Sts) (twice : Bool) → has_twice directives ≡ twice
    → directives_of value ≡ Some directives
    → (if twice then None else sts_of directives) ≡ Some sts → IsSts value sts
says-by value directives sts true e found says = absurd (cc)
says-by value directives sts false e found says =
    record { directives = directives; is_field = read-field value directives found; each_once = e; says = says }

read-by : (value : List ℕ) (sts : Sts) (read : Option (List Directive)) → directives_of value ≡ read
    → option_and_then said_once read ≡ Some sts → IsSts value sts
read-by value sts None found e = absurd (cc)
read-by value sts (Some directives) found e = says-by value directives sts (has_twice directives) refl found e

says-once : (directives : List Directive) (sts : Sts) → has_twice directives ≡ false → sts_of directives ≡ Some sts
    → said_once directives ≡ Some sts
says-once directives sts once says = rw once says

says : (value : List ℕ) (sts : Sts) → IsSts value sts → sts_in value ≡ Some sts
says value sts s = ap (option_and_then said_once) (field-read value s.directives s.is_field)
    ∙ says-once s.directives sts s.each_once s.says

pub reads-the-grammar : ReadsTheGrammar
reads-the-grammar value sts = (λ e. read-by value sts (directives_of value) refl e, λ s. says value sts s)

-- ---- no age is greater than the greatest

capped-by : (n cap found : ℕ) (b : Bool) → cond b (Some (min n cap)) None ≡ Some found → found ≤ cap
capped-by n cap found false e = absurd (cc)
capped-by n cap found true e =
    let same : min n cap ≡ found = cc in
    omega (arith, same)

digits-most : (digits : Option (List ℕ)) (age : ℕ)
    → option_and_then (λ text. capped_digits text greatest_age) digits ≡ Some age → age ≤ greatest_age
digits-most None age e = absurd (cc)
digits-most (Some text) age e = capped-by (digits_value 10 text) greatest_age age (is_digits text) e

age-by : (age : Option ℕ) (flag : Option Bool) (sts : Sts) → ((n : ℕ) → age ≡ Some n → n ≤ greatest_age)
    → option_and_then (λ n. option_map (λ subdomains. record { age = n; subdomains = subdomains }) flag) age ≡ Some sts
    → sts.age ≤ greatest_age
age-by None flag sts most e = absurd (cc)
age-by (Some n) None sts most e = absurd (cc)
age-by (Some n) (Some subdomains) sts most e =
    let same : n ≡ sts.age = cc in
    subst (λ m. m ≤ greatest_age) same (most n refl)

pub ages-bounded : AgesAreBounded
ages-bounded value sts e =
    let s = reads-the-grammar value sts in
    let is = s.0 e in
    age-by (max_age is.directives) (include_subdomains is.directives) sts
    (digits-most (option_and_then (λ directive. directive.value) (named (codes "max-age") is.directives))) is.says

pub age-bounded : (value : List ℕ) (parsed : Option Sts) → sts_in value ≡ parsed
    → IfSome parsed (λ sts. sts.age ≤ greatest_age)
age-bounded value None e = tt
age-bounded value (Some sts) e = ages-bounded value sts e

-- ---- what holds of the function holds of an answer, unless memory was wanting

pub of-answer : {E : Type 0} (P : Option Sts → Type 0) (value : List ℕ) (r : Result (Option Sts) E) → P (sts_in value)
    → IfOk r (λ parsed. parsed ≡ sts_in value) → IfOk r P
of-answer P value (Ok parsed) holds e = subst P (sym e) holds
of-answer P value (Err error) holds e = e
