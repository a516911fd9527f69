-- What is told of a Strict-Transport-Security field.
use Rattle.std.specs.Prelude.{◌≡◌, ℕ, Option, Some, None, if◌then◌else◌}
use Rattle.value_text.specs.Texts.{Text}
use Rattle.book_hosts.specs.Reading.{sts_in}
use Rattle.book_hosts.specs.declared.sts.Sts.{Sts}
use Rattle.c_handle.specs.declared.codes.TheConstants.{OK, NO}

-- what a field says is written, or nothing
abbrev pub IsStsOf : Option Sts → ℕ → ℕ → ℕ → ℕ → ℕ → Type 0
IsStsOf (Some sts) age_before age subdomains_before subdomains code =
    (code ≡ OK) × (age ≡ sts.age) × (subdomains ≡ (if sts.subdomains then 1 else 0))
IsStsOf None age_before age subdomains_before subdomains code =
    (code ≡ NO) × (age ≡ age_before) × (subdomains ≡ subdomains_before)

abbrev pub IsSts : Text → ℕ → ℕ → ℕ → ℕ → ℕ → Type 0
IsSts field = IsStsOf (sts_in field)
