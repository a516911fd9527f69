-- The numbers that the header tells, which are those of the definitions.
use Rattle.std.specs.Prelude.{◌≡◌}
use Rattle.c_policies.specs.declared.answers.TheConstants.{TAINTING_BASIC, TAINTING_CORS, TAINTING_OPAQUE}
use Rattle.c_policies.specs.declared.checks.TheConstants.{CHECK_ENFORCED, CHECK_REPORT_ONLY, CHECK_RESPONSE}

abbrev pub AreNumbered : Type 0
AreNumbered = (TAINTING_BASIC ≡ 0) × (TAINTING_CORS ≡ 1) × (TAINTING_OPAQUE ≡ 2) × (CHECK_ENFORCED ≡ 0)
    × (CHECK_REPORT_ONLY ≡ 1) × (CHECK_RESPONSE ≡ 2)
