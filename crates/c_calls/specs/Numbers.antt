-- The numbers that the header tells, which are those of the definitions.
use Rattle.std.specs.Prelude.{◌≡◌}
use Rattle.c_calls.specs.declared.choices.TheConstants.{CHOOSE_CREDENTIALS, CHOOSE_CROSSORIGIN, CHOOSE_MODE}
use Rattle.c_calls.specs.declared.choices.TheConstants.{CHOOSE_PARSER, CHOOSE_REDIRECT, CHOOSE_REFERRER}
use Rattle.c_calls.specs.declared.choices.TheConstants.{CHOOSE_REFERRER_POLICY, CHOOSE_UPLOAD, CREDENTIALS_INCLUDE}
use Rattle.c_calls.specs.declared.choices.TheConstants.{CREDENTIALS_OMIT, CREDENTIALS_SAME_ORIGIN, CROSSORIGIN_ABSENT}
use Rattle.c_calls.specs.declared.choices.TheConstants.{CROSSORIGIN_ANONYMOUS, CROSSORIGIN_USE_CREDENTIALS}
use Rattle.c_calls.specs.declared.choices.TheConstants.{LOAD_AUDIO, LOAD_FONT, LOAD_IMAGE, LOAD_MANIFEST, LOAD_SCRIPT}
use Rattle.c_calls.specs.declared.choices.TheConstants.{LOAD_STYLE, LOAD_VIDEO, MODE_CORS, MODE_NAVIGATE}
use Rattle.c_calls.specs.declared.choices.TheConstants.{MODE_NO_CORS, MODE_SAME_ORIGIN, REDIRECT_ERROR}
use Rattle.c_calls.specs.declared.choices.TheConstants.{REDIRECT_FOLLOW, REDIRECT_MANUAL, REQUEST_BODY}
use Rattle.c_calls.specs.declared.choices.TheConstants.{REQUEST_INTEGRITY, REQUEST_NONCE}
use Rattle.c_calls.specs.declared.policies.TheConstants.{REFERRER_DEFAULT, REFERRER_NO_REFERRER}
use Rattle.c_calls.specs.declared.policies.TheConstants.{REFERRER_NO_REFERRER_WHEN_DOWNGRADE, REFERRER_ORIGIN}
use Rattle.c_calls.specs.declared.policies.TheConstants.{REFERRER_ORIGIN_WHEN_CROSS_ORIGIN, REFERRER_SAME_ORIGIN}
use Rattle.c_calls.specs.declared.policies.TheConstants.{REFERRER_STRICT_ORIGIN}
use Rattle.c_calls.specs.declared.policies.TheConstants.{REFERRER_STRICT_ORIGIN_WHEN_CROSS_ORIGIN}
use Rattle.c_calls.specs.declared.policies.TheConstants.{REFERRER_UNSAFE_URL}

abbrev pub AreNumbered : Type 0
AreNumbered = (CHOOSE_MODE ≡ 0) × (MODE_SAME_ORIGIN ≡ 0) × (MODE_NO_CORS ≡ 1) × (MODE_CORS ≡ 2) × (MODE_NAVIGATE ≡ 3)
    × (CHOOSE_CREDENTIALS ≡ 1) × (CREDENTIALS_OMIT ≡ 0) × (CREDENTIALS_SAME_ORIGIN ≡ 1) × (CREDENTIALS_INCLUDE ≡ 2)
    × (CHOOSE_REDIRECT ≡ 2) × (REDIRECT_FOLLOW ≡ 0) × (REDIRECT_ERROR ≡ 1) × (REDIRECT_MANUAL ≡ 2)
    × (CHOOSE_REFERRER ≡ 3) × (CHOOSE_REFERRER_POLICY ≡ 4) × (CHOOSE_UPLOAD ≡ 5) × (CHOOSE_CROSSORIGIN ≡ 6)
    × (CROSSORIGIN_ABSENT ≡ 0) × (CROSSORIGIN_ANONYMOUS ≡ 1) × (CROSSORIGIN_USE_CREDENTIALS ≡ 2) × (CHOOSE_PARSER ≡ 7)
    × (LOAD_IMAGE ≡ 1) × (LOAD_AUDIO ≡ 2) × (LOAD_VIDEO ≡ 3) × (LOAD_STYLE ≡ 4) × (LOAD_SCRIPT ≡ 5) × (LOAD_FONT ≡ 6)
    × (LOAD_MANIFEST ≡ 7) × (REQUEST_BODY ≡ 0) × (REQUEST_INTEGRITY ≡ 1) × (REQUEST_NONCE ≡ 2)
    × (REFERRER_DEFAULT ≡ 0) × (REFERRER_NO_REFERRER ≡ 1) × (REFERRER_NO_REFERRER_WHEN_DOWNGRADE ≡ 2)
    × (REFERRER_SAME_ORIGIN ≡ 3) × (REFERRER_ORIGIN ≡ 4) × (REFERRER_STRICT_ORIGIN ≡ 5)
    × (REFERRER_ORIGIN_WHEN_CROSS_ORIGIN ≡ 6) × (REFERRER_STRICT_ORIGIN_WHEN_CROSS_ORIGIN ≡ 7)
    × (REFERRER_UNSAFE_URL ≡ 8)
