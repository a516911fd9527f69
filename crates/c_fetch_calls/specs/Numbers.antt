-- The numbers that the header tells, which are those of the definitions.
use Rattle.std.specs.Prelude.{◌≡◌}
use Rattle.c_fetch_calls.specs.declared.fetches.TheConstants.{ACT_ASK, ACT_GONE, ACT_OVER, ACT_READ_BODY}
use Rattle.c_fetch_calls.specs.declared.fetches.TheConstants.{ACT_READ_HEAD, ACT_SEND, ACT_TELL}
use Rattle.c_fetch_calls.specs.declared.inputs.TheConstants.{INPUT_DONE, INPUT_ENDED, INPUT_FAILED, INPUT_NO}
use Rattle.c_fetch_calls.specs.declared.inputs.TheConstants.{INPUT_SENT, INPUT_TOLD, INPUT_YES}
use Rattle.c_fetch_calls.specs.declared.parts.TheConstants.{NUMBER_AGE, NUMBER_CALL, NUMBER_COUNT, NUMBER_END}
use Rattle.c_fetch_calls.specs.declared.parts.TheConstants.{NUMBER_ENFORCED, NUMBER_ERROR, NUMBER_HEADERS}
use Rattle.c_fetch_calls.specs.declared.parts.TheConstants.{NUMBER_INCLUDE, NUMBER_METHODS, NUMBER_NAMES}
use Rattle.c_fetch_calls.specs.declared.parts.TheConstants.{NUMBER_OUTCOME, NUMBER_POLICY, NUMBER_PREFLIGHT}
use Rattle.c_fetch_calls.specs.declared.parts.TheConstants.{NUMBER_STATUS, NUMBER_SUBDOMAINS, NUMBER_TIME, TEXT_BODY}
use Rattle.c_fetch_calls.specs.declared.parts.TheConstants.{TEXT_HEADER_NAME, TEXT_HEADER_VALUE, TEXT_HOST, TEXT_KEY}
use Rattle.c_fetch_calls.specs.declared.parts.TheConstants.{TEXT_LEARNT, TEXT_METHOD, TEXT_NAME, TEXT_ORIGIN}
use Rattle.c_fetch_calls.specs.declared.parts.TheConstants.{TEXT_REFUSED, TEXT_URL, TEXT_WORD}

abbrev pub AreNumbered : Type 0
AreNumbered = (ACT_OVER ≡ 0) × (ACT_ASK ≡ 1) × (ACT_SEND ≡ 2) × (ACT_READ_HEAD ≡ 3) × (ACT_READ_BODY ≡ 4)
    × (ACT_TELL ≡ 5) × (ACT_GONE ≡ 6) × (INPUT_SENT ≡ 0) × (INPUT_TOLD ≡ 1) × (INPUT_ENDED ≡ 2) × (INPUT_FAILED ≡ 3)
    × (INPUT_YES ≡ 4) × (INPUT_NO ≡ 5) × (INPUT_DONE ≡ 6) × (TEXT_ORIGIN ≡ 0) × (TEXT_URL ≡ 1) × (TEXT_METHOD ≡ 2)
    × (TEXT_BODY ≡ 3) × (TEXT_HEADER_NAME ≡ 4) × (TEXT_HEADER_VALUE ≡ 5) × (TEXT_HOST ≡ 6) × (TEXT_KEY ≡ 7)
    × (TEXT_NAME ≡ 8) × (TEXT_LEARNT ≡ 9) × (TEXT_WORD ≡ 10) × (TEXT_REFUSED ≡ 11) × (NUMBER_CALL ≡ 0)
    × (NUMBER_TIME ≡ 1) × (NUMBER_AGE ≡ 2) × (NUMBER_SUBDOMAINS ≡ 3) × (NUMBER_INCLUDE ≡ 4) × (NUMBER_PREFLIGHT ≡ 5)
    × (NUMBER_POLICY ≡ 6) × (NUMBER_ENFORCED ≡ 7) × (NUMBER_OUTCOME ≡ 8) × (NUMBER_STATUS ≡ 9) × (NUMBER_ERROR ≡ 10)
    × (NUMBER_END ≡ 11) × (NUMBER_COUNT ≡ 12) × (NUMBER_HEADERS ≡ 13) × (NUMBER_NAMES ≡ 14) × (NUMBER_METHODS ≡ 15)
