-- The source expression that a word is (CSP 3, section 2.3.1, "source-expression").
use Rattle.std.specs.Prelude.{ℕ, Bool, true, ◌==◌, ◌+◌, ◌-◌, ◌&&◌, length, take, drop, nat_eq, bytes_eq, codes}
use Rattle.std.specs.Prelude.{Option, Some, None, option_map, option_and_then, unwrap_or, if◌then◌else◌}
use Rattle.std.specs.List.{after_first, before_first, ends_with, position, starts_with}
use Rattle.std.specs.Option.{option_map_or, option_or}
use Rattle.std.specs.Str.{str_eq_ignore_ascii_case}
use Rattle.value_text.specs.Texts.{Text}
use Rattle.value_text.specs.Ascii.{colon, hyphen, slash}
use Rattle.value_text.specs.Base64.{is_base64_value}
use Rattle.policy_csp_match.specs.declared.source.HostSource.{HostSource}
use Rattle.policy_csp_match.specs.declared.source.Source.{Source}
use Rattle.policy_csp_match.specs.declared.source.Source.TheVariants as kind
use Rattle.policy_csp_match.specs.declared.source.SourcePort.{SourcePort}
use Rattle.policy_csp_match.specs.declared.source.SourcePort.TheVariants as port
use Rattle.policy_csp_match.specs.Grammar.{is_host_part, is_path_part, is_port_part, is_scheme_part}

-- ---- texts

-- the text without this in front of it, where it begins so
abbrev pub without_front : Text → Text → Option Text
without_front front text = if starts_with nat_eq text front then Some (drop (length front) text) else None

-- the text without this at its end, where it ends so
abbrev pub without_end : Text → Text → Option Text
without_end end text = if ends_with nat_eq text end then Some (take (length text - length end) text) else None

-- the text from the first such byte on, where there is one
abbrev pub from_byte : ℕ → Text → Option Text
from_byte mark text = option_map (λ index. drop index text) (position (λ byte. byte == mark) text)

-- the text after the first such byte, where there is one
abbrev pub behind_byte : ℕ → Text → Option Text
behind_byte mark text = option_map (λ index. drop (index + 1) text) (position (λ byte. byte == mark) text)

-- ---- scheme-source

-- scheme-source: a scheme-part and `:`
abbrev pub scheme_source : Text → Option Source
scheme_source word =
    option_and_then (λ scheme. if is_scheme_part scheme then Some (kind.Scheme scheme) else None)
    (without_end (codes ":") word)

-- ---- keyword-source, nonce-source and hash-source

-- hash-algorithm in any ASCII case, by its bits
abbrev pub algorithm_named : Text → Option ℕ
algorithm_named name =
    if str_eq_ignore_ascii_case name (codes "sha256") then Some 256
    else if str_eq_ignore_ascii_case name (codes "sha384") then Some 384
    else if str_eq_ignore_ascii_case name (codes "sha512") then Some 512 else None

-- nonce-source or hash-source of a name and a base64-value
abbrev pub valued_source : Text → Text → Option Source
valued_source name value =
    if str_eq_ignore_ascii_case name (codes "nonce") then Some (kind.Nonce value)
    else option_map (λ bits. kind.Hash bits value) (algorithm_named name)

-- nonce-source or hash-source of `name-value`, where the value is a base64-value
abbrev pub dashed_source : Text → Option Source
dashed_source text =
    if is_base64_value (after_first (λ byte. byte == hyphen) text)
    then valued_source (before_first (λ byte. byte == hyphen) text) (after_first (λ byte. byte == hyphen) text)
    else None

-- the source expression of a text between quotes
abbrev pub inner_source : Text → Option Source
inner_source text =
    if str_eq_ignore_ascii_case text (codes "self") then Some kind.SelfOrigin
    else if str_eq_ignore_ascii_case text (codes "none") then Some kind.NoneWord
    else if str_eq_ignore_ascii_case text (codes "strict-dynamic") then Some kind.StrictDynamic
    else dashed_source text

-- what is between `'` and `'`, where the word is quoted
abbrev pub unquoted : Text → Option Text
unquoted word = option_and_then (λ text. without_end (codes "'") text) (without_front (codes "'") word)

-- keyword-source, nonce-source or hash-source; `'none'` counts among them
abbrev pub quoted_source : Text → Option Source
quoted_source word = option_and_then inner_source (unquoted word)

-- ---- host-source

-- the word begins with a scheme-part and `://`
abbrev pub has_scheme : Text → Bool
has_scheme word =
    is_scheme_part (before_first (λ byte. byte == colon) word)
    && starts_with nat_eq (after_first (λ byte. byte == colon) word) (codes "//")

-- that scheme-part
abbrev pub scheme_of : Text → Option Text
scheme_of word = if has_scheme word then Some (before_first (λ byte. byte == colon) word) else None

-- what comes after `://`, or the word where it has no scheme-part
abbrev pub behind_scheme : Text → Text
behind_scheme word = if has_scheme word then drop 2 (after_first (λ byte. byte == colon) word) else word

-- host and port: what is before the first slash
abbrev pub authority_of : Text → Text
authority_of text = before_first (λ byte. byte == slash) text

-- the host: what is before the first colon of host and port
abbrev pub host_of : Text → Text
host_of text = before_first (λ byte. byte == colon) (authority_of text)

-- the port: what comes after that colon, where there is one
abbrev pub port_of : Text → Option Text
port_of text = behind_byte colon (authority_of text)

-- the path: the text from the first slash on, where there is one
abbrev pub path_of : Text → Option Text
path_of text = from_byte slash text

-- the port as it is written
abbrev pub source_port : Text → SourcePort
source_port text = if bytes_eq text (codes "*") then port.Any else port.Digits text

-- each part that there is follows its grammar
abbrev pub are_parts : Text → Bool
are_parts text =
    is_host_part (host_of text) && option_map_or is_port_part (port_of text) true
    && option_map_or is_path_part (path_of text) true

-- host-source: an optional scheme-part and `://`, a host-part, an optional `:` and port-part, an optional path-part
abbrev pub host_source : Text → Option HostSource
host_source word =
    if are_parts (behind_scheme word)
    then Some (record {
      scheme = scheme_of word;
      host = host_of (behind_scheme word);
      port = option_map source_port (port_of (behind_scheme word));
      path = path_of (behind_scheme word);
    })
    else None

-- ---- source-expression

-- the source expression of a word: the first of these that it is
abbrev pub source_of : Text → Source
source_of word =
    if bytes_eq word (codes "*") then kind.Any
    else unwrap_or
    (option_or (scheme_source word) (option_or (quoted_source word) (option_map kind.Host (host_source word))))
    kind.Unknown
