-- The bytes of a request (RFC 9112, section 3).
use Rattle.std.specs.Prelude.{[], ◌++◌, codes, unwrap_or}
use Rattle.std.specs.List.{flat_map}
use Rattle.value_text.specs.Texts.{Text}
use Rattle.value_headers.specs.declared.headers.Header.{Header}
use Rattle.value_requests.specs.declared.hop.Hop.{Hop}
use Rattle.value_requests.specs.Lines.{field_line}

-- the method, the request target and the version
abbrev pub request_line : Hop → Text
request_line hop = hop.method ++ (codes " " ++ (hop.url ++ codes " HTTP/1.1\r\n"))

-- one header on its line
abbrev pub header_line : Header → Text
header_line header = field_line header.name header.value

-- the whole request: its line, its headers, an empty line and its body
abbrev pub request_bytes : Hop → Text
request_bytes hop = request_line hop ++ (flat_map header_line hop.headers ++ (codes "\r\n" ++ unwrap_or hop.body []))
