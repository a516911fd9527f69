-- The names of destinations and of a request's modes (Fetch, section 2.2.5), effective directives (CSP 3, section
-- 6.8.1), response types (Fetch, section 2.2.6) and referrer policies (Referrer Policy, section 3).
use Rattle.std.specs.Prelude.{[], codes}
use Rattle.value_text.specs.Texts.{Text}
use Rattle.value_requests.specs.declared.mode.Credentials.{Credentials}
use Rattle.value_requests.specs.declared.mode.Credentials.TheVariants as credentials
use Rattle.value_requests.specs.declared.mode.Mode.{Mode}
use Rattle.value_requests.specs.declared.mode.Mode.TheVariants as mode
use Rattle.value_requests.specs.declared.mode.RedirectMode.{RedirectMode}
use Rattle.value_requests.specs.declared.mode.RedirectMode.TheVariants as redirect
use Rattle.value_requests.specs.declared.mode.ReferrerPolicy.{ReferrerPolicy}
use Rattle.value_requests.specs.declared.mode.ReferrerPolicy.TheVariants as policy
use Rattle.value_requests.specs.declared.policy.Destination.{Destination}
use Rattle.value_requests.specs.declared.policy.Destination.TheVariants as destination
use Rattle.value_requests.specs.declared.policy.Directive.{Directive}
use Rattle.value_requests.specs.declared.policy.Directive.TheVariants as directive
use Rattle.value_requests.specs.declared.response.ResponseKind.{ResponseKind}
use Rattle.value_requests.specs.declared.response.ResponseKind.TheVariants as kind

-- the name of a destination; that of a `fetch`, which the standard leaves empty, is `fetch`
abbrev pub destination_name : Destination → Text
destination_name destination.Fetch = codes "fetch"
destination_name destination.Image = codes "image"
destination_name destination.Audio = codes "audio"
destination_name destination.Video = codes "video"
destination_name destination.Style = codes "style"
destination_name destination.Script = codes "script"
destination_name destination.Font = codes "font"
destination_name destination.Manifest = codes "manifest"

-- the name of a directive
abbrev pub directive_name : Directive → Text
directive_name directive.ConnectSrc = codes "connect-src"
directive_name directive.ImgSrc = codes "img-src"
directive_name directive.MediaSrc = codes "media-src"
directive_name directive.FontSrc = codes "font-src"
directive_name directive.ManifestSrc = codes "manifest-src"
directive_name directive.StyleSrcElem = codes "style-src-elem"
directive_name directive.ScriptSrcElem = codes "script-src-elem"

-- the name of a response's type
abbrev pub kind_name : ResponseKind → Text
kind_name kind.Basic = codes "basic"
kind_name kind.Cors = codes "cors"
kind_name kind.Opaque = codes "opaque"
kind_name kind.OpaqueRedirect = codes "opaqueredirect"

-- the name of a mode
abbrev pub mode_name : Mode → Text
mode_name mode.SameOrigin = codes "same-origin"
mode_name mode.NoCors = codes "no-cors"
mode_name mode.Cors = codes "cors"
mode_name mode.Navigate = codes "navigate"

-- the name of a credentials mode
abbrev pub credentials_name : Credentials → Text
credentials_name credentials.Omit = codes "omit"
credentials_name credentials.SameOrigin = codes "same-origin"
credentials_name credentials.Include = codes "include"

-- the name of a redirect mode
abbrev pub redirect_name : RedirectMode → Text
redirect_name redirect.Follow = codes "follow"
redirect_name redirect.Error = codes "error"
redirect_name redirect.Manual = codes "manual"

-- the token of a referrer policy
abbrev pub policy_name : ReferrerPolicy → Text
policy_name policy.Empty = []
policy_name policy.NoReferrer = codes "no-referrer"
policy_name policy.NoReferrerWhenDowngrade = codes "no-referrer-when-downgrade"
policy_name policy.SameOrigin = codes "same-origin"
policy_name policy.Origin = codes "origin"
policy_name policy.StrictOrigin = codes "strict-origin"
policy_name policy.OriginWhenCrossOrigin = codes "origin-when-cross-origin"
policy_name policy.StrictOriginWhenCrossOrigin = codes "strict-origin-when-cross-origin"
policy_name policy.UnsafeUrl = codes "unsafe-url"
