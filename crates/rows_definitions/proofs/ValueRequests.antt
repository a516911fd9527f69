-- The definitions computed on examples that were written down by hand: methods, and URLs against that of a document at
-- http://a.test.
use Rattle.rows_definitions.proofs.Shared.{url_at}
use Rattle.std.proofs.Common.{◌≡◌, refl, [], ◌∷◌, true, false, codes, Some, None}
use Rattle.url.proofs.OnLiterals.{url_on_literals}
use Rattle.url.specs.declared.host.Host.TheVariants.{Domain}
use Rattle.url.specs.Parts.{Parts}
use Rattle.std.specs.Str.{is_utf8, chars}
use Rattle.value_requests.specs.Methods.{is_safelisted_method, normalized}
use Rattle.value_requests.specs.Urls.{url_against}

-- http://a.test/
abbrev a : Parts
a = url_at (codes "http") (codes "a.test") (codes "/")

-- a text against the URL of a document; what is not UTF-8 is no URL
against_base : (url_against (record a { path = codes "/x/y" }) (codes "../z") ≡ Some (record a { path = codes "/z" }))
    × (url_against a (255 ∷ []) ≡ None)
unfolding url_on_literals is_utf8 chars
against_base = (refl, refl)

-- methods in any case
methods : (normalized (codes "pUt") ≡ codes "PUT") × (normalized (codes "Options") ≡ codes "OPTIONS")
    × (normalized (codes "patch") ≡ codes "patch") × (is_safelisted_method (codes "HEAD") ≡ true)
    × (is_safelisted_method (codes "head") ≡ false)
methods = (refl, refl, refl, refl, refl)
