-- Where a redirect leads, and what it is refused for (Fetch, section 4.5 "HTTP-redirect fetch", steps 3 to 10, and
-- section 2.2.6 "location URL").
use Rattle.std.specs.Prelude.{Bool, not, ◌==◌, ◌<◌, ◌&&◌, ◌||◌, IsTrue, [], ◌∷◌, codes, Option, Some, None}
use Rattle.std.specs.Prelude.{option_map, if◌then◌else◌}
use Rattle.fetch_answers.specs.Words.{Absent, BadLocation, Extracted, Head, Items, Parts, RedirectCredentials}
use Rattle.fetch_answers.specs.Words.{RedirectScheme, Request, Single, Text, TooManyRedirects, current_url, extracted}
use Rattle.fetch_answers.specs.Words.{has_credentials, is_cors_mode, is_cors_tainted, is_http_url, is_origin_of}
use Rattle.fetch_answers.specs.Words.{most_redirects, option_or, unless_long, url_against}
use Rattle.fetch_answers.specs.declared.answers.Redirection.{Redirection}
use Rattle.fetch_answers.specs.declared.answers.Redirection.TheVariants.{Stays, Refuses, Goes}
use Rattle.fetch_answers.specs.Judging.{is_to_follow}

-- ---- the URL

-- the URL, with the fragment of another where it has none
abbrev pub with_fragment_of : Parts → Parts → Parts
with_fragment_of current url = record url { fragment = option_or url.fragment current.fragment }

-- the URL that the value of Location gives against the current URL, with the fragment of that where it has none; one
-- whose text has more than 8,192 bytes is none (this project's own choice)
abbrev pub location_url : Parts → Text → Option Parts
location_url current text = unless_long (option_map (with_fragment_of current) (url_against current text))

-- "location URL": that of the one value; where there are more there is none
abbrev pub extracted_url : Parts → Extracted → Option Parts
extracted_url current (Items (text ∷ [])) = location_url current text
extracted_url current _ = None

-- ---- the redirect

-- the URL has credentials, and the tainting is cors (step 10), or the mode is cors and its origin is not the request's
-- (step 9)
abbrev pub shows_credentials : Request → Parts → Bool
shows_credentials request url =
    has_credentials url
    && (is_cors_tainted request.tainting
    || (is_cors_mode request.mode && not (is_origin_of request.origin url)))

-- a redirect to this URL: it is refused where that is neither http nor https (step 6), where so many were followed
-- already (step 7), and for credentials (steps 9 and 10), in this order
abbrev pub redirection_to : Request → Parts → Redirection
redirection_to request url =
    if not (is_http_url url) then Refuses RedirectScheme
    else if request.redirects == most_redirects then Refuses TooManyRedirects
    else if shows_credentials request url then Refuses RedirectCredentials
    else Goes url

-- a redirect to the URL that there is, and refused where there is none (step 5)
abbrev pub redirection_where : Request → Option Parts → Redirection
redirection_where request None = Refuses BadLocation
redirection_where request (Some url) = redirection_to request url

-- a redirect by what was extracted of Location: where that is absent, the answer is the response (step 4)
abbrev pub redirection_by : Request → Extracted → Redirection
redirection_by request Absent = Stays
redirection_by request location = redirection_where request (extracted_url (current_url request) location)

-- "HTTP-redirect fetch", up to its change of the request; a head that is no redirect to be followed is the response
abbrev pub redirection : Request → Head → Redirection
redirection request head =
    if is_to_follow request head then redirection_by request (extracted Single (codes "Location") head.headers)
    else Stays

-- where it goes to a URL, fewer redirects were followed and the URL is http or https
abbrev pub MayGo : Request → Redirection → Type 0
MayGo request Stays = Unit {0}
MayGo request (Refuses error) = Unit {0}
MayGo request (Goes url) = (request.redirects < most_redirects) × IsTrue (is_http_url url)
