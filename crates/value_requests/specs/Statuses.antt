-- Kinds of status (Fetch, section 2.2.3).
use Rattle.std.specs.Prelude.{ℕ, Bool, ◌==◌, ◌&&◌, nat_le, List, [], ◌∷◌}
use Rattle.std.specs.List.{list_any}

-- the statuses that redirect
abbrev pub redirect_statuses : List ℕ
redirect_statuses = 301 ∷ 302 ∷ 303 ∷ 307 ∷ 308 ∷ []

-- "redirect status"
abbrev pub is_redirect_status : ℕ → Bool
is_redirect_status status = list_any (λ redirect. redirect == status) redirect_statuses

-- "ok status": 200 to 299
abbrev pub is_ok_status : ℕ → Bool
is_ok_status status = nat_le 200 status && nat_le status 299

-- the statuses whose answers have no body: the null body statuses, of which 304 is one
abbrev pub null_body_statuses : List ℕ
null_body_statuses = 101 ∷ 103 ∷ 204 ∷ 205 ∷ 304 ∷ []

-- "null body status"
abbrev pub is_null_body_status : ℕ → Bool
is_null_body_status status = list_any (λ null. null == status) null_body_statuses
