use Rattle.std.proofs.Common.{refl}
use Rattle.fetch_requests.proofs.head.append_added.Goals as goal

-- each line is appended to the list before it
pub returns : goal.returns
returns c =
    rw (
      c.in_ok-append_where-5.ensures.ok,
      c.in_ok-append_length.ensures,
      c.in_ok-append_where-4.ensures.ok,
      c.in_ok-append_origin.ensures,
      c.in_ok-append_where-3.ensures.ok,
      c.in_ok-append_where-2.ensures.ok,
      c.in_ok-append_where.ensures.ok,
      c.user_agent_value.ensures,
      c.referrer_value.ensures,
      c.cookie_value.ensures,
      c.as_slice.ensures,
      c.requires,
    ) refl
