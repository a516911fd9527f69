use Rattle.std.proofs.Common.{refl}
use Rattle.policy_preflight.proofs.preflight.preflight_lines.Goals as goal

-- each line is appended to the list before it
pub returns : goal.returns
returns c =
    rw (
      c.in_ok-append_where-9.ensures.ok,
      c.in_ok-append_where-8.ensures.ok,
      c.in_ok-append_where-7.ensures.ok,
      c.in_ok-append_where-6.ensures.ok,
      c.in_ok-append_where-5.ensures.ok,
      c.in_ok-append_where-4.ensures.ok,
      c.in_ok-append_where-3.ensures.ok,
      c.in_ok-append_where-2.ensures.ok,
      c.in_ok-append_where.ensures.ok,
      c.in_ok-headers.ensures,
      c.as_bytes-host.ensures.value,
      c.host_value.ensures,
      c.as_slice-method.ensures,
      c.slice_of-asked.ensures,
      c.in_ok-given.ensures,
      c.referrer_value.ensures,
      c.as_slice-origin.ensures,
      c.in_ok-client.ensures,
    ) refl
