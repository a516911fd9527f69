-- What a document may learn of what comes of the acts of a fetch: of the head of an answer its permitted view, and all
-- else as it is (this project's own definition; Fetch, section 4, where a fetch waits for an answer).
use Rattle.std.specs.Prelude.{Option, Some, None}
use Rattle.value_requests.specs.declared.hop.Head.{Head}
use Rattle.value_requests.specs.declared.hop.Hop.{Hop}
use Rattle.value_requests.specs.declared.request.Request.{Request}
use Rattle.policy_filter.specs.Views.{permitted_view}
use Rattle.fetch_acts.specs.declared.act.Act.{Act}
use Rattle.fetch_acts.specs.declared.act.Act.TheVariants.{Ask, Send, ReadHead, ReadBody, Tell}
use Rattle.fetch_acts.specs.declared.act.Input.{Input}
use Rattle.fetch_acts.specs.declared.act.Input.TheVariants.{HeadIs}

-- the hop that was sent last, after an act
abbrev pub sent_by : Act → Option Hop → Option Hop
sent_by (Send hop) sent = Some hop
sent_by _ sent = sent

-- the permitted view of a head that answers the hop that was sent last; where none was, it answers nothing and is seen
abbrev pub view_after : Request → Option Hop → Head → Head
view_after request None head = head
view_after request (Some hop) head = permitted_view request hop head

-- what is seen of an input that follows an act for a request
abbrev pub seen : Act → Request → Option Hop → Input → Input
seen ReadHead request sent (HeadIs head) = HeadIs (view_after request sent head)
seen ReadHead request sent input = input
seen (Ask op) request sent input = input
seen (Send hop) request sent input = input
seen ReadBody request sent input = input
seen (Tell violation) request sent input = input
