-- Which answer of its scripted servers a request gets.
use Rattle.std.specs.Prelude.{Bool, true, ◌&&◌, List, [], ◌∷◌, codes, bytes_eq, Option, Some, None}
use Rattle.std.specs.Prelude.{if◌then◌else◌}
use Rattle.value_text.specs.Texts.{Text}
use Rattle.script_scenarios.specs.declared.servers.Rule.{Rule}
use Rattle.script_scenarios.specs.declared.servers.Server.{Server}

-- a rule takes this text: it names this text, or none
abbrev pub takes : Option Text → Text → Bool
takes None text = true
takes (Some wanted) text = bytes_eq wanted text

-- the rule is for this method and this request target
abbrev pub fits : Rule → Text → Text → Bool
fits rule method target = takes rule.method method && takes rule.path target

-- what is answered where no rule fits
abbrev pub not_found : Text
not_found = codes "HTTP/1.1 404 Scripted\r\n\r\n"

-- the first rule that fits answers
abbrev pub answer_of : List Rule → Text → Text → Text
answer_of [] method target = not_found
answer_of (rule ∷ rules) method target = if fits rule method target then rule.answer else answer_of rules method target

-- the first server of the origin counts; where there is none the answer is empty
abbrev pub answer : List Server → Text → Text → Text → Text
answer [] origin method target = []
answer (server ∷ servers) origin method target =
    if bytes_eq server.origin origin then answer_of server.rules method target else answer servers origin method target
