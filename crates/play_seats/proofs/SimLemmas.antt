-- What a scripted server takes from a request whose first line has its parts.
use Rattle.std.proofs.Common.{◌≡◌, ℕ, List, [], ◌∷◌, ◌++◌, length, refl, arith}
use Rattle.std.proofs.lemmas.Grind.{common_steps}
use Rattle.std.proofs.lemmas.List.{append_assoc, take_at}
use Rattle.std.specs.Prelude.{not, IsTrue, codes, unwrap_or}
use Rattle.std.specs.List.{after_first, before_first, flat_map, prefix_len}
use Rattle.value_text.specs.Ascii.{lacks_space}
use Rattle.link_http1.specs.Requests.{header_line, request_bytes}
use Rattle.script_scenarios.specs.Servers.{answer}
use Rattle.script_scenarios.specs.declared.servers.Server.{Server}
use Rattle.play_seats.specs.Sim.{is_space, answer_to}
use Rattle.play_seats.specs.Laws.{AnswersByParts}

-- how many bytes there are before the first space
space-at : (front rest : List ℕ) → IsTrue (lacks_space front) → length front
    ≡ prefix_len (λ byte. not (is_space byte)) (front ++ (codes " " ++ rest))
space-at [] rest lacks = grind arith
space-at (byte ∷ front) rest lacks = grind (arith, common_steps, space-at front rest)

-- what is before the first space
before-space : (front rest : List ℕ) → IsTrue (lacks_space front)
    → before_first is_space (front ++ (codes " " ++ rest)) ≡ front
before-space front rest lacks = take_at front (codes " " ++ rest) _ (space-at front rest lacks)

-- what is after it
after-space : (front rest : List ℕ) → IsTrue (lacks_space front) → after_first is_space (front ++ (codes " " ++ rest))
    ≡ rest
after-space [] rest lacks = grind arith
after-space (byte ∷ front) rest lacks = grind (arith, common_steps, after-space front rest)

-- the answer to a text of a method, a target and a rest with a space before each
answer_to-parts : (servers : List Server) (origin method target rest : List ℕ) → IsTrue (lacks_space method)
    → IsTrue (lacks_space target)
    → answer_to servers origin (method ++ (codes " " ++ (target ++ (codes " " ++ rest))))
    ≡ answer servers origin method target
answer_to-parts servers origin method target rest plain short =
    rw (
      before-space method (target ++ (codes " " ++ rest)) plain,
      after-space method (target ++ (codes " " ++ rest)) plain,
      before-space target rest short,
    ) refl

-- a request's answer is that of its method and its target
pub answers-by_parts : AnswersByParts
answers-by_parts servers hop sendable =
    let more = flat_map header_line hop.headers ++ (codes "\r\n" ++ unwrap_or hop.body []) in
    let rest = codes "HTTP/1.1\r\n" ++ more in
    let cut : request_bytes hop ≡ hop.method ++ (codes " " ++ (hop.url ++ (codes " " ++ rest))) = simp append_assoc in
    rw cut (answer_to-parts servers hop.origin hop.method hop.url rest sendable.0 sendable.1)
