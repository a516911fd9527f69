-- Where the server of an origin is reached (the routes of a scenario, which is played over the network).
use Rattle.std.specs.Prelude.{List, Option, find, option_map, bytes_eq}
use Rattle.value_text.specs.Texts.{Text}
use Rattle.link_traits.specs.declared.routes.Route.{Route}

-- the address of the first route of the origin
abbrev pub address_of : List Route → Text → Option Text
address_of routes origin = option_map (λ route. route.address) (find (λ route. bytes_eq route.origin origin) routes)
