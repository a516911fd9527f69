-- What a document that fetches is set up with.
use Rattle.std.specs.Prelude.{List}
use Rattle.value_requests.specs.declared.client.Client.{Client}
use Rattle.value_requests.specs.declared.client.Cookie.{Cookie}
use Rattle.c_fetch.specs.declared.policy_value.PolicyValue.{PolicyValue}

-- the client, the values of its policies' headers, and its cookies
pub record Setup : Type 0 where
  pub client : Client
  pub policies : List PolicyValue
  pub cookies : List Cookie
