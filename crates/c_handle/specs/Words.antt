-- The words of other crates of which these definitions speak, each brought in once.
pub use Rattle.std.specs.Borrow.{Fml, LendsIf, MutBor}
pub use Rattle.c_fetch.specs.Setups.{Setup}
pub use Rattle.c_rules.specs.declared.refusal.Refusal.{Refusal}
pub use Rattle.policy_csp_text.specs.declared.policy.Policy.{Policy}
pub use Rattle.value_headers.specs.declared.headers.Header.{Header}
pub use Rattle.value_requests.specs.declared.policy.Violation.{Violation}
pub use Rattle.value_text.specs.Texts.{Text}
