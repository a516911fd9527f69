-- The words of other crates of which these definitions speak, each brought in once.
pub use Rattle.std.specs.List.{flat_map}
pub use Rattle.book_calls.specs.declared.op.Op.{Op}
pub use Rattle.book_calls.specs.declared.op.Op.TheVariants.{Clear, Covers, Learn, Match, Note}
pub use Rattle.book_calls.specs.declared.op.Reply.{Reply}
pub use Rattle.book_calls.specs.declared.op.Reply.TheVariants.{Done, No, Yes}
pub use Rattle.book_hosts.specs.declared.sts.Sts.{Sts}
pub use Rattle.book_preflights.specs.declared.question.Lesson.{Lesson}
pub use Rattle.book_preflights.specs.declared.question.Question.{Question}
pub use Rattle.value_headers.specs.declared.headers.Header.{Header}
pub use Rattle.value_requests.specs.Errors.{error_name, error_number, fault_name, fault_number}
pub use Rattle.value_requests.specs.Names.{destination_name, directive_name, kind_name}
pub use Rattle.value_requests.specs.declared.error.NetError.{NetError}
pub use Rattle.value_requests.specs.declared.error.NetError.TheVariants.{PreflightHeader}
pub use Rattle.value_requests.specs.declared.fault.TypeFault.{TypeFault}
pub use Rattle.value_requests.specs.declared.fault.TypeFault.TheVariants.{BadHeader}
pub use Rattle.value_requests.specs.declared.hop.Hop.{Hop}
pub use Rattle.value_requests.specs.declared.policy.Violation.{Violation}
pub use Rattle.value_requests.specs.declared.response.BodyEnd.{BodyEnd}
pub use Rattle.value_requests.specs.declared.response.Outcome.{Outcome}
pub use Rattle.value_requests.specs.declared.response.Response.{Response}
pub use Rattle.value_text.specs.Texts.{Text}
