-- The terms of other crates of which these definitions speak, each brought in once.
pub use Rattle.book_calls.specs.declared.book.Book.{Book}
pub use Rattle.book_calls.specs.declared.op.Reply.{Reply}
pub use Rattle.book_calls.specs.declared.op.Reply.TheVariants.{Done, No, Yes}
pub use Rattle.c_fetch.specs.Amounts.{amount_of}
pub use Rattle.c_fetch.specs.Beginning.{begun_as}
pub use Rattle.c_fetch.specs.Parts.{request_of, text_of}
pub use Rattle.c_fetch.specs.Setups.{Setup}
pub use Rattle.c_fetch.specs.declared.amounts.Amount.{Amount}
pub use Rattle.c_fetch.specs.declared.asked.Asked.{Asked}
pub use Rattle.c_fetch.specs.declared.parts.Part.{Part}
pub use Rattle.c_handle.specs.Codes.{IsKept, IsTextTold}
pub use Rattle.c_handle.specs.Things.{IsNotHeld, TextBy, both, held_book, held_client, held_fetch, held_request}
pub use Rattle.c_handle.specs.declared.codes.TheConstants.{NO, NOT_AWAITED, NO_REQUEST, NO_SUCH_NUMBER, OK}
pub use Rattle.c_handle.specs.declared.codes.TheConstants.{OUT_OF_MEMORY, TOO_LATE, WRONG_HANDLE}
pub use Rattle.c_handle.specs.declared.thing.Thing.{Thing}
pub use Rattle.c_rules.specs.declared.refusal.Refusal.{Refusal}
pub use Rattle.fetch_acts.specs.declared.act.Act.{Act}
pub use Rattle.fetch_session.specs.Asking.{Asks, BookAfter}
pub use Rattle.fetch_session.specs.Feeding.{Ends, Fails, Fed}
pub use Rattle.fetch_session.specs.Sessions.{Takes, act_of, outcome_of, standing_of}
pub use Rattle.fetch_session.specs.Standings.{Standing}
pub use Rattle.fetch_session.specs.declared.session.Session.{Session}
pub use Rattle.fetch_session.specs.declared.session.Went.{Went}
pub use Rattle.value_requests.specs.Errors.{fault_number}
pub use Rattle.value_requests.specs.declared.fault.TypeFault.{TypeFault}
pub use Rattle.value_requests.specs.declared.fault.TypeFault.TheVariants.{BadHeader}
pub use Rattle.value_requests.specs.declared.response.Outcome.{Outcome}
pub use Rattle.value_text.specs.Texts.{Text}
