pub mod ViewLemmas
pub mod LessonLemmas
pub mod OriginLemmas
pub mod RefusedLemmas
