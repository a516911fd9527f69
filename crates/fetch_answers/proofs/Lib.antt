pub mod FollowingLemmas
pub mod FragmentLemmas
pub mod LawLemmas
