pub mod OnlyLaws
mod FollowLaws
mod ItemLemmas
