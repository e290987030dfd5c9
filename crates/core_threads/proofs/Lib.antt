mod CallLemmas
mod CoreLemmas
mod JoinLemmas
mod RunLemmas
mod LeftLemmas
