pub mod FormReplay
pub mod TransactionForm
pub mod FormLaws
pub mod TransactionCounts
