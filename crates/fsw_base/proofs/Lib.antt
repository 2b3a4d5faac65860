pub mod Lists
pub mod Prefix
pub mod SumLaws
pub mod GrantAccounts
pub mod GrantNumbers
pub mod GrantCalls
pub mod GrantTests
