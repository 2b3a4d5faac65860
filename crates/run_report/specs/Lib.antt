pub mod BusText
pub mod CounterText
pub mod EventText
pub mod ReadBack
pub mod ReceiptText
pub mod Report
pub mod TableReadBack
pub mod TableText
