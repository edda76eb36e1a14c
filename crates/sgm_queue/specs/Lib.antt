pub mod Logs
pub mod Rules
pub mod Queues
