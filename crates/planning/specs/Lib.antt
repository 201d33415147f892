pub mod Choosing
pub mod Tables
pub mod Plans
pub mod Judgements
pub mod Agreeing
