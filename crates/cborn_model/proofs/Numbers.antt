-- A head says one argument, a simple value has one head, and each number has one magnitude without leading zeros.
pub mod Majors
pub mod OneHead
pub mod OneMagnitude
pub mod SomeMagnitude
pub mod Simples
