-- The grammar as one relation agrees with its trees: what is derived by one is rebuilt in the other, with the same nodes and meaning errors (`Derived`, `Rebuilt`). `Facts` has what follows.
pub mod Derived
pub mod Rebuilt
pub mod Facts
