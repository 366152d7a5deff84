pub mod Netlist
pub mod Inner
