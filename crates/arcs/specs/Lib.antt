pub mod Arcs
