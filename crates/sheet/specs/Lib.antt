pub mod Layout
pub mod Refusals
pub mod Showing
pub mod Stacks
pub mod Statements
pub mod Totals
pub mod Views
