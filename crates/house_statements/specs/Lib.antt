pub mod Inner
pub mod Order
pub mod Statement
pub mod Table
