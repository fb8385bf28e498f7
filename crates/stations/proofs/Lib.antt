-- Laws of equipment by station, and of lists with the same changes in another order.
pub mod Totals
pub mod Arms
pub mod Added
pub mod Fitted
pub mod Sums
pub mod Reordered
