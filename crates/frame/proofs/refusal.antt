-- Laws of refusals: the rules in their order.
pub mod Laws
