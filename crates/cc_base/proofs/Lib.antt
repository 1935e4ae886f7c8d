pub mod PlaceOrder
