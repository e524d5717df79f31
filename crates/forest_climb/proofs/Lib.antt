-- The laws of the climb and of tops, in reading order.
pub mod Climbing
pub mod Tops
