-- The laws of the set of a universal by dependency lists, in reading order.
pub mod Opened
pub mod Classed
pub mod Members
-- Where no list is lent the set is that of demand 2 (agrees_with_demand_2, agrees_under); both rules agree (set_agrees); the outcome is settled (set_settled).
pub mod Agreement
-- A worked example.
pub mod Sample
