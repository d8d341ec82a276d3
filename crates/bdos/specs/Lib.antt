-- "The calls we serve", behind one door.
pub mod Step
pub mod Stores
pub mod CodeWay
