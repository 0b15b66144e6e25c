-- A run on threads that was stopped, and a history that is judged
pub mod RunLemmas
