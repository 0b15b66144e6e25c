-- How a task ends
pub mod Program
