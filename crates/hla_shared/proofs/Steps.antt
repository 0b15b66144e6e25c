-- What a step makes of who has joined, and when it tells something
pub mod NextLaws
-- Each step's answer is of its form
pub mod FormLaws
-- What the federation's contracts say of the components under the lock
pub mod Foreseen
