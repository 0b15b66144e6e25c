-- The state: each component, and the wires between them
pub mod Components
-- What one component knows, promises and picks up
pub mod Component
-- The next-state function: what each step answers and chooses, and the state after it
pub mod Next
-- The central state that components and wires stand for
pub mod CentralOf
-- What components and wires keep at every moment
pub mod Invariant
-- The theorem: what the components do is a run of the central machine
pub mod Headline
-- All executions by name: creating, destroying, and steps in them
pub mod Executions
-- Scripts whose ends are known, by computation
pub mod Examples
-- One federate's component as a value of its own
pub mod Locals
