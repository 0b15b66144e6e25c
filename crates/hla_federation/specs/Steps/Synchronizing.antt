-- Who was told of synchronization points
use Rattle.std.specs.Prelude.{ℕ, Option, Some, List}
use Rattle.hla_callbacks.specs.declared.callback.Callback.{Callback}
use Rattle.hla_callbacks.specs.declared.callback.Callback.TheVariants as callback
use Rattle.hla_synchronization.specs.Points.{Point, with_point, announced_to}

-- the open points, once a federate was given this callback
abbrev pub points_told : ℕ → Option Callback → List Point → List Point
points_told f (Some (callback.AnnounceSynchronizationPoint label)) points = with_point (announced_to f) label points
points_told f k points = points
