use Rattle.hla_components.proofs.Computed.Time.{stale_bound, boundary, creep, creep_available, flush, largest_time, pick_then_grant, newest_null}
use Rattle.hla_components.proofs.examples.time.Goals as goal

pub returns : goal.returns
returns c = record { stale_bound = stale_bound; boundary = boundary; creep = creep; creep_available = creep_available; flush = flush; largest_time = largest_time; pick_then_grant = pick_then_grant; newest_null = newest_null }
