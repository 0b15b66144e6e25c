-- What callbacks tell of synchronization points
use Rattle.std.specs.Prelude.{Option, Some, None}
use Rattle.hla_base.specs.declared.notice.Notice.{Notice}
use Rattle.hla_base.specs.declared.notice.NoticeKind.TheVariants as kind
use Rattle.hla_callbacks.specs.declared.callback.Callback.{Callback}
use Rattle.hla_callbacks.specs.declared.callback.Callback.TheVariants as callback
use Rattle.hla_synchronization.specs.Points.{notice}

abbrev pub notice_in : Callback → Option Notice
notice_in (callback.SynchronizationPointRegistrationSucceeded label) = Some (notice kind.RegistrationSucceeded label)
notice_in (callback.SynchronizationPointRegistrationFailed label) = Some (notice kind.RegistrationFailed label)
notice_in (callback.AnnounceSynchronizationPoint label) = Some (notice kind.Announced label)
notice_in (callback.FederationSynchronized label) = Some (notice kind.Synchronized label)
notice_in k = None
