-- Twelve callbacks are past the search: two of the texts that end in a label are told here.
use Rattle.hla_transcript.proofs.printing.callback.Goals as goal

pub returns-in-SynchronizationPointRegistrationSucceeded-clause-ok :
    goal.returns-in-SynchronizationPointRegistrationSucceeded-clause-ok
returns-in-SynchronizationPointRegistrationSucceeded-clause-ok c =
    rw (c.in-SynchronizationPointRegistrationSucceeded.is, ← c.as_slice-in-SynchronizationPointRegistrationSucceeded.ensures)
    c.word_and_bytes-in-SynchronizationPointRegistrationSucceeded.ensures.ok

pub returns-in-FederationSynchronized-clause-ok : goal.returns-in-FederationSynchronized-clause-ok
returns-in-FederationSynchronized-clause-ok c =
    rw (c.in-FederationSynchronized.is, ← c.as_slice-in-FederationSynchronized.ensures) c.word_and_bytes-in-FederationSynchronized.ensures.ok
