-- The first offer decides.
use mathlib.Core.Bool.{false≢true}
use Rattle.hla_accounts.proofs.Tests.NextOffers.{next_of, of_some, of_none}
use Rattle.hla_accounts.proofs.offers.is_first_offer.Goals as goal

pub returns-in-Some : goal.returns-in-Some
returns-in-Some c =
    let by = of_some _ c.in-Some.offer.now c.args.discovery.now c.in-Some.ensures in
    let next = next_of c.args.from c.args.offers.now c.args.discovery.now in
    (λ e. next.0 (by.0 (c.is_same.ensures.0 e)), λ h. c.is_same.ensures.1 (by.1 (next.1 h)))

pub returns-in-None : goal.returns-in-None
returns-in-None c =
    let next = next_of c.args.from c.args.offers.now c.args.discovery.now in
    (λ e. absurd (false≢true e), λ h. absurd (of_none _ c.args.discovery.now c.in-None.ensures (next.1 h)))
