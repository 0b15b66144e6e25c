-- The first of them goes, if there is one.
use Rattle.std.proofs.Common.{◌∙◌, sym, ap, arith}
use Rattle.hla_accounts.specs.Accounts.{offers_from}
use Rattle.hla_accounts.proofs.AfterSteps.Offers.{place_within, removed_first, none_removed, offers-without_first}
use Rattle.hla_accounts.proofs.offers.Offers.take_first.Goals as goal

pub remove-requires : goal.remove-requires
remove-requires c = let at = place_within c.args.from c.self.inside.offers.items c.in-Some.place (rw c.self.view_is c.in-Some.ensures) in omega (arith, at.1, c.self.inside.offers.ok.0)

pub returns-in-Some : goal.returns-in-Some
returns-in-Some c g =
    let gone = removed_first c.args.from c.self.inside.offers.items c.remove.new.self.items c.in-Some.place (rw c.self.view_is c.in-Some.ensures) c.remove.ensures.items in
    ap (offers_from g) gone ∙ rw (← c.self.view_is) (offers-without_first c.args.from c.self.inside.offers.items g)

pub returns-in-None : goal.returns-in-None
returns-in-None c g =
    let same = none_removed c.args.from c.args.self.now c.in-None.ensures in
    ap (offers_from g) (sym same) ∙ offers-without_first c.args.from c.args.self.now g
