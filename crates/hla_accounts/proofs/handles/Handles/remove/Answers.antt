-- The first of the event goes, if there is one.
use Rattle.std.proofs.Common.{◌∙◌, sym, ap, arith}
use Rattle.hla_accounts.specs.Accounts.{times_listed}
use Rattle.hla_accounts.proofs.AfterSteps.Handles.{place_within, removed_one, none_removed, times-without_one}
use Rattle.hla_accounts.proofs.handles.Handles.remove.Goals as goal

pub remove-requires : goal.remove-requires
remove-requires c = let at = place_within c.args.event.sender c.args.event.serial c.self.inside.events.items c.in-Some.place (rw c.self.view_is c.in-Some.ensures) in omega (arith, at.1, c.self.inside.events.ok.0)

pub returns-in-Some : goal.returns-in-Some
returns-in-Some c g m =
    let gone = removed_one c.args.event.sender c.args.event.serial c.self.inside.events.items c.remove.new.self.items c.in-Some.place (rw c.self.view_is c.in-Some.ensures) c.remove.ensures.items in
    ap (λ xs. times_listed xs g m) gone ∙ rw (← c.self.view_is) (times-without_one c.args.event.sender c.args.event.serial c.self.inside.events.items g m)

pub returns-in-None : goal.returns-in-None
returns-in-None c g m =
    let same = none_removed c.args.event.sender c.args.event.serial c.args.self.now c.in-None.ensures in
    ap (λ xs. times_listed xs g m) (sym same) ∙ times-without_one c.args.event.sender c.args.event.serial c.args.self.now g m
