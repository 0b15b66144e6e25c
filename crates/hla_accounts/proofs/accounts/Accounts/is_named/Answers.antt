-- What is asked of some account is asked of some number.
use Rattle.std.proofs.Common.{◌&&◌, refl, sym, ap, ◌∙◌}
use Rattle.std.specs.List.{list_any}
use Rattle.std.specs.Str.{bytes_eq}
use Rattle.hla_accounts.specs.declared.account.Account.{Account}
use Rattle.hla_accounts.proofs.Tests.Refusals.{asked_of_one}
use Rattle.hla_accounts.proofs.accounts.Accounts.is_named.Goals as goal

pub returns : goal.returns
returns c d = c.is_one_joined_as.ensures ∙ ap (list_any (λ (a : Account). a.is_joined && bytes_eq a.name c.args.name.now)) (c.deref.ensures.value ∙ c.self.view_is)
    ∙ sym (asked_of_one c.args.self.now (λ (a : Account). a.is_joined && bytes_eq a.name c.args.name.now) refl)
