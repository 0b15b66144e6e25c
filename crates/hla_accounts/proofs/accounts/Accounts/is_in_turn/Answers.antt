-- A strict request has one look at both.
use Rattle.std.proofs.Common.{◌≡◌, ◌∙◌, ◌&&◌, ◌||◌, not, true, ap, sym}
use Rattle.hla_base.specs.Rows.{is_strict}
use Rattle.hla_accounts.specs.Accounts.{account_at}
use Rattle.hla_accounts.specs.Ticks.{is_not_before, is_not_earlier_of_stamp, is_first_key, is_first_of_stamp}
use Rattle.hla_bags.proofs.Indexes.Indexing.{all_of_both}
use Rattle.hla_accounts.proofs.accounts.Accounts.is_in_turn.Goals as goal

pub returns-then-is_strict : goal.returns-then-is_strict
returns-then-is_strict c =
    let accounts = c.args.self.now in
    let f = c.args.federate in
    let g = c.args.event.sender in
    let m = c.args.event.serial in
    let s = c.args.stamp in
    let strict : is_strict c.args.request.kind ≡ true = sym c.is_strict.ensures ∙ c.if-is_strict.true in
    c.is_first_in_turn.ensures
    ∙ all_of_both (is_not_before accounts g m s) (is_not_earlier_of_stamp g m s) (account_at accounts f).bag
    ∙ ap (λ b. (not b || is_first_key accounts f g m s) && is_first_of_stamp accounts f g m s) (sym strict)
