-- So far those are told that stand before.
use Rattle.std.proofs.Common.{◌≡◌, take}
use Rattle.hla_machine.specs.Directory.{Directory}
use Rattle.hla_machine.specs.Machine.{with_told}
use Rattle.hla_accounts.specs.Accounts.{central_with}
use Rattle.hla_accounts.specs.Notices.{told_each_to_all}
use Rattle.hla_accounts.proofs.accounts.Accounts.tell_each_to_all.Given as goal

abbrev pub invariant-loop-notice : goal.invariant-loop-notice
invariant-loop-notice l = (d : Directory) → central_with d l.self ≡ with_told (central_with d l.initial.self) (told_each_to_all (central_with d l.initial.self).directory (take l.notice-index l.notices))
