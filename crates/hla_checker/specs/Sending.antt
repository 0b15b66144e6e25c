-- What services send
use Rattle.std.specs.Prelude.{ℕ, suc, ◌≡◌, ◌<◌, Option, List, [], ◌∷◌, length}
use Rattle.hla_base.specs.declared.content.Content.{Content}
use Rattle.hla_base.specs.declared.fault.Fault.TheVariants as fault
use Rattle.hla_base.specs.RowRefusals.{Test, test_for}
use Rattle.hla_machine.specs.Directory.{Directory, Outgoing, Body, AnInteraction, AnUpdate, ADeletion, content_for}
use Rattle.hla_machine.specs.Refusals.{is_bad_stamp, is_out_of_serials}
use Rattle.hla_accounts.specs.declared.account.Account.{Account}
use Rattle.hla_accounts.specs.Sendings.{item_for}
use Rattle.hla_checker.specs.declared.contents.Body as said
use Rattle.hla_checker.specs.declared.contents.Body.TheVariants.{Interaction, Update, Deletion}
use Rattle.hla_checker.specs.declared.contents.ServiceMessage.{ServiceMessage}

-- the tests of the stamp and of the serials, which each service that sends ends with
abbrev pub sending_tests : Account → Option ℕ → List Outgoing → List Test
sending_tests a stamp outs = test_for fault.InvalidFederationTime (is_bad_stamp a.state stamp outs) ∷ test_for fault.LimitReached (is_out_of_serials a.next_serial outs) ∷ []

abbrev pub body_said : said.Body → Body
body_said (Interaction class values) = AnInteraction class values
body_said (Update object values) = AnUpdate object values
body_said (Deletion object) = ADeletion object

abbrev pub outgoing : ServiceMessage → Outgoing
outgoing m = record { order = m.order; body = body_said m.body }

-- what a message says to the first n federates, whose numbers are counted from 1
pub record AreContents (d : Directory) (body : Body) (n : ℕ) (contents : List (Option Content)) : Type 0 where
  pub long : length contents ≡ n
  pub each : (k : ℕ) → k < n → item_for contents (suc k) ≡ content_for d body (suc k)
