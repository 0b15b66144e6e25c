-- To whom a message was put into an outbox
use Rattle.std.proofs.Common.{◌≡◌, ℕ, List, [], ◌∷◌, cond, ◌&&◌, Bool, true, false, Option, None, Some, is_some, refl}
use Rattle.hla_base.specs.declared.content.Content.{Content}
use Rattle.hla_base.specs.Tables.{is_other}
use Rattle.hla_null_message.specs.declared.message.Message.{Message}
use Rattle.hla_machine.specs.Directory.{Directory, Body, content_for, is_receiver}
use Rattle.hla_federation.specs.declared.heading.Heading.{Heading}
use Rattle.hla_federation.specs.Steps.Sending.{said_messages, message_to}

abbrev pub has_message : List Message → Bool
has_message [] = false
has_message (m ∷ ms) = true

-- the receivers are those who are told
pub told_are : (d : Directory) (head : Heading) (body : Body) (g : ℕ) → has_message (message_to d head body g) ≡ is_receiver d head.sender body g
told_are d head body g = each (is_other d.joined head.sender g) (content_for d body g)
  where
    each : (b : Bool) (o : Option Content) → has_message (cond b (said_messages head o) []) ≡ b && is_some o
    each true None = refl
    each true (Some x) = refl
    each false o = refl
