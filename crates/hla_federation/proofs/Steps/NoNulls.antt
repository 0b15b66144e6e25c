-- What services send beside null messages takes the place of nothing
use Rattle.std.proofs.Common.{ℕ, ◌+◌, List, [], ◌∷◌, Option, None, Some, map}
use Rattle.std.proofs.lemmas.Bool.{cond_both}
use Rattle.hla_base.specs.declared.content.Content.{Content}
use Rattle.hla_base.specs.declared.content.Discovery.{Discovery}
use Rattle.hla_base.specs.declared.row.TimeRow.{TimeRow}
use Rattle.hla_base.specs.Tables.{is_other}
use Rattle.hla_null_message.specs.declared.message.Message.TheVariants as message
use Rattle.hla_null_message.proofs.Wires.{HasNoNull, no_null-append}
use Rattle.hla_machine.specs.Directory.{Directory, Outgoing, content_for}
use Rattle.hla_federation.specs.declared.heading.Heading.{Heading}
use Rattle.hla_federation.specs.Steps.Sending.{heading_of, said_messages, message_to, messages_to}

said_no_null : (head : Heading) (o : Option Content) → HasNoNull (said_messages head o)
said_no_null head None = tt
said_no_null head (Some x) = tt

pub messages_no_null : (d : Directory) (f serial : ℕ) (r : TimeRow) (stamp : Option ℕ) (outs : List Outgoing) (h : ℕ) → HasNoNull (messages_to d f serial r stamp outs h)
messages_no_null d f serial r stamp [] h = tt
messages_no_null d f serial r stamp (out ∷ outs) h =
    let head = heading_of f serial r stamp out.order in
    no_null-append (message_to d head out.body h) (messages_to d f (serial + 1) r stamp outs h)
    (cond_both (is_other d.joined f h) (said_messages head (content_for d out.body h)) [] HasNoNull (λ _. said_no_null head (content_for d out.body h)) (λ _. tt))
    (messages_no_null d f (serial + 1) r stamp outs h)

pub discoveries_no_null : (ds : List Discovery) → HasNoNull (map message.Discovery ds)
discoveries_no_null [] = tt
discoveries_no_null (d ∷ ds) = discoveries_no_null ds
