-- The words that scripts know
use Rattle.std.specs.Prelude.{ℕ, List, Option, None, Some, if◌then◌else◌, codes}
use Rattle.std.specs.Option.{option_or, option_map}
use Rattle.std.specs.Str.{bytes_eq}
use Rattle.hla_base.specs.declared.row.AdvanceKind.TheVariants as advance
use Rattle.hla_catalogue.specs.declared.declared.Order.{Order}
use Rattle.hla_catalogue.specs.declared.declared.Order.TheVariants.{Receive, Timestamp}
use Rattle.hla_machine.specs.declared.service.ResignAction.{ResignAction}
use Rattle.hla_machine.specs.declared.service.ResignAction.TheVariants as action
use Rattle.hla_commands.specs.declared.lines.Declaration.TheVariants as declaration
use Rattle.hla_commands.specs.declared.vocabulary.Opening.{Opening}
use Rattle.hla_commands.specs.declared.vocabulary.Opening.TheVariants as opening
use Rattle.hla_commands.specs.declared.vocabulary.TimeVerb.{TimeVerb}
use Rattle.hla_commands.specs.declared.vocabulary.TimeVerb.TheVariants as time
use Rattle.hla_commands.specs.declared.vocabulary.Verb.{Verb}
use Rattle.hla_commands.specs.declared.vocabulary.Verb.TheVariants as verb

-- what the first word of a line opens
unfoldable pub opening_of : List ℕ → Opening
opening_of word =
    if bytes_eq word (codes "create") then opening.Create
    else if bytes_eq word (codes "destroy") then opening.Destroy
    else if bytes_eq word (codes "join") then opening.Join
    else if bytes_eq word (codes "carry") then opening.Carry
    else if bytes_eq word (codes "announce") then opening.Announce
    else opening.Federate

-- which declaration a word makes or withdraws, if it is one of their words
unfoldable pub declaration_verb_of : List ℕ → Option Verb
declaration_verb_of word =
    if bytes_eq word (codes "publishObject") then Some (verb.DeclareObject declaration.Publication)
    else if bytes_eq word (codes "unpublishObject") then Some (verb.WithdrawObject declaration.Publication)
    else if bytes_eq word (codes "subscribeObject") then Some (verb.DeclareObject declaration.Subscription)
    else if bytes_eq word (codes "unsubscribeObject") then Some (verb.WithdrawObject declaration.Subscription)
    else if bytes_eq word (codes "publishInteraction") then Some (verb.DeclareInteraction declaration.Publication)
    else if bytes_eq word (codes "unpublishInteraction") then Some (verb.WithdrawInteraction declaration.Publication)
    else if bytes_eq word (codes "subscribeInteraction") then Some (verb.DeclareInteraction declaration.Subscription)
    else if bytes_eq word (codes "unsubscribeInteraction") then Some (verb.WithdrawInteraction declaration.Subscription)
    else None

-- which service of time management a word asks for, if it is one of their words and no query
unfoldable pub time_service_named : List ℕ → Option TimeVerb
time_service_named word =
    if bytes_eq word (codes "regulate") then Some time.EnableTimeRegulation
    else if bytes_eq word (codes "unregulate") then Some time.DisableTimeRegulation
    else if bytes_eq word (codes "constrain") then Some time.EnableTimeConstrained
    else if bytes_eq word (codes "unconstrain") then Some time.DisableTimeConstrained
    else if bytes_eq word (codes "tar") then Some (time.RequestAdvance advance.TimeAdvance)
    else if bytes_eq word (codes "tara") then Some (time.RequestAdvance advance.TimeAdvanceAvailable)
    else if bytes_eq word (codes "ner") then Some (time.RequestAdvance advance.NextEvent)
    else if bytes_eq word (codes "nera") then Some (time.RequestAdvance advance.NextEventAvailable)
    else if bytes_eq word (codes "fqr") then Some (time.RequestAdvance advance.FlushQueue)
    else if bytes_eq word (codes "modifyLookahead") then Some time.ModifyLookahead
    else if bytes_eq word (codes "asyncOn") then Some time.EnableAsynchronousDelivery
    else if bytes_eq word (codes "asyncOff") then Some time.DisableAsynchronousDelivery
    else if bytes_eq word (codes "retract") then Some time.Retract
    else None

-- which query of time management a word makes, if it is one of their words
unfoldable pub query_of : List ℕ → Option TimeVerb
query_of word =
    if bytes_eq word (codes "lbts") then Some time.QueryLbts
    else if bytes_eq word (codes "time") then Some time.QueryFederateTime
    else if bytes_eq word (codes "minNext") then Some time.QueryMinNextEventTime
    else if bytes_eq word (codes "lookahead") then Some time.QueryLookahead
    else None

-- what a word says of time management, if it is one of its words
abbrev pub time_verb_of : List ℕ → Option TimeVerb
time_verb_of word = option_or (time_service_named word) (query_of word)

-- what a word says of objects and messages, if it is one of their words
unfoldable pub object_verb_of : List ℕ → Option Verb
object_verb_of word =
    if bytes_eq word (codes "register") then Some verb.Register
    else if bytes_eq word (codes "update") then Some verb.Update
    else if bytes_eq word (codes "send") then Some verb.Send
    else if bytes_eq word (codes "delete") then Some verb.Delete
    else if bytes_eq word (codes "attributeOrder") then Some verb.AttributeOrder
    else if bytes_eq word (codes "interactionOrder") then Some verb.InteractionOrder
    else if bytes_eq word (codes "objectHandle") then Some verb.ObjectHandle
    else if bytes_eq word (codes "objectName") then Some verb.ObjectName
    else None

-- what a word says of synchronization points, if it is one of their words
unfoldable pub point_verb_of : List ℕ → Option Verb
point_verb_of word =
    if bytes_eq word (codes "syncRegister") then Some verb.RegisterPoint
    else if bytes_eq word (codes "syncAchieve") then Some verb.AchievePoint
    else None

-- what a word behind a federate's name says, if it is known
unfoldable pub verb_of : List ℕ → Option Verb
verb_of word =
    if bytes_eq word (codes "tick") then Some verb.Tick
    else if bytes_eq word (codes "resign") then Some verb.Resign
    else option_or (option_or (option_or (object_verb_of word) (declaration_verb_of word)) (point_verb_of word)) (option_map verb.Time (time_verb_of word))

-- the action of a resignation that a word names, if it names one
unfoldable pub action_of : List ℕ → Option ResignAction
action_of word =
    if bytes_eq word (codes "RELEASE_ATTRIBUTES") then Some action.ReleaseAttributes
    else if bytes_eq word (codes "DELETE_OBJECTS") then Some action.DeleteObjects
    else if bytes_eq word (codes "DELETE_OBJECTS_AND_RELEASE_ATTRIBUTES") then Some action.DeleteObjectsAndReleaseAttributes
    else if bytes_eq word (codes "NO_ACTION") then Some action.NoAction
    else None

-- the order that a word names, if it names one
unfoldable pub order_named : List ℕ → Option Order
order_named word =
    if bytes_eq word (codes "receive") then Some Receive
    else if bytes_eq word (codes "timestamp") then Some Timestamp
    else None
