-- Which calls change an order
use Rattle.hla_machine.specs.declared.service.Service.{Service}
use Rattle.hla_machine.specs.declared.service.Service.TheVariants as service

abbrev pub IsOrderCall : Service → Type 0
IsOrderCall (service.ChangeAttributeOrderType object attributes order) = Unit {0}
IsOrderCall (service.ChangeInteractionOrderType class order) = Unit {0}
IsOrderCall s = ⊥
