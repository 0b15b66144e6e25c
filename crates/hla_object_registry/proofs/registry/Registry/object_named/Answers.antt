use Rattle.std.proofs.Common.{sym}
use Rattle.hla_object_registry.proofs.NameLemmas.{named_none, named_known, named_unknown}
use Rattle.hla_object_registry.proofs.registry.Registry.object_named.Goals as goal

pub returns-then-is_known : goal.returns-then-is_known
returns-then-is_known c = sym (named_known c.args.self.now c.args.name.now c.args.federate c.in-Some.object c.in-Some.ensures (sym c.if-is_known.ensures))

pub returns-else-is_known : goal.returns-else-is_known
returns-else-is_known c = sym (named_unknown c.args.self.now c.args.name.now c.args.federate c.in-Some.object c.in-Some.ensures (sym c.if-is_known.ensures))

pub returns-in-None : goal.returns-in-None
returns-in-None c = sym (named_none c.args.self.now c.args.name.now c.args.federate c.in-None.ensures)
