-- One content after another is put for its federate.
use Rattle.std.proofs.Common.{◌∷◌, [], refl, arith, length-append}
use Rattle.std.proofs.lemmas.Iterator.Adapters.{YieldsList-from_vec}
use Rattle.std.proofs.lemmas.Iterator.Consumers.{YieldsList-end}
use Rattle.hla_accounts.proofs.Sendings.Messages.{puts_none, puts_serial, puts_free, puts_more, puts_all}
use Rattle.hla_accounts.proofs.accounts.Accounts.put_copies.Goals as goal

pub loop-content-init : goal.loop-content-init
loop-content-init c = (tt, tt, refl, puts_none c.args.self.now c.args.event.sender c.args.event.serial c.args.delivery)

pub put_copy-requires-clause-free : goal.put_copy-requires-clause-free
put_copy-requires-clause-free c =
    puts_free c.args.self.now c.loop-content.self c.loop-content.self c.args.event.sender c.args.event.serial c.args.delivery c.loop-content.yielded c.loop-content.invariant.3 c.loop-content.federate (c.requires.free c.loop-content.federate) (omega (arith, c.loop-content.invariant.2))

pub put_copy-requires-clause-used : goal.put_copy-requires-clause-used
put_copy-requires-clause-used c =
    let same = puts_serial c.args.self.now c.loop-content.self c.loop-content.self c.args.event.sender c.args.event.serial c.args.delivery c.loop-content.yielded c.loop-content.invariant.3 in
    omega (arith, same, c.requires.used)

pub loop-content-preserved : goal.loop-content-preserved
loop-content-preserved c =
    let size = length-append c.loop-content.yielded (c.in-Some.content ∷ []) in (
      tt,
      tt,
      omega (arith, size, c.loop-content.invariant.2),
      puts_more c.args.self.now c.loop-content.self c.put_copy.new.self c.args.event.sender c.args.event.serial c.args.delivery c.loop-content.yielded c.loop-content.invariant.3 c.loop-content.federate c.loop-content.invariant.2 c.in-Some.content (c.requires.free c.loop-content.federate) c.in_ok-put_copy.ensures.ok,
    )

pub returns-clause-ok : goal.returns-clause-ok
returns-clause-ok c d =
    let all = YieldsList-end (YieldsList-from_vec {s = c.into_iter-content-iterator.result} c.args.contents.items (cc) (cc)) c.loop-content.yielded c.loop-content.content-iterator c.loop-content.yielded_by c.next.result c.next.new.self c.in-None.is c.next.ensures.steps in
    puts_all c.args.self.now c.loop-content.self c.args.event.sender c.args.event.serial c.args.delivery c.loop-content.yielded c.args.contents.items c.loop-content.invariant.3 all.0 d
