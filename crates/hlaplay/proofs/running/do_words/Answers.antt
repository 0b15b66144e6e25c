use Rattle.std.proofs.Common.{refl, subst}
use Rattle.clap.specs.Walk.{texts}
use Rattle.hla_command_line.specs.Refusals.{IsFoundIn}
use Rattle.hla_command_line.specs.declared.words.WordsFault.{WordsFault}
use Rattle.clap.specs.Values.{kind_of}
use Rattle.hla_tasks.specs.Tasks.{named_task}
use Rattle.hlaplay.specs.Run.{TaskDone, Misused, NoMemory}
use Rattle.hlaplay.proofs.running.do_words.Goals as goal

pub returns-in-Ok-clause-ends : goal.returns-in-Ok-clause-ends
returns-in-Ok-clause-ends g c = TaskDone (named_task c.in-Ok.task) c.in-Ok.ensures.ok c.do_task.ensures.ends

pub returns-in-Err-Refused-clause-ends : goal.returns-in-Err-Refused-clause-ends
returns-in-Err-Refused-clause-ends g c =
    let P : WordsFault → Type 0 = λ fault. IsFoundIn (texts c.args.words.now) fault in
    let found = subst P c.in-Err-Refused.field-0-is c.in-Err-Refused.ensures.err.1 in
    Misused c.in-Err-Refused.ensures.err.0 (kind_of c.in-Err-Refused.error) found refl c.tell_refusal.ensures.ends

pub returns-clause-ends : goal.returns-clause-ends
returns-clause-ends g c =
    NoMemory c.in-Err-Memory.ensures.err.0 refl c.tell_out_of_memory.ensures.line c.tell_out_of_memory.ensures.status
