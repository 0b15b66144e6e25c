use Rattle.hla_requests.proofs.AskLemmas.{handles_starved}
use Rattle.hla_requests.proofs.lookups.with_number.Goals as goal

pub returns-in-Err : goal.returns-in-Err
returns-in-Err c = λ meant asks. handles_starved c.args.numbers c.in_ok-numbers.numbers c.args.number c.in_ok-numbers.was meant asks
