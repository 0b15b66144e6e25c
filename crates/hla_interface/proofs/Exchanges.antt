-- The records of a courier are of announcements and carries alone.
use Rattle.std.proofs.Common.{◌≡◌, ℕ, List, [], inl, inr, sym, ap, subst, arith}
use Rattle.std.specs.Prelude.{Result}
use Rattle.std.specs.List.{All}
use Rattle.std.proofs.lemmas.List.Elements.{All-push}
use Rattle.hla_base.specs.declared.fault.Fault.{Fault}
use Rattle.hla_machine.specs.declared.step.Act.{Act}
use Rattle.hla_machine.specs.declared.step.Answer.{Answer}
use Rattle.hla_machine.specs.declared.step.Record.{Record}
use Rattle.hla_callers.specs.Callers.{Caller, HasAnswered, new_caller}
use Rattle.hla_interface.specs.Exchanges.{IsExchange, IsExchangeAct}

-- one that has done nothing yet
pub new_exchanges : (c : Caller) (number : ℕ) → c ≡ new_caller number → All IsExchange c.transcript
new_exchanges c number new = subst (λ (x : Caller). All IsExchange x.transcript) (sym new) (λ k d below. absurd (omega (arith, below)))

-- and behind one exchange more, or one that was not made
pub exchanged : (old new : Caller) (name : List ℕ) (a : Act) (given : Result Answer Fault) → IsExchangeAct a → HasAnswered old name a given new → All IsExchange old.transcript → All IsExchange new.transcript
exchanged old new name a given is answered before = elim answered [
  | inl acted ↦
      let own : Record = record { actor = old.number; execution = name; act = a; outcome = acted.0; choice = acted.2.0 } in
      subst (λ (rs : List Record). All IsExchange rs) (sym (ap (λ (x : Caller). x.transcript) acted.2.1)) (All-push IsExchange old.transcript own before is)
  | inr none ↦ subst (λ (x : Caller). All IsExchange x.transcript) (sym none.2.1) before
]
