use Rattle.std.proofs.Common.{◌≡◌, ◌∙◌, ap, sym, arith, vec_len, None, ◌++◌, ◌∷◌, []}
use Rattle.hla_history.specs.Hosting.{heard_of, tags_of}
use Rattle.hla_shared.proofs.Executions.Creations.{new_hosted, new_tags, new_length}
use Rattle.hla_shared.proofs.host.Hosted.new.Goals as goal

pub invariant_of-result : goal.invariant_of-result
invariant_of-result g c =
    let one : vec_len c.push_reserved.new.self ≡ 1 = omega (arith, c.push_reserved.ensures.len, c.in-Ok.ensures.len) in
    one ∙ sym (new_length (g.F.Execution.value c.new.result) c.args.catalogue c.new.ensures)

pub returns-clause-host : goal.returns-clause-host
returns-clause-host g c =
    new_hosted (g.F.Execution.value c.new.result) (heard_of c.push_reserved.new.self.items) c.args.catalogue c.new.ensures
    (ap heard_of (c.push_reserved.ensures.items ∙ ap (λ xs. xs ++ None ∷ []) c.in-Ok.ensures.items))

pub returns-clause-tags : goal.returns-clause-tags
returns-clause-tags g c =
    new_tags (tags_of c.push_reserved.new.self.items) (ap tags_of (c.push_reserved.ensures.items ∙ ap (λ xs. xs ++ None ∷ []) c.in-Ok.ensures.items))
