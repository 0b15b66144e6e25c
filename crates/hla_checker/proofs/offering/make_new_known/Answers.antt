use Rattle.std.proofs.Common.{◌≡◌, ◌<◌, ◌≤◌, ◌&&◌, ℕ, Bool, true, false, Option, is_some, length, refl, sym, ap, ◌∙◌, arith}
use Rattle.hla_base.specs.declared.content.Discovery.{Discovery}
use Rattle.hla_base.specs.Tables.{upd2}
use Rattle.hla_declaration.specs.Declarations.{declarations_of}
use Rattle.hla_machine.specs.Directory.{Directory, discovery_of}
use Rattle.hla_machine.specs.Registered.{RegistryValue, registry_of}
use Rattle.hla_accounts.specs.Accounts.{account_at}
use Rattle.hla_verdicts.specs.Kept.{directory_kept}
use Rattle.hla_checker.proofs.Objects.NewObjects.{among_all, among_first, among_more, among_same, not_joined, still_among}
use Rattle.hla_checker.proofs.offering.make_new_known.Goals as goal
use Rattle.hla_checker.proofs.offering.make_new_known.Goals.{then-is_to_discover, else-is_to_discover}

pub loop-federate-init : goal.loop-federate-init
loop-federate-init c =
    let r0 = registry_of c.args.registry.now in
    ap (λ (k : ℕ → ℕ → Bool). record r0 { known = k })
    (among_first (λ k. (account_at c.args.accounts.now k).is_joined && is_some (discovery_of (directory_kept c.args.catalogue.now (declarations_of c.args.declarations.now) r0) k c.args.object)) r0.known c.args.object refl)

pub make_known-requires-clause-registered : goal.make_known-requires-clause-registered
make_known-requires-clause-registered c =
    let next : (registry_of c.loop-federate.registry).next_object ≡ (registry_of c.args.registry.now).next_object = ap (λ (r : RegistryValue). r.next_object) c.loop-federate.invariant in
    omega (arith, next, c.requires.registered)

pub loop-federate-preserved : goal.loop-federate-preserved
loop-federate-preserved c =
    let h = c.args.object in
    let n = c.loop-federate.federate in
    let r0 = registry_of c.args.registry.now in
    let d : RegistryValue → Directory = λ r. directory_kept c.args.catalogue.now (declarations_of c.args.declarations.now) r in
    let joined : ℕ → Bool = λ k. (account_at c.args.accounts.now k).is_joined in
    let found : ℕ → Bool = λ k. joined k && is_some (discovery_of (d r0) k h) in
    let now : found n ≡ c.is_to_discover.result =
    ap (λ (o : Option Discovery). joined n && is_some o) (sym (ap (λ (r : RegistryValue). discovery_of (d r) n h) c.loop-federate.invariant ∙ still_among (d r0) h n found))
    ∙ sym c.is_to_discover.ensures in
    elim c.if-is_to_discover.branch [
      | then-is_to_discover w ↦ ap registry_of w.registry-is ∙ w.make_known.ensures ∙ ap (λ (r : RegistryValue). record r { known = upd2 r.known h n true }) c.loop-federate.invariant
          ∙ ap (λ (k : ℕ → ℕ → Bool). record r0 { known = k }) (among_more found r0.known h n (now ∙ w.if-is_to_discover.true))
      | else-is_to_discover w ↦ ap registry_of w.registry-is ∙ c.loop-federate.invariant
          ∙ ap (λ (k : ℕ → ℕ → Bool). record r0 { known = k }) (among_same found r0.known h n (now ∙ w.if-is_to_discover.false))
    ]

pub returns : goal.returns
returns c =
    let r0 = registry_of c.args.registry.now in
    let past : length c.args.accounts.now < c.loop-federate.federate = omega (arith, c.next_federate-end.ensures.number, c.loop-federate-test.false) in
    let none : (k : ℕ) → c.loop-federate.federate ≤ k → (account_at c.args.accounts.now k).is_joined ≡ false = λ k above. not_joined c.args.accounts.now k (omega (arith, past, above)) in
    c.loop-federate.invariant
    ∙ ap (λ (k : ℕ → ℕ → Bool). record r0 { known = k })
    (among_all (directory_kept c.args.catalogue.now (declarations_of c.args.declarations.now) r0) (λ k. (account_at c.args.accounts.now k).is_joined) c.args.object c.loop-federate.federate none)
