-- Each object of a registry has an owner, after each change
use Rattle.std.proofs.Common.{◌≡◌, ◌≢◌, ℕ, ◌+◌, ◌<◌, List, sym, subst, arith, ⊎_elim}
use Rattle.std.proofs.lemmas.Bool.{cases_eq}
use Rattle.hla_base.specs.Tables.{upd}
use Rattle.hla_machine.specs.Directory.{Object}
use Rattle.hla_machine.specs.Registered.{RegistryValue}
use Rattle.hla_object_registry.specs.Entries.{AreOwned}
use Rattle.hla_object_registry.specs.Queries.{with_registered}
use Rattle.hla_object_registry.proofs.Items.{upd_same, upd_other}

-- an object that has an owner in place of another, or as the next one
owned_upd : (r : RegistryValue) (n : ℕ) (x : Object) → AreOwned r → 0 < x.owner → r.next_object < n + 1 → (h : ℕ) → 0 < h → h < n + 1 → (h ≢ n → h < r.next_object) → 0 < (upd r.object n x h).owner
owned_upd r n x owned positive last h some below rest = ⊎_elim
    (λ (e : n ≡ h). subst (λ k. 0 < (upd r.object n x k).owner) e (subst (λ (o : Object). 0 < o.owner) (sym (upd_same r.object n x)) positive))
    (λ (ne : n ≢ h). subst (λ (o : Object). 0 < o.owner) (sym (upd_other r.object n x h ne)) (owned h some (rest (λ e. ne (sym e)))))
    (cases_eq n h)

pub owned_with : (r : RegistryValue) (class : ℕ) (name : List ℕ) (owner : ℕ) (attributes : List ℕ) → AreOwned r → 0 < owner → AreOwned (with_registered r class name owner attributes)
owned_with r class name owner attributes owned positive h some below = owned_upd r r.next_object _ owned positive (omega arith) h some below (λ ne. omega (arith, ne, below))

pub owned_changed : (r : RegistryValue) (g : ℕ) (x : Object) → AreOwned r → x.owner ≡ (r.object g).owner → 0 < g → g < r.next_object → AreOwned (record r { object = upd r.object g x })
owned_changed r g x owned same some_g below_g h some below = ⊎_elim
    (λ (e : g ≡ h). subst (λ k. 0 < (upd r.object g x k).owner) e (subst (λ (o : Object). 0 < o.owner) (sym (upd_same r.object g x)) (let at = owned g some_g below_g in omega (arith, at, same))))
    (λ (ne : g ≢ h). subst (λ (o : Object). 0 < o.owner) (sym (upd_other r.object g x h ne)) (owned h some below))
    (cases_eq g h)
