-- Lower bounds of the stamps of what waits, after a change
use Rattle.std.proofs.Common.{ℕ, ◌≤◌, List, [], ◌∷◌, ◌++◌, take, drop, suc, set, arith}
use Rattle.std.specs.List.{remove}
use Rattle.std.proofs.lemmas.List.Elements.{All-append, All-drop, All-push, All-set, All-take, All-weaker}
use Rattle.hla_callbacks.specs.declared.callback.Delivery.{Delivery}
use Rattle.hla_callbacks.specs.declared.callback.Delivery.TheVariants.{Receive, Demoted, TimeStamp}
use Rattle.hla_bags.specs.declared.bag.Waiting.{Waiting}
use Rattle.hla_bags.specs.Bags.{IsNotBelow, AreNotBelow}

weaker : (o d p e : ℕ) (x : Delivery) → p ≤ o → e ≤ d → IsNotBelow o d x → IsNotBelow p e x
weaker o d p e Receive a b known = tt
weaker o d p e (Demoted s) a b known = omega (arith, b, known)
weaker o d p e (TimeStamp s) a b known = omega (arith, a, known)

-- lesser bounds are bounds
pub lesser_bounds : (o d p e : ℕ) (ws : List Waiting) → p ≤ o → e ≤ d → AreNotBelow o d ws → AreNotBelow p e ws
lesser_bounds o d p e ws a b all = All-weaker (λ (w : Waiting). IsNotBelow o d w.delivery) (λ (w : Waiting). IsNotBelow p e w.delivery) (λ w known. weaker o d p e w.delivery a b known) ws all

pub bounds_push : (o d : ℕ) (ws : List Waiting) (w : Waiting) → AreNotBelow o d ws → IsNotBelow o d w.delivery → AreNotBelow o d (ws ++ w ∷ [])
bounds_push o d ws w all known = All-push (λ (x : Waiting). IsNotBelow o d x.delivery) ws w all known

pub bounds_remove : (o d : ℕ) (ws : List Waiting) (i : ℕ) → AreNotBelow o d ws → AreNotBelow o d (remove ws i)
bounds_remove o d ws i all =
    let test = λ (x : Waiting). IsNotBelow o d x.delivery in
    All-append test (take i ws) (drop (suc i) ws) (All-take test i ws all) (All-drop test (suc i) ws all)

pub bounds_set : (o d : ℕ) (ws : List Waiting) (i : ℕ) (w : Waiting) → AreNotBelow o d ws → IsNotBelow o d w.delivery → AreNotBelow o d (set ws i w)
bounds_set o d ws i w all known = All-set (λ (x : Waiting). IsNotBelow o d x.delivery) ws i w known all
