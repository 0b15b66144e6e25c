-- Where no stamp lies below a time, all that waits passes a test
use Rattle.std.proofs.Common.{◌≡◌, ℕ, leb, ltb, ◌||◌, not, Bool, true, false, List, [], ◌∷◌, refl, ap, ◌∙◌, arith}
use Rattle.std.specs.List.{list_all, All}
use Rattle.std.specs.Option.{option_map_or}
use Rattle.std.proofs.lemmas.Bool.Decides.{nat_tests}
use Rattle.std.proofs.lemmas.List.Elements.{All-head, All-tail}
use Rattle.hla_base.specs.declared.number.EventHandle.{EventHandle}
use Rattle.hla_callbacks.specs.declared.callback.Delivery.{Delivery}
use Rattle.hla_callbacks.specs.declared.callback.Delivery.TheVariants.{Receive, Demoted, TimeStamp}
use Rattle.hla_bags.specs.declared.bag.Waiting.{Waiting}
use Rattle.hla_bags.specs.Bags.{is_listed, ordered_stamp, IsNotBelow, AreNotBelow}
use Rattle.hla_accounts.specs.declared.account.Account.{Account}
use Rattle.hla_accounts.specs.Bounds.{is_retracted, demoted_stamp, is_at_most_waiting}
use Rattle.hla_accounts.specs.Calls.{is_at_most_demoted}
use Rattle.hla_accounts.specs.Ticks.{is_among_if_below}

or_true : (r : Bool) → (r || true) ≡ true
or_true true = refl
or_true false = refl

all_true : (test : Waiting → Bool) (P : Waiting → Type 0) → ((w : Waiting) → P w → test w ≡ true) → (ws : List Waiting) → All P ws → list_all test ws ≡ true
all_true test P each [] all = refl
all_true test P each (w ∷ ws) all =
    let first : test w ≡ true = each w (All-head P w ws all) in
    let rest : list_all test ws ≡ true = all_true test P each ws (All-tail P w ws all) in
    rw (first, rest) refl

pub none_ordered_below : (accounts : List Account) (x : ℕ) (ws : List Waiting) → AreNotBelow x 0 ws → list_all (is_at_most_waiting accounts x) ws ≡ true
none_ordered_below accounts x ws all = all_true (is_at_most_waiting accounts x) (λ (w : Waiting). IsNotBelow x 0 w.delivery) (λ w known. by (is_retracted accounts w.event.sender w.event.serial) w.delivery known) ws all
  where
    by : (r : Bool) (d : Delivery) → IsNotBelow x 0 d → (r || option_map_or (leb x) (ordered_stamp d) true) ≡ true
    by r Receive known = or_true r
    by r (Demoted s) known = or_true r
    by r (TimeStamp s) known = let most : leb x s ≡ true = grind (arith, nat_tests) in ap (λ b. r || b) most ∙ or_true r

pub none_demoted_below : (accounts : List Account) (x : ℕ) (ws : List Waiting) → AreNotBelow 0 x ws → list_all (is_at_most_demoted accounts x) ws ≡ true
none_demoted_below accounts x ws all = all_true (is_at_most_demoted accounts x) (λ (w : Waiting). IsNotBelow 0 x w.delivery) (λ w known. by (is_retracted accounts w.event.sender w.event.serial) w.delivery known) ws all
  where
    by : (r : Bool) (d : Delivery) → IsNotBelow 0 x d → (r || option_map_or (leb x) (demoted_stamp d) true) ≡ true
    by r Receive known = or_true r
    by r (TimeStamp s) known = or_true r
    by r (Demoted s) known = let most : leb x s ≡ true = grind (arith, nat_tests) in ap (λ b. r || b) most ∙ or_true r

pub none_among_below : (accounts : List Account) (x : ℕ) (events : List EventHandle) (ws : List Waiting) → AreNotBelow x 0 ws → list_all (is_among_if_below accounts x events) ws ≡ true
none_among_below accounts x events ws all =
    all_true (is_among_if_below accounts x events) (λ (w : Waiting). IsNotBelow x 0 w.delivery) (λ w known. by (is_retracted accounts w.event.sender w.event.serial) (is_listed events w.event.sender w.event.serial) w.delivery known) ws all
  where
    passed : (r l : Bool) → (r || true || l) ≡ true
    passed true l = refl
    passed false l = refl

    by : (r l : Bool) (d : Delivery) → IsNotBelow x 0 d → (r || option_map_or (λ s. not (ltb s x)) (ordered_stamp d) true || l) ≡ true
    by r l Receive known = passed r l
    by r l (Demoted s) known = passed r l
    by r l (TimeStamp s) known = let most : not (ltb s x) ≡ true = grind (arith, nat_tests) in ap (λ b. r || b || l) most ∙ passed r l
