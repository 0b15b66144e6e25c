-- What one more record makes of the callers of a script.
use Rattle.hla_players.specs.Deeds.{caller_of}
use Rattle.std.proofs.Common.{◌≡◌, ◌==◌, ◌+◌, ◌<◌, ◌≤◌, suc, arith, ℕ, true, false, List, [], ◌∷◌, ◌++◌, Option, None, Some, length, refl, sym, ap, subst, ◌∙◌}
use Rattle.std.specs.Prelude.{slice_get, slice_set, zero}
use Rattle.std.proofs.lemmas.List.Elements.{filter-append}
use Rattle.std.proofs.lemmas.Bool.Decides.{nat_tests}
use Rattle.std.proofs.lemmas.List.{length-append}
use Rattle.std.proofs.lemmas.Grind.{flat_map-append}
use Rattle.std.proofs.lemmas.Option.{slice_get_within}
use Rattle.hla_machine.specs.declared.step.Record.{Record}
use Rattle.hla_history.specs.Closing.{records_by}
use Rattle.hla_callers.specs.Callers.{Caller, with_own, new_caller}
use Rattle.hla_in_order.specs.InOrder.{HasResigning, HaveResigned, callers, entrants, number_joined}
use Rattle.hla_in_order.specs.Players.{IsAs, IsBook, IsPlayer, ArePlayers, Stand}
use Rattle.hla_in_order.specs.Turns.{IsJoinedAs, IsJoinedAt}
use Rattle.hla_players.specs.declared.player.Player.{Player}
use Rattle.hla_players.specs.declared.player.Player.TheVariants as player

-- ---- one caller's part of the records
by_more : (rs : List Record) (r : Record) (n : ℕ) → records_by n (rs ++ r ∷ []) ≡ records_by n rs ++ records_by n (r ∷ [])
by_more rs r n = filter-append (λ (x : Record). x.actor == n) rs (r ∷ [])

by_itself : (r : Record) (n : ℕ) → r.actor ≡ n → records_by n (r ∷ []) ≡ r ∷ []
by_itself r n is =
    let same : (r.actor == n) ≡ true = grind (arith, nat_tests) in
    rw same refl

by_another : (r : Record) (n : ℕ) → (r.actor ≡ n → ⊥) → records_by n (r ∷ []) ≡ []
by_another r n other =
    let apart : (r.actor == n) ≡ false = grind (arith, nat_tests, other) in
    rw apart refl

append_nil : {X : Type 0} (xs : List X) → xs ++ [] ≡ xs
append_nil [] = refl
append_nil {X = X} (x ∷ xs) = ap (λ (ys : List X). x ∷ ys) (append_nil xs)

-- it grows by the caller's own record
pub grown : (rs : List Record) (r : Record) (n : ℕ) → r.actor ≡ n → records_by n (rs ++ r ∷ []) ≡ records_by n rs ++ r ∷ []
grown rs r n is = by_more rs r n ∙ ap (λ (xs : List Record). records_by n rs ++ xs) (by_itself r n is)

-- and not by another's
pub stayed : (rs : List Record) (r : Record) (n : ℕ) → (r.actor ≡ n → ⊥) → records_by n (rs ++ r ∷ []) ≡ records_by n rs
stayed rs r n other = by_more rs r n ∙ ap (λ (xs : List Record). records_by n rs ++ xs) (by_another r n other) ∙ append_nil (records_by n rs)

pub book_grown : (rs : List Record) (r : Record) (n : ℕ) (old new : Caller) → IsBook rs n old → r.actor ≡ old.number → new ≡ with_own old r new.until → IsBook (rs ++ r ∷ []) n new
book_grown rs r n old new is own grows = (
  ap (λ (c : Caller). c.number) grows ∙ is.0,
  ap (λ (c : Caller). c.transcript) grows ∙ ap (λ (xs : List Record). xs ++ r ∷ []) is.1 ∙ sym (grown rs r n (own ∙ is.0)),
)

pub book_stayed : (rs : List Record) (r : Record) (n : ℕ) (c : Caller) → IsBook rs n c → (r.actor ≡ n → ⊥) → IsBook (rs ++ r ∷ []) n c
book_stayed rs r n c is other = (is.0, is.1 ∙ sym (stayed rs r n other))

-- ---- all federates
module _ {L B P H : Type 0} where
  player_stayed : (rs : List Record) (r : Record) (n f : ℕ) (p : Option (Player L B P H)) → IsPlayer rs n f p → (r.actor ≡ n → ⊥) → IsPlayer (rs ++ r ∷ []) n f p
  player_stayed rs r n f None is other = absurd is
  player_stayed rs r n f (Some p) is other = (book_stayed rs r n (caller_of p) is.0 other, is.1)

  -- one who is none of them acts
  pub players_stayed : (rs : List Record) (r : Record) (n : ℕ) (fs : List ℕ) (ps : List (Option (Player L B P H))) → ArePlayers rs n fs ps → ((m : ℕ) → n ≤ m → m < n + length fs → r.actor ≡ m → ⊥) → ArePlayers (rs ++ r ∷ []) n fs ps
  players_stayed rs r n [] [] are other = tt
  players_stayed rs r n [] (p ∷ ps) are other = are
  players_stayed rs r n (f ∷ fs) [] are other = are
  players_stayed rs r n (f ∷ fs) (p ∷ ps) are other =
      (player_stayed rs r n f p are.0 (other n (omega arith) (omega arith)), players_stayed rs r (n + 1) fs ps are.1 (λ m low high. other m (omega (arith, low)) (omega (arith, high))))

  -- a new one
  pub players_more : (rs : List Record) (n f : ℕ) (fs : List ℕ) (ps : List (Option (Player L B P H))) (p : Option (Player L B P H)) → ArePlayers rs n fs ps → IsPlayer rs (n + length fs) f p → ArePlayers rs n (fs ++ f ∷ []) (ps ++ p ∷ [])
  players_more rs n f [] [] p are is = (subst (λ (m : ℕ). IsPlayer rs m f p) (omega arith) is, tt)
  players_more rs n f [] (q ∷ ps) p are is = absurd are
  players_more rs n f (g ∷ fs) [] p are is = absurd are
  players_more rs n f (g ∷ fs) (q ∷ ps) p are is = (are.0, players_more rs (n + 1) f fs ps p are.1 (subst (λ (m : ℕ). IsPlayer rs m f p) (omega arith) is))

  -- there are as many as joined
  pub players_count : (rs : List Record) (n : ℕ) (fs : List ℕ) (ps : List (Option (Player L B P H))) → ArePlayers rs n fs ps → length ps ≡ length fs
  players_count rs n [] [] are = refl
  players_count rs n [] (p ∷ ps) are = absurd are
  players_count rs n (f ∷ fs) [] are = absurd are
  players_count rs n (f ∷ fs) (p ∷ ps) are = ap suc (players_count rs (n + 1) fs ps are.1)

  -- the one at a place
  pub player_at : (rs : List Record) (n k : ℕ) (fs : List ℕ) (ps : List (Option (Player L B P H))) (p : Option (Player L B P H)) → ArePlayers rs n fs ps → slice_get ps k ≡ Some p → (f : ℕ) × (slice_get fs k ≡ Some f) × IsPlayer rs (n + k) f p
  player_at rs n k [] [] p are at = cc
  player_at rs n k [] (q ∷ ps) p are at = absurd are
  player_at rs n k (f ∷ fs) [] p are at = absurd are
  player_at rs n zero (f ∷ fs) (q ∷ ps) p are at =
      let same : q ≡ p = cc in
      (f, refl, subst (λ (m : ℕ). IsPlayer rs m f p) (omega arith) (subst (λ (o : Option (Player L B P H)). IsPlayer rs n f o) same are.0))
  player_at rs n (suc k) (f ∷ fs) (q ∷ ps) p are at =
      let rest = player_at rs (n + 1) k fs ps p are.1 at in
      (rest.0, rest.1, subst (λ (m : ℕ). IsPlayer rs m rest.0 p) (omega arith) rest.2)

  -- the one of a number that joined
  player_of : (rs : List Record) (n k : ℕ) (fs : List ℕ) (ps : List (Option (Player L B P H))) (f : ℕ) → ArePlayers rs n fs ps → slice_get fs k ≡ Some f → (p : Option (Player L B P H)) × (slice_get ps k ≡ Some p) × IsPlayer rs (n + k) f p
  player_of rs n k [] ps f are at = cc
  player_of rs n k (g ∷ fs) [] f are at = absurd are
  player_of rs n zero (g ∷ fs) (q ∷ ps) f are at =
      let same : g ≡ f = cc in
      (q, refl, subst (λ (m : ℕ). IsPlayer rs m f q) (omega arith) (subst (λ (h : ℕ). IsPlayer rs n h q) same are.0))
  player_of rs n (suc k) (g ∷ fs) (q ∷ ps) f are at =
      let rest = player_of rs (n + 1) k fs ps f are.1 at in
      (rest.0, rest.1, subst (λ (m : ℕ). IsPlayer rs m f rest.0) (omega arith) rest.2)

  slot_resigned : (rs : List Record) (n f : ℕ) (slot : Option (Player L B P H)) → IsPlayer rs n f slot → (IsJoinedAs f slot → ⊥) → HasResigning (records_by n rs) f
  slot_resigned rs n f None is other = absurd is
  slot_resigned rs n f (Some (player.Joined m)) is other = absurd (other is.1.0)
  slot_resigned rs n f (Some (player.Gone l)) is other = subst (λ (xs : List Record). HasResigning xs f) is.0.1 is.1

  -- where nobody is joined as the federate of a number, all who joined as that have resigned
  pub have_resigned : (rs : List Record) (own courier : Caller) (ps : List (Option (Player L B P H))) (f : ℕ) → Stand rs own courier ps → ((k : ℕ) → IsJoinedAt ps k f → ⊥) → HaveResigned rs f
  have_resigned rs own courier ps f s nobody = λ n entrant.
      let there = player_of rs 2 entrant.0 (entrants rs) ps f s.federates entrant.2 in
      let number : 2 + entrant.0 ≡ n = omega (arith, entrant.1) in
      subst (λ (m : ℕ). HasResigning (records_by m rs) f) number (slot_resigned rs (2 + entrant.0) f there.0 there.2 (λ joined. nobody entrant.0 (there.0, there.1, joined)))

  -- that one acts
  pub players_acted : (rs : List Record) (r : Record) (n k : ℕ) (fs : List ℕ) (ps : List (Option (Player L B P H))) (old new : Player L B P H) → ArePlayers rs n fs ps → slice_get ps k ≡ Some (Some old)
      → r.actor ≡ (caller_of old).number → caller_of new ≡ with_own (caller_of old) r (caller_of new).until → ((f : ℕ) → IsAs f old → IsAs f new) → ArePlayers (rs ++ r ∷ []) n fs (slice_set ps k (Some new))
  players_acted rs r n k [] [] old new are at own grows keeps = cc
  players_acted rs r n k [] (q ∷ ps) old new are at own grows keeps = absurd are
  players_acted rs r n k (f ∷ fs) [] old new are at own grows keeps = absurd are
  players_acted rs r n zero (f ∷ fs) (q ∷ ps) old new are at own grows keeps =
      let same : q ≡ Some old = cc in
      let is : IsPlayer rs n f (Some old) = subst (λ (o : Option (Player L B P H)). IsPlayer rs n f o) same are.0 in (
        (book_grown rs r n (caller_of old) (caller_of new) is.0 own grows, keeps f is.1),
        players_stayed rs r (n + 1) fs ps are.1 (λ m low high e. let number : (caller_of old).number ≡ n = is.0.0 in omega (arith, low, e, own, number)),
      )
  players_acted rs r n (suc k) (f ∷ fs) (q ∷ ps) old new are at own grows keeps =
      let there = player_at rs (n + 1) k fs ps (Some old) are.1 at in
      let number : (caller_of old).number ≡ n + 1 + k = there.2.0.0 in (
        player_stayed rs r n f q are.0 (λ e. omega (arith, e, own, number)),
        players_acted rs r (n + 1) k fs ps old new are.1 at own grows keeps,
      )

  -- nobody acts, and that one is as before
  same_players : (rs : List Record) (n k : ℕ) (fs : List ℕ) (ps : List (Option (Player L B P H))) (old new : Player L B P H) → ArePlayers rs n fs ps → slice_get ps k ≡ Some (Some old) → caller_of new ≡ caller_of old → ((f : ℕ) → IsAs f old → IsAs f new)
      → ArePlayers rs n fs (slice_set ps k (Some new))
  same_players rs n k [] [] old new are at same keeps = cc
  same_players rs n k [] (q ∷ ps) old new are at same keeps = absurd are
  same_players rs n k (f ∷ fs) [] old new are at same keeps = absurd are
  same_players rs n zero (f ∷ fs) (q ∷ ps) old new are at same keeps =
      let here : q ≡ Some old = cc in
      let is : IsPlayer rs n f (Some old) = subst (λ (o : Option (Player L B P H)). IsPlayer rs n f o) here are.0 in
      ((subst (λ (c : Caller). IsBook rs n c) (sym same) is.0, keeps f is.1), are.1)
  same_players rs n (suc k) (f ∷ fs) (q ∷ ps) old new are at same keeps = (are.0, same_players rs (n + 1) k fs ps old new are.1 at same keeps)

-- ---- all callers
entrants_more : (rs : List Record) (r : Record) → entrants (rs ++ r ∷ []) ≡ entrants rs ++ number_joined r.act r.outcome
entrants_more rs r = flat_map-append (λ (x : Record). number_joined x.act x.outcome) rs (r ∷ []) ∙ ap (λ (ns : List ℕ). entrants rs ++ ns) (append_nil (number_joined r.act r.outcome))

none_more : (rs : List Record) (r : Record) → number_joined r.act r.outcome ≡ [] → entrants (rs ++ r ∷ []) ≡ entrants rs
none_more rs r none = entrants_more rs r ∙ ap (λ (ns : List ℕ). entrants rs ++ ns) none ∙ append_nil (entrants rs)

others_stay : (rs : List Record) (r : Record) → callers rs ≤ callers (rs ++ r ∷ []) → r.actor < callers rs → ((n : ℕ) → callers rs ≤ n → records_by n rs ≡ []) → (n : ℕ) → callers (rs ++ r ∷ []) ≤ n → records_by n (rs ++ r ∷ []) ≡ []
others_stay rs r more known others n above =
    stayed rs r n (λ e. omega (arith, e, above, known, more)) ∙ others n (omega (arith, above, more))

module _ {L B P H : Type 0} where
  -- the infrastructure itself acts, and nobody joins
  pub itself_acted : (rs : List Record) (r : Record) (own new courier : Caller) (ps : List (Option (Player L B P H))) → Stand rs own courier ps → r.actor ≡ own.number → new ≡ with_own own r new.until → number_joined r.act r.outcome ≡ [] → Stand (rs ++ r ∷ []) new courier ps
  itself_acted rs r own new courier ps s acts grows none =
      let zeroth : r.actor ≡ 0 = acts ∙ s.itself.0 in
      let same = none_more rs r none in
      let count : callers (rs ++ r ∷ []) ≡ callers rs = ap (λ (ns : List ℕ). length ns + 2) same in
      record {
        itself = book_grown rs r 0 own new s.itself acts grows;
        carrier = book_stayed rs r 1 courier s.carrier (λ e. omega (arith, e, zeroth));
        federates = subst (λ (ns : List ℕ). ArePlayers (rs ++ r ∷ []) 2 ns ps) (sym same) (players_stayed rs r 2 (entrants rs) ps s.federates (λ m low high e. omega (arith, low, e, zeroth)));
        others = others_stay rs r (omega (arith, count)) (omega (arith, zeroth)) s.others;
      }

  -- the courier acts
  pub courier_acted : (rs : List Record) (r : Record) (own courier new : Caller) (ps : List (Option (Player L B P H))) → Stand rs own courier ps → r.actor ≡ courier.number → new ≡ with_own courier r new.until → number_joined r.act r.outcome ≡ [] → Stand (rs ++ r ∷ []) own new ps
  courier_acted rs r own courier new ps s acts grows none =
      let first : r.actor ≡ 1 = acts ∙ s.carrier.0 in
      let same = none_more rs r none in
      let count : callers (rs ++ r ∷ []) ≡ callers rs = ap (λ (ns : List ℕ). length ns + 2) same in
      record {
        itself = book_stayed rs r 0 own s.itself (λ e. omega (arith, e, first));
        carrier = book_grown rs r 1 courier new s.carrier acts grows;
        federates = subst (λ (ns : List ℕ). ArePlayers (rs ++ r ∷ []) 2 ns ps) (sym same) (players_stayed rs r 2 (entrants rs) ps s.federates (λ m low high e. omega (arith, low, e, first)));
        others = others_stay rs r (omega (arith, count)) (omega (arith, first)) s.others;
      }

  -- a federate acts
  pub player_acted : (rs : List Record) (r : Record) (own courier : Caller) (ps : List (Option (Player L B P H))) (k : ℕ) (old new : Player L B P H) → Stand rs own courier ps → slice_get ps k ≡ Some (Some old)
      → r.actor ≡ (caller_of old).number → caller_of new ≡ with_own (caller_of old) r (caller_of new).until → ((f : ℕ) → IsAs f old → IsAs f new) → number_joined r.act r.outcome ≡ [] → Stand (rs ++ r ∷ []) own courier (slice_set ps k (Some new))
  player_acted rs r own courier ps k old new s at acts grows keeps none =
      let there = player_at rs 2 k (entrants rs) ps (Some old) s.federates at in
      let number : r.actor ≡ 2 + k = acts ∙ there.2.0.0 in
      let within : k < length (entrants rs) = slice_get_within (entrants rs) k there.0 there.1 in
      let same = none_more rs r none in
      let count : callers (rs ++ r ∷ []) ≡ callers rs = ap (λ (ns : List ℕ). length ns + 2) same in
      record {
        itself = book_stayed rs r 0 own s.itself (λ e. omega (arith, e, number));
        carrier = book_stayed rs r 1 courier s.carrier (λ e. omega (arith, e, number));
        federates = subst (λ (ns : List ℕ). ArePlayers (rs ++ r ∷ []) 2 ns (slice_set ps k (Some new))) (sym same) (players_acted rs r 2 k (entrants rs) ps old new s.federates at acts grows keeps);
        others = others_stay rs r (omega (arith, count)) (omega (arith, number, within)) s.others;
      }

  -- a federate joins, as a new caller
  pub federate_joined : (rs : List Record) (r : Record) (own new courier : Caller) (ps : List (Option (Player L B P H))) (f n : ℕ) (p : Player L B P H) → Stand rs own courier ps → r.actor ≡ own.number → new ≡ with_own own r new.until
      → number_joined r.act r.outcome ≡ f ∷ [] → n ≡ length ps + 2 → caller_of p ≡ new_caller n → IsAs f p → Stand (rs ++ r ∷ []) new courier (ps ++ Some p ∷ [])
  federate_joined rs r own new courier ps f n p s acts grows one is_next is_new keeps =
      let zeroth : r.actor ≡ 0 = acts ∙ s.itself.0 in
      let more : entrants (rs ++ r ∷ []) ≡ entrants rs ++ f ∷ [] = entrants_more rs r ∙ ap (λ (ns : List ℕ). entrants rs ++ ns) one in
      let many : length (entrants (rs ++ r ∷ [])) ≡ length (entrants rs) + 1 = ap (λ (ns : List ℕ). length ns) more ∙ length-append (entrants rs) (f ∷ []) in
      let counted = players_count rs 2 (entrants rs) ps s.federates in
      let fresh : records_by n (rs ++ r ∷ []) ≡ [] = stayed rs r n (λ e. omega (arith, e, zeroth, is_next)) ∙ s.others n (omega (arith, is_next, counted)) in
      let book : IsBook (rs ++ r ∷ []) n (caller_of p) = (ap (λ (c : Caller). c.number) is_new, ap (λ (c : Caller). c.transcript) is_new ∙ sym fresh) in
      let place : n ≡ 2 + length (entrants rs) = omega (arith, is_next, counted) in
      record {
        itself = book_grown rs r 0 own new s.itself acts grows;
        carrier = book_stayed rs r 1 courier s.carrier (λ e. omega (arith, e, zeroth));
        federates = subst (λ (ns : List ℕ). ArePlayers (rs ++ r ∷ []) 2 ns (ps ++ Some p ∷ [])) (sym more)
            (players_more (rs ++ r ∷ []) 2 f (entrants rs) ps (Some p) (players_stayed rs r 2 (entrants rs) ps s.federates (λ m low high e. omega (arith, low, e, zeroth)))
            (subst (λ (m : ℕ). IsBook (rs ++ r ∷ []) m (caller_of p)) place book, keeps));
        others = others_stay rs r (omega (arith, many)) (omega (arith, zeroth)) s.others;
      }

  -- nothing has changed
  pub nothing_added : (rs : List Record) (own courier : Caller) (ps : List (Option (Player L B P H))) → Stand rs own courier ps → Stand (rs ++ []) own courier ps
  nothing_added rs own courier ps s = subst (λ (xs : List Record). Stand xs own courier ps) (sym (append_nil rs)) s

  -- at first there is no record, and no federate
  pub stands_first : Stand {L = L} {B = B} {P = P} {H = H} [] (new_caller 0) (new_caller 1) []
  stands_first = record { itself = (refl, refl); carrier = (refl, refl); federates = tt; others = λ n above. refl }

  -- one federate is as before
  pub players_kept : (rs : List Record) (own courier : Caller) (ps : List (Option (Player L B P H))) (k : ℕ) (old new : Player L B P H) → Stand rs own courier ps → slice_get ps k ≡ Some (Some old) → caller_of new ≡ caller_of old → ((f : ℕ) → IsAs f old → IsAs f new)
      → Stand rs own courier (slice_set ps k (Some new))
  players_kept rs own courier ps k old new s at same keeps = record { itself = s.itself; carrier = s.carrier; federates = same_players rs 2 k (entrants rs) ps old new s.federates at same keeps; others = s.others }
