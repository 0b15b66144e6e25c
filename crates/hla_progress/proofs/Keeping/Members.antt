-- Federates that join and resign
use Rattle.std.proofs.Common.{◌≡◌, ◌≢◌, ℕ, ◌≤◌, ◌<◌, eqb, not, Bool, true, false, refl, sym, ◌∙◌, subst, ⊎_elim, arith, List, [], ◌∷◌, Option}
use Rattle.std.proofs.lemmas.Bool.{cond_both, cases_Bool, and_parts, and_from}
use Rattle.std.proofs.lemmas.Bool.Decides.{nat_tests}
use Rattle.hla_base.specs.Tables.{forever, upd, upd_row, upd_new, upd_whole_column, is_other}
use Rattle.hla_base.specs.Rows.{is_regulator, new_row}
use Rattle.hla_base.proofs.Tables.{upd_each, upd_same, upd_other, upd_row_here, upd_row_other, by_number, upd_new_here, upd_new_there, upd_new_else, upd_whole_column_else}
use Rattle.hla_null_message.specs.declared.message.Message.{Message}
use Rattle.hla_null_message.specs.declared.message.Message.TheVariants as message
use Rattle.hla_machine.specs.Directory.{Outgoing}
use Rattle.hla_components.specs.Components.{Components}
use Rattle.hla_null_message.specs.Wires.{put_behind}
use Rattle.hla_components.specs.Next.{with_message_sent, with_messages_sent, with_federate_joined, with_federate_gone, with_last_null}
use Rattle.hla_components.specs.Invariant.{Inv, is_wire}
use Rattle.hla_progress.specs.Promises.{bound_after, KeepsPromises}
use Rattle.hla_progress.proofs.Keeping.Bounds.{bound_after-null}
use Rattle.hla_progress.proofs.Keeping.Changes.{raised_idle, keeps_sent, announced_cap}

not_below_itself : (n : ℕ) → n < n → ⊥
not_below_itself n l = omega arith

pub other_than : (members : ℕ → Bool) (g f : ℕ) → is_other members g f ≡ true → g ≢ f
other_than members g f o same = let p = and_parts (not (eqb g f)) (members f) o in let e : eqb g f ≡ true = grind (arith, nat_tests) in absurd (cc)

-- ---- a federate joins
module _ (s : Components) (k : KeepsPromises s) (inv : Inv s) where
  abbrev n : ℕ
  n = s.directory.next_federate

  pub unheard : is_regulator (s.row n) ≡ false
  unheard = ⊎_elim
      (λ (y : is_regulator (s.row n) ≡ true). absurd (not_below_itself n (inv.kept.directory.members n (inv.kept.time.regulators n y))))
      (λ (e : is_regulator (s.row n) ≡ false). e)
      (cases_Bool (is_regulator (s.row n)))

  -- there was no wire from the newcomer, and none to it
  no_wire : (g f : ℕ) → is_wire s.directory g f ≡ false → s.wire g f ≡ []
  no_wire g f e = inv.kept.wired g f e

  from_newcomer : (f : ℕ) → n ≢ f → bound_after (upd_new s.known_epoch n s.epoch (λ _. s.epoch n) f n) (upd_new s.bound n s.last_announced (λ _. forever) f n) (upd_new s.wire n (λ _. []) (λ _. []) n f) ≡ s.last_announced n
  from_newcomer f ne = rw (upd_new_here s.wire n (λ _. []) (λ _. []) f, upd_new_there s.bound n s.last_announced (λ _. forever) f ne) (sym (k.silent n unheard))

  to_newcomer : (g : ℕ) → n ≢ g → bound_after (upd_new s.known_epoch n s.epoch (λ _. s.epoch n) n g) (upd_new s.bound n s.last_announced (λ _. forever) n g) (upd_new s.wire n (λ _. []) (λ _. []) g n) ≡ s.last_announced g
  to_newcomer g ne = rw (upd_new_there s.wire n (λ _. []) (λ _. []) g ne, upd_new_here s.bound n s.last_announced (λ _. forever) g) refl

  elsewhere : (g f : ℕ) → n ≢ g → n ≢ f → is_other (upd s.directory.joined n true) g f ≡ true
      → bound_after (upd_new s.known_epoch n s.epoch (λ _. s.epoch n) f g) (upd_new s.bound n s.last_announced (λ _. forever) f g) (upd_new s.wire n (λ _. []) (λ _. []) g f) ≡ s.last_announced g
  elsewhere g f a b o = rw (upd_new_else s.wire n (λ _. []) (λ _. []) g f a b, upd_new_else s.bound n s.last_announced (λ _. forever) f g b a, upd_new_else s.known_epoch n s.epoch (λ _. s.epoch n) f g b a)
      (k.wires g f (let h : is_other s.directory.joined g f ≡ true = rw (upd_other s.directory.joined n true f b) at o in h))

  pub keeps_joined : (name : List ℕ) → KeepsPromises (with_federate_joined s name)
  keeps_joined name = record {
    wires = by_number n _
        (λ f o. from_newcomer f (other_than (upd s.directory.joined n true) n f o))
        (λ g a. by_number n _ (λ _. to_newcomer g a) (λ f b o. elsewhere g f a b o));
    silent = by_number n _ (λ _. k.silent n unheard) (λ g ne. rw upd_other (k.silent g));
    raised = by_number n _ (rw upd_same (raised_idle new_row refl)) (λ g ne. rw upd_other (k.raised g));
  }

-- ---- a federate resigns
-- what its messages on leaving keep
pub record IsReadyToLeave (s : Components) (f : ℕ) : Type 0 where
  pub keeps : KeepsPromises s
  pub cap : s.last_announced f ≤ forever
  pub epochs : (h : ℕ) → is_other s.directory.joined f h ≡ true → s.known_epoch h f ≡ s.epoch f

pub ready : (s : Components) (f : ℕ) → KeepsPromises s → Inv s → IsReadyToLeave s f
ready s f k inv = record { keeps = k; cap = announced_cap s k inv f; epochs = inv.kept.time.epochs f }

pub ready_sent : (s : Components) (f : ℕ) (stamp : Option ℕ) (outs : List Outgoing) → IsReadyToLeave s f → IsReadyToLeave (with_messages_sent s f stamp outs) f
ready_sent s f stamp [] r = r
ready_sent s f stamp (out ∷ outs) r = ready_sent (with_message_sent s f stamp out) f stamp outs (record { keeps = keeps_sent s r.keeps f stamp out; cap = r.cap; epochs = r.epochs })

module _ (s : Components) (f : ℕ) (r : IsReadyToLeave s f) where
  still_other : (g h : ℕ) → is_other (upd s.directory.joined f false) g h ≡ true → is_other s.directory.joined g h ≡ true
  still_other g h e = let p = and_parts _ _ e in and_from _ _ p.0 (upd_each s.directory.joined f false (λ j x. x ≡ true → s.directory.joined j ≡ true) (λ x. absurd (cc)) (λ _ _ x. x) h p.1)

  stays : (g h : ℕ) → is_other (upd s.directory.joined f false) g h ≡ true → f ≢ h
  stays g h e same = let p = and_parts _ _ e in let gone : upd s.directory.joined f false f ≡ true = subst (λ j. upd s.directory.joined f false j ≡ true) (sym same) p.1 in
      let no : false ≡ true = sym (upd_same s.directory.joined f false) ∙ gone in absurd (cc)

  last_null : (h : ℕ) → is_other s.directory.joined f h ≡ true → bound_after (s.known_epoch h f) (s.bound h f) (with_last_null s f (s.wire f h)) ≡ forever
  last_null h o = cond_both (is_regulator (s.row f)) (put_behind (message.Null (s.epoch f) forever) (s.wire f h)) (s.wire f h) (λ ms. bound_after (s.known_epoch h f) (s.bound h f) ms ≡ forever)
      (λ _. subst (λ j. bound_after (s.known_epoch h f) (s.bound h f) (put_behind (message.Null j forever) (s.wire f h)) ≡ forever) (r.epochs h o)
      (bound_after-null (s.known_epoch h f) (s.bound h f) forever (s.wire f h) (omega (arith, r.keeps.wires f h o, r.cap))))
      (λ n. r.keeps.wires f h o ∙ r.keeps.silent f n)

  abbrev row_wire : ℕ → ℕ → List Message
  row_wire = upd_row s.wire s.directory.joined f (λ _. with_last_null s f)

  left_wires : (g h : ℕ) → is_other (upd s.directory.joined f false) g h ≡ true → bound_after (s.known_epoch h g) (s.bound h g) (upd_whole_column row_wire f [] g h) ≡ upd s.last_announced f forever g
  left_wires = by_number f _
      (λ h e. let o = still_other f h e in rw (upd_whole_column_else row_wire f [] f h (stays f h e), upd_row_here s.wire s.directory.joined f (λ _. with_last_null s f) h o, upd_same) (last_null h o))
      (λ g ne h e. rw (upd_whole_column_else row_wire f [] g h (stays g h e), upd_row_other s.wire s.directory.joined f (λ _. with_last_null s f) g h ne, upd_other) (r.keeps.wires g h (still_other g h e)))

  pub keeps_gone : KeepsPromises (with_federate_gone s f)
  keeps_gone = record {
    wires = left_wires;
    silent = by_number f _ (rw (upd_same, upd_same) (λ _. refl)) (λ g ne. rw (upd_other, upd_other) (r.keeps.silent g));
    raised = by_number f _ (rw upd_same (raised_idle new_row refl)) (λ g ne. rw upd_other (r.keeps.raised g));
  }
