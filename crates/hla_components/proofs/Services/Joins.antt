-- A federate joins
use Rattle.std.proofs.Common.{◌≡◌, ◌≢◌, ℕ, ◌+◌, ◌≤◌, ◌<◌, eqb, not, ◌&&◌, true, false, refl, sym, le_trans, ap, ◌∙◌, ⊎_elim, arith, List, [], ◌++◌, None}
use Rattle.std.proofs.lemmas.Bool.{and_parts, and_from, and_left, cases_Bool, le-ltb, ltb-true, lt-ltb}
use Rattle.std.proofs.lemmas.Bool.Decides.{nat_tests}
use Rattle.hla_base.specs.Tables.{forever, upd, upd_new, is_other, least}
use Rattle.hla_base.specs.Rows.{is_regulator, next_request, new_row}
use Rattle.hla_machine.specs.declared.step.Step.TheVariants.{Join}
use Rattle.hla_machine.specs.Directory.{with_member, joining_notices}
use Rattle.hla_machine.specs.Central.{Central}
use Rattle.hla_machine.specs.Machine.{with_told}
use Rattle.hla_machine.specs.Refusals.{refusal}
use Rattle.hla_null_message.specs.Wires.{events, discoveries, retractions}
use Rattle.hla_component_rules.specs.Controls.{discoveries_from}
use Rattle.hla_components.specs.Components.{Components}
use Rattle.hla_components.specs.Next.{components_seen, step_outcome}
use Rattle.hla_components.specs.CentralOf.{central}
use Rattle.hla_components.specs.Invariant.{Carries, RowInv, IsTimed, IsWired, is_wire, stamps, Kept}
use Rattle.hla_components.specs.Headline.{IsKeptStep}
use Rattle.hla_base.proofs.Tables.{by_number, upd_each, upd_same, upd_other, upd_new_here, upd_new_there, upd_new_else, least_le, le_least, least_le-forever}
use Rattle.hla_components.proofs.Upkeep.Times.{fresh_in-mono}
use Rattle.hla_components.proofs.Wiring.Copies.{copies_wires}
use Rattle.hla_components.proofs.Upkeep.Objects.{objects_shift, tells_grows}
use Rattle.hla_components.proofs.Upkeep.Directories.{directory_joined, grows_joined}
use Rattle.hla_machine.proofs.Basics.Bags.{central_ext}
use Rattle.hla_components.proofs.Wiring.Bags.{bag_same_wires}
use Rattle.hla_components.proofs.Services.Telling.{notices_kept, central_notices}

-- the row of a federate that has just joined
pub row_start : RowInv new_row
row_start = record {
  idle = λ _. refl;
  resting = λ _. refl;
  asks = λ q e. absurd (cc);
  flushes = λ q t e. absurd (cc);
  barred = λ e. absurd (cc);
  steady = λ e. absurd (cc);
}

not_self : (n : ℕ) → not (eqb n n) ≡ true → ⊥
not_self n h = grind (arith, nat_tests)

module _ (s : Components) (name : List ℕ) (kept : Kept s) where
  -- the newcomer was no member, and no wire led to or from it
  absent : s.directory.joined s.directory.next_federate ≡ true → ⊥
  absent e = let l = kept.directory.members s.directory.next_federate e in omega arith

  wire_from_new : (f : ℕ) → s.wire s.directory.next_federate f ≡ []
  wire_from_new f = kept.wired s.directory.next_federate f (and_left _ _ (le-ltb s.directory.next_federate s.directory.next_federate (omega arith)))

  wire_to_new : (g : ℕ) → s.wire g s.directory.next_federate ≡ []
  wire_to_new g = ⊎_elim
      (λ (y : is_wire s.directory g s.directory.next_federate ≡ true). absurd (absent (and_parts _ _ (and_parts _ _ y).1).1))
      (λ (off : is_wire s.directory g s.directory.next_federate ≡ false). kept.wired g s.directory.next_federate off)
      (cases_Bool (is_wire s.directory g s.directory.next_federate))

  -- so the wires are as before
  same_wires : (g f : ℕ) → upd_new s.wire s.directory.next_federate (λ _. []) (λ _. []) g f ≡ s.wire g f
  same_wires = by_number s.directory.next_federate _
      (λ f. rw upd_new_here (sym (wire_from_new f)))
      (λ g ne. by_number s.directory.next_federate _ (rw upd_new_there (sym (wire_to_new g))) (λ f ne2. rw upd_new_else refl))

  join_wires : (g f : ℕ) → Carries (is_regulator (upd s.row s.directory.next_federate new_row g) && is_other (upd s.directory.joined s.directory.next_federate true) g f) (s.last_announced g)
      (upd_new s.known_epoch s.directory.next_federate s.epoch (λ _. s.epoch s.directory.next_federate) f g) g (stamps s g) (s.serial g) (upd_new s.wire s.directory.next_federate (λ _. []) (λ _. []) g f) (upd_new s.bound s.directory.next_federate s.last_announced (λ _. forever) f g)
  join_wires = by_number s.directory.next_federate _
      (λ f. rw (upd_new_here, upd_same) (λ e. absurd (cc)))
      (λ g ne. by_number s.directory.next_federate _
      (rw (upd_new_there, upd_new_here) (λ _. omega arith))
      (λ f ne2. rw (upd_new_else, upd_new_else, upd_new_else, upd_other, upd_other) (kept.time.wires g f)))

  join_bound : (g : ℕ) → s.directory.next_federate ≢ g → least s.directory.next_federate (s.bound g) ≤ least (s.directory.next_federate + 1) (upd_new s.bound s.directory.next_federate s.last_announced (λ _. forever) g)
  join_bound g ne = le_least (s.directory.next_federate + 1) _ _ (least_le-forever s.directory.next_federate (s.bound g))
      (by_number s.directory.next_federate _ (λ _. rw upd_new_there (least_le-forever s.directory.next_federate (s.bound g)))
      (λ k ne2 l. rw upd_new_else (least_le s.directory.next_federate (s.bound g) k (omega arith))))

  -- it is there, and is told nothing yet
  abbrev arrived : Components
  arrived = record s {
    directory = with_member s.directory name;
    row = upd s.row s.directory.next_federate new_row;
    wire = upd_new s.wire s.directory.next_federate (λ _. []) (λ _. []);
    bound = upd_new s.bound s.directory.next_federate s.last_announced (λ _. forever);
    known_epoch = upd_new s.known_epoch s.directory.next_federate s.epoch (λ _. s.epoch s.directory.next_federate);
  }

  join_time : IsTimed arrived
  join_time = record {
    queues = kept.time.queues;
    ordered = kept.time.ordered;
    ahead = by_number s.directory.next_federate _ (rw upd_same (λ e. absurd (cc))) (λ g ne. rw upd_other (kept.time.ahead g));
    wires = join_wires;
    epochs = by_number s.directory.next_federate _
        (by_number s.directory.next_federate _ (λ e. absurd (not_self s.directory.next_federate (and_parts _ _ e).0)) (λ f ne e. rw upd_new_there refl))
        (λ g ne. by_number s.directory.next_federate _ (λ e. rw upd_new_here refl) (λ f ne2 e. rw upd_new_else (kept.time.epochs g f (rw upd_other at e))));
    regulators = by_number s.directory.next_federate _ (λ e. rw upd_same refl) (λ g ne. rw (upd_other, upd_other) (kept.time.regulators g));
    promised = by_number s.directory.next_federate _ (rw upd_same (λ e. absurd (cc)))
        (λ g ne. rw upd_other (λ r. le_trans (kept.time.promised g r) (fresh_in-mono (s.row g) (next_request (s.row g)) _ _ _ _ (omega arith) (omega (arith, join_bound g ne)))));
    bars = by_number s.directory.next_federate _ (rw upd_same (λ e. absurd (cc))) (λ g ne. rw upd_other (λ c. le_trans (kept.time.bars g c) (join_bound g ne)));
    rows = upd_each s.row s.directory.next_federate new_row (λ _ x. RowInv x) row_start (λ g _. kept.time.rows g);
  }

  join_wired : IsWired (with_member s.directory name) (upd_new s.wire s.directory.next_federate (λ _. []) (λ _. []))
  join_wired g f off = same_wires g f ∙ kept.wired g f (⊎_elim
      (λ (y : is_wire s.directory g f ≡ true). absurd (let p = and_parts _ _ y in let q = and_parts _ _ p.1 in
      let l : g < s.directory.next_federate = ltb-true _ _ p.0 in
      let j = upd_each s.directory.joined s.directory.next_federate true (λ k x. s.directory.joined k ≡ true → x ≡ true) (λ _. refl) (λ _ _ e. e) f q.1 in
      let w : is_wire (with_member s.directory name) g f ≡ true = and_from _ _ (lt-ltb g (s.directory.next_federate + 1) (omega arith)) (and_from _ _ q.0 j) in cc))
      (λ (n : is_wire s.directory g f ≡ false). n)
      (cases_Bool (is_wire s.directory g f)))

  kept_arrived : Kept arrived
  kept_arrived = record {
    directory = directory_joined s.directory name kept.directory;
    wired = join_wired;
    time = join_time;
    copies = copies_wires s _ (λ g f. ap events (same_wires g f)) kept.copies;
    objects = objects_shift s.directory (with_member s.directory name) s.wire _ s.tso s.ro s.controls (grows_joined s.directory name)
        (λ g f. rw (same_wires g f) (tells_grows s.directory (with_member s.directory name) g f (s.wire g f) (grows_joined s.directory name) (kept.objects.tells g f)))
        (λ g f x _ b. rw (same_wires g f) b) kept.objects;
  }

  central_arrived : central arrived ≡ (let c = central s in record c { directory = with_member c.directory name; row = upd c.row c.directory.next_federate new_row })
  central_arrived = central_ext _ _ refl refl refl refl (bag_same_wires s (upd_new s.wire s.directory.next_federate (λ _. []) (λ _. [])) (λ g f. ap events (same_wires g f)))
      (λ g f. ap (λ ms. discoveries_from g (s.controls f) ++ discoveries ms) (same_wires g f)) (λ g m f. ap (retractions m) (same_wires g f)) (λ _ _ _. refl) (λ _. refl)

  pub step_join : refusal (components_seen s) (Join name) ≡ None → IsKeptStep s (Join name) (step_outcome s (Join name))
  step_join none = record {
    kept = notices_kept arrived (joining_notices s.directory) kept_arrived;
    allowed = (none, refl);
    follows = central_notices arrived (joining_notices s.directory) ∙ ap (λ (c : Central). with_told c (joining_notices s.directory)) central_arrived;
  }
