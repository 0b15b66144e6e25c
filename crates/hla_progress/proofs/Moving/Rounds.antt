-- What a step of rounds does to the machine's state: no copy comes, and at most one row changes
use Rattle.std.proofs.Common.{◌≡◌, ◌≢◌, ℕ, ◌≤◌, cond, true, false, refl, sym, ◌∙◌, subst, ⊎_elim, ne_eqb, List, Some, None, option_map}
use Rattle.std.proofs.lemmas.Bool.{cond_both}
use Rattle.hla_base.specs.declared.number.EventHandle.{EventHandle}
use Rattle.hla_base.specs.declared.content.Content.{Content}
use Rattle.hla_base.specs.declared.content.Content.TheVariants as content
use Rattle.hla_base.specs.declared.row.AdvanceRequest.{AdvanceRequest}
use Rattle.hla_base.specs.declared.row.Role.{Role}
use Rattle.hla_base.specs.declared.row.Role.TheVariants.{Disabled, Pending, Enabled}
use Rattle.hla_base.specs.declared.row.TimeRow.{TimeRow}
use Rattle.hla_base.specs.Tables.{upd}
use Rattle.hla_base.specs.Rows.{is_constrained, is_enabled, is_disabled, is_pending, row_after_regulation_enabled, row_after_constraint_enabled, row_after_pick, row_after_grant}
use Rattle.hla_callbacks.specs.declared.callback.Callback.{Callback}
use Rattle.hla_callbacks.specs.declared.callback.Callback.TheVariants as callback
use Rattle.hla_callbacks.specs.declared.callback.Delivery.{Delivery}
use Rattle.hla_callbacks.specs.declared.callback.Delivery.TheVariants as delivery
use Rattle.hla_machine.specs.declared.step.Step.{Step}
use Rattle.hla_machine.specs.declared.step.Step.TheVariants.{Join, Call, Carry, Announce, Tick}
use Rattle.hla_machine.specs.declared.step.Carried.{Carried}
use Rattle.hla_machine.specs.declared.step.Carried.TheVariants as carried
use Rattle.hla_machine.specs.declared.step.Answer.{Answer}
use Rattle.hla_machine.specs.declared.step.Answer.TheVariants as answer
use Rattle.hla_machine.specs.declared.step.Outcome.{Outcome}
use Rattle.hla_machine.specs.declared.step.Outcome.TheVariants as outcome
use Rattle.hla_machine.specs.declared.step.Choice.{Choice}
use Rattle.hla_machine.specs.declared.step.Choice.TheVariants as choice
use Rattle.hla_machine.specs.Central.{Central, Copy, Ro, Tso, Demoted, at_key, demoted_copy}
use Rattle.hla_machine.specs.Callbacks.{IsCopy, MayPickIn, MayDeliver, MayPickUp, MayGrant, MayConstrain, with_demoted, row_after, after_delivery, after_constraint, after_pick}
use Rattle.hla_machine.specs.Machine.{MayCarry, MayDo, MayEnd, after_carry, after_done, after}
use Rattle.hla_machine.proofs.Upkeep.Keeps.{Bag, NoMore, fewer_removed, fewer_demoted, fewer_moved}
use Rattle.hla_machine.proofs.Upkeep.Runs.{row_after_is}
use Rattle.hla_machine.proofs.Copies.Fates.{Owing, at_cases}
use Rattle.hla_progress.specs.Rounds.{IsOfRounds}

-- how a row comes out of its federate's tick
pub data Move (c : Central) (h : ℕ) (r : TimeRow) : Type 0 where
  Regulates : is_pending (c.row h).regulating ≡ true → r ≡ row_after_regulation_enabled (c.row h) → Move c h r
  Constrains : is_pending (c.row h).constrained ≡ true → r ≡ row_after_constraint_enabled (c.row h) → Move c h r
  TakesEvent : (q : AdvanceRequest) (e : EventHandle) (s : ℕ) (x : Content) → (c.row h).advance ≡ Some q → is_constrained (c.row h) ≡ true → IsCopy c h e (record { order = Tso; stamp = s; content = x }) → MayPickIn c h q e s
      → r ≡ row_after_pick (c.row h) q s → Move c h r
  TakesGrant : (q : AdvanceRequest) (t : ℕ) → (c.row h).advance ≡ Some q → MayGrant c h t q → r ≡ row_after_grant (c.row h) q t → Move c h r

-- no unretracted copy in time-stamp order goes that is for f
abbrev pub NoneGoes : Central → Bag → ℕ → Type 0
NoneGoes c to f = (g m : ℕ) (k : Copy) → c.bag g m f ≡ Some k → (c.sent g m).retracted ≡ false → k.order ≡ Tso → to g m f ≡ Some k

-- none goes that is for a constrained federate, but for those of the one whose row changes
pub data MovesOne (c d : Central) : Type 0 where
  NoRow : d.row ≡ c.row → ((f : ℕ) → is_constrained (c.row f) ≡ true → NoneGoes c d.bag f) → MovesOne c d
  OneRow : (h : ℕ) (r : TimeRow) → d.row ≡ upd c.row h r → Move c h r → ((f : ℕ) → h ≢ f → is_constrained (c.row f) ≡ true → NoneGoes c d.bag f) → MovesOne c d

pub record RoundStep (c d : Central) : Type 0 where
  pub sent : d.sent ≡ c.sent
  pub fewer : NoMore d.bag c.bag
  pub moves : MovesOne c d

-- an announcement or a carry
abbrev pub IsNoTick : Step → Type 0
IsNoTick (Join name) = ⊥
IsNoTick (Call f service) = ⊥
IsNoTick (Carry from to) = Unit {0}
IsNoTick (Announce f) = Unit {0}
IsNoTick (Tick f) = ⊥

same_copies : (bag : Bag) → NoMore bag bag
same_copies bag g m f k is tso = is

enabled_alone : (r : Role) → is_enabled r ≡ true → is_disabled r ≡ true → ⊥
enabled_alone Disabled e d = cc
enabled_alone Pending e d = cc
enabled_alone Enabled e d = cc

enabled_now : (r : Role) → is_enabled r ≡ true → is_pending r ≡ true → ⊥
enabled_now Disabled e d = cc
enabled_now Pending e d = cc
enabled_now Enabled e d = cc

module _ (c : Central) where
  -- ---- what stays
  stays : (f : ℕ) → NoneGoes c c.bag f
  stays f g m k is live tso = is

  quiet : RoundStep c c
  quiet = record { sent = refl; fewer = same_copies c.bag; moves = NoRow refl (λ f con. stays f) }

  arrived : (a b n f : ℕ) → is_constrained (c.row f) ≡ true → is_disabled (c.row b).constrained ≡ true → NoneGoes c (at_key c.bag a n b (option_map demoted_copy (c.bag a n b))) f
  arrived a b n f con off g m k is live tso = ⊎_elim
      (λ (y : (a ≡ g) × (n ≡ m) × (b ≡ f) × (at_key c.bag a n b (option_map demoted_copy (c.bag a n b)) g m f ≡ option_map demoted_copy (c.bag a n b))).
      absurd (enabled_alone (c.row f).constrained con (subst (λ j. is_disabled (c.row j).constrained ≡ true) y.2 off)))
      (λ (e : at_key c.bag a n b (option_map demoted_copy (c.bag a n b)) g m f ≡ c.bag g m f). e ∙ is)
      (at_cases c.bag a n b (option_map demoted_copy (c.bag a n b)) g m f)

  taken_back : (a b n f : ℕ) → Owing c.sent c.owed → 1 ≤ c.owed a n b → NoneGoes c (at_key c.bag a n b None) f
  taken_back a b n f owing owed g m k is live tso = ⊎_elim
      (λ (y : (a ≡ g) × (n ≡ m) × (b ≡ f) × (at_key c.bag a n b None g m f ≡ None)).
      let r : (c.sent g m).retracted ≡ true = subst (λ n. (c.sent g n).retracted ≡ true) y.1 (subst (λ a. (c.sent a n).retracted ≡ true) y.0 (owing a n b owed)) in absurd (cc))
      (λ (e : at_key c.bag a n b None g m f ≡ c.bag g m f). e ∙ is)
      (at_cases c.bag a n b None g m f)

  -- what goes is for another, or not in time-stamp order
  given : (h : ℕ) (e : EventHandle) (f : ℕ) → (h ≡ f → (x : Copy) × IsCopy c h e x × (x.order ≡ Tso → ⊥)) → NoneGoes c (at_key c.bag e.sender e.serial h None) f
  given h e f other g m k is live tso = ⊎_elim
      (λ (y : (e.sender ≡ g) × (e.serial ≡ m) × (h ≡ f) × (at_key c.bag e.sender e.serial h None g m f ≡ None)).
      let w = other y.2 in
      let at : c.bag g m f ≡ Some w.0 = subst (λ h. c.bag g m h ≡ Some w.0) y.2 (subst (λ n. c.bag g n h ≡ Some w.0) y.1 (subst (λ a. c.bag a e.serial h ≡ Some w.0) y.0 w.1)) in
      let both : Some w.0 ≡ Some k = sym at ∙ is in let same : w.0 ≡ k = cc in
      absurd (w.2 (subst (λ (x : Copy). x.order ≡ Tso) (sym same) tso)))
      (λ (n : at_key c.bag e.sender e.serial h None g m f ≡ c.bag g m f). n ∙ is)
      (at_cases c.bag e.sender e.serial h None g m f)

  demoted : (h : ℕ) (events : List EventHandle) (f : ℕ) → h ≢ f → NoneGoes c (with_demoted c.bag h events) f
  unfolding with_demoted
  demoted h events f ne g m k is live tso = rw (ne_eqb h f ne) is

  -- ---- steps
  arrival_goes : (g f m l : ℕ) → is_constrained (c.row l) ≡ true → NoneGoes c (cond (is_disabled (c.row f).constrained) (at_key c.bag g m f (option_map demoted_copy (c.bag g m f))) c.bag) l
  arrival_goes g f m l con = cond_both (is_disabled (c.row f).constrained) (at_key c.bag g m f (option_map demoted_copy (c.bag g m f))) c.bag (λ b. NoneGoes c b l) (λ off. arrived g f m l con off) (λ _. stays l)

  arrival : (g f m : ℕ) → RoundStep c (record c { bag = cond (is_disabled (c.row f).constrained) (at_key c.bag g m f (option_map demoted_copy (c.bag g m f))) c.bag })
  arrival g f m = record {
    sent = refl;
    fewer = cond_both (is_disabled (c.row f).constrained) (at_key c.bag g m f (option_map demoted_copy (c.bag g m f))) c.bag (λ b. NoMore b c.bag) (λ _. fewer_demoted c.bag g m f) (λ _. same_copies c.bag);
    moves = NoRow refl (arrival_goes g f m);
  }

  carry_moves : (g f : ℕ) (x : Carried) → Owing c.sent c.owed → MayCarry c g f x → RoundStep c (after_carry c g f x)
  carry_moves g f (carried.Event e) owing may = arrival g f e.serial
  carry_moves g f (carried.Removal e) owing may = arrival g f e.serial
  carry_moves g f (carried.Retraction e) owing may = record { sent = refl; fewer = fewer_removed c.bag g e.serial f; moves = NoRow refl (λ l con. taken_back g f e.serial l owing may.1) }
  carry_moves g f carried.Nothing owing may = quiet
  carry_moves g f (carried.Null bound) owing may = quiet
  carry_moves g f (carried.Discovery object) owing may = quiet

  carry_goes : (g f : ℕ) (x : Carried) → Owing c.sent c.owed → MayCarry c g f x → (l : ℕ) → is_constrained (c.row l) ≡ true → NoneGoes c (after_carry c g f x).bag l
  carry_goes g f (carried.Event e) owing may l con = arrival_goes g f e.serial l con
  carry_goes g f (carried.Removal e) owing may l con = arrival_goes g f e.serial l con
  carry_goes g f (carried.Retraction e) owing may l con = taken_back g f e.serial l owing may.1
  carry_goes g f carried.Nothing owing may l con = stays l
  carry_goes g f (carried.Null bound) owing may l con = stays l
  carry_goes g f (carried.Discovery object) owing may l con = stays l

  row_moves : (h : ℕ) (r : TimeRow) → Move c h r → RoundStep c (record c { row = upd c.row h r })
  row_moves h r move = record { sent = refl; fewer = same_copies c.bag; moves = OneRow h r refl move (λ f ne con. stays f) }

  deliver_moves : (h : ℕ) (x : Content) (e : EventHandle) (d : Delivery) → MayDeliver c h x e d → RoundStep c (after_delivery c h e d)
  deliver_moves h x e delivery.Receive may = record { sent = refl; fewer = fewer_removed c.bag e.sender e.serial h; moves = NoRow refl (λ f con. given h e f (λ _. (record { order = Ro; stamp = 0; content = x }, may.2, λ t. cc))) }
  deliver_moves h x e (delivery.Demoted s) may = record { sent = refl; fewer = fewer_removed c.bag e.sender e.serial h; moves = NoRow refl (λ f con. given h e f (λ _. (record { order = Demoted; stamp = s; content = x }, may.2, λ t. cc))) }
  deliver_moves h x e (delivery.TimeStamp s) may = let w = may.3 in record {
    sent = refl;
    fewer = fewer_removed c.bag e.sender e.serial h;
    moves = OneRow h (row_after (c.row h) (c.row h).advance (λ q. row_after_pick (c.row h) q s)) refl (TakesEvent w.0 e s x w.1 may.0 may.2 w.2 (row_after_is (c.row h) (c.row h).advance w.0 (λ q. row_after_pick (c.row h) q s) w.1)) (λ f ne con. given h e f (λ same. absurd (ne same)));
  }

  constraint_moves : (h t : ℕ) (o : Choice) → MayConstrain c h t o → RoundStep c (after_constraint c h o)
  constraint_moves h t (choice.Moved events) may = record { sent = refl; fewer = fewer_moved c.bag h events; moves = OneRow h (row_after_constraint_enabled (c.row h)) refl (Constrains may.1 refl) (λ f ne con. demoted h events f ne) }
  constraint_moves h t o may = absurd may

  pick_moves : (h : ℕ) (x : Callback) (o : Choice) → MayPickUp c h x o → RoundStep c (after_pick c h x o)
  pick_moves h (callback.DiscoverObjectInstance object class name) o may = record { sent = refl; fewer = same_copies c.bag; moves = NoRow refl (λ f con. stays f) }
  pick_moves h (callback.ReflectAttributeValues object values event d) o may = deliver_moves h (content.Reflection object values) event d may
  pick_moves h (callback.ReceiveInteraction class values event d) o may = deliver_moves h (content.Interaction class values) event d may
  pick_moves h (callback.RemoveObjectInstance object event d) o may = deliver_moves h (content.Removal object) event d may
  pick_moves h (callback.TimeRegulationEnabled time) o may = row_moves h (row_after_regulation_enabled (c.row h)) (Regulates may.0 refl)
  pick_moves h (callback.TimeConstrainedEnabled time) o may = constraint_moves h time o may
  pick_moves h (callback.TimeAdvanceGrant time) o may = row_moves h (row_after (c.row h) (c.row h).advance (λ q. row_after_grant (c.row h) q time))
      (TakesGrant may.0 time may.1 may.2 (row_after_is (c.row h) (c.row h).advance may.0 (λ q. row_after_grant (c.row h) q time) may.1))
  pick_moves h (callback.RequestRetraction event) o may = record { sent = refl; fewer = same_copies c.bag; moves = NoRow refl (λ f con. stays f) }
  pick_moves h (callback.SynchronizationPointRegistrationSucceeded label) o may = record { sent = refl; fewer = same_copies c.bag; moves = NoRow refl (λ f con. stays f) }
  pick_moves h (callback.SynchronizationPointRegistrationFailed label) o may = record { sent = refl; fewer = same_copies c.bag; moves = NoRow refl (λ f con. stays f) }
  pick_moves h (callback.AnnounceSynchronizationPoint label) o may = record { sent = refl; fewer = same_copies c.bag; moves = NoRow refl (λ f con. stays f) }
  pick_moves h (callback.FederationSynchronized label) o may = record { sent = refl; fewer = same_copies c.bag; moves = NoRow refl (λ f con. stays f) }

  done_moves : (step : Step) (a : Answer) (o : Choice) → Owing c.sent c.owed → IsOfRounds step → MayDo c step a o → RoundStep c (after_done c step a o)
  done_moves (Join name) a o owing of may = absurd of
  done_moves (Call f s) a o owing of may = absurd of
  done_moves (Carry g f) (answer.Carried x) o owing of may = carry_moves g f x owing may
  done_moves (Tick f) (answer.Ticked (Some x)) o owing of may = pick_moves f x o may.0
  done_moves step a o owing of may = quiet

  pub round_step : (step : Step) (out : Outcome) (o : Choice) → Owing c.sent c.owed → IsOfRounds step → MayEnd c step out o → RoundStep c (after c step out o)
  round_step step (outcome.Done a) o owing of may = done_moves step a o owing of may.1
  round_step (Tick f) (outcome.Failed x) o owing of may = pick_moves f x o may.1.0
  round_step step out o owing of may = quiet

  -- what is announced and carried takes no unretracted copy from a constrained federate
  done_goes : (step : Step) (a : Answer) (o : Choice) → Owing c.sent c.owed → IsNoTick step → MayDo c step a o → (l : ℕ) → is_constrained (c.row l) ≡ true → NoneGoes c (after_done c step a o).bag l
  done_goes (Join name) a o owing of may = absurd of
  done_goes (Call f s) a o owing of may = absurd of
  done_goes (Carry g f) (answer.Carried x) o owing of may = carry_goes g f x owing may
  done_goes (Tick f) a o owing of may = absurd of
  done_goes step a o owing of may = λ l con. stays l

  pub none_goes : (step : Step) (out : Outcome) (o : Choice) → Owing c.sent c.owed → IsNoTick step → MayEnd c step out o → (l : ℕ) → is_constrained (c.row l) ≡ true → NoneGoes c (after c step out o).bag l
  none_goes step (outcome.Done a) o owing of may = done_goes step a o owing of may.1
  none_goes (Tick f) (outcome.Failed x) o owing of may = absurd of
  none_goes step out o owing of may = λ l con. stays l
