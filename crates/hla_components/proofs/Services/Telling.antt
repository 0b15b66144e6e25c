-- Synchronization points: registered, achieved and told
use Rattle.std.proofs.Common.{◌≡◌, ℕ, refl, ap, ◌∙◌, ⊎_elim, true, false, eqb, List, [], ◌∷◌, ◌++◌, map, None}
use Rattle.std.proofs.lemmas.Bool.{cases_Bool}
use Rattle.hla_base.specs.declared.content.Discovery.{Discovery}
use Rattle.hla_base.specs.declared.notice.Notice.{Notice}
use Rattle.hla_base.specs.declared.number.EventHandle.{EventHandle}
use Rattle.hla_base.specs.declared.notice.NoticeKind.{NoticeKind}
use Rattle.hla_base.specs.declared.notice.NoticeKind.TheVariants as kind
use Rattle.hla_base.specs.Tables.{upd}
use Rattle.hla_base.proofs.Tables.{by_number, upd_same, upd_other}
use Rattle.hla_synchronization.specs.Points.{Point, notice, points_after_notice}
use Rattle.hla_machine.specs.declared.service.Service.TheVariants as service
use Rattle.hla_machine.specs.declared.step.Choice.{Choice}
use Rattle.hla_machine.specs.declared.step.Choice.TheVariants as choice
use Rattle.hla_machine.specs.declared.step.Step.TheVariants.{Call, Tick}
use Rattle.hla_machine.specs.Directory.{Directory, with_points, with_point_registered, registration_notices, with_point_achieved, with_points_left, closing_notices}
use Rattle.hla_machine.specs.Central.{Central}
use Rattle.hla_machine.specs.Callbacks.{IsNextNotice, MayBeGiven, after_notice, after_pick}
use Rattle.hla_machine.specs.Machine.{with_told, with_points_closed}
use Rattle.hla_machine.specs.Refusals.{refusal}
use Rattle.hla_component_rules.specs.declared.control.Control.{Control}
use Rattle.hla_component_rules.specs.declared.control.Control.TheVariants.{ToDiscover, ToRetract, ToTell}
use Rattle.hla_null_message.specs.Wires.{discoveries}
use Rattle.hla_component_rules.specs.Controls.{discoveries_from, dues, notices_in}
use Rattle.hla_components.specs.Components.{Components}
use Rattle.hla_component_rules.specs.Picking.{PickControl}
use Rattle.hla_components.specs.Next.{components_seen, step_outcome, pick_outcome, notice_callback, with_directory, with_notices, with_complete_closed}
use Rattle.hla_components.specs.CentralOf.{central}
use Rattle.hla_components.specs.Invariant.{EachOf, IsControl, Kept}
use Rattle.hla_components.specs.Headline.{IsKeptStep}
use Rattle.hla_components.proofs.Basics.Each.{EachOf-append}
use Rattle.hla_components.proofs.Upkeep.Objects.{objects_grow, objects_controls}
use Rattle.hla_components.proofs.Upkeep.Directories.{directory_pointed, grows_pointed}
use Rattle.hla_machine.proofs.Basics.Bags.{central_ext}

-- ---- notices among the controls
from-tell : (g : ℕ) (n : Notice) (ks : List Control) → discoveries_from g (ToTell n ∷ ks) ≡ discoveries_from g ks
unfolding discoveries_from
from-tell g n ks = refl

dues-tell : (g m : ℕ) (n : Notice) (ks : List Control) → dues g m (ToTell n ∷ ks) ≡ dues g m ks
unfolding dues
dues-tell g m n ks = refl

pub notices-tell : (n : Notice) (ks : List Control) → notices_in (ToTell n ∷ ks) ≡ n ∷ notices_in ks
unfolding notices_in
notices-tell n ks = refl

pub notices-nil : notices_in [] ≡ []
unfolding notices_in
notices-nil = refl

-- those that are put behind are no discoveries and no requests
from-told : (g : ℕ) (ks : List Control) (ns : List Notice) → discoveries_from g (ks ++ map ToTell ns) ≡ discoveries_from g ks
unfolding discoveries_from
from-told g [] [] = refl
from-told g [] (n ∷ ns) = from-told g [] ns
from-told g (ToRetract e ∷ ks) ns = from-told g ks ns
from-told g (ToTell n ∷ ks) ns = from-told g ks ns
from-told g (ToDiscover h d ∷ ks) ns = ⊎_elim
    (λ (y : eqb g h ≡ true). rw y (ap (λ ds. d ∷ ds) (from-told g ks ns)))
    (λ (n : eqb g h ≡ false). rw n (from-told g ks ns))
    (cases_Bool (eqb g h))

dues-told : (g m : ℕ) (ks : List Control) (ns : List Notice) → dues g m (ks ++ map ToTell ns) ≡ dues g m ks
unfolding dues
dues-told g m [] [] = refl
dues-told g m [] (n ∷ ns) = dues-told g m [] ns
dues-told g m (ToRetract e ∷ ks) ns = rw (dues-told g m ks ns) refl
dues-told g m (ToTell n ∷ ks) ns = dues-told g m ks ns
dues-told g m (ToDiscover h d ∷ ks) ns = dues-told g m ks ns

notices-told : (ks : List Control) (ns : List Notice) → notices_in (ks ++ map ToTell ns) ≡ notices_in ks ++ ns
unfolding notices_in
notices-told [] [] = refl
notices-told [] (n ∷ ns) = ap (λ xs. n ∷ xs) (notices-told [] ns)
notices-told (ToRetract e ∷ ks) ns = notices-told ks ns
notices-told (ToTell n ∷ ks) ns = ap (λ xs. n ∷ xs) (notices-told ks ns)
notices-told (ToDiscover h d ∷ ks) ns = notices-told ks ns

-- other controls are no notices, at the front or behind
pub notices-retract : (e : EventHandle) (ks : List Control) → notices_in (ToRetract e ∷ ks) ≡ notices_in ks
unfolding notices_in
notices-retract e ks = refl

pub notices-discover : (h : ℕ) (d : Discovery) (ks : List Control) → notices_in (ToDiscover h d ∷ ks) ≡ notices_in ks
unfolding notices_in
notices-discover h d ks = refl

pub notices-put_retract : (ks : List Control) (e : EventHandle) → notices_in (ks ++ (ToRetract e ∷ [])) ≡ notices_in ks
unfolding notices_in
notices-put_retract [] e = refl
notices-put_retract (ToRetract x ∷ ks) e = notices-put_retract ks e
notices-put_retract (ToTell n ∷ ks) e = ap (λ xs. n ∷ xs) (notices-put_retract ks e)
notices-put_retract (ToDiscover h d ∷ ks) e = notices-put_retract ks e

pub notices-put_discover : (ks : List Control) (h : ℕ) (d : Discovery) → notices_in (ks ++ (ToDiscover h d ∷ [])) ≡ notices_in ks
unfolding notices_in
notices-put_discover [] h d = refl
notices-put_discover (ToRetract x ∷ ks) h d = notices-put_discover ks h d
notices-put_discover (ToTell n ∷ ks) h d = ap (λ xs. n ∷ xs) (notices-put_discover ks h d)
notices-put_discover (ToDiscover g x ∷ ks) h d = notices-put_discover ks h d

-- ---- what is kept
each_told : (d : Directory) (f : ℕ) (ns : List Notice) → EachOf (IsControl d f) (map ToTell ns)
each_told d f [] = tt
each_told d f (n ∷ ns) = (tt, each_told d f ns)

pub notices_kept : (s : Components) (more : ℕ → List Notice) → Kept s → Kept (with_notices s more)
notices_kept s more kept = record {
  directory = kept.directory;
  wired = kept.wired;
  time = kept.time;
  copies = kept.copies;
  objects = record {
    tells = kept.objects.tells;
    ordered = kept.objects.ordered;
    plain = kept.objects.plain;
    due = λ f. EachOf-append (IsControl s.directory f) (s.controls f) (map ToTell (more f)) (kept.objects.due f) (each_told s.directory f (more f));
  };
}

pub points_kept : (s : Components) (points : List Point) → Kept s → Kept (with_directory s (with_points s.directory points))
points_kept s points kept = record {
  directory = directory_pointed s.directory points kept.directory;
  wired = kept.wired;
  time = kept.time;
  copies = kept.copies;
  objects = objects_grow s.directory (with_points s.directory points) s.wire s.tso s.ro s.controls (grows_pointed s.directory points) kept.objects;
}

pub closed_kept : (s : Components) → Kept s → Kept (with_complete_closed s)
closed_kept s kept = notices_kept (with_directory s (with_points_left s.directory)) (closing_notices s.directory) (points_kept s (with_points_left s.directory).points kept)

-- ---- the central state
pub central_notices : (s : Components) (more : ℕ → List Notice) → central (with_notices s more) ≡ with_told (central s) more
central_notices s more = central_ext _ _ refl refl refl refl refl
    (λ g f. ap (λ ds. ds ++ discoveries (s.wire g f)) (from-told g (s.controls f) (more f)))
    (λ _ _ _. refl)
    (λ g m f. dues-told g m (s.controls f) (more f))
    (λ f. notices-told (s.controls f) (more f))

pub central_closed : (s : Components) → central (with_complete_closed s) ≡ with_points_closed (central s)
central_closed s = central_notices (with_directory s (with_points_left s.directory)) (closing_notices s.directory)

-- ---- services
module _ (s : Components) (f : ℕ) (label : List ℕ) (kept : Kept s) where
  pub step_register_point : refusal (components_seen s) (Call f (service.RegisterFederationSynchronizationPoint label)) ≡ None
      → IsKeptStep s (Call f (service.RegisterFederationSynchronizationPoint label)) (step_outcome s (Call f (service.RegisterFederationSynchronizationPoint label)))
  step_register_point none =
      let d = with_point_registered s.directory label in
      record {
        kept = notices_kept (with_directory s d) (registration_notices s.directory f label) (points_kept s d.points kept);
        allowed = (none, tt);
        follows = central_notices (with_directory s d) (registration_notices s.directory f label);
      }

  pub step_achieve_point : refusal (components_seen s) (Call f (service.SynchronizationPointAchieved label)) ≡ None
      → IsKeptStep s (Call f (service.SynchronizationPointAchieved label)) (step_outcome s (Call f (service.SynchronizationPointAchieved label)))
  step_achieve_point none =
      let d = with_point_achieved s.directory f label in
      record {
        kept = closed_kept (with_directory s d) (points_kept s d.points kept);
        allowed = (none, tt);
        follows = central_closed (with_directory s d);
      }

-- ---- a tick
may_tell : (c : Central) (f : ℕ) (k : NoticeKind) (label : List ℕ) (o : Choice) → IsNextNotice (c.notices f) (notice k label) → MayBeGiven c f (notice_callback k label) o
may_tell c f kind.RegistrationSucceeded label o first = (first, tt)
may_tell c f kind.RegistrationFailed label o first = (first, tt)
may_tell c f kind.Announced label o first = (first, tt)
may_tell c f kind.Synchronized label o first = (first, tt)

after_tell : (c : Central) (f : ℕ) (k : NoticeKind) (label : List ℕ) (o : Choice) → after_notice c f (notice k label) ≡ after_pick c f (notice_callback k label) o
after_tell c f kind.RegistrationSucceeded label o = refl
after_tell c f kind.RegistrationFailed label o = refl
after_tell c f kind.Announced label o = refl
after_tell c f kind.Synchronized label o = refl

pub step_tell : (s : Components) (f : ℕ) (rest : List Control) (n : Notice) → Kept s → s.controls f ≡ ToTell n ∷ rest → refusal (components_seen s) (Tick f) ≡ None
    → IsKeptStep s (Tick f) (pick_outcome s f (PickControl (ToTell n) rest))
step_tell s f rest n kept front none = record {
  kept = points_kept (record s { controls = upd s.controls f rest }) (points_after_notice f n s.directory.points) (record {
    directory = kept.directory;
    wired = kept.wired;
    time = kept.time;
    copies = kept.copies;
    objects = objects_controls s.directory s.wire s.tso s.ro s.controls f rest (let at : EachOf (IsControl s.directory f) (ToTell n ∷ rest) = rw front at (kept.objects.due f) in at.1) kept.objects;
  });
  allowed = (none, may_tell (central s) f n.kind n.label choice.None (rw (front, notices-tell) refl));
  follows = central_ext _ (after_notice (central s) f n) refl refl refl refl refl
      (λ g. by_number f _ (rw (upd_same, front, from-tell) refl) (λ k ne. rw upd_other refl))
      (λ _ _ _. refl)
      (λ g m. by_number f _ (rw (upd_same, front, dues-tell) refl) (λ k ne. rw upd_other refl))
      (by_number f _ (rw (upd_same, upd_same, front, notices-tell) refl) (λ k ne. rw (upd_other, upd_other) refl))
      ∙ after_tell (central s) f n.kind n.label choice.None;
}
