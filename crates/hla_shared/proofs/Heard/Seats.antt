-- How a joining and a resigning change the ears.
use Rattle.std.proofs.Common.{◌≡◌, ◌≢◌, ℕ, zero, suc, ◌<◌, ◌+◌, eqb, cond, Bool, true, false, List, [], ◌∷◌, ◌++◌, length, Option, Some, None, is_some, set, get_or, refl, sym, ◌∙◌, ap, ⊎_elim, arith}
use Rattle.std.specs.Prelude.{slice_get}
use Rattle.std.proofs.lemmas.Bool.Decides.{nat_tests}
use Rattle.std.proofs.Math.ListN.{length-map}
use Rattle.std.proofs.Math.Seq.{get_or-append_seam}
use Rattle.hla_base.specs.Tables.{upd}
use Rattle.hla_callbacks.specs.declared.callback.Callback.{Callback}
use Rattle.hla_callbacks.specs.Hearing.{Hearing}
use Rattle.hla_machine.specs.declared.service.Service.TheVariants as service
use Rattle.hla_machine.specs.declared.service.ResignAction.{ResignAction}
use Rattle.hla_machine.specs.declared.step.Step.TheVariants.{Join, Call}
use Rattle.hla_machine.specs.declared.step.Answer.TheVariants as answer
use Rattle.hla_machine.specs.declared.step.Outcome.{Outcome}
use Rattle.hla_machine.specs.declared.step.Outcome.TheVariants as outcome
use Rattle.hla_machine.specs.Directory.{Directory}
use Rattle.hla_components.specs.Components.{Components}
use Rattle.hla_components.specs.Next.{next}
use Rattle.hla_history.specs.Creating.{is_accepted}
use Rattle.hla_history.specs.Hosts.{table_after, host_after}
use Rattle.hla_history.specs.Hosting.{heard_of, heard_table, tags_of}
use Rattle.hla_history.specs.Tags.{tag_table, tag_table_after}
use Rattle.hla_shared.proofs.Heard.Ears.{table_set}
use Rattle.hla_shared.proofs.Heard.Hosting.{ear_at}
use Rattle.hla_shared.proofs.Steps.NextLaws.{join_cases, resign_cases, IsJoining, IsResigning, IsTurnedDown}

-- ---- one more ear
append_off : {X : Type 0} (hs : List (Option X)) (x : Option X) (g : ℕ) → length hs ≢ g → get_or (hs ++ x ∷ []) g None ≡ get_or hs g None
append_off [] x zero apart = absurd (apart refl)
append_off [] x (suc g) apart = refl
append_off (h ∷ hs) x zero apart = refl
append_off (h ∷ hs) x (suc g) apart = append_off hs x g (λ e. apart (ap (λ n. suc n) e))

append_point : {X : Type 0} (hs : List (Option X)) (x : X) (g : ℕ) (b : Bool) → eqb (length hs) g ≡ b → get_or (hs ++ Some x ∷ []) g None ≡ cond b (Some x) (get_or hs g None)
append_point hs x g true test =
    let same : length hs ≡ g = grind (arith, nat_tests) in
    ap (λ n. get_or (hs ++ Some x ∷ []) n None) (sym same) ∙ get_or-append_seam hs (Some x) [] None
append_point hs x g false test =
    append_off hs (Some x) g (λ e. (let p : eqb (length hs) g ≡ true = grind (arith, nat_tests) in cc))

-- the table with an ear more
pub table_grown : {X : Type 0} (hs : List (Option X)) (x : X) → (λ (g : ℕ). get_or (hs ++ Some x ∷ []) g None) ≡ upd (λ (g : ℕ). get_or hs g None) (length hs) (Some x)
unfolding upd
table_grown hs x = λ i g. append_point hs x g (eqb (length hs) g) refl i

some_within : (hs : List (Option (List Callback))) (f : ℕ) → is_some (get_or hs f None) ≡ true → f < length hs
some_within [] f is = absurd (let no : false ≡ true = is in cc)
some_within (h ∷ hs) zero is = omega arith
some_within (h ∷ hs) (suc f) is = omega (arith, some_within hs f is)

map_length : (ears : List (Option Hearing)) → length (heard_of ears) ≡ length ears
map_length ears = simp length-map

tag_length : (ears : List (Option Hearing)) → length (tags_of ears) ≡ length ears
tag_length ears = simp length-map

pub tags_length : (ears : List (Option Hearing)) (n : ℕ) → length ears ≡ n → length (tags_of ears) ≡ n
tags_length ears n is = tag_length ears ∙ is

pub heard_length : (ears : List (Option Hearing)) (n : ℕ) → length ears ≡ n → length (heard_of ears) ≡ n
heard_length ears n is = map_length ears ∙ is

-- ---- a joining
module _ (s s' : Components) (name : List ℕ) (out : Outcome) (made : out ≡ (next s (Join name)).outcome) (state : s' ≡ (next s (Join name)).state) where
  table_joins : (hs hs' : List (Option (List Callback))) → length hs ≡ s.directory.next_federate → hs' ≡ cond (is_accepted out) (hs ++ Some [] ∷ []) hs
      → heard_table hs' ≡ table_after (heard_table hs) (Join name) out
  table_joins hs hs' len after = ⊎_elim
      (λ (j : IsJoining s name).
      let is : out ≡ outcome.Done (answer.Federate s.directory.next_federate) = made ∙ j.outcome in
      ap heard_table (after ∙ ap (λ (o : Outcome). cond (is_accepted o) (hs ++ Some [] ∷ []) hs) is) ∙ table_grown hs []
      ∙ ap (λ n. upd (heard_table hs) n (Some [])) len ∙ sym (ap (λ (o : Outcome). table_after (heard_table hs) (Join name) o) is))
      (λ (down : IsTurnedDown s (Join name)).
      let is : out ≡ outcome.Refused down.fault = made ∙ down.outcome in
      ap heard_table (after ∙ ap (λ (o : Outcome). cond (is_accepted o) (hs ++ Some [] ∷ []) hs) is)
      ∙ sym (ap (λ (o : Outcome). table_after (heard_table hs) (Join name) o) is))
      (join_cases s name)

  pub host_joins : (hs hs' : List (Option (List Callback))) → length hs ≡ s.directory.next_federate → hs' ≡ cond (is_accepted out) (hs ++ Some [] ∷ []) hs
      → record { components = s'; heard = heard_table hs' } ≡ host_after (record { components = s; heard = heard_table hs }) (Join name) out
  host_joins hs hs' len after = let heard = table_joins hs hs' len after in λ i. record { components = state i; heard = heard i }

  pub tags_join : (ts ts' : List (Option ℕ)) (tag : ℕ) → length ts ≡ s.directory.next_federate → ts' ≡ cond (is_accepted out) (ts ++ Some tag ∷ []) ts
      → tag_table ts' ≡ tag_table_after (tag_table ts) (Join name) out (Some tag)
  tags_join ts ts' tag len after = ⊎_elim
      (λ (j : IsJoining s name).
      let is : out ≡ outcome.Done (answer.Federate s.directory.next_federate) = made ∙ j.outcome in
      ap tag_table (after ∙ ap (λ (o : Outcome). cond (is_accepted o) (ts ++ Some tag ∷ []) ts) is) ∙ table_grown ts tag
      ∙ ap (λ n. upd (tag_table ts) n (Some tag)) len ∙ sym (ap (λ (o : Outcome). tag_table_after (tag_table ts) (Join name) o (Some tag)) is))
      (λ (down : IsTurnedDown s (Join name)).
      let is : out ≡ outcome.Refused down.fault = made ∙ down.outcome in
      ap tag_table (after ∙ ap (λ (o : Outcome). cond (is_accepted o) (ts ++ Some tag ∷ []) ts) is)
      ∙ sym (ap (λ (o : Outcome). tag_table_after (tag_table ts) (Join name) o (Some tag)) is))
      (join_cases s name)

  pub len_joins : (l l' : ℕ) → l ≡ s.directory.next_federate → l' ≡ cond (is_accepted out) (l + 1) l → l' ≡ s'.directory.next_federate
  len_joins l l' len after = ⊎_elim
      (λ (j : IsJoining s name).
      let is : out ≡ outcome.Done (answer.Federate s.directory.next_federate) = made ∙ j.outcome in
      after ∙ ap (λ (o : Outcome). cond (is_accepted o) (l + 1) l) is ∙ ap (λ n. n + 1) len
      ∙ sym (ap (λ (d : Directory). d.next_federate) j.directory) ∙ sym (ap (λ (c : Components). c.directory.next_federate) state))
      (λ (down : IsTurnedDown s (Join name)).
      let is : out ≡ outcome.Refused down.fault = made ∙ down.outcome in
      after ∙ ap (λ (o : Outcome). cond (is_accepted o) (l + 1) l) is ∙ len
      ∙ sym (ap (λ (c : Components). c.directory.next_federate) down.state) ∙ sym (ap (λ (c : Components). c.directory.next_federate) state))
      (join_cases s name)

-- ---- a resigning
module _ (s s' : Components) (f : ℕ) (way : ResignAction) (out : Outcome) (made : out ≡ (next s (Call f (service.Resign way))).outcome) (state : s' ≡ (next s (Call f (service.Resign way))).state) where
  -- who resigned had an ear
  pub ear_resigns : (ears : List (Option Hearing)) → ((g : ℕ) → is_some (heard_table (heard_of ears) g) ≡ s.directory.joined g) → is_accepted out ≡ true
      → (e : Hearing) × (slice_get ears f ≡ Some (Some e))
  ear_resigns ears has accepted = ⊎_elim
      (λ (j : IsResigning s f way). ear_at ears f (has f ∙ j.member))
      (λ (down : IsTurnedDown s (Call f (service.Resign way))).
      let is : out ≡ outcome.Refused down.fault = made ∙ down.outcome in
      let clash : false ≡ true = sym (ap is_accepted is) ∙ accepted in absurd (cc))
      (resign_cases s f way)

  table_resigns : (hs hs' : List (Option (List Callback))) → ((g : ℕ) → is_some (heard_table hs g) ≡ s.directory.joined g) → hs' ≡ cond (is_accepted out) (set hs f None) hs
      → heard_table hs' ≡ table_after (heard_table hs) (Call f (service.Resign way)) out
  table_resigns hs hs' has after = ⊎_elim
      (λ (j : IsResigning s f way).
      let is : out ≡ outcome.Done answer.Done = made ∙ j.outcome in
      ap heard_table (after ∙ ap (λ (o : Outcome). cond (is_accepted o) (set hs f None) hs) is) ∙ table_set hs f None (some_within hs f (has f ∙ j.member))
      ∙ sym (ap (λ (o : Outcome). table_after (heard_table hs) (Call f (service.Resign way)) o) is))
      (λ (down : IsTurnedDown s (Call f (service.Resign way))).
      let is : out ≡ outcome.Refused down.fault = made ∙ down.outcome in
      ap heard_table (after ∙ ap (λ (o : Outcome). cond (is_accepted o) (set hs f None) hs) is)
      ∙ sym (ap (λ (o : Outcome). table_after (heard_table hs) (Call f (service.Resign way)) o) is))
      (resign_cases s f way)

  pub host_resigns : (hs hs' : List (Option (List Callback))) → ((g : ℕ) → is_some (heard_table hs g) ≡ s.directory.joined g) → hs' ≡ cond (is_accepted out) (set hs f None) hs
      → record { components = s'; heard = heard_table hs' } ≡ host_after (record { components = s; heard = heard_table hs }) (Call f (service.Resign way)) out
  host_resigns hs hs' has after = let heard = table_resigns hs hs' has after in λ i. record { components = state i; heard = heard i }

  pub tags_resign : (ears : List (Option Hearing)) (ts' : List (Option ℕ)) → ((g : ℕ) → is_some (heard_table (heard_of ears) g) ≡ s.directory.joined g)
      → ts' ≡ cond (is_accepted out) (set (tags_of ears) f None) (tags_of ears)
      → tag_table ts' ≡ tag_table_after (tag_table (tags_of ears)) (Call f (service.Resign way)) out None
  tags_resign ears ts' has after = ⊎_elim
      (λ (j : IsResigning s f way).
      let is : out ≡ outcome.Done answer.Done = made ∙ j.outcome in
      let within : f < length (tags_of ears) = omega (arith, some_within (heard_of ears) f (has f ∙ j.member), map_length ears, tag_length ears) in
      ap tag_table (after ∙ ap (λ (o : Outcome). cond (is_accepted o) (set (tags_of ears) f None) (tags_of ears)) is) ∙ table_set (tags_of ears) f None within
      ∙ sym (ap (λ (o : Outcome). tag_table_after (tag_table (tags_of ears)) (Call f (service.Resign way)) o None) is))
      (λ (down : IsTurnedDown s (Call f (service.Resign way))).
      let is : out ≡ outcome.Refused down.fault = made ∙ down.outcome in
      ap tag_table (after ∙ ap (λ (o : Outcome). cond (is_accepted o) (set (tags_of ears) f None) (tags_of ears)) is)
      ∙ sym (ap (λ (o : Outcome). tag_table_after (tag_table (tags_of ears)) (Call f (service.Resign way)) o None) is))
      (resign_cases s f way)

  pub len_resigns : (l l' : ℕ) → l ≡ s.directory.next_federate → l' ≡ l → l' ≡ s'.directory.next_federate
  len_resigns l l' len same = ⊎_elim
      (λ (j : IsResigning s f way). same ∙ len ∙ sym j.next ∙ sym (ap (λ (c : Components). c.directory.next_federate) state))
      (λ (down : IsTurnedDown s (Call f (service.Resign way))).
      same ∙ len ∙ sym (ap (λ (c : Components). c.directory.next_federate) down.state) ∙ sym (ap (λ (c : Components). c.directory.next_federate) state))
      (resign_cases s f way)
