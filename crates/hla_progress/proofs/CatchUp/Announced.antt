-- What announcements leave announced
use Rattle.std.proofs.Common.{◌≡◌, ◌≢◌, ℕ, zero, suc, ◌+◌, ◌≤◌, ◌<◌, ltb, ◌&&◌, true, false, refl, sym, ◌∙◌, subst, ⊎_elim, arith, eqb, List, [], ◌∷◌, length, Some, None}
use Rattle.std.proofs.lemmas.Bool.{cases_eq, cases_Bool, cond_both, and_from, ltb-false}
use Rattle.std.proofs.lemmas.List.{length-append}
use Rattle.hla_base.specs.Rows.{is_regulator}
use Rattle.hla_base.proofs.Tables.{upd_same, upd_other, upd_row_each, upd_row_other}
use Rattle.hla_null_message.specs.declared.message.Message.{Message}
use Rattle.hla_null_message.specs.declared.message.Message.TheVariants as message
use Rattle.hla_machine.specs.declared.step.Step.TheVariants.{Announce}
use Rattle.hla_machine.specs.declared.step.Answer.TheVariants as answer
use Rattle.hla_components.specs.Components.{Components}
use Rattle.hla_components.specs.Component.{promise}
use Rattle.hla_null_message.specs.Wires.{put_behind, without_last_null}
use Rattle.hla_components.specs.Next.{Outcomes, answer_outcome, next, announce_outcome, with_null_announced}
use Rattle.hla_components.specs.Headline.{state_after}
use Rattle.hla_components.proofs.Refinement.LedTo.{state_appended}
use Rattle.hla_progress.specs.Rounds.{announcements}

length-without : (k : ℕ) (ms : List Message) → length (without_last_null k ms) ≤ length ms
length-without k [] = omega arith
length-without k (message.Event e ∷ ms) = omega (arith, length-without k ms)
length-without k (message.Null j v ∷ []) = cond_both (eqb j k) [] (message.Null j v ∷ []) (λ ms. length ms ≤ 1) (λ _. omega arith) (λ _. omega arith)
length-without k (message.Null j v ∷ m ∷ ms) = omega (arith, length-without k (m ∷ ms))
length-without k (message.Retraction m ∷ ms) = omega (arith, length-without k ms)
length-without k (message.Discovery d ∷ ms) = omega (arith, length-without k ms)

-- one more message lies on the wires of who announces, at most
module _ (t : Components) (g : ℕ) where
  longer : (v : ℕ) (h l : ℕ) → length ((with_null_announced t g v).wire h l) ≤ length (t.wire h l) + 1
  longer v = upd_row_each t.wire t.directory.joined g (λ _. put_behind (message.Null (t.epoch g) v)) (λ h l ms. length ms ≤ length (t.wire h l) + 1)
      (λ l _. omega (arith, length-append (without_last_null (t.epoch g) (t.wire g l)) (message.Null (t.epoch g) v ∷ []), length-without (t.epoch g) (t.wire g l))) (λ h l. omega arith)

  as_long : (v : ℕ) (h l : ℕ) → g ≢ h → length ((with_null_announced t g v).wire h l) ≤ length (t.wire h l)
  as_long v h l ne = rw upd_row_other (omega arith)

pub record IsAnnounced (t u : Components) (g : ℕ) : Type 0 where
  pub directory : u.directory ≡ t.directory
  pub row : u.row ≡ t.row
  pub tso : u.tso ≡ t.tso
  pub bound : u.bound ≡ t.bound
  pub said : t.directory.joined g ≡ true → is_regulator (t.row g) ≡ true → promise t g ≤ u.last_announced g
  pub others : (h : ℕ) → g ≢ h → u.last_announced h ≡ t.last_announced h
  pub wires : (h l : ℕ) → length (u.wire h l) ≤ length (t.wire h l) + 1
  pub other_wires : (h l : ℕ) → g ≢ h → length (u.wire h l) ≤ length (t.wire h l)

announced_outcome : (t : Components) (g : ℕ) → IsAnnounced t (announce_outcome t g).state g
announced_outcome t g = cond_both (is_regulator (t.row g) && ltb (t.last_announced g) (promise t g))
    (answer_outcome (answer.Announced (Some (promise t g))) (with_null_announced t g (promise t g)))
    (answer_outcome (answer.Announced None) t) (λ (o : Outcomes). IsAnnounced t o.state g)
    (λ _. record { directory = refl; row = refl; tso = refl; bound = refl; said = λ _ _. rw upd_same (omega arith); others = λ h ne. upd_other t.last_announced g (promise t g) h ne; wires = longer t g (promise t g); other_wires = as_long t g (promise t g) })
    (λ n. record {
      directory = refl;
      row = refl;
      tso = refl;
      bound = refl;
      said = λ _ r. said n r;
      others = λ _ _. refl;
      wires = λ _ _. omega arith;
      other_wires = λ _ _ _. omega arith;
    })
  where
    said : (is_regulator (t.row g) && ltb (t.last_announced g) (promise t g)) ≡ false → is_regulator (t.row g) ≡ true → promise t g ≤ t.last_announced g
    said n r = ⊎_elim
        (λ (y : ltb (t.last_announced g) (promise t g) ≡ true). absurd (let b = and_from (is_regulator (t.row g)) (ltb (t.last_announced g) (promise t g)) r y in cc))
        (λ (e : ltb (t.last_announced g) (promise t g) ≡ false). ltb-false (t.last_announced g) (promise t g) e)
        (cases_Bool (ltb (t.last_announced g) (promise t g)))

-- who is not joined is refused, and says nothing
pub announced_next : (t : Components) (g : ℕ) → IsAnnounced t (next t (Announce g)).state g
announced_next t g = ⊎_elim
    (λ (y : t.directory.joined g ≡ true). rw y (announced_outcome t g))
    (λ (n : t.directory.joined g ≡ false). rw n (record { directory = refl; row = refl; tso = refl; bound = refl; said = λ j _. absurd (cc); others = λ _ _. refl; wires = λ _ _. omega arith; other_wires = λ _ _ _. omega arith }))
    (cases_Bool (t.directory.joined g))

-- after the announcements of 1 to j: each of them that regulates has announced its promise, and each wire is longer by one at most
pub record HaveAnnounced (s t : Components) (j : ℕ) : Type 0 where
  pub directory : t.directory ≡ s.directory
  pub row : t.row ≡ s.row
  pub tso : t.tso ≡ s.tso
  pub bound : t.bound ≡ s.bound
  pub said : (g : ℕ) → 1 ≤ g → g ≤ j → s.directory.joined g ≡ true → is_regulator (s.row g) ≡ true → promise s g ≤ t.last_announced g
  pub wires : (g f : ℕ) → length (t.wire g f) ≤ length (s.wire g f) + 1
  pub later_wires : (g f : ℕ) → j < g → length (t.wire g f) ≤ length (s.wire g f)

same_promise : (s t : Components) (g : ℕ) → t.directory ≡ s.directory → t.row ≡ s.row → t.tso ≡ s.tso → t.bound ≡ s.bound → promise t g ≡ promise s g
same_promise s t g d r q b = rw (d, r, q, b) refl

one_more : (s t u : Components) (j : ℕ) → HaveAnnounced s t j → IsAnnounced t u (suc j) → HaveAnnounced s u (suc j)
one_more s t u j h a = record {
  directory = a.directory ∙ h.directory;
  row = a.row ∙ h.row;
  tso = a.tso ∙ h.tso;
  bound = a.bound ∙ h.bound;
  said = λ g low top member reg. ⊎_elim
      (λ (e : g ≡ suc j). let same = same_promise s t (suc j) h.directory h.row h.tso h.bound in
      let m : t.directory.joined (suc j) ≡ true = rw (h.directory, ← e) member in let r : is_regulator (t.row (suc j)) ≡ true = rw (h.row, ← e) reg in
      rw e (omega (arith, same, a.said m r)))
      (λ (ne : g ≢ suc j). omega (arith, h.said g low (omega arith) member reg, a.others g (λ (e : suc j ≡ g). ne (sym e))))
      (cases_eq g (suc j));
  wires = λ g f. ⊎_elim
      (λ (e : suc j ≡ g). omega (arith, a.wires g f, h.later_wires g f (omega arith)))
      (λ (ne : suc j ≢ g). omega (arith, a.other_wires g f ne, h.wires g f))
      (cases_eq (suc j) g);
  later_wires = λ g f l. omega (arith, a.other_wires g f (λ (e : suc j ≡ g). omega arith), h.later_wires g f (omega arith));
}

pub after_announcements : (s : Components) (j : ℕ) → HaveAnnounced s (state_after s (announcements j)) j
unfolding announcements
after_announcements s zero = record { directory = refl; row = refl; tso = refl; bound = refl; said = λ g a b. absurd (omega arith); wires = λ _ _. omega arith; later_wires = λ _ _ _. omega arith }
after_announcements s (suc j) = subst (λ (t : Components). HaveAnnounced s t (suc j)) (sym (state_appended s (announcements j) (Announce (suc j) ∷ [])))
    (one_more s (state_after s (announcements j)) _ j (after_announcements s j) (announced_next (state_after s (announcements j)) (suc j)))
