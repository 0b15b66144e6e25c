-- Cutting one more line off.
use Rattle.std.proofs.Common.{◌≡◌, ℕ, ◌+◌, ◌≤◌, true, false, List, [], ◌∷◌, ◌++◌, length, take, drop, refl, sym, ap, ◌∙◌, append_assoc, arith, length-append, length-drop}
use Rattle.std.proofs.lemmas.List.{append-nil, take_all, take-append-drop, length-take-le}
use Rattle.std.proofs.Math.Seq.{drop-append_seam, take-append_seam}
use Rattle.std.specs.List.{concat}
use Rattle.bstr.specs.Text.{lines_of}
use Rattle.bstr.proofs.lemmas.RestLemmas.{concat-lines_of}
use Rattle.hla_files.specs.Parts.{is_separator, lines_before, lines_behind, first_part, second_part}

-- so many bytes are cut off, and these lines are left
pub record IsCutAt (input : List ℕ) (n : ℕ) (left : List (List ℕ)) : Type 0 where
  pub within : n ≤ length input
  pub rest : drop n input ≡ concat left
  pub before : first_part input ≡ take n input ++ lines_before left
  pub behind : second_part input ≡ lines_behind left

pub starts : (input : List ℕ) → IsCutAt input 0 (lines_of input)
starts input = record { within = omega arith; rest = sym (concat-lines_of input); before = refl; behind = refl }

rest_is : (input : List ℕ) (n : ℕ) (l : List ℕ) (ls left : List (List ℕ)) → left ≡ l ∷ ls → IsCutAt input n left → drop n input ≡ l ++ concat ls
rest_is input n l ls left is cut = cut.rest ∙ ap concat is

pub fits : (input : List ℕ) (n : ℕ) (l : List ℕ) (ls left : List (List ℕ)) → left ≡ l ∷ ls → IsCutAt input n left → n + length l ≤ length input
fits input n l ls left is cut =
    let e = ap length (rest_is input n l ls left is cut) in
    let within = cut.within in
    omega (arith, length-drop n input, length-append l (concat ls), e)

whole : (input : List ℕ) (n : ℕ) (l rest : List ℕ) → drop n input ≡ l ++ rest → (take n input ++ l) ++ rest ≡ input
whole input n l rest e = append_assoc (take n input) l rest ∙ ap (λ (r : List ℕ). take n input ++ r) (sym e) ∙ take-append-drop n input

len_is : (input : List ℕ) (n : ℕ) (l : List ℕ) → n ≤ length input → n + length l ≡ length (take n input ++ l)
len_is input n l within = omega (arith, length-append (take n input) l, length-take-le n input within)

drop_on : (input : List ℕ) (n : ℕ) (l rest : List ℕ) → n ≤ length input → drop n input ≡ l ++ rest → drop (n + length l) input ≡ rest
drop_on input n l rest within e =
    ap (λ (k : ℕ). drop k input) (len_is input n l within) ∙ ap (drop (length (take n input ++ l))) (sym (whole input n l rest e)) ∙ drop-append_seam (take n input ++ l) rest

take_on : (input : List ℕ) (n : ℕ) (l rest : List ℕ) → n ≤ length input → drop n input ≡ l ++ rest → take (n + length l) input ≡ take n input ++ l
take_on input n l rest within e =
    ap (λ (k : ℕ). take k input) (len_is input n l within) ∙ ap (take (length (take n input ++ l))) (sym (whole input n l rest e)) ∙ take-append_seam (take n input ++ l) rest

pub cuts : (input : List ℕ) (n : ℕ) (l : List ℕ) (ls left : List (List ℕ)) → left ≡ l ∷ ls → IsCutAt input n left → is_separator l ≡ false → IsCutAt input (n + length l) ls
cuts input n l ls left is cut plain =
    let e = rest_is input n l ls left is cut in
    record {
      within = fits input n l ls left is cut;
      rest = drop_on input n l (concat ls) cut.within e;
      before = cut.before ∙ rw (is, plain) (rw (take_on input n l (concat ls) cut.within e) (sym (append_assoc (take n input) l (lines_before ls))));
      behind = cut.behind ∙ rw (is, plain) refl;
    }

pub found_first : (input : List ℕ) (n : ℕ) (l : List ℕ) (ls left : List (List ℕ)) → left ≡ l ∷ ls → IsCutAt input n left → is_separator l ≡ true → take n input ≡ first_part input
found_first input n l ls left is cut found = sym (cut.before ∙ rw (is, found) (append-nil (take n input)))

pub found_second : (input : List ℕ) (n : ℕ) (l : List ℕ) (ls left : List (List ℕ)) → left ≡ l ∷ ls → IsCutAt input n left → is_separator l ≡ true → drop (n + length l) input ≡ second_part input
found_second input n l ls left is cut found = drop_on input n l (concat ls) cut.within (rest_is input n l ls left is cut) ∙ sym (cut.behind ∙ rw (is, found) refl)

pub ends_first : (input : List ℕ) (n : ℕ) → IsCutAt input n [] → input ≡ first_part input
ends_first input n cut = sym (cut.before ∙ append-nil (take n input) ∙ take_all n input (omega (arith, length-drop n input, ap length cut.rest)))

pub ruleset cutting = (starts, cuts, fits, found_first, found_second, ends_first)
