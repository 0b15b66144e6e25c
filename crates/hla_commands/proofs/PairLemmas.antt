-- One more pair.
use Rattle.std.proofs.Common.{◌≡◌, ℕ, List, [], ◌∷◌, ◌++◌, Option, None, Some, Result, Ok, Err, refl, sym, ap, ◌∙◌, append_assoc}
use Rattle.std.proofs.lemmas.List.{append-nil}
use Rattle.hla_commands.specs.Reading.{Reading, read_then}
use Rattle.hla_commands.specs.Script.{pair_of, word_stamp, pairs_where, pairs_and_stamp}
use Rattle.hla_commands.specs.declared.lines.NameValuePair.{NameValuePair}
use Rattle.hla_commands.specs.declared.lines.ScriptFaultKind.{ScriptFaultKind}

abbrev Pairs : Type 0
Pairs = Reading (List NameValuePair × Option ℕ)

-- pairs that were read before, and what is read then
abbrev pub with_pairs : List NameValuePair → Pairs → Pairs
with_pairs front (Ok ps) = Ok ((front ++ ps.0.0, ps.0.1), ps.1)
with_pairs front (Err k) = Err k

regroup : (front : List NameValuePair) (p : NameValuePair) (r : Pairs) → with_pairs front (read_then r (λ ps. Ok ((p ∷ ps.0.0, ps.0.1), ps.1))) ≡ with_pairs (front ++ p ∷ []) r
regroup front p (Ok ps) = ap (λ (all : List NameValuePair). Ok ((all, ps.0.1), ps.1)) (sym (append_assoc front (p ∷ []) ps.0.0))
regroup front p (Err k) = refl

-- a word is read by whether it is a stamp, and by what pair it is
read_by : (front : List NameValuePair) (w : List ℕ) (ws : List (List ℕ)) (s : Option ℕ) (r : Result NameValuePair ScriptFaultKind) → word_stamp w ≡ s → pair_of w ≡ r → with_pairs front (pairs_and_stamp (w ∷ ws)) ≡ with_pairs front (pairs_where s r ws (pairs_and_stamp ws))
read_by front w ws s r e f =
    ap (λ (s : Option ℕ). with_pairs front (pairs_where s (pair_of w) ws (pairs_and_stamp ws))) e
    ∙ ap (λ (r : Result NameValuePair ScriptFaultKind). with_pairs front (pairs_where s r ws (pairs_and_stamp ws))) f

pub added_pair : (front : List NameValuePair) (w : List ℕ) (ws : List (List ℕ)) (p : NameValuePair) (all : Pairs) → word_stamp w ≡ None → pair_of w ≡ Ok p → with_pairs front (pairs_and_stamp (w ∷ ws)) ≡ all → with_pairs (front ++ p ∷ []) (pairs_and_stamp ws) ≡ all
added_pair front w ws p all e f h = sym (regroup front p (pairs_and_stamp ws)) ∙ sym (read_by front w ws None (Ok p) e f) ∙ h

pub stamp_behind : (front : List NameValuePair) (w : List ℕ) (ws : List (List ℕ)) (t : ℕ) (all : Pairs) → word_stamp w ≡ Some t → with_pairs front (pairs_and_stamp (w ∷ ws)) ≡ all → all ≡ Ok ((front, Some t), ws)
stamp_behind front w ws t all e h = sym h ∙ read_by front w ws (Some t) (pair_of w) e refl ∙ ap (λ (ps : List NameValuePair). Ok ((ps, Some t), ws)) (append-nil front)

pub end_of_pairs : (front : List NameValuePair) (all : Pairs) → with_pairs front (pairs_and_stamp []) ≡ all → all ≡ Ok ((front, None), [])
end_of_pairs front all h = sym h ∙ ap (λ (ps : List NameValuePair). Ok ((ps, None), [])) (append-nil front)

pub ruleset pair_steps = (added_pair, stamp_behind, end_of_pairs)
