-- Values one after another: their bytes, how many they are, and whether heads fit them
use Rattle.std.proofs.Common.{◌≡◌, ℕ, ◌+◌, ◌<◌, ◌≤◌, List, [], ◌∷◌, ◌++◌, take, length, get_or, min, sym, ap, ◌∙◌, subst, arith}
use Rattle.std.proofs.lemmas.List.{take_more, flat_map_more}
use Rattle.std.proofs.lemmas.List.Folds.{length-flat_map-take}
use Rattle.hla_base.specs.declared.content.HandleValuePair.{HandleValuePair}
use Rattle.hla_plain.specs.Values.{bytes_in}

value_of : HandleValuePair → List ℕ
value_of v = v.value

-- behind those that were passed stand the bytes of the next
pub more_bytes : (vs : List HandleValuePair) (i : ℕ) (v : HandleValuePair) → i < length vs → v ≡ get_or vs i v → bytes_in (take (i + 1) vs) ≡ bytes_in (take i vs) ++ v.value
more_bytes vs i v l is = ap bytes_in (take_more vs i v l ∙ ap (λ (x : HandleValuePair). take i vs ++ x ∷ []) (sym is)) ∙ sym (flat_map_more (λ (v : HandleValuePair). v.value) [] (take i vs) v)

-- a count up to a limit goes on from its end
pub counts_on : (n m most : ℕ) → min (min n most + m) most ≡ min (n + m) most
counts_on n m most = omega arith

-- the next one's bytes are within those of all
pub next_within : (vs : List HandleValuePair) (i : ℕ) (v : HandleValuePair) → i < length vs → v ≡ get_or vs i v → length (bytes_in (take i vs)) + length v.value ≤ length (bytes_in vs)
next_within vs i v l is =
    subst (λ (x : HandleValuePair). length (bytes_in (take i vs)) + length x.value ≤ length (bytes_in vs)) (sym is) (length-flat_map-take (λ (x : HandleValuePair). x.value) vs i v l)
