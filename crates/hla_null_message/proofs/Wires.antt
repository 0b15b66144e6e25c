-- What is put on a wire, by its last message
use Rattle.std.proofs.Common.{◌≡◌, ℕ, ◌-◌, ◌<◌, Bool, true, false, refl, sym, ap, ◌∙◌, arith, List, [], ◌∷◌, ◌++◌, length, take, set, slice_index_or, not}
use Rattle.std.proofs.lemmas.List.{append-nil, append_assoc}
use native.Mathlib.Numerals.{unary_clauses}
use Rattle.hla_null_message.specs.declared.message.Message.{Message}
use Rattle.hla_null_message.specs.declared.message.Message.TheVariants as message
use Rattle.hla_null_message.specs.Wires.{is_null_of, ends_with_null, without_last_null, put_behind, put_all_behind, takes_room}

index_next : (x n : Message) (ms : List Message) (m : Message) → slice_index_or (x ∷ n ∷ ms) (length (x ∷ n ∷ ms) - 1) m ≡ slice_index_or (n ∷ ms) (length (n ∷ ms) - 1) m
index_next x n ms m = simp unary_clauses

take_next : (x n : Message) (ms : List Message) → take (length (x ∷ n ∷ ms) - 1) (x ∷ n ∷ ms) ≡ x ∷ take (length (n ∷ ms) - 1) (n ∷ ms)
take_next x n ms = simp unary_clauses

-- the last message tells
pub ends_at : (k : ℕ) (ms : List Message) (m : Message) → 0 < length ms → slice_index_or ms (length ms - 1) m ≡ m → is_null_of k m ≡ ends_with_null k ms
ends_at k [] m some is = absurd (omega arith)
ends_at k (message.Event e ∷ []) m some is = ap (is_null_of k) (sym is)
ends_at k (message.Event e ∷ n ∷ ms) m some is = ends_at k (n ∷ ms) m (omega arith) (sym (index_next _ n ms m) ∙ is)
ends_at k (message.Null j v ∷ []) m some is = ap (is_null_of k) (sym is)
ends_at k (message.Null j v ∷ n ∷ ms) m some is = ends_at k (n ∷ ms) m (omega arith) (sym (index_next _ n ms m) ∙ is)
ends_at k (message.Retraction r ∷ []) m some is = ap (is_null_of k) (sym is)
ends_at k (message.Retraction r ∷ n ∷ ms) m some is = ends_at k (n ∷ ms) m (omega arith) (sym (index_next _ n ms m) ∙ is)
ends_at k (message.Discovery d ∷ []) m some is = ap (is_null_of k) (sym is)
ends_at k (message.Discovery d ∷ n ∷ ms) m some is = ends_at k (n ∷ ms) m (omega arith) (sym (index_next _ n ms m) ∙ is)

-- nothing is dropped but a null message of the epoch
pub without_none : (k : ℕ) (ms : List Message) → ends_with_null k ms ≡ false → without_last_null k ms ≡ ms
without_none k [] none = refl
without_none k (message.Event e ∷ ms) none = ap (λ (xs : List Message). message.Event e ∷ xs) (without_none k ms none)
without_none k (message.Null j v ∷ []) none = rw none refl
without_none k (message.Null j v ∷ n ∷ ms) none = ap (λ (xs : List Message). message.Null j v ∷ xs) (without_none k (n ∷ ms) none)
without_none k (message.Retraction m ∷ ms) none = ap (λ (xs : List Message). message.Retraction m ∷ xs) (without_none k ms none)
without_none k (message.Discovery d ∷ ms) none = ap (λ (xs : List Message). message.Discovery d ∷ xs) (without_none k ms none)

-- and that is the last
pub without_last : (k : ℕ) (ms : List Message) → ends_with_null k ms ≡ true → without_last_null k ms ≡ take (length ms - 1) ms
without_last k [] last = absurd (cc)
without_last k (message.Event e ∷ []) last = absurd (cc)
without_last k (message.Event e ∷ n ∷ ms) last = ap (λ (xs : List Message). message.Event e ∷ xs) (without_last k (n ∷ ms) last) ∙ sym (take_next (message.Event e) n ms)
without_last k (message.Null j v ∷ []) last = rw last refl
without_last k (message.Null j v ∷ n ∷ ms) last = ap (λ (xs : List Message). message.Null j v ∷ xs) (without_last k (n ∷ ms) last) ∙ sym (take_next (message.Null j v) n ms)
without_last k (message.Retraction m ∷ []) last = absurd (cc)
without_last k (message.Retraction m ∷ n ∷ ms) last = ap (λ (xs : List Message). message.Retraction m ∷ xs) (without_last k (n ∷ ms) last) ∙ sym (take_next (message.Retraction m) n ms)
without_last k (message.Discovery d ∷ []) last = absurd (cc)
without_last k (message.Discovery d ∷ n ∷ ms) last = ap (λ (xs : List Message). message.Discovery d ∷ xs) (without_last k (n ∷ ms) last) ∙ sym (take_next (message.Discovery d) n ms)

-- and in its place another one is put
set_next : (x n m : Message) (ms : List Message) → set (x ∷ n ∷ ms) (length (x ∷ n ∷ ms) - 1) m ≡ x ∷ set (n ∷ ms) (length (n ∷ ms) - 1) m
set_next x n m ms = simp unary_clauses

pub renewed : (k : ℕ) (ms : List Message) (m : Message) → ends_with_null k ms ≡ true → set ms (length ms - 1) m ≡ without_last_null k ms ++ m ∷ []
renewed k [] m last = absurd (cc)
renewed k (message.Event e ∷ []) m last = absurd (cc)
renewed k (message.Event e ∷ n ∷ ms) m last = set_next (message.Event e) n m ms ∙ ap (λ (xs : List Message). message.Event e ∷ xs) (renewed k (n ∷ ms) m last)
renewed k (message.Null j v ∷ []) m last = rw last refl
renewed k (message.Null j v ∷ n ∷ ms) m last = set_next (message.Null j v) n m ms ∙ ap (λ (xs : List Message). message.Null j v ∷ xs) (renewed k (n ∷ ms) m last)
renewed k (message.Retraction r ∷ []) m last = absurd (cc)
renewed k (message.Retraction r ∷ n ∷ ms) m last = set_next (message.Retraction r) n m ms ∙ ap (λ (xs : List Message). message.Retraction r ∷ xs) (renewed k (n ∷ ms) m last)
renewed k (message.Discovery d ∷ []) m last = absurd (cc)
renewed k (message.Discovery d ∷ n ∷ ms) m last = set_next (message.Discovery d) n m ms ∙ ap (λ (xs : List Message). message.Discovery d ∷ xs) (renewed k (n ∷ ms) m last)

-- what takes room stands behind all others
pub put_at_end : (m : Message) (ms : List Message) → not (takes_room m ms) ≡ false → put_behind m ms ≡ ms ++ m ∷ []
put_at_end (message.Event e) ms takes = refl
put_at_end (message.Null k v) ms takes = ap (λ (xs : List Message). xs ++ message.Null k v ∷ []) (without_none k ms (not_twice (ends_with_null k ms) takes))
  where
    not_twice : (b : Bool) → not (not b) ≡ false → b ≡ false
    not_twice true is = absurd (cc)
    not_twice false is = refl
put_at_end (message.Retraction r) ms takes = refl
put_at_end (message.Discovery d) ms takes = refl

-- ---- messages that are put one behind the other
pub put_all-append : (ns os ms : List Message) → put_all_behind (ns ++ os) ms ≡ put_all_behind os (put_all_behind ns ms)
put_all-append [] os ms = refl
put_all-append (n ∷ ns) os ms = put_all-append ns os (put_behind n ms)

-- no null message is among them
abbrev pub HasNoNull : List Message → Type 0
HasNoNull [] = Unit {0}
HasNoNull (message.Event e ∷ ms) = HasNoNull ms
HasNoNull (message.Null k v ∷ ms) = ⊥
HasNoNull (message.Retraction m ∷ ms) = HasNoNull ms
HasNoNull (message.Discovery d ∷ ms) = HasNoNull ms

pub no_null-append : (ms ns : List Message) → HasNoNull ms → HasNoNull ns → HasNoNull (ms ++ ns)
no_null-append [] ns a b = b
no_null-append (message.Event e ∷ ms) ns a b = no_null-append ms ns a b
no_null-append (message.Null k v ∷ ms) ns a b = absurd a
no_null-append (message.Retraction m ∷ ms) ns a b = no_null-append ms ns a b
no_null-append (message.Discovery d ∷ ms) ns a b = no_null-append ms ns a b

-- then nothing is replaced
pub put_all-no_null : (ns ms : List Message) → HasNoNull ns → put_all_behind ns ms ≡ ms ++ ns
put_all-no_null [] ms none = sym (append-nil ms)
put_all-no_null (message.Event e ∷ ns) ms none = put_all-no_null ns (ms ++ message.Event e ∷ []) none ∙ append_assoc ms (message.Event e ∷ []) ns
put_all-no_null (message.Null k v ∷ ns) ms none = absurd none
put_all-no_null (message.Retraction m ∷ ns) ms none = put_all-no_null ns (ms ++ message.Retraction m ∷ []) none ∙ append_assoc ms (message.Retraction m ∷ []) ns
put_all-no_null (message.Discovery d ∷ ns) ms none = put_all-no_null ns (ms ++ message.Discovery d ∷ []) none ∙ append_assoc ms (message.Discovery d ∷ []) ns
